-- Literals of comparable types are done when they are read.
use Rattle.std.proofs.Common.{◌≡◌, ℕ, ◌+◌, true, Some, None, List, [], ◌++◌, refl, sym, ap, ◌∙◌}
use Rattle.std.specs.declared.option.Option.{Option}
use Rattle.std.proofs.lemmas.Bool.{and_parts}
use Rattle.rules_text.specs.nodes.Tree.{Tree, Trees}
use Rattle.rules_data.specs.types.Kind.{Kind}
use Rattle.rules_data.specs.types.Kind as k
use Rattle.rules_data.specs.types.Attributes.{comparable}
use Rattle.rules_data.specs.values.Val.{Val}
use Rattle.rules_data.specs.values.Literals.{Pending, Literal, good, bad, simple_value, on_value, parts_of, read, read_rest}
use Rattle.laws_world.proofs.accounts.ReadParts.{IsRead, Passes, parts_read, option_by, or_by}

two_none : {A : Type 0} (xs ys : List A) → xs ≡ [] → ys ≡ [] → xs ++ ys ≡ []
two_none xs ys f g = ap (λ zs. zs ++ ys) f ∙ g

abbrev Tried : Val → List Pending → Type 0
Tried x ps = ps ≡ []

tried_passes : Passes Tried
tried_passes = record {
  nothing = refl;
  some = λ x ps h. h;
  left = λ x ps h. h;
  right = λ x ps h. h;
  both = λ x y ps qs h g. two_none ps qs h g;
}

on_tried : (at : ℕ) (o : Option Val) → IsRead Tried (on_value at o)
on_tried at None = tt
on_tried at (Some x) = refl

mutual
  read_tried : (a : Kind) → comparable a ≡ true → (at : ℕ) (t : Tree) → IsRead Tried (read a at t)
  read_tried (k.simple z) c at t = on_tried at (simple_value z t)
  read_tried (k.option a) c at t = option_by Tried tried_passes (read a) (read_tried a c) at t
  read_tried (k.or a b) c at t = or_by Tried tried_passes (read a) (read b)
      (read_tried a (and_parts (comparable a) (comparable b) c).0)
      (read_tried b (and_parts (comparable a) (comparable b) c).1) at t
  read_tried (k.pair a b) c at t =
      let cs = and_parts (comparable a) (comparable b) c in
      parts_read Tried tried_passes (read a) (read b) (read_rest b at) (read_tried a cs.0) (read_tried b cs.1)
      (rest_tried b cs.1 at) at (at + 1) (parts_of t)
  read_tried _ c at t = absurd cc

  rest_tried : (a : Kind) → comparable a ≡ true → (whole at : ℕ) (ts : Trees) → IsRead Tried (read_rest a whole at ts)
  rest_tried (k.pair a b) c whole at ts =
      let cs = and_parts (comparable a) (comparable b) c in
      parts_read Tried tried_passes (read a) (read b) (read_rest b whole) (read_tried a cs.0) (read_tried b cs.1)
      (rest_tried b cs.1 whole) whole at ts
  rest_tried _ c whole at ts = tt

pub compared_tried : (a : Kind) (at : ℕ) (t : Tree) (x : Val) (ps : List Pending) → comparable a ≡ true →
    read a at t ≡ good x ps → ps ≡ []
compared_tried a at t x ps c h = by (read a at t) h (read_tried a c at t)
  where
    by : (l : Literal Val) → l ≡ good x ps → IsRead Tried l → ps ≡ []
    by (good y qs) e r = let same : qs ≡ ps = cc in sym same ∙ r
    by (bad l) e r = absurd cc
