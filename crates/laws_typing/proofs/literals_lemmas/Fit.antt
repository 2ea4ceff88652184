-- What is read of a literal fits its type, where all that is pending of it is tried and true.
use Rattle.std.proofs.Common.{◌≡◌, ◌<◌, ◌^◌, ℕ, Bool, true, false, cond, Option, Some, None, List, [], ◌∷◌, refl, arith}
use Rattle.rules_text.specs.nodes.Tree.{Tree, seq, size}
use Rattle.rules_data.specs.types.Kind.{Kind}
use Rattle.rules_data.specs.values.Val.{Val}
use Rattle.rules_data.specs.values.Literals.{Pending, body, claim, good, read}
use Rattle.rules_code.specs.instructions.Same.{same_kinds}
use Rattle.rules_code.specs.instructions.Context as place
use Rattle.rules_code.specs.instructions.Control.{call_kinds}
use Rattle.rules_code.specs.typing.Typing.{Typing, goes, fails, shift}
use Rattle.rules_code.specs.typing.Typing as typing
use Rattle.rules_code.specs.typing.Bodies.{body_fault, first_fault}
use Rattle.rules_code.specs.typing.Nodes.{tree_type}
use Rattle.rules_code.specs.typing.Literals.{fault_of_bodies}
use Rattle.rules_code.specs.typing.Fits.{Leads, Known, Fits}
use Rattle.laws_typing.specs.literals.Laws.{AllAtMost, AllClaimed, LiteralsFit, told_by}
use Rattle.laws_data.proofs.types_lemmas.ForCallers.{same_kinds_true}
use Rattle.laws_typing.proofs.literals_lemmas.Sizes.{bodies_within}
use Rattle.laws_typing.proofs.literals_lemmas.Read.{IsMade, AllTried, read_has}

module _ (w : Known) where
  -- ---- what is pending

  abbrev Tried : Pending → Type 0
  Tried (body l a r recursive t) = (body_fault l (shift l (tree_type t place.lambda (call_kinds a r recursive))) r ≡ None) × (size t < 2 ^ 32)
  Tried (claim l b a) = w.is_contract b a

  -- a body without fault leads to its result
  leads : (t : Typing) (l : ℕ) (r : Kind) → body_fault l (shift l t) r ≡ None → Leads t (r ∷ [])
  leads (goes B) l r h = by (same_kinds B (r ∷ [])) refl h
    where
      by : (b : Bool) → same_kinds B (r ∷ []) ≡ b → cond b None (Some l) ≡ None → B ≡ r ∷ []
      by true e h = same_kinds_true B (r ∷ []) e
      by false e h = absurd cc
  leads fails l r h = tt
  leads (typing.bad m) l r h = absurd cc

  fits_made : IsMade (Fits w) Tried
  fits_made = record {
    simple = λ s x h. h;
    none = λ a. tt;
    some = λ a x h. h;
    left = λ a b x h. h;
    right = λ a b x h. h;
    both = λ a b x y h i. (h, i);
    list = λ a xs h. h;
    set = λ a xs h i. (h, i);
    table = λ a b es h i. (h, i);
    big_table = λ a b es h i. (h, i);
    lambda = λ a b at recursive ts g. (tt, g.1, leads (tree_type (seq ts) place.lambda (call_kinds a b recursive)) at b g.0);
    contract = λ a at b h g. (h, g);
  }

  -- ---- bodies without faults, contracts that are there

  no_first : (o p : Option ℕ) → first_fault o p ≡ None → (o ≡ None) × (p ≡ None)
  no_first None p h = (refl, h)
  no_first (Some l) p h = absurd cc

  all_tried : (n : ℕ) (ps : List Pending) → n < 2 ^ 32 → fault_of_bodies ps ≡ None → AllClaimed w ps → AllAtMost n ps → AllTried Tried ps
  all_tried n [] below h i j = tt
  all_tried n (body l a r recursive t ∷ ps) below h i j =
      let f = no_first (body_fault l (shift l (tree_type t place.lambda (call_kinds a r recursive))) r) (fault_of_bodies ps) h in
      ((f.0, (let e = j.0 in omega (arith, e, below))), all_tried n ps below f.1 i j.1)
  all_tried n (claim l b a ∷ ps) below h i j = (i.0, all_tried n ps below h i.1 j)

  -- what is read, tried and true fits
  pub fit : (a : Kind) (at : ℕ) (t : Tree) (x : Val) (ps : List Pending) → read a at t ≡ good x ps → fault_of_bodies ps ≡ None → AllClaimed w ps → size t < 2 ^ 32 → Fits w a x
  fit a at t x ps same h i below =
      read_has (Fits w) Tried fits_made a at t x ps same (all_tried (size t) ps below h i (bodies_within a at t x ps same))

pub literals_fit : LiteralsFit
literals_fit is_contract is_issued a at t x ps same h i below = fit (told_by is_contract is_issued) a at t x ps same h i below
