-- Values that can be pushed hold no big map.
use Rattle.std.proofs.Common.{ℕ, ◌≡◌, true, List, [], ◌∷◌, map, sym, ap, ◌∙◌, subst}
use Rattle.std.specs.List.{AllByRecursion}
use Rattle.std.specs.Prelude.{Some}
use Rattle.std.proofs.lemmas.Bool.{and_parts}
use Rattle.rules_text.specs.nodes.Tree.{Tree}
use Rattle.rules_data.specs.types.Kind.{Kind}
use Rattle.rules_data.specs.types.Kind as k
use Rattle.rules_data.specs.types.Attributes.{pushable}
use Rattle.rules_data.specs.declared.types.Simple.{Simple}
use Rattle.rules_data.specs.values.Val.{Val, Pairs}
use Rattle.rules_data.specs.values.Literals.{Pending, good, on_value, read, simple_value}
use Rattle.rules_code.specs.evaluation.Given.{value_of}
use Rattle.mich_data.specs.Whole.{Layer, IsSimple, IsOption, IsEither, IsPair, IsListOf, IsSet, IsMapTo, IsLambda, IsWhole}
use Rattle.mich_term.specs.View.{vals_of, pairs_of}
use Rattle.mich_term.specs.ValueView.{val, value_step, big_step, big_pairs}
use Rattle.mich_term.specs.declared.datum.Datum.{Datum}
use Rattle.mich_term.specs.declared.value.Value.{Value, out-Value, map-Value}
use Rattle.mich_term.specs.declared.value.Value.TheFolds.{fold_out-Value}
use Rattle.mich_term.specs.declared.value.Value.TheOpen.{Value-F}
use Rattle.mich_term.specs.declared.value.BigMap.{BigMap}
use Rattle.mich_stack.specs.Views.{Sight, seen}
use Rattle.mich_interpreter.proofs.Flat.{IsFlat, AreFlat, HasFlat, flat_is}
use Rattle.mich_interpreter.proofs.Located.{value_there}

abbrev plainly : Layer → Val
plainly l = value_step (map-Value Value BigMap Val Pairs val big_pairs l)

opened : (v : Value) → IsFlat (plainly (out-Value v)) → IsFlat (val v)
opened v h = subst IsFlat (sym (fold_out-Value Val Pairs value_step big_step v)) h

simple_flat : (l : Layer) → IsSimple l → IsFlat (plainly l)
simple_flat Value-F.Unit h = tt
simple_flat (Value-F.Bool b) h = tt
simple_flat (Value-F.Number n) h = tt
simple_flat (Value-F.Text s) h = tt
simple_flat (Value-F.Bytes s) h = tt
simple_flat _ h = absurd h

set_flat : (l : Layer) → IsSet l → IsFlat (plainly l)
set_flat (Value-F.Set ds) h = tt
set_flat _ h = absurd h

lambda_flat : (l : Layer) → IsLambda l → IsFlat (plainly l)
lambda_flat (Value-F.Lambda n r) h = tt
lambda_flat _ h = absurd h

module _ (P : Value → Type 0) (f : (x : Value) → P x → IsFlat (val x)) where
  option_flat : (l : Layer) → IsOption l P → IsFlat (plainly l)
  option_flat Value-F.None h = tt
  option_flat (Value-F.Some x) h = f x h
  option_flat _ h = absurd h

  all_flat : (vs : List Value) → AllByRecursion P vs → AreFlat (vals_of (map val vs))
  all_flat [] h = tt
  all_flat (x ∷ vs) h = (f x h.0, all_flat vs h.1)

  list_flat : (l : Layer) → IsListOf l P → IsFlat (plainly l)
  list_flat (Value-F.List vs) h = all_flat vs h
  list_flat _ h = absurd h

  entries_flat : (es : List (Datum × Value)) → AllByRecursion (λ e. P e.1) es → HasFlat (pairs_of (map (λ p. (p.0, val p.1)) es))
  entries_flat [] h = tt
  entries_flat (e ∷ es) h = (f e.1 h.0, entries_flat es h.1)

  map_flat : (l : Layer) → IsMapTo l P → IsFlat (plainly l)
  map_flat (Value-F.Map es) h = entries_flat es h
  map_flat _ h = absurd h

  module _ (Q : Value → Type 0) (g : (x : Value) → Q x → IsFlat (val x)) where
    either_flat : (l : Layer) → IsEither l P Q → IsFlat (plainly l)
    either_flat (Value-F.Left x) h = f x h
    either_flat (Value-F.Right x) h = g x h
    either_flat _ h = absurd h

    pair_flat : (l : Layer) → IsPair l P Q → IsFlat (plainly l)
    pair_flat (Value-F.Pair x y) h = (f x h.0, g y h.1)
    pair_flat _ h = absurd h

whole_flat : (a : Kind) → pushable a ≡ true → (v : Value) → IsWhole a v → IsFlat (val v)
whole_flat (k.simple s) p v h = opened v (simple_flat (out-Value v) h)
whole_flat (k.option a) p v h = opened v (option_flat (IsWhole a) (whole_flat a p) (out-Value v) h)
whole_flat (k.or a b) p v h =
    let q = and_parts (pushable a) (pushable b) p in opened v (either_flat (IsWhole a) (whole_flat a q.0) (IsWhole b) (whole_flat b q.1) (out-Value v) h)
whole_flat (k.pair a b) p v h =
    let q = and_parts (pushable a) (pushable b) p in opened v (pair_flat (IsWhole a) (whole_flat a q.0) (IsWhole b) (whole_flat b q.1) (out-Value v) h)
whole_flat (k.list a) p v h = opened v (list_flat (IsWhole a) (whole_flat a p) (out-Value v) h)
whole_flat (k.set a) p v h = opened v (set_flat (out-Value v) h)
whole_flat (k.map a b) p v h =
    let q = and_parts (pushable a) (pushable b) p in opened v (map_flat (IsWhole b) (whole_flat b q.1) (out-Value v) h)
whole_flat (k.big_map a b) p v h = absurd cc
whole_flat (k.lambda a b) p v h = opened v (lambda_flat (out-Value v) h)
whole_flat (k.contract a) p v h = absurd cc
whole_flat k.operation p v h = absurd cc
whole_flat (k.ticket a) p v h = absurd cc

-- a literal that was read is the same value however big maps are seen, and wherever it stands
pub pushed_is : (a : Kind) (t : Tree) (v : Value) (ps : List Pending) → pushable a ≡ true → IsWhole a v → read a 0 t ≡ good (val v) ps → (big : Sight) (at : ℕ) → value_of (read a at t) ≡ Some (seen big v)
pushed_is a t v ps p whole is big at = value_there a at 0 t ∙ ap value_of is ∙ ap Some (sym (flat_is big v (whole_flat a p v whole)))

-- the same of one of a type without arguments
pub simple_is : (s : Simple) (a : Kind) (t : Tree) (v : Value) → a ≡ k.simple s → pushable a ≡ true → Some (val v) ≡ simple_value s t → IsSimple (out-Value v) → (big : Sight) (at : ℕ) → value_of (read a at t) ≡ Some (seen big v)
simple_is s a t v e p found simple =
    pushed_is a t v [] p (subst (λ b. IsWhole b v) (sym e) simple) (ap (λ b. read b 0 t) e ∙ ap (on_value 0) (sym found))

-- a value with the parts of such a type is the same however big maps are seen
pub whole_is : (a : Kind) (v : Value) → pushable a ≡ true → IsWhole a v → (big : Sight) → seen big v ≡ val v
whole_is a v p whole big = flat_is big v (whole_flat a p v whole)
