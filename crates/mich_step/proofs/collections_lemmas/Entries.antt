-- What the code does to entries is what the definitions do to pairs, however big maps are seen.
use Rattle.std.proofs.Common.{◌≡◌, Bool, true, false, List, [], ◌∷◌, length, refl, ap, ◌∙◌}
use Rattle.std.specs.Prelude.{suc, Option, Some, None, option_map, is_some, if◌then◌else◌}
use Rattle.std.specs.declared.cmp.Ordering.{Ordering}
use Rattle.std.specs.declared.cmp.Ordering.TheVariants.{Less, Equal, Greater}
use Rattle.std.specs.Ordering.{match_ordering, is_eq}
use Rattle.rules_data.specs.values.Val.{more_pairs}
use Rattle.rules_data.specs.values.Tables.{value_at, with_value, without_key}
use Rattle.rules_code.specs.steps.Sets.{element_count, entry_count}
use Rattle.mich_term.specs.Keyed.{found, with, without, by}
use Rattle.mich_term.specs.View.{datum}
use Rattle.mich_term.specs.declared.datum.Datum.{Datum}
use Rattle.mich_term.specs.declared.value.Value.{Value}
use Rattle.mich_stack.specs.Views.{Sight, seen}
use Rattle.mich_step.specs.collections.Seen.{vals_by, pairs_by}

pub some_mapped : {A B : Type 0} (f : A → B) (o : Option A) → is_some (option_map f o) ≡ is_some o
some_mapped f (Some x) = refl
some_mapped f None = refl

module _ (big : Sight) where
  abbrev Entries : Type 0
  Entries = List (Datum × Value)

  pub list_count : (vs : List Value) → element_count (vals_by big vs) ≡ length vs
  list_count [] = refl
  list_count (v ∷ vs) = ap suc (list_count vs)

  pub map_count : (es : Entries) → entry_count (pairs_by big es) ≡ length es
  map_count [] = refl
  map_count (e ∷ es) = ap suc (map_count es)

  chosen : (b : Bool) (v : Value) (o : Option Value) → option_map (seen big) (if b then Some v else o) ≡ (if b then Some (seen big v) else option_map (seen big) o)
  chosen true v o = refl
  chosen false v o = refl

  pub found_is : (k : Datum) (es : Entries) → option_map (seen big) (found k es) ≡ value_at (datum k) (pairs_by big es)
  found_is k [] = refl
  found_is k (e ∷ es) = chosen (is_eq (by k e.0)) e.1 (found k es) ∙ ap (λ o. if is_eq (by k e.0) then Some (seen big e.1) else o) (found_is k es)

  placed : (o : Ordering) (a b c : Entries) → pairs_by big (match_ordering o a b c) ≡ match_ordering o (pairs_by big a) (pairs_by big b) (pairs_by big c)
  placed Less a b c = refl
  placed Equal a b c = refl
  placed Greater a b c = refl

  pub with_is : (k : Datum) (v : Value) (es : Entries) → pairs_by big (with k v es) ≡ with_value (datum k) (seen big v) (pairs_by big es)
  with_is k v [] = refl
  with_is k v (e ∷ es) = placed (by k e.0) ((k, v) ∷ e ∷ es) ((e.0, v) ∷ es) (e ∷ with k v es)
      ∙ ap (λ ps. match_ordering (by k e.0) (more_pairs (datum k) (seen big v) (pairs_by big (e ∷ es))) (more_pairs (datum e.0) (seen big v) (pairs_by big es)) (more_pairs (datum e.0) (seen big e.1) ps)) (with_is k v es)

  kept : (b : Bool) (a c : Entries) → pairs_by big (if b then a else c) ≡ (if b then pairs_by big a else pairs_by big c)
  kept true a c = refl
  kept false a c = refl

  pub without_is : (k : Datum) (es : Entries) → pairs_by big (without k es) ≡ without_key (datum k) (pairs_by big es)
  without_is k [] = refl
  without_is k (e ∷ es) = kept (is_eq (by k e.0)) es (e ∷ without k es)
      ∙ ap (λ ps. if is_eq (by k e.0) then pairs_by big es else more_pairs (datum e.0) (seen big e.1) ps) (without_is k es)
