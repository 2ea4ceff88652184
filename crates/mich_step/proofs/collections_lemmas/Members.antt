-- What the code does to elements is what the definitions do to values.
use Rattle.std.proofs.Common.{◌≡◌, Bool, true, false, List, [], ◌∷◌, length, refl, ap, ◌∙◌}
use Rattle.std.specs.Prelude.{suc, ◌||◌, if◌then◌else◌}
use Rattle.std.specs.declared.cmp.Ordering.{Ordering}
use Rattle.std.specs.declared.cmp.Ordering.TheVariants.{Less, Equal, Greater}
use Rattle.std.specs.Ordering.{match_ordering, is_eq}
use Rattle.rules_data.specs.values.Val.{more_vals}
use Rattle.rules_code.specs.steps.Sets.{has_element, with_element, without_element, element_count}
use Rattle.mich_term.specs.Keyed.{by, has, put, taken}
use Rattle.mich_term.specs.View.{datum, datums}
use Rattle.mich_term.specs.declared.datum.Datum.{Datum}

pub count_is : (ds : List Datum) → element_count (datums ds) ≡ length ds
count_is [] = refl
count_is (d ∷ ds) = ap suc (count_is ds)

pub has_is : (k : Datum) (ds : List Datum) → has k ds ≡ has_element (datum k) (datums ds)
has_is k [] = refl
has_is k (d ∷ ds) = ap (λ b. is_eq (by k d) || b) (has_is k ds)

placed : (o : Ordering) (a b c : List Datum) → datums (match_ordering o a b c) ≡ match_ordering o (datums a) (datums b) (datums c)
placed Less a b c = refl
placed Equal a b c = refl
placed Greater a b c = refl

pub put_is : (k : Datum) (ds : List Datum) → datums (put k ds) ≡ with_element (datum k) (datums ds)
put_is k [] = refl
put_is k (d ∷ ds) = placed (by k d) (k ∷ d ∷ ds) (d ∷ ds) (d ∷ put k ds)
    ∙ ap (λ xs. match_ordering (by k d) (more_vals (datum k) (datums (d ∷ ds))) (datums (d ∷ ds)) (more_vals (datum d) xs)) (put_is k ds)

chosen : (b : Bool) (a c : List Datum) → datums (if b then a else c) ≡ (if b then datums a else datums c)
chosen true a c = refl
chosen false a c = refl

pub taken_is : (k : Datum) (ds : List Datum) → datums (taken k ds) ≡ without_element (datum k) (datums ds)
taken_is k [] = refl
taken_is k (d ∷ ds) = chosen (is_eq (by k d)) ds (d ∷ taken k ds)
    ∙ ap (λ xs. if is_eq (by k d) then datums ds else more_vals (datum d) xs) (taken_is k ds)
