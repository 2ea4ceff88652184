-- Collections that are rebuilt.
use Rattle.std.proofs.Common.{◌≡◌, List, [], ◌∷◌, ◌++◌, map, refl, ap, ◌∙◌, rules}
use Rattle.std.proofs.lemmas.List.{append-nil}
use Rattle.rules_data.specs.values.Val.{Val, Vals, no_val, more_vals, more_pairs}
use Rattle.rules_data.specs.values.Val as v
use Rattle.rules_code.specs.evaluation.Items.{list_of, with_values, rebuilt}
use Rattle.mich_term.specs.View.{datum, vals_of}
use Rattle.mich_term.specs.declared.value.Value.{Value}
use Rattle.mich_term.specs.declared.value.Value as values
use Rattle.mich_term.specs.declared.value.Value.TheVariants as value
use Rattle.mich_stack.specs.Views.{Sight, seen}
use Rattle.mich_frames.proofs.ForCallers.{AreAlike}
use Rattle.mich_interpreter.specs.Made.{Entry, vals_by, pairs_by, keyed, key_of, value_in}

pub seen_some : (big : Sight) (x : Value) → seen big (value.Some x) ≡ v.some (seen big x)
seen_some big x = search (rules, values.the_lemmas)

pub seen_none : (big : Sight) → seen big value.None ≡ v.nothing
seen_none big = search (rules, values.the_lemmas)

pub list_of_is : (xs : List Val) → list_of xs ≡ vals_of xs
list_of_is [] = refl
list_of_is (x ∷ xs) = ap (more_vals x) (list_of_is xs)

with_keyed : (big : Sight) (es : List Entry) (zs : List Val) → with_values (pairs_by big es) zs ≡ with_values (keyed (map key_of es)) zs
with_keyed big [] zs = refl
with_keyed big (e ∷ es) [] = refl
with_keyed big (e ∷ es) (z ∷ zs) = ap (more_pairs (datum e.0) z) (with_keyed big es zs)

with_own : (big : Sight) (es : List Entry) → with_values (keyed (map key_of es)) (map (value_in big) es) ≡ pairs_by big es
with_own big [] = refl
with_own big (e ∷ es) = ap (more_pairs (datum e.0) (seen big e.1)) (with_own big es)

-- a list is rebuilt as any list is, a map as one with its keys, and an option as any that holds something
pub lists_alike : (vs : Vals) (xs : List Val) → AreAlike (rebuilt (v.list vs)) (rebuilt (v.list no_val)) [] xs
lists_alike vs xs zs same = refl

pub tables_alike : (big : Sight) (es : List Entry) (xs : List Val) →
    AreAlike (rebuilt (v.table (pairs_by big es))) (rebuilt (v.table (keyed (map key_of es)))) [] xs
tables_alike big es xs zs same = ap v.table (with_keyed big es zs)

pub options_alike : (x y : Val) → AreAlike (rebuilt (v.some x)) (rebuilt (v.some v.unit)) [] (y ∷ [])
options_alike x y [] same = absurd cc
options_alike x y (z ∷ zs) same = refl

-- a list, and a map, of what was made
pub rebuilt_list : (big : Sight) (made : List Value) → rebuilt (v.list no_val) (map (seen big) made) ≡ v.list (vals_by big made)
rebuilt_list big made = ap v.list (list_of_is (map (seen big) made))

pub rebuilt_table : (big : Sight) (made : List Entry) → rebuilt (v.table (keyed (map key_of made ++ []))) (map (value_in big) made) ≡ v.table (pairs_by big made)
rebuilt_table big made = ap (λ ks. v.table (with_values (keyed ks) (map (value_in big) made))) (append-nil (map key_of made)) ∙ ap v.table (with_own big made)
