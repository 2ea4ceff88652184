-- Sets as lists of elements in increasing order (Michelson reference, "set").
use Rattle.std.specs.Prelude.{ℕ, suc, Bool, false, ◌||◌, if◌then◌else◌}
use Rattle.std.specs.Ordering.{match_ordering, is_eq}
use Rattle.rules_data.specs.values.Val.{Val, Vals, no_val, more_vals, Pairs, no_pair, more_pairs}
use Rattle.rules_data.specs.values.Order.{order}

-- whether x is an element
abbrev pub has_element : Val → Vals → Bool
has_element x no_val = false
has_element x (more_vals y ys) = is_eq (order x y) || has_element x ys

-- with the element x
abbrev pub with_element : Val → Vals → Vals
with_element x no_val = more_vals x no_val
with_element x (more_vals y ys) =
    match_ordering (order x y) (more_vals x (more_vals y ys)) (more_vals y ys) (more_vals y (with_element x ys))

-- without the element x
abbrev pub without_element : Val → Vals → Vals
without_element x no_val = no_val
without_element x (more_vals y ys) = if is_eq (order x y) then ys else more_vals y (without_element x ys)

-- how many elements, and how many entries, there are
abbrev pub element_count : Vals → ℕ
element_count no_val = 0
element_count (more_vals x xs) = suc (element_count xs)

abbrev pub entry_count : Pairs → ℕ
entry_count no_pair = 0
entry_count (more_pairs k v ps) = suc (entry_count ps)
