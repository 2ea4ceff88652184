-- Maps as lists of entries with increasing keys (Michelson reference, "map" and "big_map").
use Rattle.std.specs.Prelude.{◌≡◌, Option, Some, None, if◌then◌else◌}
use Rattle.std.specs.declared.cmp.Ordering.TheVariants.{Less}
use Rattle.std.specs.Ordering.{match_ordering, is_eq}
use Rattle.rules_data.specs.values.Val.{Val, Vals, no_val, more_vals, Pairs, no_pair, more_pairs}
use Rattle.rules_data.specs.values.Order.{order}

-- the value at the key k
abbrev pub value_at : Val → Pairs → Option Val
value_at k no_pair = None
value_at k (more_pairs j v ps) = if is_eq (order k j) then Some v else value_at k ps

-- with v at the key k
abbrev pub with_value : Val → Val → Pairs → Pairs
with_value k v no_pair = more_pairs k v no_pair
with_value k v (more_pairs j w ps) = match_ordering (order k j) (more_pairs k v (more_pairs j w ps)) (more_pairs j v ps) (more_pairs j w (with_value k v ps))

-- without the key k
abbrev pub without_key : Val → Pairs → Pairs
without_key k no_pair = no_pair
without_key k (more_pairs j w ps) = if is_eq (order k j) then ps else more_pairs j w (without_key k ps)

-- each key is above k
abbrev pub AreKeysAbove : Val → Pairs → Type 0
AreKeysAbove k no_pair = Unit {0}
AreKeysAbove k (more_pairs j v ps) = (order k j ≡ Less) × AreKeysAbove k ps

-- each key is below those after it
abbrev pub AreIncreasingKeys : Pairs → Type 0
AreIncreasingKeys no_pair = Unit {0}
AreIncreasingKeys (more_pairs k v ps) = AreKeysAbove k ps × AreIncreasingKeys ps

-- each element is above x
abbrev pub AreAbove : Val → Vals → Type 0
AreAbove x no_val = Unit {0}
AreAbove x (more_vals y ys) = (order x y ≡ Less) × AreAbove x ys

-- each element is below those after it
abbrev pub AreIncreasing : Vals → Type 0
AreIncreasing no_val = Unit {0}
AreIncreasing (more_vals x xs) = AreAbove x xs × AreIncreasing xs
