-- Laws of the order of comparable values, and of maps.
use Rattle.std.specs.Prelude.{◌≡◌, true}
use Rattle.std.specs.declared.cmp.Ordering.TheVariants.{Equal}
use Rattle.std.specs.Cmp.{IsTotalOrder}
use Rattle.rules_data.specs.values.Val.{Val, is_comparable, Pairs}
use Rattle.rules_data.specs.values.Order.{order}
use Rattle.rules_data.specs.values.Tables.{with_value, without_key, AreIncreasingKeys}

-- the order is total
abbrev pub OrderIsLawful : Type 0
OrderIsLawful = IsTotalOrder order

-- comparable values that are equal in the order are equal
abbrev pub EqualOrderMeansEqual : Type 0
EqualOrderMeansEqual = (v w : Val) → is_comparable v ≡ true → is_comparable w ≡ true → order v w ≡ Equal → v ≡ w

-- the keys of a map increase after something is put into it
abbrev pub PutsIncreasing : Type 0
PutsIncreasing = (k v : Val) (ps : Pairs) → AreIncreasingKeys ps → AreIncreasingKeys (with_value k v ps)

-- the keys of a map increase after an entry is taken away
abbrev pub TakesIncreasing : Type 0
TakesIncreasing = (k : Val) (ps : Pairs) → AreIncreasingKeys ps → AreIncreasingKeys (without_key k ps)
