-- The order of comparable values (Michelson reference, "COMPARE").
use Rattle.std.specs.Prelude.{ℕ, Bool, true, false}
use Rattle.std.specs.declared.cmp.Ordering.{Ordering}
use Rattle.std.specs.declared.cmp.Ordering.TheVariants.{Less, Equal, Greater}
use Rattle.std.specs.Ordering.{nat_cmp, int_cmp, ordering_then}
use Rattle.std.specs.Cmp.Lexicographic.{slice_cmp}
use Rattle.rules_data.specs.values.Val.{Val, unit, truth, number, text, bytes, nothing, some, left, right, both}

-- The place of a value's form among the forms, so that None is before Some and Left before Right. Values of one
-- comparable type differ in no other forms; those that can't be compared are all of one form here.
abbrev pub form : Val → ℕ
form unit = 0
form (truth b) = 1
form (number n) = 2
form (text s) = 3
form (bytes s) = 4
form nothing = 5
form (some v) = 6
form (left v) = 7
form (right v) = 8
form (both v w) = 9
form _ = 10

-- False before True
abbrev pub truth_order : Bool → Bool → Ordering
truth_order false false = Equal
truth_order false true = Less
truth_order true false = Greater
truth_order true true = Equal

-- Numbers by value, text and bytes by their bytes with a prefix first, pairs by the first part and then the second.
abbrev pub order : Val → Val → Ordering
order unit unit = Equal
order (truth b) (truth c) = truth_order b c
order (number m) (number n) = int_cmp m n
order (text s) (text t) = slice_cmp nat_cmp s t
order (bytes s) (bytes t) = slice_cmp nat_cmp s t
order nothing nothing = Equal
order (some v) (some w) = order v w
order (left v) (left w) = order v w
order (right v) (right w) = order v w
order (both v w) (both x y) = ordering_then (order v x) (order w y)
order v w = nat_cmp (form v) (form w)
