-- Properties of values that go by their parts.
use Rattle.std.proofs.Common.{Bool}
use Rattle.std.specs.Prelude.{ℤ}
use Rattle.rules_data.specs.values.Val.{Val, Vals, no_val, more_vals, Pairs, no_pair, more_pairs}
use Rattle.rules_data.specs.values.Val as v

-- what is so of the parts of a value is so of the value
pub record HasParts (P : Val → Type 0) (All : Vals → Type 0) (Entries : Pairs → Type 0) : Type 0 where
  pub unit : P v.unit
  pub truth : (b : Bool) → P (v.truth b)
  pub number : (z : ℤ) → P (v.number z)
  pub nothing : P v.nothing
  pub some : (x : Val) → P x → P (v.some x)
  pub left : (x : Val) → P x → P (v.left x)
  pub right : (x : Val) → P x → P (v.right x)
  pub both : (x y : Val) → P x → P y → P (v.both x y)
  pub set : (xs : Vals) → All xs → P (v.set xs)
  pub table : (es : Pairs) → Entries es → P (v.table es)
  pub big_table : (es : Pairs) → Entries es → P (v.big_table es)
  pub no_value : All no_val
  pub value : (x : Val) (xs : Vals) → P x → All xs → All (more_vals x xs)
  pub no_entry : Entries no_pair
  pub entry : (x y : Val) (es : Pairs) → P x → P y → Entries es → Entries (more_pairs x y es)

-- what is so of a value is so of its parts
pub record IsOfParts (P : Val → Type 0) (All : Vals → Type 0) (Entries : Pairs → Type 0) : Type 0 where
  pub some : (x : Val) → P (v.some x) → P x
  pub both : (x y : Val) → P (v.both x y) → P x × P y
  pub set : (xs : Vals) → P (v.set xs) → All xs
  pub table : (es : Pairs) → P (v.table es) → Entries es
  pub big_table : (es : Pairs) → P (v.big_table es) → Entries es
  pub value : (x : Val) (xs : Vals) → All (more_vals x xs) → P x × All xs
  pub entry : (x y : Val) (es : Pairs) → Entries (more_pairs x y es) → P x × P y × Entries es
