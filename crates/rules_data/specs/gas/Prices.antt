-- Prices and costs.
use Rattle.std.specs.Prelude.{ℕ, ◌+◌, ◌*◌, Option, Some, None, unwrap_or, if◌then◌else◌}
use Rattle.rules_data.specs.declared.gas.Kind.{Kind}
use Rattle.rules_data.specs.gas.Kinds.{is_same_kind}

-- the price of a kind, in units of gas: a base, and a coefficient for each unit of weight
pub record Price : Type 0 where
  pub base : ℕ
  pub coefficient : ℕ

-- the price of a kind where no table lists another
abbrev pub standard_price : Price
standard_price = record { base = 1; coefficient = 1 }

-- a table of prices: what it lists for a kind, if it lists it
abbrev pub Listed : Type 0
Listed = Kind → Option Price

-- the table that lists nothing
abbrev pub nothing_listed : Listed
nothing_listed kind = None

-- the table with a price for one more kind
abbrev pub with_price : Listed → Kind → Price → Listed
with_price listed kind price other = if is_same_kind other kind then Some price else listed other

-- the price that a table gives a kind
abbrev pub price_of : Listed → Kind → Price
price_of listed kind = unwrap_or (listed kind) standard_price

-- what a kind costs at a weight, a number without limit
abbrev pub cost : Listed → Kind → ℕ → ℕ
cost listed kind weight = (price_of listed kind).base + (price_of listed kind).coefficient * weight
