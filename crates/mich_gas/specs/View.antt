-- What the types of this crate stand for.
use Rattle.std.specs.Prelude.{ℕ, List, None, option_map, slice_index_or, Result, Ok, Err}
use Rattle.std.specs.Borrow.{Bor}
use Rattle.rules_data.specs.declared.gas.Kind.{Kind}
use Rattle.rules_data.specs.gas.Kinds.{place}
use Rattle.rules_data.specs.gas.Prices.{Listed}
use Rattle.rules_data.specs.gas.Prices as rules
use Rattle.rules_data.specs.gas.Tables as tables
use Rattle.mich_gas.specs.declared.costs.Price.{Price}
use Rattle.mich_gas.specs.declared.costs.Costs.{Costs}
use Rattle.mich_gas.specs.declared.costs.BadCosts.{BadCosts}
use Rattle.mich_gas.specs.declared.costs.Listing.{Listing}

-- a price of this crate as one of the rules
abbrev pub seen_price : Price → rules.Price
seen_price p = record { base = p.base; coefficient = p.coefficient }

-- what a table lists for each kind
abbrev pub listed : Costs → Listed
listed costs kind = option_map seen_price (slice_index_or costs.listed (place kind) None)

-- the table that was read, or the location of the first bad row
abbrev pub reading : Result Costs BadCosts → Result Listed ℕ
reading (Ok costs) = Ok (listed costs)
reading (Err bad) = Err bad.location

-- a listing of this crate as one of the rules
abbrev pub seen_listing : Listing → tables.Listing
seen_listing l = record { kind = l.kind; price = seen_price l.price }

-- a row of the table of names, with its name as bytes
abbrev pub seen_row : Bor (List ℕ) × Kind → List ℕ × Kind
seen_row row = (row.0.now, row.1)
