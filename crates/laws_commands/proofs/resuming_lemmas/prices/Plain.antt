-- A run sees of a table of prices only the price of each kind.
use Rattle.std.proofs.Common.{◌≡◌, Some}
use Rattle.rules_data.specs.gas.Prices.{Listed, price_of}
use Rattle.rules_code.specs.evaluation.Surroundings.{Surroundings}
use Rattle.rules_code.specs.evaluation.Outcome.{Run}

-- the table that lists the price of each kind
abbrev pub plain : Listed → Listed
plain p kind = Some (price_of p kind)

abbrev pub plainly : Surroundings → Surroundings
plainly e = record e { prices = plain e.prices }

-- the run with that table
abbrev pub moved : Run → Run
moved r e d A V m = r (plainly e) d A V m

abbrev pub IsBlind : Run → Type 0
IsBlind r = moved r ≡ r
