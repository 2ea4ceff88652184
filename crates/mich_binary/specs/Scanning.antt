-- Looking for the first name that is no primitive's, and counting locations.
use Rattle.std.specs.Prelude.{ℕ, ◌+◌, List, [], ◌∷◌, Result, Ok, Err, if◌then◌else◌}
use Rattle.rules_text.specs.nodes.Tree.{Tree}
use Rattle.rules_text.specs.binary.Encoding.{lacks_code}

-- the first such location among nodes that stand from a location on, or the location behind them
abbrev pub scanned : ℕ → List Tree → Result ℕ ℕ
scanned at [] = Ok at
scanned at (t ∷ ts) = if lacks_code t then Err at else scanned (at + 1) ts
