-- The values that comparable values stand for.
use Rattle.std.specs.Prelude.{List, [], ◌∷◌, map}
use Rattle.rules_data.specs.values.Val.{Val, unit, truth, number, text, bytes, nothing, some, left, right, both, Vals, no_val, more_vals, Pairs, no_pair, more_pairs}
use Rattle.mich_term.specs.declared.datum.Datum.{Datum, fold-Datum}
use Rattle.mich_term.specs.declared.datum.Datum.TheOpen.{Datum-F}

-- one level, with each part already seen as its value
abbrev pub datum_step : Datum-F Val → Val
datum_step Datum-F.Unit = unit
datum_step (Datum-F.Bool b) = truth b
datum_step (Datum-F.Number n) = number n
datum_step (Datum-F.Text s) = text s
datum_step (Datum-F.Bytes s) = bytes s
datum_step Datum-F.None = nothing
datum_step (Datum-F.Some v) = some v
datum_step (Datum-F.Left v) = left v
datum_step (Datum-F.Right v) = right v
datum_step (Datum-F.Pair v w) = both v w

-- the value that a comparable value stands for
abbrev pub datum : Datum → Val
datum = fold-Datum Val datum_step

-- the values of a list
abbrev pub vals_of : List Val → Vals
vals_of [] = no_val
vals_of (v ∷ vs) = more_vals v (vals_of vs)

-- the values of a list of comparable values
abbrev pub datums : List Datum → Vals
datums ds = vals_of (map datum ds)

-- the entries of a list
abbrev pub pairs_of : List (Datum × Val) → Pairs
pairs_of [] = no_pair
pairs_of (p ∷ ps) = more_pairs (datum p.0) p.1 (pairs_of ps)
