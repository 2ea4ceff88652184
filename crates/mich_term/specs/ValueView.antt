-- The values that values of the code stand for.
use Rattle.std.specs.Prelude.{Option, Some, None, option_map, List, [], ◌∷◌, map}
use Rattle.mich_forms.specs.Spelled.{place_bytes}
use Rattle.mich_base.specs.View.{tree}
use Rattle.mich_base.specs.TypeView.{kind}
use Rattle.rules_data.specs.values.Val.{Val, unit, truth, number, text, bytes, nothing, some, left, right, both, list, set, table, big_table, lambda, operation, ticket, Vals, Pairs, no_pair, more_pairs}
use Rattle.mich_term.specs.View.{datum, datums, vals_of, pairs_of}
use Rattle.mich_term.specs.declared.datum.Datum.{Datum}
use Rattle.mich_term.specs.declared.value.Value.{Value, fold-Value}
use Rattle.mich_term.specs.declared.value.Value.TheOpen.{Value-F, BigMap-F}
use Rattle.mich_term.specs.declared.value.BigMap.{BigMap, fold-BigMap}

-- an entry before others, where it is put and not taken away
abbrev pub put_first : Datum → Option Val → Pairs → Pairs
put_first k None ps = ps
put_first k (Some v) ps = more_pairs (datum k) v ps

-- the entries that are put
abbrev pub puts : List (Datum × Option Val) → Pairs
puts [] = no_pair
puts (e ∷ es) = put_first e.0 e.1 (puts es)

-- one level, with each part already seen as its value; a big map is seen as the entries that lie in it
abbrev pub big_step : BigMap-F Val Pairs → Pairs
big_step b = puts b.overlay

-- one level of any value, with each part already seen as its value
abbrev pub value_step : Value-F Val Pairs → Val
value_step Value-F.Unit = unit
value_step (Value-F.Bool b) = truth b
value_step (Value-F.Number n) = number n
value_step (Value-F.Text s) = text s
value_step (Value-F.Bytes s) = bytes s
value_step Value-F.None = nothing
value_step (Value-F.Some v) = some v
value_step (Value-F.Left v) = left v
value_step (Value-F.Right v) = right v
value_step (Value-F.Pair v w) = both v w
value_step (Value-F.List vs) = list (vals_of vs)
value_step (Value-F.Set ds) = set (datums ds)
value_step (Value-F.Map es) = table (pairs_of es)
value_step (Value-F.BigMap ps) = big_table ps
value_step (Value-F.Lambda n r) = lambda (tree n) r
value_step (Value-F.Operation n) = operation n
value_step (Value-F.Ticket t) = ticket (place_bytes t.id.issuer) (kind t.id.ty) (datum t.id.content) t.amount

-- the value that any value stands for
abbrev pub val : Value → Val
val = fold-Value Val Pairs value_step big_step

-- the values of a list
abbrev pub vals : List Value → Vals
vals vs = vals_of (map val vs)

-- an entry of a map with its value seen
abbrev pub entry : Datum × Value → Datum × Val
entry e = (e.0, val e.1)

-- the entries of a map
abbrev pub pairs : List (Datum × Value) → Pairs
pairs es = pairs_of (map entry es)

-- an entry of an overlay with its value seen, where it puts one
abbrev pub change : Datum × Option Value → Datum × Option Val
change e = (e.0, option_map val e.1)

-- the entries that an overlay puts
abbrev pub put_pairs : List (Datum × Option Value) → Pairs
put_pairs es = puts (map change es)

-- the entries that lie in a big map
abbrev pub big_pairs : BigMap → Pairs
big_pairs = fold-BigMap Val Pairs value_step big_step
