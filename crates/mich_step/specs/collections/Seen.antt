-- Lists and maps as they are seen.
use Rattle.std.specs.Prelude.{List, map}
use Rattle.rules_data.specs.values.Val.{Val, Vals, Pairs}
use Rattle.mich_term.specs.View.{vals_of, pairs_of}
use Rattle.mich_term.specs.declared.datum.Datum.{Datum}
use Rattle.mich_term.specs.declared.value.Value.{Value}
use Rattle.mich_stack.specs.Views.{Sight, seen}

abbrev pub vals_by : Sight → List Value → Vals
vals_by big vs = vals_of (map (seen big) vs)

abbrev pub entry_by : Sight → Datum × Value → Datum × Val
entry_by big e = (e.0, seen big e.1)

abbrev pub pairs_by : Sight → List (Datum × Value) → Pairs
pairs_by big es = pairs_of (map (entry_by big) es)
