-- Values that are kept, one behind the other.
use Rattle.std.specs.Prelude.{◌++◌, ◌∷◌, [], Bool, true, false, ◌&&◌, List, Option, Some, None}
use Rattle.std.specs.Option.{option_map}
use Rattle.rules_text.specs.binary.Reading.{Spot}
use Rattle.rules_data.specs.declared.types.Simple.TheVariants as s
use Rattle.rules_data.specs.types.Kind.{Kind}
use Rattle.rules_data.specs.types.Kind as k
use Rattle.rules_data.specs.values.Val.{Val}
use Rattle.mich_term.specs.ValueView.{val}
use Rattle.mich_term.specs.declared.datum.Datum.{Datum}
use Rattle.mich_term.specs.declared.value.Value.{Value}
use Rattle.mich_saved.specs.Results.{spot}
use Rattle.mich_saved.specs.declared.cursor.Cursor.{Cursor}

-- what was read, as far as it is kept, and where reading goes on
abbrev pub kept_seen : Option Value × Cursor → Option Val × Spot
kept_seen x = (option_map val x.0, spot x.1)

abbrev pub pushed : Option (List Value) → Option Value → Option (List Value)
pushed (Some vs) (Some v) = Some (vs ++ v ∷ [])
pushed vs v = None

abbrev pub entry_pushed : Option (List (Datum × Value)) → Datum → Option Value → Option (List (Datum × Value))
entry_pushed (Some es) d (Some v) = Some (es ++ (d, v) ∷ [])
entry_pushed es d v = None

-- values of these types take no bytes
abbrev pub takes_nothing : Kind → Bool
takes_nothing (k.simple s.Unit) = true
takes_nothing (k.pair a b) = takes_nothing a && takes_nothing b
takes_nothing a = false

-- the change that puts an entry
abbrev pub put_of : Datum × Value → Datum × Option Value
put_of e = (e.0, Some e.1)
