-- What MAP goes over, as frames. A collection is one that is rebuilt alike: with the same keys.
use Rattle.std.specs.Prelude.{◌≡◌, List, [], ◌∷◌, ◌++◌, map, reverse}
use Rattle.std.specs.declared.cmp.Ordering.TheVariants.{Less}
use Rattle.rules_data.specs.values.Val.{Val, Vals, Pairs, no_val, no_pair, more_pairs}
use Rattle.rules_data.specs.values.Val as v
use Rattle.mich_term.specs.View.{datum, vals_of, pairs_of}
use Rattle.mich_term.specs.Keyed.{by}
use Rattle.mich_term.specs.declared.datum.Datum.{Datum}
use Rattle.mich_term.specs.declared.value.Value.{Value}
use Rattle.mich_stack.specs.Views.{Sight, seen}
use Rattle.mich_instr.specs.Code.{Codes}
use Rattle.mich_frames.specs.Frames.{Frame}
use Rattle.mich_frames.specs.Frames as fr
use Rattle.mich_interpreter.specs.Items.{entry_pair, entry_by}
use Rattle.mich_interpreter.specs.declared.made.OverList.{OverList}
use Rattle.mich_interpreter.specs.declared.made.OverTable.{OverTable}
use Rattle.mich_interpreter.specs.declared.made.Making.{Making}
use Rattle.mich_interpreter.specs.declared.made.Making.TheVariants as making

abbrev pub Entry : Type 0
Entry = Datum × Value

abbrev pub vals_by : Sight → List Value → Vals
vals_by big vs = vals_of (map (seen big) vs)

abbrev pub pairs_by : Sight → List Entry → Pairs
pairs_by big es = pairs_of (map (entry_by big) es)

-- entries with these keys
abbrev pub keyed : List Datum → Pairs
keyed [] = no_pair
keyed (k ∷ ks) = more_pairs (datum k) v.unit (keyed ks)

abbrev pub key_of : Entry → Datum
key_of e = e.0

-- each key of the entries is below k
abbrev pub AreKeysBelow : Datum → List Entry → Type 0
AreKeysBelow k [] = Unit {0}
AreKeysBelow k (e ∷ es) = (by (key_of e) k ≡ Less) × AreKeysBelow k es

abbrev pub value_in : Sight → Entry → Val
value_in big e = seen big e.1

-- with one more value, or entry, that is the next
abbrev pub list_with : OverList → Value → OverList
list_with w x = record w { left = w.left ++ x ∷ [] }

abbrev pub table_with : OverTable → Entry → OverTable
table_with w e = record w { left = w.left ++ e ∷ [] }

abbrev pub list_mapping : Sight → Codes → OverList → Frame
list_mapping big is w = fr.mapping is (v.list no_val) (map (seen big) w.made) (map (seen big) (reverse w.left))

abbrev pub table_mapping : Sight → Codes → OverTable → Frame
table_mapping big is w =
    fr.mapping is (v.table (keyed (map key_of w.made ++ map key_of (reverse w.left)))) (map (value_in big) w.made) (map (entry_pair big) (reverse w.left))

abbrev pub making_of : Sight → Codes → Making → Frame
making_of big is (making.Value w) = fr.making is (v.list no_val) (map (seen big) w.made) (map (seen big) (reverse w.left))
making_of big is (making.Entry w k) =
    fr.making is (v.table (keyed (map key_of w.made ++ k ∷ map key_of (reverse w.left)))) (map (value_in big) w.made) (map (entry_pair big) (reverse w.left))
making_of big is making.Part = fr.making is (v.some v.unit) [] []
