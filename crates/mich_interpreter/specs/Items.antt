-- The items that are left of what ITER and MAP go over.
use Rattle.std.specs.Prelude.{List, [], ◌∷◌, map, reverse}
use Rattle.rules_data.specs.values.Val.{Val, both}
use Rattle.mich_term.specs.View.{datum}
use Rattle.mich_term.specs.declared.datum.Datum.{Datum}
use Rattle.mich_term.specs.declared.value.Value.{Value}
use Rattle.mich_stack.specs.Views.{Sight, seen}
use Rattle.mich_interpreter.specs.declared.items.Items.{Items}
use Rattle.mich_interpreter.specs.declared.items.Items.TheVariants as i

abbrev pub entry_pair : Sight → Datum × Value → Val
entry_pair big e = both (datum e.0) (seen big e.1)

abbrev pub entry_by : Sight → Datum × Value → Datum × Val
entry_by big e = (e.0, seen big e.1)

abbrev pub items_left : Sight → Items → List Val
items_left big (i.Values vs) = map (seen big) (reverse vs)
items_left big (i.Entries es) = map (entry_pair big) (reverse es)

abbrev pub IsNotEmpty : List Val → Type 0
IsNotEmpty [] = ⊥
IsNotEmpty (x ∷ xs) = Unit {0}
