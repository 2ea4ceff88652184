-- How instructions on big maps end, where big maps are seen in a store.
use Rattle.std.specs.Prelude.{◌≡◌, List, ◌∷◌, Option, option_map, option_to_list, Result, Ok, Err}
use Rattle.rules_data.specs.values.Val.{Val, Pairs}
use Rattle.rules_data.specs.values.Tables.{value_at, with_value}
use Rattle.rules_data.specs.values.Tickets.{tickets}
use Rattle.rules_code.specs.instructions.Straight.{CollectionRow}
use Rattle.rules_code.specs.instructions.Straight as i
use Rattle.rules_code.specs.steps.Changes.{burns}
use Rattle.rules_code.specs.steps.Collections.{collection_step, map_with}
use Rattle.rules_code.specs.steps.Step.{done, kept, discarding, optional}
use Rattle.mich_base.specs.declared.memory.Memory.{Memory}
use Rattle.mich_bigmap.specs.Bases.{Bases}
use Rattle.mich_stack.specs.Views.{Sight, seen, values}
use Rattle.mich_term.specs.View.{datum}
use Rattle.mich_term.specs.ValueView.{value_step}
use Rattle.mich_term.specs.declared.datum.Datum.{Datum}
use Rattle.mich_term.specs.declared.value.BigMap.{BigMap, fold-BigMap}
use Rattle.mich_term.specs.declared.value.Value.{Value}
use Rattle.mich_store_steps.specs.seen.Sights.{sight}

-- the entries that a big map is seen as
abbrev pub entries_by : Sight → BigMap → Pairs
entries_by big m = fold-BigMap Val Pairs value_step big m

abbrev pub entries_seen : Bases → BigMap → Pairs
entries_seen bs m = entries_by (sight bs) m

abbrev pub seen_in : Bases → Value → Val
seen_in bs v = seen (sight bs) v

abbrev pub values_in : Bases → List Value → List Val
values_in bs vs = values (sight bs) vs

-- the value at a key of a big map
abbrev pub value_seen_at : Bases → Datum → BigMap → Option Val
value_seen_at bs k m = value_at (datum k) (entries_seen bs m)

-- the entries of a big map with this value at a key
abbrev pub entries_with : Bases → Datum → Value → BigMap → Pairs
entries_with bs k v m = with_value (datum k) (seen_in bs v) (entries_seen bs m)

-- with what an option has at a key, or without the entry there
abbrev pub entries_changed : Bases → Datum → Option Value → BigMap → Pairs
entries_changed bs k o m = map_with (datum k) (option_map (seen_in bs) o) (entries_seen bs m)

-- a row ends with these values, and burns the tickets of the value that is handed out
abbrev pub HandsOut : Bases → CollectionRow → List Value → List Value → Result Value Memory → Type 0
HandsOut bs row old new (Ok gone) = collection_step row (values_in bs old) ≡ done (values_in bs new) (burns (tickets (seen_in bs gone)))
HandsOut bs row old new (Err e) = Unit {0}

-- what UPDATE discards, and what GET_AND_UPDATE gives, with the values that are left
pub record IsExchange (V : List Val) (old : Option Val) (W : List Val) : Type 0 where
  pub update : collection_step i.update_big_map V ≡ discarding (option_to_list old) W
  pub both : collection_step i.get_and_update_big_map V ≡ kept (optional old ∷ W)

-- the same of stacks, and of the value that was there, as they are seen in a store
abbrev pub Exchanges : Bases → List Value → Option Value → List Value → Type 0
Exchanges bs before old after = IsExchange (values_in bs before) (option_map (seen_in bs) old) (values_in bs after)
