-- Sets, maps, big maps, and the size of lists (Michelson reference, "Operations on sets", "Operations on maps",
-- "Operations on big maps" and "Operations on lists").
use Rattle.std.specs.Prelude.{pos, Bool, true, false, is_some, List, [], ◌∷◌, Option, Some, None, option_to_list}
use Rattle.rules_data.specs.numbers.Limits.{int_or_limit}
use Rattle.rules_data.specs.values.Val.{Val, truth, number, nothing, some, list, set, table, big_table, Vals, no_val, Pairs, no_pair}
use Rattle.rules_data.specs.values.Tables.{value_at, with_value, without_key}
use Rattle.rules_code.specs.instructions.Straight.{CollectionRow}
use Rattle.rules_code.specs.instructions.Straight as i
use Rattle.rules_code.specs.steps.Sets.{has_element, with_element, without_element, element_count, entry_count}
use Rattle.rules_code.specs.steps.Step.{Step, wrong, kept, discarding, optional, within_limit}

-- a set with an element, or without it
abbrev pub set_with : Bool → Val → Vals → Vals
set_with true x xs = with_element x xs
set_with false x xs = without_element x xs

-- a map with what an option has at a key, or without it
abbrev pub map_with : Val → Option Val → Pairs → Pairs
map_with k (Some v) ps = with_value k v ps
map_with k None ps = without_key k ps

-- an option as it is asked for, and whether a value is one
abbrev pub on_option : Val → (Option Val → Step) → Step
on_option nothing go = go None
on_option (some v) go = go (Some v)
on_option _ go = wrong

-- UPDATE discards the old value, and GET_AND_UPDATE gives it
abbrev pub updated : (Pairs → Val) → Val → Pairs → List Val → Option Val → Step
updated made k ps V new = discarding (option_to_list (value_at k ps)) (made (map_with k new ps) ∷ V)

abbrev pub exchanged : (Pairs → Val) → Val → Pairs → List Val → Option Val → Step
exchanged made k ps V new = kept (optional (value_at k ps) ∷ made (map_with k new ps) ∷ V)

-- SIZE and MEM discard the collection, and a size is a number within the limits; what GET takes holds no ticket, since its
-- values can be copied
abbrev pub collection_step : CollectionRow → List Val → Step
collection_step (i.empty_set a) V = kept (set no_val ∷ V)
collection_step (i.empty_map a b) V = kept (table no_pair ∷ V)
collection_step (i.empty_big_map a b) V = kept (big_table no_pair ∷ V)
collection_step i.size_list (list xs ∷ V) =
    within_limit (int_or_limit (pos (element_count xs))) (λ z. discarding (list xs ∷ []) (number z ∷ V))
collection_step i.size_set (set xs ∷ V) = within_limit (int_or_limit (pos (element_count xs))) (λ z. kept (number z ∷ V))
collection_step i.size_map (table ps ∷ V) =
    within_limit (int_or_limit (pos (entry_count ps))) (λ z. discarding (table ps ∷ []) (number z ∷ V))
collection_step i.mem_set (x ∷ set xs ∷ V) = kept (truth (has_element x xs) ∷ V)
collection_step i.mem_map (k ∷ table ps ∷ V) = discarding (table ps ∷ []) (truth (is_some (value_at k ps)) ∷ V)
collection_step i.mem_big_map (k ∷ big_table ps ∷ V) = discarding (big_table ps ∷ []) (truth (is_some (value_at k ps)) ∷ V)
collection_step i.get_map (k ∷ table ps ∷ V) = kept (optional (value_at k ps) ∷ V)
collection_step i.get_big_map (k ∷ big_table ps ∷ V) = kept (optional (value_at k ps) ∷ V)
collection_step i.update_set (x ∷ truth b ∷ set xs ∷ V) = kept (set (set_with b x xs) ∷ V)
collection_step i.update_map (k ∷ v ∷ table ps ∷ V) = on_option v (updated table k ps V)
collection_step i.update_big_map (k ∷ v ∷ big_table ps ∷ V) = on_option v (updated big_table k ps V)
collection_step i.get_and_update_map (k ∷ v ∷ table ps ∷ V) = on_option v (exchanged table k ps V)
collection_step i.get_and_update_big_map (k ∷ v ∷ big_table ps ∷ V) = on_option v (exchanged big_table k ps V)
collection_step _ _ = wrong
