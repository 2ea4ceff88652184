-- The instructions without bodies that ask for nothing but the stack, the tickets and what surrounds the run.
use Rattle.std.specs.Prelude.{Bool, true, false, not}
use Rattle.rules_code.specs.instructions.Straight.{Straight, CollectionRow, on_collections, on_hashes, on_operations}
use Rattle.rules_code.specs.instructions.Straight as i

-- makes a big map, or works on one
abbrev pub is_on_big_map : CollectionRow → Bool
is_on_big_map (i.empty_big_map a b) = true
is_on_big_map i.mem_big_map = true
is_on_big_map i.get_big_map = true
is_on_big_map i.update_big_map = true
is_on_big_map i.get_and_update_big_map = true
is_on_big_map row = false

abbrev pub in_step : Straight → Bool
in_step (on_hashes row) = false
in_step (on_collections row) = not (is_on_big_map row)
in_step (on_operations i.address) = true
in_step (on_operations i.implicit_account) = true
in_step (on_operations row) = false
in_step row = true
