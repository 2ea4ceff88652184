-- What an instruction without bodies does to the types of the stack (Michelson reference, "Instructions").
use Rattle.std.specs.Prelude.{List, Option, option_map}
use Rattle.rules_data.specs.types.Kind.{Kind}
use Rattle.rules_code.specs.instructions.Change.{Change, after, makes}
use Rattle.rules_code.specs.instructions.StackChanges.{stack_change, pair_change}
use Rattle.rules_code.specs.instructions.DataChanges.{union_change, collection_change}
use Rattle.rules_code.specs.instructions.NumberChanges.{number_change, logic_change}
use Rattle.rules_code.specs.instructions.OtherChanges.{text_change, hash_change, environment_kind, operation_change, ticket_change}
use Rattle.rules_code.specs.instructions.Straight.{Straight, on_stack, on_pairs, on_unions, on_collections, on_numbers, on_truth, on_text, on_hashes, on_environment, on_operations, on_tickets}

-- what the row makes of the stack, or None where the stack doesn't fit
abbrev pub change : Straight → List Kind → Option Change
change (on_stack r) A = stack_change r A
change (on_pairs r) A = pair_change r A
change (on_unions r) A = union_change r A
change (on_collections r) A = collection_change r A
change (on_numbers r) A = number_change r A
change (on_truth r) A = logic_change r A
change (on_text r) A = text_change r A
change (on_hashes r) A = hash_change r A
change (on_environment r) A = makes (environment_kind r) A
change (on_operations r) A = operation_change r A
change (on_tickets r) A = ticket_change r A

-- the stack after it
abbrev pub effect : Straight → List Kind → Option (List Kind)
effect r A = option_map after (change r A)
