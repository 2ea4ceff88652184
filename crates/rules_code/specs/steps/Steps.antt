-- What straight-line instructions do to the values of the stack (Michelson reference, "Instructions").
use Rattle.std.specs.Prelude.{ℤ, List}
use Rattle.rules_data.specs.values.Val.{Val}
use Rattle.rules_data.specs.values.Tickets.{Identity}
use Rattle.rules_code.specs.instructions.Straight.{Straight, on_stack, on_pairs, on_unions, on_collections, on_numbers, on_truth, on_text, on_hashes, on_environment, on_operations, on_tickets}
use Rattle.rules_code.specs.steps.Environment.{Environment}
use Rattle.rules_code.specs.steps.Step.{Step, wrong}
use Rattle.rules_code.specs.steps.Stack.{stack_step, pair_step, union_step}
use Rattle.rules_code.specs.steps.Collections.{collection_step}
use Rattle.rules_code.specs.steps.Numbers.{number_step, logic_step}
use Rattle.rules_code.specs.steps.Texts.{text_step}
use Rattle.rules_code.specs.steps.Packing.{Trial, hash_step}
use Rattle.rules_code.specs.steps.Reading.{environment_step}
use Rattle.rules_code.specs.steps.TicketSteps.{ticket_step}

-- Where and for whom the code runs, what was ever minted of each ticket, and how literals are tried are given. The rows
-- on contracts and operations ask more than this, and stand with the evaluation.
abbrev pub step : Environment → (Identity → ℤ) → Trial → Straight → List Val → Step
step e total passes (on_stack row) V = stack_step row V
step e total passes (on_pairs row) V = pair_step row V
step e total passes (on_unions row) V = union_step row V
step e total passes (on_collections row) V = collection_step row V
step e total passes (on_numbers row) V = number_step row V
step e total passes (on_truth row) V = logic_step row V
step e total passes (on_text row) V = text_step row V
step e total passes (on_hashes row) V = hash_step passes row V
step e total passes (on_environment row) V = environment_step e row V
step e total passes (on_operations row) V = wrong
step e total passes (on_tickets row) V = ticket_step e total row V
