-- Instructions without bodies, but for those on contracts and operations.
use Rattle.std.proofs.Common.{◌≡◌, List, Some, subst}
use Rattle.std.specs.Prelude.{ℤ}
use Rattle.rules_data.specs.types.Kind.{Kind}
use Rattle.rules_data.specs.values.Val.{Val}
use Rattle.rules_data.specs.values.Tickets.{Identity}
use Rattle.rules_code.specs.instructions.Straight.{Straight, on_stack, on_pairs, on_unions, on_collections, on_numbers, on_truth, on_text, on_hashes, on_environment, on_operations, on_tickets}
use Rattle.rules_code.specs.instructions.Change.{Change, after}
use Rattle.rules_code.specs.instructions.Effect.{change}
use Rattle.rules_code.specs.instructions.OtherChanges.{operation_change}
use Rattle.rules_code.specs.steps.Environment.{Environment}
use Rattle.rules_code.specs.steps.Packing.{Trial}
use Rattle.rules_code.specs.steps.Steps.{step}
use Rattle.laws_tickets.specs.totals.Agreement.{AllAgree}
use Rattle.laws_tickets.proofs.totals.ForCallers.{IsFine, KeepsStep, KeepsChange, keeps_wrong}
use Rattle.laws_tickets.proofs.steps.StackSteps.{stack_keeps, union_keeps}
use Rattle.laws_tickets.proofs.steps.PairSteps.{pair_keeps}
use Rattle.laws_tickets.proofs.steps.NumberSteps.{number_keeps, logic_keeps}
use Rattle.laws_tickets.proofs.steps.TextSteps.{text_keeps, hash_keeps, environment_keeps}
use Rattle.laws_tickets.proofs.steps.CollectionSteps.{collection_keeps}
use Rattle.laws_tickets.proofs.steps.TicketSteps.{ticket_keeps}

module _ (e : Environment) (total : Identity → ℤ) (passes : Trial) where
  change_keeps : (r : Straight) (A : List Kind) (V : List Val) → IsFine r → AllAgree A V →
      KeepsChange (change r A) V (step e total passes r V)
  change_keeps (on_stack r) A V f h = stack_keeps r A V h
  change_keeps (on_pairs r) A V f h = pair_keeps r A V h
  change_keeps (on_unions r) A V f h = union_keeps r A V h
  change_keeps (on_collections r) A V f h = collection_keeps r A V f h
  change_keeps (on_numbers r) A V f h = number_keeps r A V h
  change_keeps (on_truth r) A V f h = logic_keeps r A V h
  change_keeps (on_text r) A V f h = text_keeps r A V h
  change_keeps (on_hashes r) A V f h = hash_keeps passes r A V f h
  change_keeps (on_environment r) A V f h = environment_keeps e r A V h
  change_keeps (on_operations r) A V f h = keeps_wrong (operation_change r A) V
  change_keeps (on_tickets r) A V f h = ticket_keeps e total r A V h

  -- a row on the types that it fits
  pub step_keeps : (r : Straight) (A : List Kind) (V : List Val) (c : Change) → IsFine r → change r A ≡ Some c → AllAgree A V →
      KeepsStep (after c) V (step e total passes r V)
  step_keeps r A V c f g h = subst (λ d. KeepsChange d V (step e total passes r V)) g (change_keeps r A V f h)
