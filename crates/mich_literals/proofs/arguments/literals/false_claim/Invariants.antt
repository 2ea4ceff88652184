use Rattle.std.proofs.Common.{◌≡◌, drop}
use Rattle.rules_world.specs.world.Arguments.{false_claim}
use Rattle.rules_world.specs.world.World.{World as PlainWorld}
use Rattle.mich_data.specs.View.{all_pending}
use Rattle.mich_world.specs.Standing.{StandsFor}
use Rattle.mich_literals.proofs.arguments.literals.false_claim.Given as goal

abbrev pub invariant-loop-claim : goal.invariant-loop-claim
invariant-loop-claim l = (w : PlainWorld) → StandsFor l.fn.world w → false_claim w (all_pending (drop l.claim-index l.claim-items)) ≡ false_claim w (all_pending l.fn.claims)
