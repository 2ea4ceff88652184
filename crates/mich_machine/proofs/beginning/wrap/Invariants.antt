use Rattle.std.proofs.Common.{◌≡◌, ◌≤◌, length, drop}
use Rattle.rules_world.specs.world.Targets.{wrapped}
use Rattle.mich_stack.specs.Views.{Sight, seen}
use Rattle.mich_machine.proofs.beginning.wrap.Given as goal

abbrev pub invariant-steps : goal.invariant-steps
invariant-steps l = record {
  within : l.at ≤ length l.path;
  so_far : (big : Sight) → seen big l.whole ≡ wrapped (drop l.at l.path) (seen big l.fn.argument);
}

abbrev pub decreases-steps : goal.decreases-steps
decreases-steps l = l.at
