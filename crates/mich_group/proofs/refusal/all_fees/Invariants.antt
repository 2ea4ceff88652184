use Rattle.std.proofs.Common.{◌≡◌, ◌≤◌, ◌*◌, ◌^◌, map, take}
use Rattle.rules_world.specs.world.Groups.{all_fees}
use Rattle.mich_ops.specs.View.{content}
use Rattle.mich_group.proofs.refusal.all_fees.Given as goal

abbrev pub invariant-loop-content : goal.invariant-loop-content
invariant-loop-content l = record {
  sum : l.sum ≡ all_fees (map content (take l.content-index l.contents));
  small : l.sum ≤ l.content-index * 2 ^ 64;
}
