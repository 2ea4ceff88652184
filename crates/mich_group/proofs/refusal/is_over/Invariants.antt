use Rattle.std.proofs.Common.{◌≡◌, map, drop}
use Rattle.std.specs.List.{list_any}
use Rattle.rules_world.specs.world.Groups.{is_over_gas}
use Rattle.mich_ops.specs.View.{content}
use Rattle.mich_group.proofs.refusal.is_over.Given as goal

abbrev pub invariant-loop-content : goal.invariant-loop-content
invariant-loop-content l =
    list_any is_over_gas (map content (drop l.content-index l.contents)) ≡ list_any is_over_gas (map content l.contents)
