use Rattle.std.proofs.Common.{◌≡◌, [], map, drop, false}
use Rattle.std.specs.List.{All, list_any}
use Rattle.rules_world.specs.world.Forms.{IsContent}
use Rattle.rules_world.specs.world.Groups.{setting_of, in_turn, is_over_gas}
use Rattle.rules_world.specs.world.World.{World as PlainWorld}
use Rattle.mich_gas.specs.View.{listed}
use Rattle.mich_machine.specs.Calls.{counts_of, IsHosting}
use Rattle.mich_ops.specs.View.{content}
use Rattle.mich_world.specs.Marks.{KeepsWorld}
use Rattle.mich_group.specs.Trees.{Goes}
use Rattle.mich_group.proofs.Turns.{HasTurned}
use Rattle.mich_group.proofs.contents.apply_contents.Given as goal

abbrev pub invariant-loop-index : goal.invariant-loop-index
invariant-loop-index l =
    let s = setting_of (listed l.costs) l.fn.counts.group l.source in
    record {
      group : l.counts.group ≡ l.fn.counts.group;
      hosting : IsHosting l.world;
      keeps : KeepsWorld l.fn.world l.world;
      forms : All IsContent (map content (drop l.index l.contents));
      gas : list_any is_over_gas (map content (drop l.index l.contents)) ≡ false;
      turned : (start w : PlainWorld) → Goes start s 0 l.fn.world w [] (counts_of l.fn.counts) →
          HasTurned start s (in_turn s (map content l.contents) w (counts_of l.fn.counts)) l.world (counts_of l.counts) l.statuses l.index
          (map content (drop l.index l.contents));
    }
