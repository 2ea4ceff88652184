use Rattle.std.proofs.Common.{◌≡◌, ◌-◌, ℕ, map}
use Rattle.rules_world.specs.world.Groups.{setting_of}
use Rattle.rules_world.specs.world.Trees.{tree_within}
use Rattle.rules_world.specs.world.World.{World as PlainWorld}
use Rattle.mich_gas.specs.View.{listed}
use Rattle.mich_machine.specs.Calls.{counts_of, IsHosting}
use Rattle.mich_ops.specs.View.{effect}
use Rattle.mich_world.specs.Marks.{KeepsWorld}
use Rattle.mich_group.specs.Trees.{Goes, behind_all}
use Rattle.mich_group.specs.Waiting.{AreHanded, all_sent}
use Rattle.mich_group.proofs.Walks.{HasCome}
use Rattle.mich_group.proofs.tree.apply_waiting.Given as goal

abbrev pub invariant-loop-count : goal.invariant-loop-count
invariant-loop-count l =
    let s = setting_of (listed l.costs) l.fn.counts.group l.source in
    let first = all_sent l.fn.world.store.bases.present l.fn.waiting in
    record {
      group : l.counts.group ≡ l.fn.counts.group;
      hosting : IsHosting l.world;
      handed : AreHanded l.world l.waiting;
      keeps : KeepsWorld l.fn.world l.world;
      come : (start w : PlainWorld) (contents : ℕ) → Goes start s contents l.fn.world w first (counts_of l.fn.counts) →
          HasCome start s contents
          (behind_all (map effect l.fn.effects) 1 (tree_within (l.gas - 1) s w first l.fn.meter (counts_of l.fn.counts)))
          l.gas l.count l.world l.waiting l.effects l.meter (counts_of l.counts);
    }
