use Rattle.std.proofs.Common.{◌∷◌, ◌<◌, ◌-◌, ℕ, [], Err, arith, map, subst, sym}
use Rattle.rules_world.specs.world.Groups.{setting_of}
use Rattle.rules_world.specs.world.Outcomes.{ordered}
use Rattle.rules_world.specs.world.Trees.{tree, tree_within}
use Rattle.mich_gas.specs.View.{listed}
use Rattle.mich_machine.specs.Calls.{counts_of}
use Rattle.mich_operations.specs.declared.applied.ApplyError.{ApplyError}
use Rattle.mich_ops.specs.declared.failure.Failure.{Failure as Failed}
use Rattle.mich_ops.specs.View.{action as action_of, effect}
use Rattle.mich_world.proofs.ForCallers.{world_same}
use Rattle.mich_group.specs.Trees.{IsFailed, IsStep, StepsAs, WalksAs, behind_all}
use Rattle.mich_group.specs.Waiting.{all_sent}
use Rattle.mich_group.specs.declared.tree.TreeError.TheVariants as errors
use Rattle.mich_group.proofs.Walks.{failed_walk, first_fails, first_walks, goes_group, goes_on}
use Rattle.mich_group.proofs.tree.apply_tree.Goals as goal

pub returns-then-gas-eq0-clause-keeps : goal.returns-then-gas-eq0-clause-keeps
returns-then-gas-eq0-clause-keeps c = world_same _

pub returns-in-Err-Failed-clause-walks : goal.returns-in-Err-Failed-clause-walks
returns-in-Err-Failed-clause-walks c = λ start w contents g.
    let s = setting_of (listed c.args.costs.now) c.args.counts.now.group c.args.source.now in
    let ops = ordered (action_of c.args.action.now) ∷ [] in
    let counts = counts_of c.args.counts.now in
    let new = c.apply_first.new in
    let why = c.in-Err-Failed.why in
    let some : 0 < c.args.meter.now = omega arith in
    let p : IsFailed s w ops c.args.meter.now counts why = subst (λ (e : ApplyError). StepsAs {U = Unit {0}} s w ops c.args.meter.now counts new.world new.meter (counts_of new.counts)
    new.waiting c.args.effects.now new.effects (Err e)) c.in-Err-Failed.field-0-is (c.in-Err-Failed.ensures.steps start w contents g) in
    subst (λ (f : Failed). WalksAs {U = Unit {0}} (tree s w ops c.args.meter.now counts) new.world new.meter c.args.counts.now new.counts new.effects (Err (errors.Failed 0 f)))
    (sym c.in-Err-Failed.why-is)
    (failed_walk (Unit {0}) (tree s w ops c.args.meter.now counts) new.world new.meter c.args.counts.now new.counts new.effects 0 p.why why
    (first_fails s w ops c.args.meter.now counts why some p) p.told)

pub apply_waiting-requires-clause-goes : goal.apply_waiting-requires-clause-goes
apply_waiting-requires-clause-goes c =
    let g = c.requires.goes in
    let prices = listed c.args.costs.now in
    let source = c.args.source.now in
    let s = setting_of prices c.args.counts.now.group source in
    let ops = ordered (action_of c.args.action.now) ∷ [] in
    let counts = counts_of c.args.counts.now in
    let new = c.apply_first.new in
    let p : IsStep s g.1 ops c.args.meter.now counts new.world new.meter (counts_of new.counts) new.waiting c.args.effects.now new.effects
    = c.in-Ok.ensures.steps g.0 g.1 g.2 g.3 in (
      g.0,
      p.behind.world,
      g.2,
      goes_group prices source c.args.counts.now.group new.counts.group g.0 g.2 new.world p.behind.world
          (all_sent new.world.store.bases.present new.waiting) (counts_of new.counts) (sym c.in-Ok.ensures.group)
          (goes_on g.0 s g.2 c.args.world.now new.world g.1 ops c.args.meter.now counts (counts_of new.counts) new.meter new.waiting c.args.effects.now new.effects g.3 p),
    )

pub returns-clause-walks : goal.returns-clause-walks
returns-clause-walks c = λ start w contents g.
    let x = c.apply_first.new in
    let z = c.apply_waiting.new in
    let old = c.args.counts.now in
    let ops = ordered (action_of c.args.action.now) ∷ [] in
    let some : 0 < c.args.meter.now = omega arith in
    first_walks (Unit {0}) (listed c.args.costs.now) c.args.source.now c.args.world.now x.world z.world start w contents ops c.args.meter.now x.meter z.meter old x.counts z.counts
    x.waiting c.args.effects.now x.effects z.effects c.apply_waiting.result some c.requires.empty c.in-Ok.ensures.group g
    (c.in-Ok.ensures.steps start w contents g)
    (λ start y contents h. subst (λ (gas : ℕ). WalksAs {U = Unit {0}} (behind_all (map effect x.effects) 1 (tree_within (gas - 1) (setting_of (listed c.args.costs.now) x.counts.group c.args.source.now) y
    (all_sent x.world.store.bases.present x.waiting) x.meter (counts_of x.counts))) z.world z.meter x.counts z.counts z.effects c.apply_waiting.result) c.left-gas.ensures
    (c.apply_waiting.ensures.walks start y contents h))
