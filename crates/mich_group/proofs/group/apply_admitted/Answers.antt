use Rattle.std.proofs.Common.{[], List, map, sym, subst, Ok}
use Rattle.rules_world.specs.world.Groups.{in_turn, setting_of}
use Rattle.rules_world.specs.world.Outcomes.{no_counts}
use Rattle.mich_base.specs.declared.memory.Memory.{Memory}
use Rattle.mich_gas.specs.View.{listed}
use Rattle.mich_ops.specs.View.{content, contents as contents_of}
use Rattle.mich_ops.specs.declared.group.Content.{Content}
use Rattle.mich_operations.proofs.ForCallers.{stands_same}
use Rattle.mich_world.proofs.ForCallers.{same_keeps, undone_is}
use Rattle.mich_world.specs.Marks.{KeepsWorld}
use Rattle.mich_world.specs.World.{World}
use Rattle.mich_group.specs.Trees.{Goes}
use Rattle.mich_group.specs.Turns.{TurnsAs}
use Rattle.mich_group.specs.declared.contents.Turn.{Turn}
use Rattle.mich_group.proofs.Fees.{settled_broken}
use Rattle.mich_group.proofs.group.apply_admitted.Goals as goal

pub returns-in-Failed-clause-settled : goal.returns-in-Failed-clause-settled
returns-in-Failed-clause-settled c = λ start w g.
    let v = c.args.world.now in
    let x = c.apply_contents.new.world in
    let s = setting_of (listed c.args.costs.now) c.args.number c.args.group.now.source in
    let contents = contents_of c.args.group.now in
    let keeps = subst (λ (u : World). KeepsWorld u x) c.mark-mark.ensures.same c.in_ok-statuses.ensures.keeps in
    let here = subst (λ (u : World). Goes start s 0 u w [] no_counts) (sym c.mark-mark.ensures.same) g in
    let same = undone_is c.mark-mark.result v x c.undo_to.new.self c.mark-mark.ensures.mark keeps c.undo_to.ensures.world in
    settled_broken s w contents c.undo_to.new.self c.in-Failed.statuses (stands_same v c.undo_to.new.self w same g.stands)
    (subst (λ (e : Turn). TurnsAs {E = Memory} (in_turn s contents w no_counts) x (Ok e)) c.in-Failed.is
    (subst (λ (cs : List Content). TurnsAs {E = Memory} (in_turn s (map content cs) w no_counts) x (Ok c.in_ok-statuses.field-0)) c.as_slice.ensures
    (c.in_ok-statuses.ensures.turns start w here)))

pub returns-in-Failed-clause-keeps : goal.returns-in-Failed-clause-keeps
returns-in-Failed-clause-keeps c =
    let v = c.args.world.now in
    let keeps = subst (λ (u : World). KeepsWorld u c.apply_contents.new.world) c.mark-mark.ensures.same c.in_ok-statuses.ensures.keeps in
    same_keeps v c.undo_to.new.self
    (undone_is c.mark-mark.result v c.apply_contents.new.world c.undo_to.new.self c.mark-mark.ensures.mark keeps c.undo_to.ensures.world)
