use Rattle.rules_world.specs.lines.Nodes.{effect_node}
use Rattle.mich_ops.specs.View.{effect}
use Rattle.mich_report.proofs.Loops.{each_next}
use Rattle.mich_report.proofs.effects.put_each.Goals as goal

pub effects-preserved : goal.effects-preserved
effects-preserved c =
    each_next effect effect_node c.effects.line.items c.put_separator.new.line.items c.put_effect.new.line.items _ c.effects.begun c.as_slice-done-items.result.now
    c.effects.done-index c.done-item.result c.effects-test.true c.done-item.is c.in_ok-put_separator.ensures c.in_ok-put_effect.ensures c.effects.invariant
