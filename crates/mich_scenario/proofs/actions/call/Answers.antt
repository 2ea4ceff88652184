use Rattle.std.proofs.Common.{codes, option_map, Some, ap, ◌∙◌}
use Rattle.mich_base.specs.View.{tree}
use Rattle.mich_ops.specs.View.{content}
use Rattle.mich_scenario.proofs.Fronts.{one_kept}
use Rattle.mich_scenario.proofs.actions.call.Goals as goal

pub returns-in_err-order : goal.returns-in_err-order
returns-in_err-order c =
    ap (option_map content) c.from_residual-in_err-order.ensures
    ∙ one_kept (codes "Call") _ _ _ _ c.in_ok-argument.ensures (c.in_err-order.ensures (tree c.in_ok-argument.argument))

pub returns : goal.returns
returns c = ap Some c.called.ensures ∙ one_kept (codes "Call") _ _ _ _ c.in_ok-argument.ensures (c.in_ok-order.ensures (tree c.in_ok-argument.argument))
