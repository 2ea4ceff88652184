use Rattle.std.proofs.Common.{codes, option_map, Some, ap, ◌∙◌}
use Rattle.mich_base.specs.View.{tree}
use Rattle.mich_ops.specs.View.{content}
use Rattle.mich_scenario.proofs.Fronts.{two_kept}
use Rattle.mich_scenario.proofs.actions.originate.Goals as goal

pub returns-in_err-origin : goal.returns-in_err-origin
returns-in_err-origin c =
    ap (option_map content) c.from_residual-in_err-origin.ensures
    ∙ two_kept (codes "Originate") _ _ _ _ _ _ c.in_ok-storage.ensures c.in_ok-script.ensures (c.in_err-origin.ensures (tree c.in_ok-script.script) (tree c.in_ok-storage.storage))

pub returns : goal.returns
returns c =
    ap Some c.originated.ensures
    ∙ two_kept (codes "Originate") _ _ _ _ _ _ c.in_ok-storage.ensures c.in_ok-script.ensures (c.in_ok-origin.ensures (tree c.in_ok-script.script) (tree c.in_ok-storage.storage))
