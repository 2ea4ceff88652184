use Rattle.std.proofs.Common.{[], ◌∷◌, ◌++◌, ap, ◌∙◌}
use Rattle.rules_data.specs.types.Printing.{named}
use Rattle.mich_instr.proofs.Shown.{last_is}
use Rattle.mich_instr.proofs.erasing.over_last.Goals as goal

pub returns : goal.returns
returns c =
    c.in_ok-node.ensures ∙ ap (named c.args.name.now) (last_is _ _ _ (c.in_ok-push.ensures.pushed ∙ ap (λ ns. ns ++ c.args.last ∷ []) c.in_ok-args.ensures))
