use Rattle.std.proofs.Common.{ap, sym, ◌∙◌}
use Rattle.mich_check.specs.Pending.{codes_if}
use Rattle.mich_check.proofs.HeldTyping.{put_none, put_some}
use Rattle.mich_check.proofs.nodes.put_lambda.Goals as goal
use Rattle.mich_instr.specs.Code.{joined}
use Rattle.mich_instr.specs.View.{codes}

pub returns-in_ok-push-in-Some : goal.returns-in_ok-push-in-Some
returns-in_ok-push-in-Some c = put_some _ _ _ c.in_ok-push-in-Some.ensures.pushed ∙ ap (λ i. joined (codes c.args.lambdas.now) (codes_if i)) (sym c.in-Some.is)

pub returns-in-None : goal.returns-in-None
returns-in-None c = put_none _ ∙ ap (λ i. joined (codes c.args.lambdas.now) (codes_if i)) (sym c.in-None.is)
