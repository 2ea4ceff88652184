use Rattle.std.proofs.Common.{ap, sym, ◌∙◌, ◌++◌, map}
use Rattle.mich_base.specs.View.{tree}
use Rattle.mich_instr.specs.Body.{bodies_if}
use Rattle.mich_instr.proofs.Held.{put_none, put_some}
use Rattle.mich_instr.proofs.body.put_body.Goals as goal

pub returns-in_ok-push-in-Some : goal.returns-in_ok-push-in-Some
returns-in_ok-push-in-Some c = put_some _ _ _ c.in_ok-push-in-Some.ensures.pushed ∙ ap (λ b. map tree c.args.bodies.now ++ bodies_if b) (sym c.in-Some.is)

pub returns-in-None : goal.returns-in-None
returns-in-None c = put_none _ ∙ ap (λ b. map tree c.args.bodies.now ++ bodies_if b) (sym c.in-None.is)
