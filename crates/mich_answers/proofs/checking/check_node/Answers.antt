use Rattle.std.proofs.Common.{subst}
use Rattle.mich_base.specs.View.{tree}
use Rattle.mich_instr.specs.Typed.{IsScript}
use Rattle.mich_instr.specs.View.{script_code}
use Rattle.mich_answers.proofs.Wholes.{accepted, well_answer}
use Rattle.mich_answers.proofs.checking.check_node.Goals as goal

pub returns-in-Ok : goal.returns-in-Ok
returns-in-Ok c =
    let h = c.in-Ok.ensures in
    well_answer c.well_typed.result (tree c.args.node.now)
    (accepted (tree c.args.node.now) (script_code c.in-Ok.script) (subst (λ t. IsScript t (script_code c.in-Ok.script)) h.0 h.1)) c.well_typed.ensures
