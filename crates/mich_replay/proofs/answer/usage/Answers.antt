use Rattle.std.proofs.Common.{Ok, Err, refl, ◌∙◌}
use Rattle.std.proofs.lemmas.Result.{err_from_is_err_and}
use Rattle.rules_files.specs.commands.Answers.{usage_answer}
use Rattle.rules_files.specs.commands.Commands.{NoCommand}
use Rattle.rules_files.specs.commands.Lines.{usage_line}
use Rattle.mich_replay.proofs.Promise.{shown}
use Rattle.mich_replay.proofs.Written.{nothing, one_written, one_begun}
use Rattle.mich_replay.proofs.answer.usage.Goals as goal

pub returns-in_err-line-clause-comes : goal.returns-in_err-line-clause-comes
returns-in_err-line-clause-comes g c = λ content.
    let p = err_from_is_err_and c.from_residual.result c.from_residual.ensures.1 in
    rw p.1 (λ other h. nothing _ _)

pub returns-in_err-write_line-clause-comes : goal.returns-in_err-write_line-clause-comes
returns-in_err-write_line-clause-comes g c = λ content.
    let p = err_from_is_err_and c.from_residual-in_err-write_line.result c.from_residual-in_err-write_line.ensures.1 in
    rw p.1 (shown NoCommand content _ _ usage_answer (Err p.0) (λ t. refl) refl (one_begun _ _ _ usage_line (c.as_bytes.ensures.value ∙ c.in_ok-line.ensures) c.in_err-write_line.ensures.err))

pub returns-clause-comes : goal.returns-clause-comes
returns-clause-comes g c = λ content.
    shown NoCommand content _ _ usage_answer (Ok 1) (λ t. refl) refl (refl, one_written _ _ _ usage_line (c.as_bytes.ensures.value ∙ c.in_ok-line.ensures) c.in_ok-write_line.ensures.ok)
