use Rattle.std.proofs.Common.{refl, ◌∙◌}
use Rattle.std.proofs.lemmas.Result.{err_from_is_err_and}
use Rattle.rules_files.specs.commands.Lines.{refusal_line}
use Rattle.mich_replay.proofs.Written.{nothing, one_written, one_begun}
use Rattle.mich_replay.proofs.replaying.refuse_as.Goals as goal

pub returns-in_err-line-clause-refuses : goal.returns-in_err-line-clause-refuses
returns-in_err-line-clause-refuses g c =
    let p = err_from_is_err_and c.from_residual.result c.from_residual.ensures.1 in
    rw p.1 (nothing _ _)

pub returns-in_err-write_line-clause-refuses : goal.returns-in_err-write_line-clause-refuses
returns-in_err-write_line-clause-refuses g c =
    let p = err_from_is_err_and c.from_residual-in_err-write_line.result c.from_residual-in_err-write_line.ensures.1 in
    rw p.1 (one_begun _ _ _ (refusal_line c.args.name.now c.args.at) (c.as_bytes.ensures.value ∙ c.in_ok-line.ensures) c.in_err-write_line.ensures.err)

pub returns-clause-refuses : goal.returns-clause-refuses
returns-clause-refuses g c = (refl, one_written _ _ _ (refusal_line c.args.name.now c.args.at) (c.as_bytes.ensures.value ∙ c.in_ok-line.ensures) c.in_ok-write_line.ensures.ok)
