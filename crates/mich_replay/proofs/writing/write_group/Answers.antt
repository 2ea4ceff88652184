use Rattle.std.proofs.lemmas.Result.{err_from_is_err_and}
use Rattle.mich_replay.proofs.Written.{nothing}
use Rattle.mich_replay.proofs.writing.write_group.Goals as goal

pub returns-in_err-line-clause-err : goal.returns-in_err-line-clause-err
returns-in_err-line-clause-err g c = λ found t.
    let p = err_from_is_err_and c.from_residual.result c.from_residual.ensures.1 in
    rw p.1 (nothing _ _)
