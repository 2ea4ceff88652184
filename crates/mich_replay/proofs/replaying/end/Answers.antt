use Rattle.std.proofs.lemmas.Result.{err_from_is_err_and}
use Rattle.mich_replay.proofs.Written.{nothing}
use Rattle.mich_replay.proofs.replaying.end.Goals as goal

pub returns-in_err-lines-in-Some-clause-closes : goal.returns-in_err-lines-in-Some-clause-closes
returns-in_err-lines-in-Some-clause-closes g c = λ p f.
    let q = err_from_is_err_and c.from_residual.result c.from_residual.ensures.1 in
    rw q.1 (nothing _ _)
