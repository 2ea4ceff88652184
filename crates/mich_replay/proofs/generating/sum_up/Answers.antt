use Rattle.std.proofs.lemmas.Result.{err_from_is_err_and}
use Rattle.mich_replay.proofs.Written.{nothing}
use Rattle.mich_replay.proofs.generating.sum_up.Goals as goal

pub summary_text-requires : goal.summary_text-requires
summary_text-requires g c = let q = c.requires in (q.0.world, record { stands = q.1.stands; good = q.1.whole.good })

pub returns-in_err-line-clause-summed : goal.returns-in_err-line-clause-summed
returns-in_err-line-clause-summed g c = λ receipts p f counts.
    let q = err_from_is_err_and c.from_residual.result c.from_residual.ensures.1 in
    rw q.1 (nothing _ _)
