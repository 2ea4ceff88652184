use Rattle.std.proofs.Common.{Ok, subst}
use Rattle.std.proofs.lemmas.Result.{err_from_is_err_and}
use Rattle.mich_replay.specs.Coming.{Happens}
use Rattle.mich_replay.specs.declared.steps.Event.{Event}
use Rattle.mich_replay.proofs.Happening.{told_more, cut_more}
use Rattle.mich_replay.proofs.replaying.tell.Goals as goal

pub returns-in-Taken-clause-told : goal.returns-in-Taken-clause-told
returns-in-Taken-clause-told g c = λ from fed last receipts place r before h p.
    let x = subst (λ (e : Event). Happens from fed last receipts place r c.args.progress.now (Ok e)) c.in-Taken.is h in
    (record { receipts = receipts; came = x.0; lines = p }, x.1)

pub returns-in_ok-write_group-in-Group-clause-told : goal.returns-in_ok-write_group-in-Group-clause-told
returns-in_ok-write_group-in-Group-clause-told g c = λ from fed last receipts place r before h p.
    let x = subst (λ (e : Event). Happens from fed last receipts place r c.args.progress.now (Ok e)) c.in-Group.is h in
    (told_more from fed last r c.args.progress.now receipts x.0 x.2 before _ _ p (c.in_ok-write_group-in-Group.ensures.ok x.0 x.1), x.3)

pub returns-in_err-write_group-in-Group-clause-told : goal.returns-in_err-write_group-in-Group-clause-told
returns-in_err-write_group-in-Group-clause-told g c = λ from fed last receipts place r before h p.
    let x = subst (λ (e : Event). Happens from fed last receipts place r c.args.progress.now (Ok e)) c.in-Group.is h in
    let q = err_from_is_err_and c.from_residual.result c.from_residual.ensures.1 in
    rw q.1 (cut_more from fed last r c.args.progress.now receipts x.0 x.2 before _ _ p (c.in_err-write_group-in-Group.ensures.err x.0 x.1))

pub returns-in-More-clause-told : goal.returns-in-More-clause-told
returns-in-More-clause-told g c = λ from fed last receipts place r before h p.
    let x = subst (λ (e : Event). Happens from fed last receipts place r c.args.progress.now (Ok e)) c.in-More.is h in
    (x.0, record { receipts = receipts; came = x.1; lines = p }, x.2, x.3)

pub returns-in-End-clause-told : goal.returns-in-End-clause-told
returns-in-End-clause-told g c = λ from fed last receipts place r before h p.
    let x = subst (λ (e : Event). Happens from fed last receipts place r c.args.progress.now (Ok e)) c.in-End.is h in
    (record { receipts = receipts; came = x.0; lines = p }, x.1, x.2)

pub returns-in-Refused-clause-told : goal.returns-in-Refused-clause-told
returns-in-Refused-clause-told g c = λ from fed last receipts place r before h p.
    (receipts, subst (λ (e : Event). Happens from fed last receipts place r c.args.progress.now (Ok e)) c.in-Refused.is h, p)
