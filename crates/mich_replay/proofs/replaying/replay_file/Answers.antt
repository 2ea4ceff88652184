use Rattle.std.proofs.Common.{List, [], ℕ, Err, None, Option, inl, inr, sym, ap, subst}
use Rattle.std.proofs.lemmas.Result.{err_from_is_err_and}
use Rattle.std.proofs.KnownBytes.{Consumes-nil}
use Rattle.std.specs.Io.KnownBytes.{Consumes}
use Rattle.mich_replay.specs.Coming.{EndsAs}
use Rattle.mich_replay.specs.Output.{output}
use Rattle.mich_replay.specs.Pace.{TakesInStep}
use Rattle.mich_replay.specs.View.{status_in}
use Rattle.mich_replay.proofs.Pace.{not_started, nothing_taken}
use Rattle.mich_replay.proofs.Replayed.{replay_comes}
use Rattle.mich_replay.proofs.Taken.{same_again}
use Rattle.mich_replay.proofs.Written.{nothing}
use Rattle.mich_replay.proofs.replaying.replay_file.Goals as goal

pub returns-in_err-start-clause-comes : goal.returns-in_err-start-clause-comes
returns-in_err-start-clause-comes g c =
    let p = err_from_is_err_and c.from_residual.result c.from_residual.ensures.1 in
    rw p.1 (λ other h. nothing _ _)

pub returns-in_err-session-clause-comes : goal.returns-in_err-session-clause-comes
returns-in_err-session-clause-comes g c =
    let p = err_from_is_err_and c.from_residual-in_err-session.result c.from_residual-in_err-session.ensures.1 in
    rw p.1 (λ other h. nothing _ _)

pub returns-clause-comes : goal.returns-clause-comes
returns-clause-comes g c =
    let content = g.F.Files.content c.args.files.now in
    let before = output (g.K.Sink.written c.args.out.now) (g.K.Sink.handed c.args.out.now) in
    let now = output (g.K.Sink.written c.replay_on.new.out) (g.K.Sink.handed c.replay_on.new.out) in
    replay_comes content c.args.path.now before now c.replay_on.result
    (subst (λ (o : Option (List ℕ)). EndsAs None o before now c.replay_on.result) c.in_ok-start.ensures.started (c.replay_on.ensures.ends None c.in_ok-session.ensures))

-- ---- what was written keeps step

pub returns-in_err-start-clause-pace : goal.returns-in_err-start-clause-pace
returns-in_err-start-clause-pace g c =
    let p = err_from_is_err_and c.from_residual.result c.from_residual.ensures.1 in
    rw (p.1, p.2) (inl (not_started (g.F.Files.left c.args.files.now) (g.F.Files.left c.start.new.files) (g.K.Sink.written c.args.out.now)
    c.in_err-start.field-0.0 (λ e. c.in_err-start.ensures.no_write (ap Err e)) c.in_err-start.ensures.stays))

pub returns-in_err-session-clause-pace : goal.returns-in_err-session-clause-pace
returns-in_err-session-clause-pace g c =
    let content = g.F.Files.content c.args.files.now c.args.path.now in
    let left = g.F.Files.left c.start.new.files in
    inr (nothing_taken None content left (g.K.Sink.written c.args.out.now) _ (subst (λ (o : Option (List ℕ)). Consumes content o []) (sym c.in_ok-start.ensures.started) (Consumes-nil content)))

pub returns-clause-pace : goal.returns-clause-pace
returns-clause-pace g c =
    inr (subst (λ (o : Option (List ℕ)). TakesInStep None o (g.F.Files.left c.replay_on.new.files) (g.K.Sink.written c.args.out.now) (g.K.Sink.written c.replay_on.new.out) (status_in c.replay_on.result))
    c.in_ok-start.ensures.started (c.replay_on.ensures.pace None c.in_ok-session.ensures))

pub returns-clause-same : goal.returns-clause-same
returns-clause-same g c = same_again _ _ _ _ _ _ c.in_ok-start.ensures.same c.replay_on.ensures.same
