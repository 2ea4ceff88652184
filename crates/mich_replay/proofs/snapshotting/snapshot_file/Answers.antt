use Rattle.std.proofs.Common.{Ok, Err, refl, ap}
use Rattle.std.proofs.lemmas.Result.{err_from_is_err_and}
use Rattle.rules_files.specs.commands.Commands.{OnFile, Snapshotting}
use Rattle.mich_answers.specs.View.{answer_seen}
use Rattle.mich_replay.proofs.Promise.{shown}
use Rattle.mich_replay.proofs.Taken.{given_up}
use Rattle.mich_replay.proofs.Written.{nothing}
use Rattle.mich_replay.proofs.snapshotting.snapshot_file.Goals as goal

pub returns-in_err-answer-clause-comes : goal.returns-in_err-answer-clause-comes
returns-in_err-answer-clause-comes g c =
    let p = err_from_is_err_and c.from_residual.result c.from_residual.ensures.1 in
    rw p.1 (λ other h. nothing _ _)

pub returns-in_err-write_lines-clause-comes : goal.returns-in_err-write_lines-clause-comes
returns-in_err-write_lines-clause-comes g c =
    let p = err_from_is_err_and c.from_residual-in_err-write_lines.result c.from_residual-in_err-write_lines.ensures.1 in
    rw p.1 (shown (OnFile Snapshotting c.args.path.now) (g.F.Files.content c.args.files.now) _ _ (answer_seen c.in_ok-answer.answer) (Err p.0) c.in_ok-answer.ensures.exact
    c.in_ok-answer.ensures.status c.in_err-write_lines.ensures.err)

pub returns-clause-comes : goal.returns-clause-comes
returns-clause-comes g c =
    shown (OnFile Snapshotting c.args.path.now) (g.F.Files.content c.args.files.now) _ _ (answer_seen c.in_ok-answer.answer) (Ok c.in_ok-answer.answer.status) c.in_ok-answer.ensures.exact
    c.in_ok-answer.ensures.status (refl, c.in_ok-write_lines.ensures.ok)

pub returns-in_err-answer-clause-taken : goal.returns-in_err-answer-clause-taken
returns-in_err-answer-clause-taken g c =
    let p = err_from_is_err_and c.from_residual.result c.from_residual.ensures.1 in
    rw (p.1, p.2) (given_up (g.F.Files.content c.args.files.now c.args.path.now) (g.F.Files.left c.args.files.now) (g.F.Files.left c.answer_path.new.files) (g.K.Sink.written c.args.out.now)
    c.in_err-answer.field-0.0 (λ e. c.in_err-answer.ensures.no_write (ap Err e)) c.in_err-answer.ensures.given_up)
