use Rattle.std.proofs.Common.{sym, ap, ◌∙◌, subst}
use Rattle.rules_files.specs.commands.Commands.{OnFile}
use Rattle.mich_replay.specs.Coming.{Comes}
use Rattle.mich_replay.specs.Output.{output}
use Rattle.mich_replay.specs.View.{verb_seen}
use Rattle.mich_replay.proofs.Pace.{snapshot_reads, whole_reads}
use Rattle.mich_replay.proofs.Taken.{paced_taken}
use Rattle.mich_replay.proofs.top.answer_on_file.Goals as goal

pub returns-in-Whole-clause-pace : goal.returns-in-Whole-clause-pace
returns-in-Whole-clause-pace g c = λ e. absurd (whole_reads c.in-Whole.verb (sym (ap verb_seen c.in-Whole.is) ∙ e))

pub returns-in-Replay-clause-taken : goal.returns-in-Replay-clause-taken
returns-in-Replay-clause-taken g c = paced_taken _ _ _ _ _ _ c.replay_file.ensures.pace

pub returns-in-Replay-clause-comes : goal.returns-in-Replay-clause-comes
returns-in-Replay-clause-comes g c =
    subst (λ v. Comes (OnFile (verb_seen v) c.args.path.now) (g.F.Files.content c.args.files.now) (output (g.K.Sink.written c.args.out.now) (g.K.Sink.handed c.args.out.now))
    (output (g.K.Sink.written c.replay_file.new.out) (g.K.Sink.handed c.replay_file.new.out)) c.replay_file.result) (sym c.in-Replay.is) c.replay_file.ensures.comes

pub returns-in-Whole-clause-comes : goal.returns-in-Whole-clause-comes
returns-in-Whole-clause-comes g c =
    subst (λ v. Comes (OnFile (verb_seen v) c.args.path.now) (g.F.Files.content c.args.files.now) (output (g.K.Sink.written c.args.out.now) (g.K.Sink.handed c.args.out.now))
    (output (g.K.Sink.written c.answer_whole.new.out) (g.K.Sink.handed c.answer_whole.new.out)) c.answer_whole.result) (sym c.in-Whole.is) c.answer_whole.ensures.comes

pub returns-in-Snapshot-clause-pace : goal.returns-in-Snapshot-clause-pace
returns-in-Snapshot-clause-pace g c = λ e. absurd (snapshot_reads (sym (ap verb_seen c.in-Snapshot.is) ∙ e))

pub returns-in-Snapshot-clause-comes : goal.returns-in-Snapshot-clause-comes
returns-in-Snapshot-clause-comes g c =
    subst (λ v. Comes (OnFile (verb_seen v) c.args.path.now) (g.F.Files.content c.args.files.now) (output (g.K.Sink.written c.args.out.now) (g.K.Sink.handed c.args.out.now))
    (output (g.K.Sink.written c.snapshot_file.new.out) (g.K.Sink.handed c.snapshot_file.new.out)) c.snapshot_file.result) (sym c.in-Snapshot.is) c.snapshot_file.ensures.comes
