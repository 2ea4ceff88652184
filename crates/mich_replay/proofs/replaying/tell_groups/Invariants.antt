use Rattle.std.proofs.Common.{◌≤◌, ◌-◌, ℕ, List, Option}
use Rattle.rules_files.specs.course.Course.{Course as PlainCourse}
use Rattle.rules_text.specs.nodes.Limits.{file_limit}
use Rattle.mich_replay.specs.Coming.{Grows, Told}
use Rattle.mich_replay.specs.Output.{Output, output}
use Rattle.mich_replay.proofs.replaying.tell_groups.Given as goal

abbrev pub invariant-told : goal.invariant-told
invariant-told g l =
    let sink = g.K.Sink in
    record {
      later : sink.faults l.fn.out ≤ sink.faults l.out;
      told : (from : Option PlainCourse) (fed : List ℕ) (before : Output) → Told from fed l.last before (output (sink.written l.fn.out) (sink.handed l.fn.out)) l.fn.session.reader l.fn.session.progress →
          Told from fed l.last before (output (sink.written l.out) (sink.handed l.out)) l.session.reader l.session.progress;
      grows : Grows (sink.written l.fn.out) (sink.written l.out);
    }

abbrev pub decreases-told : goal.decreases-told
decreases-told g l = file_limit - l.session.reader.place
