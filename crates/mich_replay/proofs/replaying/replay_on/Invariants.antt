use Rattle.std.proofs.Common.{◌≤◌, ◌-◌, false, [], Option}
use Rattle.rules_files.specs.course.Course.{Course as PlainCourse}
use Rattle.rules_text.specs.nodes.Limits.{file_limit}
use Rattle.rules_text.specs.streams.Known.{SameFiles}
use Rattle.mich_replay.specs.Coming.{Came, IsUnderway}
use Rattle.mich_replay.specs.Output.{output}
use Rattle.mich_replay.proofs.replaying.replay_on.Given as goal

abbrev pub invariant-pieces : goal.invariant-pieces
invariant-pieces g l =
    let files = g.F.Files in
    let sink = g.K.Sink in
    record {
      reads : files.faults l.fn.files ≤ files.faults l.files;
      writes : sink.faults l.fn.out ≤ sink.faults l.out;
      same : SameFiles (files.lent l.fn.files) (files.lent l.files) (files.content l.fn.files) (files.content l.files);
      short : l.size ≤ file_limit;
      underway : (from : Option PlainCourse) → Came from [] false l.fn.session.reader l.fn.session.progress [] →
          IsUnderway from (files.left l.fn.files) (files.left l.files) (output (sink.written l.fn.out) (sink.handed l.fn.out)) (output (sink.written l.out) (sink.handed l.out)) l.session.reader l.session.progress l.size;
    }

abbrev pub decreases-pieces : goal.decreases-pieces
decreases-pieces g l = file_limit - l.size
