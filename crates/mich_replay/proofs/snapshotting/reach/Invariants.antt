use Rattle.std.proofs.Common.{◌≤◌, ◌-◌}
use Rattle.rules_text.specs.nodes.Limits.{file_limit}
use Rattle.rules_text.specs.streams.Known.{SameFiles}
use Rattle.mich_replay.specs.Reaching.{IsPassing}
use Rattle.mich_replay.proofs.snapshotting.reach.Given as goal

abbrev pub invariant-pieces : goal.invariant-pieces
invariant-pieces g l =
    let files = g.F.Files in
    record {
      reads : files.faults l.fn.files ≤ files.faults l.files;
      same : SameFiles (files.lent l.fn.files) (files.lent l.files) (files.content l.fn.files) (files.content l.files);
      passing : IsPassing (files.left l.fn.files) (files.left l.files) l.session.reader l.session.progress l.size;
    }

abbrev pub decreases-pieces : goal.decreases-pieces
decreases-pieces g l = file_limit - l.size
