use Rattle.std.proofs.Common.{◌-◌, ℕ, List, Option}
use Rattle.rules_files.specs.course.Course.{Course as PlainCourse}
use Rattle.rules_text.specs.nodes.Limits.{file_limit}
use Rattle.rules_world.specs.world.Receipts.{Receipt}
use Rattle.mich_replay.specs.Coming.{Came}
use Rattle.mich_replay.specs.Reaching.{HasCome}
use Rattle.mich_replay.proofs.snapshotting.pass_groups.Given as goal

-- it has come behind some receipts
abbrev pub invariant-passed : goal.invariant-passed
invariant-passed l = (from : Option PlainCourse) (fed : List ℕ) (receipts : List Receipt) → Came from fed l.last l.fn.session.reader l.fn.session.progress receipts →
    HasCome from fed l.last l.session.reader l.session.progress

abbrev pub decreases-passed : goal.decreases-passed
decreases-passed l = file_limit - l.session.reader.place
