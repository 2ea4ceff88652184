use Rattle.std.proofs.Common.{◌-◌, ℕ, List, [], None, true}
use Rattle.rules_text.specs.nodes.Limits.{file_limit}
use Rattle.mich_replay.specs.Coming.{Came}
use Rattle.mich_replay.specs.Generating.{IsCounted}
use Rattle.mich_replay.proofs.generating.count_groups.Given as goal

-- the groups so far are counted
abbrev pub invariant-groups : goal.invariant-groups
invariant-groups l = (fed : List ℕ) → Came None fed true l.fn.session.reader l.fn.session.progress [] → IsCounted fed l.session.reader l.session.progress l.counts

abbrev pub decreases-groups : goal.decreases-groups
decreases-groups l = file_limit - l.session.reader.place
