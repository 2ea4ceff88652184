use Rattle.std.proofs.Common.{◌≤◌, ◌-◌, length}
use Rattle.mich_answers.specs.Checked.{Through}
use Rattle.mich_answers.proofs.checking.list_nodes.Given as goal

abbrev pub invariant-statements : goal.invariant-statements
invariant-statements l = record {
  within : l.place ≤ length l.file;
  passed : Through l.file l.place l.nodes;
}

abbrev pub decreases-statements : goal.decreases-statements
decreases-statements l = length l.file - l.place
