use Rattle.std.proofs.Common.{◌≤◌, ◌-◌, length}
use Rattle.mich_answers.specs.Listed.{Passed}
use Rattle.mich_answers.proofs.statements.list_file.Given as goal

abbrev pub invariant-statements : goal.invariant-statements
invariant-statements l = record {
  within : l.place ≤ length l.file;
  passed : Passed l.file l.place l.first l.second;
}

abbrev pub decreases-statements : goal.decreases-statements
decreases-statements l = length l.file - l.place
