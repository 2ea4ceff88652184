use Rattle.std.proofs.Common.{◌≡◌, ◌++◌, drop}
use Rattle.mich_report.proofs.Rest.{joined}
use Rattle.mich_report.proofs.state.state_text.Given as goal

-- the lines so far, and those that are left
abbrev pub invariant-loop-line : goal.invariant-loop-line
invariant-loop-line l = l.text.items ++ joined (drop l.line-index l.line-items) ≡ joined l.line-items
