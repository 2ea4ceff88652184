use Rattle.std.proofs.Common.{◌≡◌, ◌≤◌, ◌++◌, length, reverse}
use Rattle.rules_text.specs.nodes.Limits.{byte_limit}
use Rattle.rules_code.specs.steps.Texts.{joined}
use Rattle.mich_stack.specs.Views.{Sight}
use Rattle.mich_step.specs.collections.Seen.{vals_by}
use Rattle.mich_step.proofs.collections.bytes.join_all.Given as goal

abbrev pub invariant-loop-value : goal.invariant-loop-value
invariant-loop-value l = record {
  small : length l.bytes.items ≤ byte_limit;
  same : (big : Sight) → l.bytes.items ++ joined (vals_by big (reverse l.left)) ≡ joined (vals_by big l.list);
}

abbrev pub decreases-loop-value : goal.decreases-loop-value
decreases-loop-value l = length l.left
