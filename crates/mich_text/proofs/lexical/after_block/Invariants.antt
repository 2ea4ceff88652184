use Rattle.std.proofs.Common.{◌≡◌, ◌≤◌, ◌<◌, ◌+◌, length}
use Rattle.rules_text.specs.text.Lexical.{after_block}
use Rattle.mich_text.proofs.lexical.after_block.Given as goal

abbrev pub invariant-block : goal.invariant-block
invariant-block l = (after_block l.levels l.rest ≡ after_block 1 l.text) × (0 < l.levels) × (l.levels + length l.rest ≤ length l.text + 1)

abbrev pub decreases-block : goal.decreases-block
decreases-block l = length l.rest
