use Rattle.std.proofs.Common.{◌≡◌, length}
use Rattle.rules_text.specs.text.Lexical.{after_gap}
use Rattle.mich_text.proofs.lexical.after_gap.Given as goal

abbrev pub invariant-gaps : goal.invariant-gaps
invariant-gaps l = after_gap l.rest ≡ after_gap l.text

abbrev pub decreases-gaps : goal.decreases-gaps
decreases-gaps l = length l.rest
