-- The places of faults and of statements lie in the text.
use Rattle.std.proofs.Common.{ℕ, ◌≤◌, List, length, arith}
use Rattle.rules_text.specs.nodes.Tree.{Tree}
use Rattle.rules_text.specs.text.Text.{Stands}
use Rattle.rules_text.specs.declared.text.TextKind.{TextKind}
use Rattle.mich_text.specs.Plain.{HoldsWithoutLimits, flawed, in_comment, is_open, unexpected as is_unexpected, too_deep as is_too_deep}
use Rattle.mich_text.proofs.readings.Ends.{ends_le}
use Rattle.mich_text.proofs.tokens.Ahead.{flaw_le, leads_le}
use Rattle.mich_text.proofs.tokens.Gaps.{gap_le}

-- a condition holds within the text
pub holds_within : (text : List ℕ) (k : TextKind) (left : ℕ) → HoldsWithoutLimits text k left → left ≤ length text
holds_within text k left (flawed p) =
    omega (arith, leads_le text p.before p.here p.leads, (flaw_le p.here (record { kind = k; left = left }) p.wrong).0)
holds_within text k left (in_comment p) = omega (arith, p.left_is)
holds_within text k left (is_open p) = omega (arith, p.left_is)
holds_within text k left (is_unexpected p) = omega (arith, p.left_is, leads_le text p.before p.here p.leads)
holds_within text k left (is_too_deep p) = omega (arith, p.left_is, leads_le text p.before p.here p.leads)

pub stands_within : (text : List ℕ) (tree : Tree) (start end : ℕ) → Stands text tree start end → (start ≤ length text) × (end ≤ length text)
stands_within text tree start end s = (
  omega (arith, s.start_is, gap_le text s.first s.begins),
  omega (arith, ends_le s.rest end s.ends, leads_le text s.tokens s.rest s.leads),
)
