-- A text without a limit byte.
use Rattle.std.proofs.Common.{◌≡◌, ℕ, ◌+◌, ◌≤◌, ◌<◌, ◌⊎◌, inl, inr, List, length, arith}
use Rattle.rules_text.specs.nodes.Limits.{statement_limit}
use Rattle.rules_text.specs.nodes.Tree.{Tree}
use Rattle.rules_text.specs.declared.text.TextKind.{TextKind}
use Rattle.rules_text.specs.text.Text.{IsLimit, IsFault, IsNode, IsEnd, rank}
use Rattle.rules_text.specs.text.Text as within
use Rattle.mich_text.specs.Plain as plain
use Rattle.mich_text.proofs.tokens.Gaps.{gap_le}
use Rattle.mich_text.proofs.limits.Sorts.{Sort, of_limit, own, sort_of}
use Rattle.mich_text.proofs.readings.Unique.{nothing_holds}

module _ (before : ℕ) (text : List ℕ) (none : (limit : ℕ) → IsLimit before text limit → ⊥) where
  -- the same conditions hold
  plainly : (k : TextKind) (left : ℕ) (h : within.Holds before text k left)
      → plain.HoldsWithoutLimits text k left × (rank h ≡ 1 + plain.rank_without_limits k)
  plainly k left h = by (sort_of before text k left h) where
    by : Sort before text k left h → plain.HoldsWithoutLimits text k left × (rank h ≡ 1 + plain.rank_without_limits k)
    by (of_limit e r l) = absurd (none left l)
    by (own p r) = (p, r)

  holds_within : (k : TextKind) (left : ℕ) → plain.HoldsWithoutLimits text k left → within.Holds before text k left
  holds_within k left (plain.flawed p) =
      within.flawed (record {
        tokens = p.before;
        here = p.here;
        leads = p.leads;
        some = p.some;
        wrong = p.wrong;
        shown = λ limit is_limit near. absurd (none limit is_limit);
      })
  holds_within k left (plain.in_comment p) = within.in_comment p
  holds_within k left (plain.is_open p) = within.is_open p
  holds_within k left (plain.unexpected p) = within.unexpected p
  holds_within k left (plain.too_deep p) = within.too_deep p

  pub fault_same : (k : TextKind) (left : ℕ) → plain.IsFaultWithoutLimits text k left → IsFault before text k left
  fault_same k left p =
      let h = holds_within k left p.holds in
      record { holds = h; first = λ j other q. by h j other q (p.first j other (plainly j other q).0); within = p.within } where
        by : (h : within.Holds before text k left) (j : TextKind) (other : ℕ) (q : within.Holds before text j other)
            → (other < left) ⊎ ((other ≡ left) × (plain.rank_without_limits k ≤ plain.rank_without_limits j))
            → (other < left) ⊎ ((other ≡ left) × (rank h ≤ rank q))
        by h j other q (inl less) = inl less
        by h j other q (inr same) = inr (same.0, omega (arith, same.1, (plainly k left h).1, (plainly j other q).1))

  pub node_same : (tree : Tree) (start end : ℕ) → plain.IsNodeWithoutLimits text tree start end → IsNode before text tree start end
  node_same tree start end n = record { stands = n.stands; clean = λ k left h. n.clean k left (plainly k left h).0 }

  pub end_same : plain.IsEndWithoutLimits text → IsEnd before text
  end_same e = record { gap = e; clean = λ k left h. nothing_holds text k left e (plainly k left h).0 }

-- in front of a file there is no limit byte in a text that is no longer than a statement may be
pub short_unlimited : (text : List ℕ) → length text ≤ statement_limit → (limit : ℕ) → IsLimit 0 text limit → ⊥
short_unlimited text short limit (inl s) = omega (arith, s.left_is, s.some, gap_le text s.first s.begins, short)
short_unlimited text short limit (inr f) = omega (arith, f.left_is, f.some, short)
