-- A text is one thing only, within the limits of statement and file.
use Rattle.std.proofs.Common.{◌≡◌, ℕ, ◌≤◌, ◌<◌, ◌⊎◌, inl, inr, List, sym, ◌∙◌, arith}
use Rattle.rules_text.specs.nodes.Tree.{Tree}
use Rattle.rules_text.specs.declared.text.TextKind.{TextKind}
use Rattle.rules_text.specs.text.Text.{rank, IsFault, IsNode, IsEnd}
use Rattle.mich_text.proofs.limits.Sorts.{Sort, of_limit, own, sort_of}
use Rattle.mich_text.proofs.readings.Unique.{one_kind, no_statement_at_end}

one_place : (before : ℕ) (text : List ℕ) (k j : TextKind) (left other : ℕ) (p : IsFault before text k left)
    (q : IsFault before text j other) → (left ≡ other) × (rank p.holds ≡ rank q.holds)
one_place before text k j left other p q = by (p.first j other q.holds) (q.first k left p.holds) where
  by : (other < left) ⊎ ((other ≡ left) × (rank p.holds ≤ rank q.holds)) → (left < other) ⊎ ((left ≡ other) × (rank q.holds ≤ rank p.holds))
      → (left ≡ other) × (rank p.holds ≡ rank q.holds)
  by (inl x) (inl y) = (omega arith, omega arith)
  by (inl x) (inr y) = (omega (arith, y.0), omega (arith, y.0))
  by (inr x) (inl y) = (omega (arith, x.0), omega (arith, x.0))
  by (inr x) (inr y) = (y.0, omega (arith, x.1, y.1))

pub one_fault : (before : ℕ) (text : List ℕ) (k j : TextKind) (left other : ℕ) → IsFault before text k left → IsFault before text j other
    → (left ≡ other) × (k ≡ j)
one_fault before text k j left other p q =
    let same = one_place before text k j left other p q in
    (same.0, by same.1 (sort_of before text k left p.holds) (sort_of before text j other q.holds))
  where
    by : rank p.holds ≡ rank q.holds → Sort before text k left p.holds → Sort before text j other q.holds → k ≡ j
    by e (of_limit a x _) (of_limit b y _) = a ∙ sym b
    by e (of_limit a x _) (own h y) = absurd (omega (arith, e, x, y))
    by e (own h x) (of_limit b y _) = absurd (omega (arith, e, x, y))
    by e (own h x) (own g y) = one_kind text k j left other (omega (arith, e, x, y)) h g

pub no_fault_at_node : (before : ℕ) (text : List ℕ) (k : TextKind) (left : ℕ) (tree : Tree) (from end : ℕ) → IsFault before text k left
    → IsNode before text tree from end → ⊥
no_fault_at_node before text k left tree from end p q = omega (arith, p.within tree from end q.stands, q.clean k left p.holds)

pub no_node_at_end : (before : ℕ) (text : List ℕ) (tree : Tree) (from end : ℕ) → IsEnd before text → IsNode before text tree from end → ⊥
no_node_at_end before text tree from end e p = no_statement_at_end text tree from end e.gap p.stands

pub no_fault_at_end : (before : ℕ) (text : List ℕ) (k : TextKind) (left : ℕ) → IsEnd before text → IsFault before text k left → ⊥
no_fault_at_end before text k left e p = e.clean k left p.holds
