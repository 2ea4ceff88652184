-- Texts that are the same behind their white space and comments, and neither of which passes the limit of a file, are one thing.
use Rattle.std.proofs.Common.{◌≡◌, ◌⊎◌, inl, inr, ℕ, ◌+◌, ◌≤◌, ◌<◌, List, [], ◌∷◌, length, Option, Some, None, refl, sym, ◌∙◌, arith}
use Rattle.rules_text.specs.nodes.Limits.{file_limit}
use Rattle.rules_text.specs.nodes.Tree.{Tree}
use Rattle.rules_text.specs.declared.text.TextKind.{TextKind}
use Rattle.rules_text.specs.text.Lexical.{after_gap}
use Rattle.rules_text.specs.text.Syntax.{element_tokens}
use Rattle.rules_text.specs.text.Text.{Leads, IsLimit, IsStatementLimit, IsFileLimit, Holds, past_limit, flawed, in_comment, is_open, unexpected, too_deep, rank, Stands, IsFault, IsNode, IsEnd}
use Rattle.rules_text.specs.text.Token.{Token}
use Rattle.mich_text.proofs.ForCallers.{flaw_le, gap_le, leads_le}

leads_on : (t u : List ℕ) → after_gap t ≡ after_gap u → (ts : List Token) (rest : Option (List ℕ)) → Leads t ts rest → Leads u ts rest
leads_on t u g [] rest p = sym g ∙ p
leads_on t u g (x ∷ ts) rest p = (p.0, p.1, sym g ∙ p.2, p.3, p.4)

limit_on : (t u : List ℕ) → after_gap t ≡ after_gap u → (left : ℕ) → IsStatementLimit t left → IsStatementLimit u left
limit_on t u g left s = record { first = s.first; begins = sym g ∙ s.begins; left_is = s.left_is; some = s.some }

none_past : (before : ℕ) (t : List ℕ) (left : ℕ) → before + length t ≤ file_limit → IsFileLimit before t left → ⊥
none_past before t left short f = omega (arith, f.left_is, f.some, short)

pub stands_on : (t u : List ℕ) → after_gap t ≡ after_gap u → (tree : Tree) (start end : ℕ) → Stands t tree start end →
    Stands u tree start end
stands_on t u g tree start end s = record {
  tokens = s.tokens;
  first = s.first;
  rest = s.rest;
  begins = sym g ∙ s.begins;
  leads = leads_on t u g s.tokens (Some s.rest) s.leads;
  statement = s.statement;
  start_is = s.start_is;
  ends = s.ends;
}

-- a condition holds at a place in the text
pub holds_within : (before : ℕ) (text : List ℕ) (k : TextKind) (left : ℕ) → Holds before text k left → left ≤ length text
holds_within before text k left (past_limit (e, inl l)) = omega (arith, l.limit.left_is, gap_le text l.limit.first l.limit.begins)
holds_within before text k left (past_limit (e, inr f)) = f.here
holds_within before text k left (flawed q) =
    omega (arith, leads_le text q.tokens q.here q.leads, (flaw_le q.here (record { kind = k; left = left }) q.wrong).0)
holds_within before text k left (in_comment q) = omega (arith, q.left_is)
holds_within before text k left (is_open q) = omega (arith, q.left_is)
holds_within before text k left (unexpected q) = omega (arith, q.left_is, leads_le text q.before q.here q.leads)
holds_within before text k left (too_deep q) = omega (arith, q.left_is, leads_le text q.before q.here q.leads)

module _ (a b : ℕ) (t u : List ℕ) (g : after_gap t ≡ after_gap u) (short : a + length t ≤ file_limit)
    (fits : b + length u ≤ file_limit) where
  limit_back : (left : ℕ) → IsLimit b u left → IsLimit a t left
  limit_back left (inl s) = inl (limit_on u t (sym g) left s)
  limit_back left (inr f) = absurd (none_past b u left fits f)

  -- the same conditions hold
  holds_on : (k : TextKind) (left : ℕ) (h : Holds a t k left) → (q : Holds b u k left) × (rank q ≡ rank h)
  holds_on k left (past_limit (e, inl l)) = (
    past_limit (
      e,
      inl (record {
        limit = limit_on t u g left l.limit;
        goes_on = λ x rest behind leads read. l.goes_on x rest behind (leads_on u t (sym g) (element_tokens x) (Some rest) leads) read;
      }),
    ),
    refl,
  )
  holds_on k left (past_limit (e, inr f)) = absurd (none_past a t left short f)
  holds_on k left (flawed q) = (
    flawed (record {
      tokens = q.tokens;
      here = q.here;
      leads = leads_on t u g q.tokens (Some q.here) q.leads;
      some = q.some;
      wrong = q.wrong;
      shown = λ limit l near. q.shown limit (limit_back limit l) near;
    }),
    refl,
  )
  holds_on k left (in_comment q) = (
    in_comment (record { before = q.before; leads = leads_on t u g q.before None q.leads; kind_is = q.kind_is; left_is = q.left_is }),
    refl,
  )
  holds_on k left (is_open q) = (
    is_open (record {
      before = q.before;
      leads = leads_on t u g q.before (Some []) q.leads;
      front = q.front;
      open_still = q.open_still;
      kind_is = q.kind_is;
      left_is = q.left_is;
    }),
    refl,
  )
  holds_on k left (unexpected q) = (
    unexpected (record {
      before = q.before;
      here = q.here;
      shape = q.shape;
      leads = leads_on t u g q.before (Some q.here) q.leads;
      begins = q.begins;
      front = q.front;
      ends = q.ends;
      kind_is = q.kind_is;
      left_is = q.left_is;
    }),
    refl,
  )
  holds_on k left (too_deep q) = (
    too_deep (record {
      before = q.before;
      here = q.here;
      shape = q.shape;
      leads = leads_on t u g q.before (Some q.here) q.leads;
      begins = q.begins;
      within = q.within;
      front = q.front;
      deep = q.deep;
      kind_is = q.kind_is;
      left_is = q.left_is;
    }),
    refl,
  )

module _ (a b : ℕ) (t u : List ℕ) (g : after_gap t ≡ after_gap u) (short : a + length t ≤ file_limit)
    (fits : b + length u ≤ file_limit) where
  back : (k : TextKind) (left : ℕ) (h : Holds b u k left) → (q : Holds a t k left) × (rank q ≡ rank h)
  back k left h = holds_on b a u t (sym g) fits short k left h

  pub node_on : (tree : Tree) (start end : ℕ) → IsNode a t tree start end → IsNode b u tree start end
  node_on tree start end n = record {
    stands = stands_on t u g tree start end n.stands;
    clean = λ k left h. n.clean k left (back k left h).0;
  }

  pub end_on : IsEnd a t → IsEnd b u
  end_on e = record { gap = sym g ∙ e.gap; clean = λ k left h. e.clean k left (back k left h).0 }

  pub fault_on : (k : TextKind) (left : ℕ) → IsFault a t k left → IsFault b u k left
  fault_on k left f =
      let h = holds_on a b t u g short fits k left f.holds in
      record {
        holds = h.0;
        first = λ j other q. first h.0 h.1 j other q (f.first j other (back j other q).0);
        within = λ tree start end s. f.within tree start end (stands_on u t (sym g) tree start end s);
      }
    where
      first : (h : Holds b u k left) → rank h ≡ rank f.holds → (j : TextKind) (other : ℕ) (q : Holds b u j other) →
          (other < left) ⊎ ((other ≡ left) × (rank f.holds ≤ rank (back j other q).0)) →
          (other < left) ⊎ ((other ≡ left) × (rank h ≤ rank q))
      first h e j other q (inl less) = inl less
      first h e j other q (inr same) = inr (same.0, omega (arith, e, (back j other q).1, same.1))
