-- What the front of a text decides, whatever follows it.
use Rattle.std.proofs.Common.{◌≡◌, ℕ, ◌+◌, ◌-◌, ◌≤◌, ◌<◌, ◌⊎◌, inl, inr, List, [], ◌∷◌, ◌++◌, length, take, Some, Ok, Err, refl, sym, ap, subst, ◌∙◌, append_assoc, arith}
use Rattle.std.proofs.lemmas.List.{append-nil, length-append, take-append-le}
use Rattle.rules_text.specs.nodes.Tree.{Tree}
use Rattle.rules_text.specs.text.Token.{Token}
use Rattle.rules_text.specs.text.Syntax.{Element, element_tokens, element_tree}
use Rattle.rules_text.specs.text.Lexical.{after_gap, token_at}
use Rattle.rules_text.specs.declared.text.TextKind.{TextKind}
use Rattle.rules_text.specs.declared.text.TextKind.TheVariants.{TooLong}
use Rattle.rules_text.specs.text.Text.{Leads, IsLimit, Shows, IsFlawed, Holds, past_limit, flawed, in_comment, is_open, unexpected, too_deep, rank, EndsAt, Stands, IsFault, IsNode, IsEnd}
use Rattle.mich_text.proofs.ForCallers.{flaw_le, leads_le, okay_is, From, compare, same_rest, leads_on, stands_cut, stands_kept, unexpected_cut, too_deep_cut, unexpected_kept, too_deep_kept, split, closed_rest, none_closed, no_statement_at_end}
use Rattle.mich_text.specs.pieces.Fronts.{IsClosed}
use Rattle.mich_text.proofs.pieces_lemmas.Ends.{stands_of, sign_length, sign_of, one_place, clash}
use Rattle.mich_text.proofs.pieces_lemmas.Moved.{file_stays, long_stays, file_cut, limit_cut, long_cut, take_past, IsCutTo, shown_front, limit_some, holds_cut}

-- ---- a statement with its `;`

-- no token that begins before the `;` is wrong in itself
pub behind_sign : (before : ℕ) (text : List ℕ) (tree : Tree) (start end : ℕ) → (s : Stands text tree start end) → 0 < length s.rest → (k : TextKind) (left : ℕ) → IsFlawed before text k left → left ≤ end
behind_sign before text tree start end s some k left q = elim (compare text s.tokens s.rest q.tokens (Some q.here) s.leads q.leads) [
  | inl f ↦ by f.more f.from
  | inr g ↦ absurd (clash q.here g.at g.token g.behind (record { kind = k; left = left }) (same_rest q.here g.at g.rest_is) q.wrong g.read)
] where
  sign : (behind : List ℕ) × (token_at s.rest ≡ Ok (Token.semicolon, behind)) × (end ≡ length behind)
  sign = sign_of s.rest end some s.ends

  by : (more : List Token) → From s.rest more (Some q.here) → left ≤ end
  by [] f = absurd (clash q.here s.rest Token.semicolon sign.0 (record { kind = k; left = left }) (same_rest q.here s.rest f) q.wrong sign.1)
  by (t ∷ more) f =
      let near : left ≤ length q.here = (flaw_le q.here (record { kind = k; left = left }) q.wrong).0 in
      omega (arith, near, leads_le f.0 more q.here f.2, behind_is f.0 t f.1, sign.2)
    where
      behind_is : (b : List ℕ) (t : Token) → token_at s.rest ≡ Ok (t, b) → length b ≡ length sign.0
      behind_is b t e = ap (λ (x : Token × List ℕ). length x.1) (okay_is (t, b) (Token.semicolon, sign.0) (sym e ∙ sign.1))

module _ (before : ℕ) (front more : List ℕ) (tree : Tree) (start end : ℕ) (n : IsNode before front tree start end) (some : 0 < length n.stands.rest) where
  -- no condition of the longer text comes before its end
  clean : (s : Stands (front ++ more) tree (start + length more) (end + length more)) → 0 < length s.rest → (k : TextKind) (left : ℕ) → length more < left → Holds before (front ++ more) k left → left ≤ end + length more
  clean s closed k left far (past_limit (e, inl l)) = omega (arith, far, n.clean k (left - length more) (past_limit (e, inl (long_cut front more left far l))))
  clean s closed k left far (past_limit (e, inr f)) = omega (arith, far, n.clean k (left - length more) (past_limit (e, inr (file_cut before front more left far f))))
  clean s closed k left far (flawed q) = behind_sign before (front ++ more) tree (start + length more) (end + length more) s closed k left q
  clean s closed k left far (in_comment q) = absurd (omega (arith, far, q.left_is))
  clean s closed k left far (is_open q) = absurd (omega (arith, far, q.left_is))
  clean s closed k left far (unexpected q) = omega (arith, far, n.clean k (left - length more) (unexpected (unexpected_cut before front more k left far q)))
  clean s closed k left far (too_deep q) = omega (arith, far, n.clean k (left - length more) (too_deep (too_deep_cut before front more k left far q)))

  longer : 0 < length more → IsClosed before (front ++ more) tree (start + length more) (end + length more)
  longer h =
      let s = stands_kept front more tree start end n.stands some in
      let closed : end + length more < length s.rest = closed_rest s.rest (end + length more) s.ends (omega (arith, h)) in
      record {
        node = record {
          stands = s;
          clean = λ k left c. elim (split left (length more)) [
            | inl near ↦ omega (arith, near)
            | inr far ↦ clean s (omega (arith, closed)) k left far c
          ];
        };
        sign = omega (arith, closed);
      }

-- it is the statement of each text that goes on from there
pub closed_stays : (before : ℕ) (front more : List ℕ) (tree : Tree) (start end : ℕ) → IsClosed before front tree start end → IsClosed before (front ++ more) tree (start + length more) (end + length more)
closed_stays before front [] tree start end c =
    subst (λ (x : ℕ). IsClosed before (front ++ []) tree x (end + 0)) (omega arith)
    (subst (λ (x : ℕ). IsClosed before (front ++ []) tree start x) (omega arith)
    (subst (λ (l : List ℕ). IsClosed before l tree start end) (sym (append-nil front)) c))
closed_stays before front (x ∷ more) tree start end c = longer before front (x ∷ more) tree start end c.node c.sign (omega arith)

-- ---- a text with a byte past a limit

-- each statement that has its `;` has it before this byte
abbrev EndsBefore : List ℕ → ℕ → Type 0
EndsBefore text limit = (e : Element) (first rest behind : List ℕ) → after_gap text ≡ Some first → Leads text (element_tokens e) (Some rest) → token_at rest ≡ Ok (Token.semicolon, behind) → length rest < limit

-- the text is too long there
abbrev IsTooLong : ℕ → List ℕ → ℕ → Type 0
IsTooLong before text limit = (h : Holds before text TooLong limit) × (rank h ≡ 0)

too_long : (before : ℕ) (text : List ℕ) (limit : ℕ) → IsLimit before text limit → EndsBefore text limit → IsTooLong before text limit
too_long before text limit (inl s) none = (past_limit (refl, inl (record { limit = s; goes_on = λ e rest behind leads read. none e s.first rest behind s.begins leads read })), refl)
too_long before text limit (inr f) none = (past_limit (refl, inr f), refl)

module _ (before : ℕ) (text : List ℕ) (limit : ℕ) (is_limit : IsLimit before text limit) where
  some : 0 < limit
  some = limit_some before text limit is_limit

  pub no_end : IsEnd before text → ⊥
  no_end e = e.clean TooLong limit (too_long before text limit is_limit (λ x first rest behind begins leads read. absurd (no_statement_at_end text (element_tree x) (length first) (length behind) e.gap (stands_of text first rest behind x begins leads read).0))).0

  -- a statement has its `;`
  pub node_closed : (tree : Tree) (start end : ℕ) → IsNode before text tree start end → IsClosed before text tree start end
  node_closed tree start end n = record { node = n; sign = by n.stands.rest refl } where
    none : n.stands.rest ≡ [] → EndsBefore text limit
    none e x first rest behind begins leads read =
        let p = stands_of text first rest behind x begins leads read in
        absurd (none_closed text tree start end n.stands e (element_tree x) (length first) (length behind) p.0 (omega (arith, ap (λ (l : List ℕ). length l) p.1, sign_length rest behind read)))

    by : (rest : List ℕ) → n.stands.rest ≡ rest → 0 < length n.stands.rest
    by (c ∷ rest) e = omega (arith, ap (λ (l : List ℕ). length l) e)
    by [] e =
        let nothing : end ≡ 0 = subst (λ (l : List ℕ). EndsAt l end) e n.stands.ends in
        absurd (omega (arith, some, nothing, n.clean TooLong limit (too_long before text limit is_limit (none e)).0))

  module _ (k : TextKind) (left : ℕ) (f : IsFault before text k left) where
    sign_le : (e : Element) (first rest behind : List ℕ) → after_gap text ≡ Some first → Leads text (element_tokens e) (Some rest) → token_at rest ≡ Ok (Token.semicolon, behind) → length rest ≤ left
    sign_le e first rest behind begins leads read =
        let p = stands_of text first rest behind e begins leads read in
        omega (arith, f.within (element_tree e) (length first) (length behind) p.0, sign_length rest behind read)

    -- a fault lies at the limit or before it
    pub limit_le : limit ≤ left
    limit_le = elim (split limit left) [
      | inl h ↦ h
      | inr far ↦ by far (too_long before text limit is_limit (λ e first rest behind begins leads read. omega (arith, far, sign_le e first rest behind begins leads read)))
    ] where
      by : left < limit → IsTooLong before text limit → limit ≤ left
      by far h = elim (f.first TooLong limit h.0) [
        | inl less ↦ omega (arith, less, far)
        | inr same ↦ omega (arith, same.0)
      ]

    -- no flaw of the last byte comes first
    not_last : (p : IsFlawed before text k left) → rank f.holds ≡ 1 → length p.here ≡ 1 → ⊥
    not_last p r one =
        let near : left ≤ 1 = omega (arith, one, (flaw_le p.here (record { kind = k; left = left }) p.wrong).0) in
        let there : limit ≡ 1 = omega (arith, near, limit_le, some) in
        by there (too_long before text limit is_limit (λ e first rest behind begins leads read. elim (split limit (length rest)) [
          | inr less ↦ less
          | inl reached ↦
              let same : length p.here ≡ length rest = omega (arith, reached, there, near, one, sign_le e first rest behind begins leads read) in
              absurd (clash p.here rest Token.semicolon behind (record { kind = k; left = left }) (one_place text p.tokens (element_tokens e) p.here rest p.leads leads same) p.wrong read)
        ])) near
      where
        by : limit ≡ 1 → IsTooLong before text limit → left ≤ 1 → ⊥
        by there h near = elim (f.first TooLong limit h.0) [
          | inl less ↦ omega (arith, less, there, near)
          | inr same ↦ omega (arith, same.1, r, h.1)
        ]

-- ---- its fault

-- a condition of the longer text, with the same rank
abbrev IsKeptTo : (before : ℕ) (front more : List ℕ) (k : TextKind) (left : ℕ) → Holds before front k left → Type 0
IsKeptTo before front more k left h = (p : Holds before (front ++ more) k (left + length more)) × (rank p ≡ rank h)

module _ (before : ℕ) (front more : List ℕ) (limit : ℕ) (is_limit : IsLimit before front limit) (k : TextKind) (left : ℕ) where
  -- a place that has two bytes or a byte that begins a token
  begins : (here : List ℕ) → 0 < length here → (length here ≡ 1 → ⊥) → 1 < length here
  begins here h g = omega (arith, h, g)

  flawed_stays : (p : IsFlawed before front k left) → 1 < length p.here → limit ≤ left → IsFlawed before (front ++ more) k (left + length more)
  flawed_stays p long near =
      let within : left ≤ length p.here = (flaw_le p.here (record { kind = k; left = left }) p.wrong).0 in
      let count = length-append p.here more in
      record {
        tokens = p.tokens;
        here = p.here ++ more;
        leads = leads_on front more p.tokens p.here p.leads (inl long);
        some = omega (arith, count, long);
        wrong = shown_front p.here (length p.here - limit + 1) k (length p.here - left) left (p.shown limit is_limit (omega (arith, within, near)))
            (omega (arith, within, near, limit_some before front limit is_limit)) (omega (arith, within)) more;
        shown = λ m l at. shows within count m l at (split m (length more));
      }
    where
      -- a limit that lies behind the front, or in it
      shows : left ≤ length p.here → length (p.here ++ more) ≡ length p.here + length more → (m : ℕ) → IsLimit before (front ++ more) m → m ≤ length (p.here ++ more) → (m ≤ length more) ⊎ (length more < m)
          → Shows (take (length (p.here ++ more) - m + 1) (p.here ++ more)) k (length (p.here ++ more) - (left + length more))
      shows within count m l at (inr far) =
          let inner : IsLimit before front (m - length more) = limit_cut before front more m far l in
          let size : length (p.here ++ more) - m + 1 ≡ length p.here - (m - length more) + 1 = omega (arith, count, far, at) in
          let piece : take (length (p.here ++ more) - m + 1) (p.here ++ more) ≡ take (length p.here - (m - length more) + 1) p.here =
          ap (λ (n : ℕ). take n (p.here ++ more)) size ∙ take-append-le (length p.here - (m - length more) + 1) p.here more (omega (arith, count, far, at)) in
          subst (λ (x : List ℕ). Shows x k (length (p.here ++ more) - (left + length more))) (sym piece)
          (subst (Shows (take (length p.here - (m - length more) + 1) p.here) k) (omega (arith, count, within)) (p.shown (m - length more) inner (omega (arith, count, far, at))))
      shows within count m l at (inl short) = λ rest.
          let size = length (p.here ++ more) - m + 1 in
          let extra = take (size - length p.here) more in
          let piece : take size (p.here ++ more) ≡ p.here ++ extra = take_past p.here more size (omega (arith, count, short)) in
          let read = shown_front p.here (length p.here - limit + 1) k (length p.here - left) left (p.shown limit is_limit (omega (arith, within, near))) (omega (arith, within, near, limit_some before front limit is_limit)) (omega (arith, within)) (extra ++ rest) in
          let whole : take size (p.here ++ more) ++ rest ≡ p.here ++ (extra ++ rest) = ap (λ (l : List ℕ). l ++ rest) piece ∙ append_assoc p.here extra rest in
          let length_is : length (take size (p.here ++ more)) ≡ length p.here + length extra = ap (λ (l : List ℕ). length l) piece ∙ length-append p.here extra in
          let place : left + length (extra ++ rest) ≡ length (take size (p.here ++ more)) + length rest - (length (p.here ++ more) - (left + length more)) = omega (arith, length-append extra rest, length_is, count, within) in
          ap token_at whole ∙ read ∙ ap (λ (n : ℕ). Err (record { kind = k; left = n })) place

  holds_stays : (h : Holds before front k left) → limit ≤ left → ((p : IsFlawed before front k left) → rank h ≡ 1 → length p.here ≡ 1 → ⊥) → IsKeptTo before front more k left h
  holds_stays (past_limit (e, inl l)) near last = (past_limit (e, inl (long_stays front more left l)), refl)
  holds_stays (past_limit (e, inr f)) near last = (past_limit (e, inr (file_stays before front more left f)), refl)
  holds_stays (flawed p) near last = (flawed (flawed_stays p (begins p.here p.some (last p refl)) near), refl)
  holds_stays (in_comment p) near last = absurd (omega (arith, near, p.left_is, limit_some before front limit is_limit))
  holds_stays (is_open p) near last = absurd (omega (arith, near, p.left_is, limit_some before front limit is_limit))
  holds_stays (unexpected p) near last = (unexpected (unexpected_kept before front more k left p), refl)
  holds_stays (too_deep p) near last = (too_deep (too_deep_kept before front more k left p), refl)

  -- it is the fault of each text that goes on from there
  pub fault_stays : IsFault before front k left → IsFault before (front ++ more) k (left + length more)
  fault_stays f =
      let near = limit_le before front limit is_limit k left f in
      let some = limit_some before front limit is_limit in
      let kept = holds_stays f.holds near (not_last before front limit is_limit k left f) in
      record {
        holds = kept.0;
        first = λ j other h. elim (split other (length more)) [
          | inl behind ↦ inl (omega (arith, behind, near, some))
          | inr far ↦ by j other h kept.0 kept.1 near far (holds_cut before front more j other far limit is_limit h)
        ];
        within = λ tree start end s. elim (split (left + length more) end) [
          | inl h ↦
              let long : end < length s.rest = closed_rest s.rest end s.ends (omega (arith, h, near, some)) in
              let less = f.within tree (start - length more) (end - length more) (stands_cut front more tree start end s (omega (arith, long, h))) in
              absurd (omega (arith, less, h))
          | inr h ↦ h
        ];
      }
    where
      by : (j : TextKind) (other : ℕ) (h : Holds before (front ++ more) j other) (p : Holds before (front ++ more) k (left + length more)) → rank p ≡ rank f.holds → limit ≤ left → length more < other → IsCutTo before front more limit j other h
          → (other < left + length more) ⊎ ((other ≡ left + length more) × (rank p ≤ rank h))
      by j other h p r near far (inr behind) = inl (omega (arith, behind, near))
      by j other h p r near far (inl c) = elim (f.first j (other - length more) c.0) [
        | inl less ↦ inl (omega (arith, less, far))
        | inr same ↦ inr (omega (arith, same.0, far), omega (arith, same.1, r, c.1))
      ]
