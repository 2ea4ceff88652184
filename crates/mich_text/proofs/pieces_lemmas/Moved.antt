-- Limits, and the conditions of faults, of a text and of a longer one that begins with it.
use Rattle.std.proofs.Common.{◌≡◌, ℕ, zero, suc, ◌+◌, ◌-◌, ◌≤◌, ◌<◌, ◌⊎◌, inl, inr, List, [], ◌∷◌, ◌++◌, length, take, drop, take-append-drop, Some, Ok, Err, refl, sym, ap, subst, ◌∙◌, append_assoc, arith}
use Rattle.std.proofs.lemmas.List.{append-nil, length-append, length-take-le, length-drop, take-append-le}
use Rattle.rules_text.specs.text.Token.{Token}
use Rattle.rules_text.specs.text.Syntax.{Element, element_tokens, element_tree}
use Rattle.rules_text.specs.text.Lexical.{token_at}
use Rattle.rules_text.specs.declared.text.Shape.TheVariants.{Semicolon}
use Rattle.rules_text.specs.declared.text.TextKind.{TextKind}
use Rattle.rules_text.specs.text.Text.{Leads, IsLimit, IsStatementLimit, IsFileLimit, IsLongStatement, Shows, IsFlawed, Holds, past_limit, flawed, in_comment, is_open, unexpected, too_deep, rank, Stands}
use Rattle.mich_text.proofs.ForCallers.{no_token, flaw_le, token_shape_is, gap_cut, leads_cut, leads_on, stands_cut, cut_rest, ends_kept, unexpected_cut, too_deep_cut, split}
use Rattle.mich_text.proofs.pieces_lemmas.Ends.{stands_of, sign_of}

-- ---- limits

pub file_stays : (before : ℕ) (front more : List ℕ) (left : ℕ) → IsFileLimit before front left → IsFileLimit before (front ++ more) (left + length more)
file_stays before front more left f = record { left_is = omega (arith, f.left_is, length-append front more); some = omega (arith, f.some); here = omega (arith, f.here, length-append front more) }

pub statement_stays : (front more : List ℕ) (left : ℕ) → IsStatementLimit front left → IsStatementLimit (front ++ more) (left + length more)
statement_stays front more left s = record {
  first = s.first ++ more;
  begins = leads_on front more [] s.first s.begins (inl (omega (arith, s.left_is, s.some)));
  left_is = omega (arith, s.left_is, length-append s.first more);
  some = omega (arith, s.some);
}

pub limit_stays : (before : ℕ) (front more : List ℕ) (left : ℕ) → IsLimit before front left → IsLimit before (front ++ more) (left + length more)
limit_stays before front more left (inl s) = inl (statement_stays front more left s)
limit_stays before front more left (inr f) = inr (file_stays before front more left f)

pub file_cut : (before : ℕ) (front more : List ℕ) (at : ℕ) → length more < at → IsFileLimit before (front ++ more) at → IsFileLimit before front (at - length more)
file_cut before front more at far f = record { left_is = omega (arith, f.left_is, length-append front more, far); some = omega (arith, far); here = omega (arith, f.here, length-append front more) }

pub statement_cut : (front more : List ℕ) (at : ℕ) → length more < at → IsStatementLimit (front ++ more) at → IsStatementLimit front (at - length more)
statement_cut front more at far s =
    let g = gap_cut front more s.first s.begins (omega (arith, s.left_is, far)) in
    let count : length s.first ≡ length g.0 + length more = ap (λ (l : List ℕ). length l) g.1 ∙ length-append g.0 more in
    record { first = g.0; begins = g.2; left_is = omega (arith, s.left_is, count, far); some = omega (arith, far) }

pub limit_cut : (before : ℕ) (front more : List ℕ) (at : ℕ) → length more < at → IsLimit before (front ++ more) at → IsLimit before front (at - length more)
limit_cut before front more at far (inl s) = inl (statement_cut front more at far s)
limit_cut before front more at far (inr f) = inr (file_cut before front more at far f)

-- ---- statements that are too long

module _ (front more : List ℕ) where
  pub long_stays : (left : ℕ) → IsLongStatement front left → IsLongStatement (front ++ more) (left + length more)
  long_stays left l =
      let s = statement_stays front more left l.limit in
      record {
        limit = s;
        goes_on = λ e rest behind leads read. elim (split (length rest) (length more)) [
          | inl short ↦ omega (arith, short, l.limit.some)
          | inr far ↦
              let p = stands_of (front ++ more) s.first rest behind e s.begins leads read in
              by e rest behind far p.0 p.1
        ];
      }
    where
      by : (e : Element) (rest behind : List ℕ) → length more < length rest → (p : Stands (front ++ more) (element_tree e) (length (statement_stays front more left l.limit).first) (length behind)) → p.rest ≡ rest → length rest < left + length more
      by e rest behind far p same =
          let n : length p.rest ≡ length rest = ap (λ (l : List ℕ). length l) same in
          let h : length more < length p.rest = omega (arith, n, far) in
          let c = stands_cut front more (element_tree e) (length (statement_stays front more left l.limit).first) (length behind) p h in
          let count = cut_rest front more (element_tree e) (length (statement_stays front more left l.limit).first) (length behind) p h in
          let sign = sign_of c.rest (length behind - length more) (omega (arith, count, n, far)) c.ends in
          let leads : Leads front (element_tokens c.statement.element) (Some c.rest) = subst (λ (ts : List Token). Leads front ts (Some c.rest)) c.statement.tokens c.leads in
          omega (arith, l.goes_on c.statement.element c.rest sign.0 leads sign.1, count, n)

  pub long_cut : (at : ℕ) → length more < at → IsLongStatement (front ++ more) at → IsLongStatement front (at - length more)
  long_cut at far l = record {
    limit = statement_cut front more at far l.limit;
    goes_on = λ e rest behind leads read.
        let again = on rest behind read in
        let far_on = l.goes_on e (rest ++ more) again.0 (leads_on front more (element_tokens e) rest leads (inr (Semicolon, token_shape_is rest Token.semicolon behind read))) again.1 in
        omega (arith, far_on, length-append rest more);
  } where
    on : (rest behind : List ℕ) → token_at rest ≡ Ok (Token.semicolon, behind) → (b : List ℕ) × (token_at (rest ++ more) ≡ Ok (Token.semicolon, b))
    on [] behind read = absurd (no_token behind Token.semicolon read)
    on (c ∷ rest) behind read = let k = ends_kept more c rest (length behind) (behind, read, refl) in (k.0, k.1)

-- ---- a condition of the longer text, before the end of the front, is one of the front

-- it is one of the front with the same rank, or it lies behind the limit
abbrev pub IsCutTo : (before : ℕ) (front more : List ℕ) (limit : ℕ) (k : TextKind) (left : ℕ) → Holds before (front ++ more) k left → Type 0
IsCutTo before front more limit k left h = ((p : Holds before front k (left - length more)) × (rank p ≡ rank h)) ⊎ (left < limit + length more)

pub take_past : (b more : List ℕ) (n : ℕ) → length b ≤ n → take n (b ++ more) ≡ b ++ take (n - length b) more
take_past [] more n h = ap (λ (k : ℕ). take k more) (omega arith)
take_past (c ∷ b) more zero h = absurd (omega (arith, h))
take_past (c ∷ b) more (suc n) h =
    let less : n - length b ≡ suc n - suc (length b) = omega arith in
    ap (λ (l : List ℕ). c ∷ l) (take_past b more n (omega (arith, h))) ∙ ap (λ (k : ℕ). c ∷ (b ++ take k more)) less

-- what bytes show from their first one on is seen in each front that has them
pub shown_front : (here : List ℕ) (n : ℕ) (k : TextKind) (offset left : ℕ) → Shows (take n here) k offset → n ≤ length here → left + offset ≡ length here → (more : List ℕ)
    → token_at (here ++ more) ≡ Err (record { kind = k; left = left + length more })
shown_front here n k offset left shows within count more =
    let rest = drop n here in
    let whole : here ++ more ≡ take n here ++ (rest ++ more) = ap (λ (l : List ℕ). l ++ more) (sym (take-append-drop n here)) ∙ append_assoc (take n here) rest more in
    let place : length (take n here) + length (rest ++ more) - offset ≡ left + length more =
    omega (arith, length-append rest more, length-take-le n here within, length-drop n here, within, count) in
    ap token_at whole ∙ shows (rest ++ more) ∙ ap (λ (x : ℕ). Err (record { kind = k; left = x })) place

pub limit_some : (before : ℕ) (text : List ℕ) (limit : ℕ) → IsLimit before text limit → 0 < limit
limit_some before text limit (inl s) = s.some
limit_some before text limit (inr f) = f.some

module _ (before : ℕ) (front more : List ℕ) (k : TextKind) (left : ℕ) (far : length more < left) where
  -- a token's flaw that the bytes up to a limit in the front show
  flawed_cut : (limit : ℕ) → IsLimit before front limit → (q : IsFlawed before (front ++ more) k left) → limit + length more ≤ length q.here → IsFlawed before front k (left - length more)
  flawed_cut limit is_limit q near =
      let some : 0 < limit = limit_some before front limit is_limit in
      let g = leads_cut front more q.tokens q.here q.leads (omega (arith, near, some)) in
      let count : length q.here ≡ length g.0 + length more = ap (λ (l : List ℕ). length l) g.1 ∙ length-append g.0 more in
      let within : left ≤ length q.here = (flaw_le q.here (record { kind = k; left = left }) q.wrong).0 in
      let first : Shows (take (length g.0 - limit + 1) g.0) k (length q.here - left) = seen g.0 g.1 count limit is_limit (omega (arith, count, near)) in
      record {
        tokens = q.tokens;
        here = g.0;
        leads = g.2;
        some = omega (arith, count, near, some);
        wrong = wrong g.0 (length g.0 - limit + 1) first (omega (arith, count, near, some)) (omega (arith, count, within, far));
        shown = λ m l at. subst (Shows (take (length g.0 - m + 1) g.0) k) (omega (arith, count, within, far)) (seen g.0 g.1 count m l at);
      }
    where
      seen : (b : List ℕ) → q.here ≡ b ++ more → length q.here ≡ length b + length more → (m : ℕ) → IsLimit before front m → m ≤ length b → Shows (take (length b - m + 1) b) k (length q.here - left)
      seen b e count m l at =
          let size : length q.here - (m + length more) + 1 ≡ length b - m + 1 = omega (arith, count, at) in
          let piece : take (length q.here - (m + length more) + 1) q.here ≡ take (length b - m + 1) b =
          ap (λ (n : ℕ). take n q.here) size ∙ ap (take (length b - m + 1)) e ∙ take-append-le (length b - m + 1) b more (omega (arith, at, limit_some before front m l)) in
          subst (λ (x : List ℕ). Shows x k (length q.here - left)) piece (q.shown (m + length more) (limit_stays before front more m l) (omega (arith, count, at)))

      wrong : (b : List ℕ) (n : ℕ) → Shows (take n b) k (length q.here - left) → n ≤ length b → left - length more + (length q.here - left) ≡ length b → token_at b ≡ Err (record { kind = k; left = left - length more })
      wrong b n shows within count =
          ap token_at (sym (append-nil b)) ∙ shown_front b n k (length q.here - left) (left - length more) shows within count []
          ∙ ap (λ (x : ℕ). Err (record { kind = k; left = x })) (omega arith)

  pub holds_cut : (limit : ℕ) → IsLimit before front limit → (h : Holds before (front ++ more) k left) → IsCutTo before front more limit k left h
  holds_cut limit is_limit (past_limit (e, inl l)) = inl (past_limit (e, inl (long_cut front more left far l)), refl)
  holds_cut limit is_limit (past_limit (e, inr f)) = inl (past_limit (e, inr (file_cut before front more left far f)), refl)
  holds_cut limit is_limit (flawed q) = elim (split (limit + length more) (length q.here)) [
    | inl near ↦ inl (flawed (flawed_cut limit is_limit q near), refl)
    | inr behind ↦ inr (omega (arith, behind, (flaw_le q.here (record { kind = k; left = left }) q.wrong).0))
  ]
  holds_cut limit is_limit (in_comment q) = absurd (omega (arith, far, q.left_is))
  holds_cut limit is_limit (is_open q) = absurd (omega (arith, far, q.left_is))
  holds_cut limit is_limit (unexpected q) = inl (unexpected (unexpected_cut before front more k left far q), refl)
  holds_cut limit is_limit (too_deep q) = inl (too_deep (too_deep_cut before front more k left far q), refl)
