-- Bytes whose digits go on to a limit, and have no pair for the last of them: what the text is. They are read without it.
use Rattle.std.proofs.Common.{◌≡◌, ℕ, ◌+◌, ◌-◌, ◌≤◌, ◌<◌, ◌⊎◌, inl, inr, List, [], ◌∷◌, ◌++◌, length, Some, Ok, Err, sym, ap, subst, ◌∙◌, arith}
use Rattle.std.proofs.lemmas.List.{length-append}
use Rattle.rules_text.specs.nodes.Tree.{Tree}
use Rattle.rules_text.specs.text.Token.{Token}
use Rattle.rules_text.specs.text.Lexical.{token_at}
use Rattle.rules_text.specs.text.Fault.{Flaw}
use Rattle.rules_text.specs.declared.text.TextKind.{TextKind}
use Rattle.rules_text.specs.declared.text.TextKind.TheVariants.{BadBytes, TooDeep, TooLong}
use Rattle.rules_text.specs.text.Text.{Leads, IsLimit, Shows, IsUnexpected, IsTooDeep, EndsAt, Stands, IsFault, rank}
use Rattle.rules_text.specs.text.Text as within
use Rattle.mich_text.specs.Plain as plain
use Rattle.mich_text.proofs.tokens.Ahead.{flaw_le, token_shorter, leads_le}
use Rattle.mich_text.proofs.readings.Reading.{same_rest, From, compare, passes}
use Rattle.mich_text.proofs.tokens.Read.{clash, err_is}
use Rattle.mich_text.proofs.readings.Unique.{nothing_holds}
use Rattle.mich_text.proofs.tokens.Cut.{leads_cut}
use Rattle.mich_text.proofs.tokens.Odd.{IsOdd, bytes_left, odd_not_shown, odd_front}
use Rattle.mich_text.proofs.limits.Conditions.{shown_cut, unexpected_cut, too_deep_cut, unexpected_kept, too_deep_kept}
use Rattle.mich_text.proofs.readings.Closed.{sign_rest, stands_cut, stands_kept}
use Rattle.mich_text.proofs.limits.Limited.{split, closed_rest}
use Rattle.mich_text.proofs.limits.Past.{past, long}
use Rattle.mich_text.proofs.limits.LastByte.{leads_one}

-- where BadBytes is a fault, it is a token's own
pub bytes_flaw : (text : List ℕ) (left : ℕ) → plain.HoldsWithoutLimits text BadBytes left → plain.IsFlawedWithoutLimits text BadBytes left
bytes_flaw text left (plain.flawed p) = p
bytes_flaw text left (plain.in_comment p) = absurd (cc p.kind_is)
bytes_flaw text left (plain.is_open p) = absurd (cc p.kind_is)
bytes_flaw text left (plain.unexpected p) = absurd (cc p.kind_is)
bytes_flaw text left (plain.too_deep p) = absurd (cc p.kind_is)

-- one token is wrong in itself
same_here : (text : List ℕ) (k j : TextKind) (a b : ℕ) (p : plain.IsFlawedWithoutLimits text k a) (q : plain.IsFlawedWithoutLimits text j b)
    → p.here ≡ q.here
same_here text k j a b p q = elim (compare text p.before p.here q.before (Some q.here) p.leads q.leads) [
  | inl f ↦ by f.more f.from
  | inr g ↦ absurd (clash q.here q.wrong (ap token_at (same_rest q.here g.at g.rest_is) ∙ g.read))
] where
  by : (more : List Token) → From p.here more (Some q.here) → p.here ≡ q.here
  by [] f = sym (same_rest q.here p.here f)
  by (t ∷ more) f = absurd (clash p.here p.wrong f.1)

-- no tokens lead behind it
no_behind : (text : List ℕ) (k : TextKind) (left : ℕ) (p : plain.IsFlawedWithoutLimits text k left) (us : List Token) (there : List ℕ)
    → Leads text us (Some there) → length there ≤ length p.here → there ≡ p.here
no_behind text k left p us there q le = elim (compare text p.before p.here us (Some there) p.leads q) [
  | inl f ↦ by f.more f.from
  | inr g ↦
      let at = passes text us g.more g.token p.here (subst (λ (l : List Token). Leads text l (Some p.here)) g.tokens p.leads) in
      absurd (omega (arith, at.further, ap (λ (l : List ℕ). length l) (leads_one text us at.here there at.leads q), le))
] where
  by : (more : List Token) → From p.here more (Some there) → there ≡ p.here
  by [] f = same_rest there p.here f
  by (t ∷ more) f = absurd (clash p.here p.wrong f.1)

-- where a statement has its `;`
ends_next : (rest : List ℕ) (end : ℕ) → EndsAt rest end → 0 < length rest → end + 1 ≡ length rest
ends_next [] end e h = absurd (omega (arith, h))
ends_next (c ∷ r) end e h = omega (arith, e.2, ap (λ (l : List ℕ). length l) (sign_rest c r e.0 e.1))

ends_read : (rest : List ℕ) (end : ℕ) → EndsAt rest end → 0 < length rest → (b : List ℕ) × (token_at rest ≡ Ok (Token.semicolon, b))
ends_read [] end e h = absurd (omega (arith, h))
ends_read (c ∷ r) end e h = (e.0, e.1)

-- a token can't stand there
abbrev Misplaced : List ℕ → TextKind → ℕ → Type 0
Misplaced text kind left = IsUnexpected text kind left ⊎ IsTooDeep text kind left

misplaced_holds : (text : List ℕ) (kind : TextKind) (left : ℕ) → Misplaced text kind left → plain.HoldsWithoutLimits text kind left
misplaced_holds text kind left (inl u) = plain.unexpected u
misplaced_holds text kind left (inr d) = plain.too_deep d

module _ (before : ℕ) (short : List ℕ) (l : ℕ) (more : List ℕ) (at : ℕ) (is_limit : IsLimit before ((short ++ l ∷ []) ++ more) at)
    (cuts : at ≡ 1 + length more)
    (last : (limit : ℕ) → IsLimit before ((short ++ l ∷ []) ++ more) limit → limit ≤ at)
    (left : ℕ) (far : 1 < left) (p : plain.IsFaultWithoutLimits (short ++ l ∷ []) BadBytes left)
    (f : plain.IsFlawedWithoutLimits (short ++ l ∷ []) BadBytes left) (odd : IsOdd f.here) where
  place : left ≡ length f.here
  place = bytes_left f.here left f.wrong

  -- ---- the front

  no_statement : (tree : Tree) (start end : ℕ) → Stands (short ++ l ∷ []) tree start end → ⊥
  no_statement tree start end q = elim (compare (short ++ l ∷ []) f.before f.here q.tokens (Some q.rest) f.leads q.leads) [
    | inl g ↦ by g.more g.from
    | inr g ↦
        let at = passes (short ++ l ∷ []) q.tokens g.more g.token f.here
        (subst (λ (ts : List Token). Leads (short ++ l ∷ []) ts (Some f.here)) g.tokens f.leads) in
        let longer : length f.here < length q.rest = omega (
          arith,
          at.further,
          ap (λ (x : List ℕ). length x) (leads_one (short ++ l ∷ []) q.tokens at.here q.rest at.leads q.leads),
        ) in
        omega (arith, ends_next q.rest end q.ends (omega (arith, longer)), longer, place, p.within tree start end q)
  ] where
    at_token : q.rest ≡ f.here → ⊥
    at_token e =
        let read = ends_read q.rest end q.ends (omega (arith, f.some, ap (λ (x : List ℕ). length x) e)) in
        clash f.here f.wrong (ap token_at (sym e) ∙ read.1)

    by : (more : List Token) → From f.here more (Some q.rest) → ⊥
    by [] g = at_token (same_rest q.rest f.here g)
    by (t ∷ more) g = clash f.here f.wrong g.1

  -- only the token itself can be misplaced
  misplaced_there : (j : TextKind) (o : ℕ) → Misplaced (short ++ l ∷ []) j o → o ≡ left
  misplaced_there j o m = by m (p.first j o (misplaced_holds (short ++ l ∷ []) j o m)) where
    near : (o < left) ⊎ ((o ≡ left) × (plain.rank_without_limits BadBytes ≤ plain.rank_without_limits j)) → o ≤ left
    near (inl h) = omega (arith, h)
    near (inr h) = omega (arith, h.0)

    by : Misplaced (short ++ l ∷ []) j o → (o < left) ⊎ ((o ≡ left) × (plain.rank_without_limits BadBytes ≤ plain.rank_without_limits j))
        → o ≡ left
    by (inl u) h =
        omega (
          arith,
          u.left_is,
          place,
          ap (λ (x : List ℕ). length x)
              (no_behind (short ++ l ∷ []) BadBytes left f u.before u.here u.leads (omega (arith, near h, u.left_is, place))),
        )
    by (inr d) h =
        omega (
          arith,
          d.left_is,
          place,
          ap (λ (x : List ℕ). length x)
              (no_behind (short ++ l ∷ []) BadBytes left f d.before d.here d.leads (omega (arith, near h, d.left_is, place))),
        )

  -- ---- the text before its limit byte

  no_flaw : (j : TextKind) (other : ℕ) → within.IsFlawed before ((short ++ l ∷ []) ++ more) j other → at < other → ⊥
  no_flaw j other q off =
      let c = shown_cut before (short ++ l ∷ []) more at is_limit cuts j other (omega (arith, off, cuts)) q in
      let same : c.0.here ≡ f.here = same_here (short ++ l ∷ []) j BadBytes (other - length more) left c.0 f in
      let wrong : token_at f.here ≡ Err (record { kind = j; left = other - length more }) = ap token_at (sym same) ∙ c.0.wrong in
      let kind : j ≡ BadBytes = ap (λ (x : Flaw). x.kind)
      (err_is (record { kind = j; left = other - length more }) (record { kind = BadBytes; left = left }) (sym wrong ∙ f.wrong)) in
      let shown : Shows f.here j (length f.here - (other - length more)) = subst (λ (x : List ℕ). Shows x j
      (length x - (other - length more))) same c.1 in
      odd_not_shown f.here odd (record { kind = j; left = length f.here + 1 - (length f.here - (other - length more)) })
      (shown (48 ∷ [])) kind

  misplaced : (j : TextKind) (other : ℕ) → within.Holds before ((short ++ l ∷ []) ++ more) j other → at < other
      → Misplaced (short ++ l ∷ []) j (other - length more)
  misplaced j other (within.past_limit (e, inl x)) off = absurd (omega (arith, last other (inl x.limit), off))
  misplaced j other (within.past_limit (e, inr x)) off = absurd (omega (arith, last other (inr x), off))
  misplaced j other (within.flawed q) off = absurd (no_flaw j other q off)
  misplaced j other (within.in_comment q) off = absurd (omega (arith, q.left_is, off))
  misplaced j other (within.is_open q) off = absurd (omega (arith, q.left_is, off))
  misplaced j other (within.unexpected q) off = inl (unexpected_cut before (short ++ l ∷ []) more j other (omega (arith, off, cuts)) q)
  misplaced j other (within.too_deep q) off = inr (too_deep_cut before (short ++ l ∷ []) more j other (omega (arith, off, cuts)) q)

  -- where the token isn't misplaced the text goes on past its limit
  goes_past : ((j : TextKind) → Misplaced (short ++ l ∷ []) j left → ⊥) → IsFault before ((short ++ l ∷ []) ++ more) TooLong at
  goes_past none =
      past before (short ++ l ∷ []) more at is_limit cuts last
      (long before (short ++ l ∷ []) more at is_limit cuts last (λ tree start end q h. no_statement tree start end q))
      (λ j other q off. let m = misplaced j other q off in none j
      (subst (Misplaced (short ++ l ∷ []) j) (misplaced_there j (other - length more) m) m))
      (λ tree start end q. absurd (no_statement tree start end q))

  -- ---- the front without its last byte

  less : (j : TextKind) → Misplaced (short ++ l ∷ []) j left → Misplaced short j (left - 1)
  less j (inl u) = inl (unexpected_cut before short (l ∷ []) j left (omega (arith, far)) u)
  less j (inr d) = inr (too_deep_cut before short (l ∷ []) j left (omega (arith, far)) d)

  again : (j : TextKind) (o : ℕ) → Misplaced short j o → Misplaced (short ++ l ∷ []) j (o + 1)
  again j o (inl u) = inl (unexpected_kept before short (l ∷ []) j o u)
  again j o (inr d) = inr (too_deep_kept before short (l ∷ []) j o d)

  -- no token up to these bytes is wrong in itself
  no_flaw_short : (k : TextKind) (other : ℕ) → plain.IsFlawedWithoutLimits short k other → left ≤ other + 1 → ⊥
  no_flaw_short k other q near =
      let c = leads_cut short (l ∷ []) f.before f.here f.leads (omega (arith, place, far)) in
      let count : length f.here ≡ length c.0 + 1 = ap (λ (x : List ℕ). length x) c.1 ∙ length-append c.0 (l ∷ []) in
      let inside : other ≤ length q.here = (flaw_le q.here (record { kind = k; left = other }) q.wrong).0 in
      elim (compare short f.before c.0 q.before (Some q.here) c.2 q.leads) [
        | inl g ↦ by c.0 c.1 count inside g.more g.from
        | inr g ↦ clash q.here q.wrong (ap token_at (same_rest q.here g.at g.rest_is) ∙ g.read)
      ]
    where
      by : (b : List ℕ) → f.here ≡ b ++ l ∷ [] → length f.here ≡ length b + 1 → other ≤ length q.here → (more : List Token)
          → From b more (Some q.here) → ⊥
      by b e count inside [] g =
          odd_front f.here b l odd e (record { kind = k; left = other }) (ap token_at (sym (same_rest q.here b g)) ∙ q.wrong)
      by b e count inside (t ∷ more) g = omega (arith, token_shorter b g.0 t g.1, leads_le g.0 more q.here g.2, inside, near, count, place)

  -- a condition up to these bytes is that they are misplaced
  misplaced_short : (k : TextKind) (other : ℕ) → plain.HoldsWithoutLimits short k other → left ≤ other + 1 → Misplaced short k other
  misplaced_short k other (plain.flawed q) near = absurd (no_flaw_short k other q near)
  misplaced_short k other (plain.in_comment q) near = absurd (omega (arith, q.left_is, near, far))
  misplaced_short k other (plain.is_open q) near = absurd (omega (arith, q.left_is, near, far))
  misplaced_short k other (plain.unexpected u) near = inl u
  misplaced_short k other (plain.too_deep d) near = inr d

  -- a statement
  pub past_node : (tree : Tree) (start end : ℕ) → plain.IsNodeWithoutLimits short tree start end
      → IsFault before ((short ++ l ∷ []) ++ more) TooLong at
  past_node tree start end n = goes_past (λ j m. by (n.clean j (left - 1) (misplaced_holds short j (left - 1) (less j m)))) where
    by : left - 1 ≤ end → ⊥
    by h =
        no_statement tree (start + 1) (end + 1) (stands_kept short (l ∷ []) tree start end n.stands
        (omega (arith, closed_rest n.stands.rest end n.stands.ends (omega (arith, h, far)))))

  pub past_end : plain.IsEndWithoutLimits short → IsFault before ((short ++ l ∷ []) ++ more) TooLong at
  past_end e = goes_past (λ j m. nothing_holds short j (left - 1) e (misplaced_holds short j (left - 1) (less j m)))

  pub past_fault : (k : TextKind) (other : ℕ) → plain.IsFaultWithoutLimits short k other → (other + 1 ≡ left → ⊥)
      → IsFault before ((short ++ l ∷ []) ++ more) TooLong at
  past_fault k other q elsewhere = goes_past (λ j m. by (q.first j (left - 1) (misplaced_holds short j (left - 1) (less j m)))) where
    before_it : left ≤ other → ⊥
    before_it h = elsewhere (misplaced_there k (other + 1) (again k other (misplaced_short k other q.holds (omega (arith, h)))))

    by : {P : Type 0} → (left - 1 < other) ⊎ ((left - 1 ≡ other) × P) → ⊥
    by (inl h) = before_it (omega (arith, h, far))
    by (inr h) = elsewhere (omega (arith, h.0, far))

  -- ---- they are misplaced

  is_place : (k : TextKind) (h : within.Holds before ((short ++ l ∷ []) ++ more) k (left + length more))
      → ((j : TextKind) (other : ℕ) (q : within.Holds before ((short ++ l ∷ []) ++ more) j other) → at < other → rank h ≤ rank q)
      → IsFault before ((short ++ l ∷ []) ++ more) k (left + length more)
  is_place k h ranks = record {
    holds = h;
    first = λ j other q. elim (split other at) [
      | inl near ↦ inl (omega (arith, near, cuts, far))
      | inr off ↦ inr (omega (arith, misplaced_there j (other - length more) (misplaced j other q off), off, cuts), ranks j other q off)
    ];
    within = λ tree start end s. elim (split (left + length more) end) [
      | inl e ↦
          let long : end < length s.rest = closed_rest s.rest end s.ends (omega (arith, e, far)) in
          absurd (no_statement tree (start - length more) (end - length more)
          (stands_cut (short ++ l ∷ []) more tree start end s (omega (arith, long, e))))
      | inr e ↦ e
    ];
  }

  unexpected_rank : (j : TextKind) (other : ℕ) (q : within.Holds before ((short ++ l ∷ []) ++ more) j other) → at < other → 2 ≤ rank q
  unexpected_rank j other (within.past_limit (e, inl x)) off = absurd (omega (arith, last other (inl x.limit), off))
  unexpected_rank j other (within.past_limit (e, inr x)) off = absurd (omega (arith, last other (inr x), off))
  unexpected_rank j other (within.flawed q) off = absurd (no_flaw j other q off)
  unexpected_rank j other (within.in_comment q) off = absurd (omega (arith, q.left_is, off))
  unexpected_rank j other (within.is_open q) off = absurd (omega (arith, q.left_is, off))
  unexpected_rank j other (within.unexpected q) off = omega arith
  unexpected_rank j other (within.too_deep q) off = omega arith

  pub misplaced_fault : (k : TextKind) (other : ℕ) → plain.IsFaultWithoutLimits short k other → other + 1 ≡ left
      → IsFault before ((short ++ l ∷ []) ++ more) k (left + length more)
  misplaced_fault k other q there = by (misplaced_short k other q.holds (omega (arith, there))) where
    deep_rank : k ≡ TooDeep → (j : TextKind) (o : ℕ) (h : within.Holds before ((short ++ l ∷ []) ++ more) j o) → at < o → 3 ≤ rank h
    deep_rank e j o (within.past_limit (i, inl x)) off = absurd (omega (arith, last o (inl x.limit), off))
    deep_rank e j o (within.past_limit (i, inr x)) off = absurd (omega (arith, last o (inr x), off))
    deep_rank e j o (within.flawed h) off = absurd (no_flaw j o h off)
    deep_rank e j o (within.in_comment h) off = absurd (omega (arith, h.left_is, off))
    deep_rank e j o (within.is_open h) off = absurd (omega (arith, h.left_is, off))
    deep_rank e j o (within.unexpected h) off =
        let u = unexpected_cut before (short ++ l ∷ []) more j o (omega (arith, off, cuts)) h in
        let same = misplaced_there j (o - length more) (inl u) in
        let s = less j (subst (Misplaced (short ++ l ∷ []) j) same (inl u)) in
        absurd (wrong (q.first j (left - 1) (misplaced_holds short j (left - 1) s))) where
          wrong : (left - 1 < other) ⊎ ((left - 1 ≡ other) × (plain.rank_without_limits k ≤ plain.rank_without_limits j)) → ⊥
          wrong (inl g) = omega (arith, g, there)
          wrong (inr g) = omega (arith, g.1, ap plain.rank_without_limits e, ap plain.rank_without_limits h.kind_is)
    deep_rank e j o (within.too_deep h) off = omega arith

    moved : (K : ℕ → Type 0) → K (other + 1 + length more) → K (left + length more)
    moved K h = subst (λ (n : ℕ). K (n + length more)) there h

    by : Misplaced short k other → IsFault before ((short ++ l ∷ []) ++ more) k (left + length more)
    by (inl u) =
        is_place k (within.unexpected (moved (IsUnexpected ((short ++ l ∷ []) ++ more) k)
        (unexpected_kept before (short ++ l ∷ []) more k (other + 1) (unexpected_kept before short (l ∷ []) k other u)))) unexpected_rank
    by (inr d) =
        is_place k (within.too_deep (moved (IsTooDeep ((short ++ l ∷ []) ++ more) k)
        (too_deep_kept before (short ++ l ∷ []) more k (other + 1) (too_deep_kept before short (l ∷ []) k other d)))) (deep_rank d.kind_is)
