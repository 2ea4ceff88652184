-- What a text is, by what its front is up to the first byte past a limit.
use Rattle.std.proofs.Common.{◌≡◌, ℕ, ◌+◌, ◌-◌, ◌≤◌, ◌<◌, max, ◌⊎◌, inl, inr, Bool, true, false, eqb, ltb, List, [], ◌∷◌, ◌++◌, length, take, drop, Option, Some, None, Result, Ok, Err, refl, sym, ap, subst, ◌∙◌, take-append-drop, arith}
use Rattle.std.proofs.lemmas.List.{length-drop, length-append, take_all}
use Rattle.std.specs.List.{prefix_len}
use Rattle.std.specs.Char.{is_ascii_hexdigit}
use Rattle.std.proofs.lemmas.Bool.{eqb-false, ltb-true, ltb-false, eqb-true}
use Rattle.std.proofs.lemmas.List.Sums.{prefix_len-le-length}
use Rattle.std.proofs.Math.Seq.{drop-append_seam}
use Rattle.rules_text.specs.nodes.Tree.{Tree}
use Rattle.rules_text.specs.declared.text.TextKind.TheVariants.{BadString, BadBytes, BadNumber, TooLong, BadChar, Unclosed, Unexpected, TooDeep}
use Rattle.rules_text.specs.text.Text.{EndsAt, IsLimit, IsStatementLimit, IsFileLimit, IsFault, IsNode}
use Rattle.rules_text.specs.declared.text.TextKind.{TextKind}
use Rattle.mich_base.specs.View.{tree}
use Rattle.mich_text.specs.Plain as plain
use Rattle.mich_text.specs.Shown.{Counts, IsOpenBytes}
use Rattle.mich_text.specs.Limited.{IsOnly, IsUpTo}
use Rattle.mich_text.specs.Results.{EndsClosed, IsRead, IsLimitedRead}
use Rattle.mich_text.specs.declared.plain.Found.{Found}
use Rattle.mich_text.specs.declared.fault.LexError.{LexError}
use Rattle.mich_text.specs.declared.fault.LexError.TheVariants as errors
use Rattle.mich_text.proofs.limits.LastByte.{none_before_fault}
use Rattle.mich_text.proofs.limits.Limited.{Counted, fault_kept, node_kept}
use Rattle.mich_text.proofs.limits.OddBytes.{bytes_flaw, past_node, past_end, past_fault, misplaced_fault}
use Rattle.mich_text.proofs.limits.Past.{NoneClosed, NoneBefore, NoneEnds, none_holds, past, long, none_at_end, none_stands, none_closed}
use Rattle.mich_text.proofs.limits.Unlimited.{fault_same, node_same, end_same}
use Rattle.mich_text.proofs.readings.Unique.{one_statement}
use Rattle.mich_text.proofs.tokens.Flaws.{unclosed_left}
use Rattle.mich_text.proofs.tokens.Odd.{IsOdd, is_odd, bytes_left}
use Rattle.mich_text.proofs.tokens.Suffix.{leads_end}

-- ---- a token's own bytes

-- the bytes of a front from a token on
here_is : (front pre here : List ℕ) (left : ℕ) → front ≡ pre ++ here → left ≡ length here → drop (length front - left) front ≡ here
here_is front pre here left e n =
    let count : length front - left ≡ length pre = omega (arith, ap (λ (l : List ℕ). length l) e, length-append pre here, n) in
    ap (λ (k : ℕ). drop k front) count ∙ ap (drop (length pre)) e ∙ drop-append_seam pre here

-- its bytes stand at the end of the front
ends_front : (front : List ℕ) (left : ℕ) → (p : plain.IsFlawedWithoutLimits front BadBytes left) → drop (length front - left) front ≡ p.here
ends_front front left p =
    let s = leads_end front p.before p.here p.leads in here_is front s.0 p.here left s.1 (bytes_left p.here left p.wrong)

-- a flaw of the front counts, but of bytes whose digits go on
counts : (front : List ℕ) (k : TextKind) (left : ℕ) → 1 < left → (p : plain.IsFlawedWithoutLimits front k left)
    → (IsOpenBytes (drop (length front - left) front) k → ⊥) → Counts p.here k
counts front BadChar left far p closed = tt
counts front BadString left far p closed = tt
counts front BadBytes left far p closed = by (ltb n (length (drop 2 p.here))) refl where
  n : ℕ
  n = prefix_len is_ascii_hexdigit (drop 2 p.here)

  by : (b : Bool) → ltb n (length (drop 2 p.here)) ≡ b → n < length (drop 2 p.here)
  by true e = ltb-true n (length (drop 2 p.here)) e
  by false e =
      let all : n ≡ length (drop 2 p.here) = omega (
        arith,
        ltb-false n (length (drop 2 p.here)) e,
        prefix_len-le-length is_ascii_hexdigit (drop 2 p.here),
      ) in
      absurd (closed (
        refl,
        subst (λ (l : List ℕ). prefix_len is_ascii_hexdigit (drop 2 l) ≡ length (drop 2 l))
            (sym (ends_front front left p)) all,
      ))
counts front BadNumber left far p closed = tt
counts front Unclosed left far p closed = absurd (omega (arith, far, unclosed_left p.here left p.wrong))
counts front Unexpected left far p closed = tt
counts front TooDeep left far p closed = tt
counts front TooLong left far p closed = tt

counted : (front : List ℕ) (k : TextKind) (left : ℕ) → 1 < left → (h : plain.HoldsWithoutLimits front k left)
    → (IsOpenBytes (drop (length front - left) front) k → ⊥) → Counted h
counted front k left far (plain.flawed p) closed = counts front k left far p closed
counted front k left far (plain.in_comment p) closed = omega (arith, far, p.left_is)
counted front k left far (plain.is_open p) closed = omega (arith, far, p.left_is)
counted front k left far (plain.unexpected p) closed = tt
counted front k left far (plain.too_deep p) closed = tt

-- ---- the front

-- the end of the front, where a statement has no `;`
end_zero : (rest : List ℕ) (end : ℕ) → rest ≡ [] → EndsAt rest end → end ≡ 0
end_zero [] end e p = p
end_zero (c ∷ rest) end e p = absurd (omega (arith, ap (λ (l : List ℕ). length l) e))

-- a text whose front ends with the first byte past a limit
record IsCut (before : ℕ) (front more : List ℕ) (ends_file : Bool) : Type 0 where
  limit : IsLimit before (front ++ more) (1 + length more)
  last : (other : ℕ) → IsLimit before (front ++ more) other → other ≤ 1 + length more
  file : ends_file ≡ true → IsFileLimit before (front ++ more) (1 + length more)
  no_file : ends_file ≡ false → IsFileLimit before (front ++ more) (1 + length more) → ⊥

module _ (before : ℕ) (front more : List ℕ) (ends_file : Bool) (c : IsCut before front more ends_file) where
  -- it goes on past its limit
  goes_past : NoneClosed front → NoneBefore front → NoneEnds front → IsFault before (front ++ more) TooLong (1 + length more)
  goes_past closed none ends =
      past before front more (1 + length more) c.limit refl c.last (long before front more (1 + length more) c.limit refl c.last closed)
      (none_holds before front more (1 + length more) c.limit refl c.last none) ends

  cut_end : plain.IsEndWithoutLimits front → IsFault before (front ++ more) TooLong (1 + length more)
  cut_end e = let x = none_at_end front e in goes_past x.1 x.0 (none_stands front e)

  -- a statement that has no `;`, or that has it at the file's limit
  node_ends : (t : Tree) (start end : ℕ) → plain.IsNodeWithoutLimits front t start end → end ≡ 0 → NoneEnds front
  node_ends t start end n e x a b q = sym (one_statement front t x start end a b n.stands q).2 ∙ e

  cut_open : (t : Tree) (start end : ℕ) (n : plain.IsNodeWithoutLimits front t start end) → n.stands.rest ≡ []
      → IsFault before (front ++ more) TooLong (1 + length more)
  cut_open t start end n e =
      let nothing : end ≡ 0 = end_zero n.stands.rest end e n.stands.ends in
      goes_past (none_closed front t start end n.stands e) (λ k left h. omega (arith, n.clean k left h, nothing))
      (node_ends t start end n nothing)

  cut_file : (t : Tree) (start end : ℕ) (n : plain.IsNodeWithoutLimits front t start end) → ends_file ≡ true → end ≡ 0
      → IsFault before (front ++ more) TooLong (1 + length more)
  cut_file t start end n f nothing =
      past before front more (1 + length more) c.limit refl c.last (inr (c.file f))
      (none_holds before front more (1 + length more) c.limit refl c.last (λ k left h. omega (arith, n.clean k left h, nothing)))
      (node_ends t start end n nothing)

  cut_node : (t : Tree) (start end : ℕ) (n : plain.IsNodeWithoutLimits front t start end) → 0 < length n.stands.rest
      → (0 < end) ⊎ (ends_file ≡ false) → IsNode before (front ++ more) t (start + length more) (end + length more)
  cut_node t start end n some h = node_kept before front more (1 + length more) c.limit refl c.last t start end n some (by h) where
    by : (0 < end) ⊎ (ends_file ≡ false) → (0 < end) ⊎ (IsFileLimit before (front ++ more) (1 + length more) → ⊥)
    by (inl g) = inl g
    by (inr g) = inr (c.no_file g)

  -- a fault at the limit, or behind it
  cut_late : (k : TextKind) (left : ℕ) → left ≤ 1 → plain.IsFaultWithoutLimits front k left
      → IsFault before (front ++ more) TooLong (1 + length more)
  cut_late k left near p =
      goes_past (none_before_fault front k left near p) (λ j other h. by j other (p.first j other h))
      (λ t start end s. omega (arith, p.within t start end s, near)) where
        by : (j : TextKind) (other : ℕ) → (other < left) ⊎ ((other ≡ left) × (plain.rank_without_limits k ≤ plain.rank_without_limits j))
            → other ≤ 1
        by j other (inl g) = omega (arith, g, near)
        by j other (inr g) = omega (arith, g.0, near)

  cut_fault : (k : TextKind) (left : ℕ) → 1 < left → plain.IsFaultWithoutLimits front k left
      → (IsOpenBytes (drop (length front - left) front) k → ⊥) → IsFault before (front ++ more) k (left + length more)
  cut_fault k left far p closed =
      fault_kept before front more (1 + length more) c.limit refl c.last k left far p (counted front k left far p.holds closed)

-- bytes whose digits go on to the limit
module _ (before : ℕ) (short : List ℕ) (l : ℕ) (more : List ℕ) (ends_file : Bool) (c : IsCut before (short ++ l ∷ []) more ends_file)
    (left : ℕ) (far : 1 < left) (p : plain.IsFaultWithoutLimits (short ++ l ∷ []) BadBytes left)
    (o : IsOpenBytes (drop (length (short ++ l ∷ []) - left) (short ++ l ∷ [])) BadBytes) where
  flaw_there : plain.IsFlawedWithoutLimits (short ++ l ∷ []) BadBytes left
  flaw_there = bytes_flaw (short ++ l ∷ []) left p.holds

  odd : IsOdd flaw_there.here
  odd =
      is_odd flaw_there.here left flaw_there.wrong (subst (λ (x : List ℕ). prefix_len is_ascii_hexdigit (drop 2 x) ≡ length (drop 2 x))
      (ends_front (short ++ l ∷ []) left flaw_there) o.1)

  cut_misplaced : (k : TextKind) (other : ℕ) → plain.IsFaultWithoutLimits short k other → other + 1 ≡ left
      → IsFault before ((short ++ l ∷ []) ++ more) k (left + length more)
  cut_misplaced = misplaced_fault before short l more (1 + length more) c.limit refl c.last left far p flaw_there odd

  cut_elsewhere : (k : TextKind) (other : ℕ) → plain.IsFaultWithoutLimits short k other → (other + 1 ≡ left → ⊥)
      → IsFault before ((short ++ l ∷ []) ++ more) TooLong (1 + length more)
  cut_elsewhere = past_fault before short l more (1 + length more) c.limit refl c.last left far p flaw_there odd

  cut_read : (r : Option Found) → IsRead short (Ok r) → IsFault before ((short ++ l ∷ []) ++ more) TooLong (1 + length more)
  cut_read None e = past_end before short l more (1 + length more) c.limit refl c.last left far p flaw_there odd e
  cut_read (Some found) n =
      past_node before short l more (1 + length more) c.limit refl c.last left far p flaw_there odd
      (tree found.node) found.start found.end n.0

-- ---- the text

module _ (before : ℕ) (text front : List ℕ) (behind : ℕ) (ends_file : Bool) (u : IsUpTo before text front behind ends_file) where
  is_cut : IsCut before front u.more ends_file
  is_cut = record {
    limit =
        subst (λ (n : ℕ). IsLimit before (front ++ u.more) (1 + n)) u.behind_is
        (subst (λ (t : List ℕ). IsLimit before t (1 + behind)) u.text_is u.limit);
    last = λ other l. omega (arith, u.last other (subst (λ (t : List ℕ). IsLimit before t other) (sym u.text_is) l), u.behind_is);
    file =
        λ e. subst (λ (n : ℕ). IsFileLimit before (front ++ u.more) (1 + n)) u.behind_is
        (subst (λ (t : List ℕ). IsFileLimit before t (1 + behind)) u.text_is (u.file e));
    no_file =
        λ e l. u.no_file e (subst (λ (t : List ℕ). IsFileLimit before t (1 + behind)) (sym u.text_is)
        (subst (λ (n : ℕ). IsFileLimit before (front ++ u.more) (1 + n)) (sym u.behind_is) l));
  }

  back : (P : List ℕ → ℕ → Type 0) → P (front ++ u.more) (length u.more) → P text behind
  back P h = subst (P text) (sym u.behind_is) (subst (λ (t : List ℕ). P t (length u.more)) (sym u.text_is) h)

  pub long_end : plain.IsEndWithoutLimits front → IsFault before text TooLong (1 + behind)
  long_end e = back (λ t n. IsFault before t TooLong (1 + n)) (cut_end before front u.more ends_file is_cut e)

  pub long_open : (found : Found) → IsRead front (Ok (Some found)) → found.closed ≡ false → IsFault before text TooLong (1 + behind)
  long_open found n e =
      back (λ t n. IsFault before t TooLong (1 + n)) (cut_open before front u.more ends_file is_cut
      (tree found.node) found.start found.end n.0 (subst (λ (b : Bool). EndsClosed b n.0.stands.rest) e n.1))

  pub long_file : (found : Found) → IsRead front (Ok (Some found)) → ends_file ≡ true → found.end ≡ 0
      → IsFault before text TooLong (1 + behind)
  long_file found n e nothing =
      back (λ t n. IsFault before t TooLong (1 + n))
      (cut_file before front u.more ends_file is_cut (tree found.node) found.start found.end n.0 e nothing)

  pub kept_node : (found : Found) → IsRead front (Ok (Some found)) → found.closed ≡ true → (0 < found.end) ⊎ (ends_file ≡ false)
      → IsNode before text (tree found.node) (found.start + behind) (found.end + behind)
  kept_node found n e h =
      back (λ t n. IsNode before t (tree found.node) (found.start + n) (found.end + n)) (cut_node before front u.more ends_file is_cut
      (tree found.node) found.start found.end n.0 (subst (λ (b : Bool). EndsClosed b n.0.stands.rest) e n.1) h)

  pub long_late : (k : TextKind) (left : ℕ) → left ≤ 1 → plain.IsFaultWithoutLimits front k left → IsFault before text TooLong (1 + behind)
  long_late k left near p = back (λ t n. IsFault before t TooLong (1 + n)) (cut_late before front u.more ends_file is_cut k left near p)

  pub kept_fault : (k : TextKind) (left : ℕ) → 1 < left → plain.IsFaultWithoutLimits front k left
      → (IsOpenBytes (drop (length front - left) front) k → ⊥) → IsFault before text k (left + behind)
  kept_fault k left far p closed =
      back (λ t n. IsFault before t k (left + n)) (cut_fault before front u.more ends_file is_cut k left far p closed)

-- what the text is, by the front without its last byte
abbrev pub ShortTells : (before : ℕ) (left behind : ℕ) → List ℕ → List ℕ → Type 0
ShortTells before left behind text short =
    ((k : TextKind) (other : ℕ) → plain.IsFaultWithoutLimits short k other → other + 1 ≡ left → IsFault before text k (left + behind))
    × ((k : TextKind) (other : ℕ) → plain.IsFaultWithoutLimits short k other → (other + 1 ≡ left → ⊥) → IsFault before text TooLong
    (1 + behind))
    × ((r : Option Found) → IsRead short (Ok r) → IsFault before text TooLong (1 + behind))

last_of : (front : List ℕ) → 0 < length front → (l : ℕ) × (front ≡ take (length front - 1) front ++ l ∷ [])
last_of front h = by (drop (length front - 1) front) refl where
  by : (end : List ℕ) → drop (length front - 1) front ≡ end → (l : ℕ) × (front ≡ take (length front - 1) front ++ l ∷ [])
  by [] e = absurd (omega (arith, length-drop (length front - 1) front, ap (λ (x : List ℕ). length x) e, h))
  by (l ∷ []) e = (l, sym (take-append-drop (length front - 1) front) ∙ ap (λ (x : List ℕ). take (length front - 1) front ++ x) e)
  by (l ∷ m ∷ end) e = absurd (omega (arith, length-drop (length front - 1) front, ap (λ (x : List ℕ). length x) e, h))

pub open_tells : (before : ℕ) (text front : List ℕ) (behind : ℕ) (ends_file : Bool) → IsUpTo before text front behind ends_file → (left : ℕ)
    → 1 < left → left ≤ length front → plain.IsFaultWithoutLimits front BadBytes left
    → IsOpenBytes (drop (length front - left) front) BadBytes → ShortTells before left behind text (take (length front - 1) front)
open_tells before text front behind ends_file u left far fits p o =
    let l = last_of front (omega (arith, far, fits)) in
    by (take (length front - 1) front) l.0 front l.1 u p o
  where
    by : (short : List ℕ) (l : ℕ) (f : List ℕ) → f ≡ short ++ l ∷ [] → IsUpTo before text f behind ends_file
        → plain.IsFaultWithoutLimits f BadBytes left → IsOpenBytes (drop (length f - left) f) BadBytes
        → ShortTells before left behind text short
    by short l f e =
        subst (λ (x : List ℕ). IsUpTo before text x behind ends_file → plain.IsFaultWithoutLimits x BadBytes left
        → IsOpenBytes (drop (length x - left) x) BadBytes → ShortTells before left behind text short) (sym e)
        (λ v q b. let cut = is_cut before text (short ++ l ∷ []) behind ends_file v in (
          (λ k other g there. back before text (short ++ l ∷ []) behind ends_file v (λ t n. IsFault before t k (left + n))
              (cut_misplaced before short l v.more ends_file cut left far q b k other g there)),
          (λ k other g elsewhere. back before text (short ++ l ∷ []) behind ends_file v (λ t n. IsFault before t TooLong (1 + n))
              (cut_elsewhere before short l v.more ends_file cut left far q b k other g elsewhere)),
          (λ r g. back before text (short ++ l ∷ []) behind ends_file v (λ t n. IsFault before t TooLong (1 + n))
              (cut_read before short l v.more ends_file cut left far q b r g)),
        ))

-- ---- where the limits lie

-- no limit lies in the text
no_limit : (before : ℕ) (text : List ℕ) (statement file : ℕ) → IsOnly (IsStatementLimit text) statement
    → IsOnly (IsFileLimit before text) file → max statement file ≡ 0 → (limit : ℕ) → IsLimit before text limit → ⊥
no_limit before text statement file s f e limit (inl x) = omega (arith, s.1 limit x, x.some, e)
no_limit before text statement file s f e limit (inr x) = omega (arith, f.1 limit x, x.some, e)

pub unlimited : (before : ℕ) (text : List ℕ) (statement file : ℕ) → IsOnly (IsStatementLimit text) statement
    → IsOnly (IsFileLimit before text) file → max statement file ≡ 0 → (r : Result (Option Found) LexError) → IsRead text r
    → IsLimitedRead before text r
unlimited before text statement file s f e r p = by r p where
  none : (limit : ℕ) → IsLimit before text limit → ⊥
  none = no_limit before text statement file s f e

  by : (r : Result (Option Found) LexError) → IsRead text r → IsLimitedRead before text r
  by (Ok None) p = end_same before text none p
  by (Ok (Some found)) p = node_same before text none (tree found.node) found.start found.end p.0
  by (Err errors.Memory) p = tt
  by (Err (errors.Flaw d)) p = fault_same before text none d.kind d.left p

-- the larger one is the first
first_limit : (before : ℕ) (text : List ℕ) (statement file : ℕ) → IsOnly (IsStatementLimit text) statement
    → IsOnly (IsFileLimit before text) file → 0 < max statement file → IsLimit before text (max statement file)
first_limit before text statement file s f some = by (ltb file statement) refl where
  by : (b : Bool) → ltb file statement ≡ b → IsLimit before text (max statement file)
  by true e =
      let larger : statement ≡ max statement file = omega (arith, ltb-true file statement e) in
      inl (subst (IsStatementLimit text) larger (s.0 (omega (arith, larger, some))))
  by false e =
      let larger : file ≡ max statement file = omega (arith, ltb-false file statement e) in
      inr (subst (IsFileLimit before text) larger (f.0 (omega (arith, larger, some))))

pub up_to : (before : ℕ) (text : List ℕ) (statement file left : ℕ) → IsOnly (IsStatementLimit text) statement
    → IsOnly (IsFileLimit before text) file → statement ≤ length text → file ≤ length text → left ≡ max statement file → 0 < left
    → IsUpTo before text (take (length text - (left - 1)) text) (left - 1) (eqb file left)
up_to before text statement file left s f ws wf most some =
    let same : left ≡ 1 + (left - 1) = omega (arith, some) in
    let cut = length text - (left - 1) in
    let first : IsLimit before text left = subst (IsLimit before text) (sym most)
    (first_limit before text statement file s f (omega (arith, most, some))) in
    record {
      more = drop cut text;
      text_is = sym (take-append-drop cut text);
      behind_is = omega (arith, length-drop cut text, ws, wf, most);
      limit = subst (IsLimit before text) same first;
      last = λ other l. last other l;
      file = λ e. subst (IsFileLimit before text) (eqb-true file left e ∙ same) (f.0 (omega (arith, eqb-true file left e, some)));
      no_file = λ e l. eqb-false file left e (sym (f.1 left (subst (IsFileLimit before text) (sym same) l)));
    }
  where
    last : (other : ℕ) → IsLimit before text other → other ≤ 1 + (left - 1)
    last other (inl x) = omega (arith, s.1 other x, most, some)
    last other (inr x) = omega (arith, f.1 other x, most, some)

-- ---- places

-- the bytes from a place on, as a slice
pub rest_all : (n : ℕ) (xs : List ℕ) → take (length xs - n) (drop n xs) ≡ drop n xs
rest_all n xs = take_all (length xs - n) (drop n xs) (omega (arith, length-drop n xs))
