-- Each text is a statement, a fault, or nothing but white space and comments.
use Rattle.std.proofs.Common.{◌≡◌, ℕ, zero, suc, ◌+◌, ◌-◌, ◌≤◌, ◌<◌, ◌⊎◌, inl, inr, max, Bool, true, false, eqb, ltb, List, [], ◌∷◌, ◌++◌, length, take, drop, Option, Some, None, Result, Ok, Err, rules, refl, sym, ap, ◌∙◌, subst, arith}
use Rattle.std.proofs.lemmas.Bool.{eqb-true, eqb-false, ltb-true, ltb-false}
use Rattle.std.specs.List.{prefix_len}
use Rattle.std.specs.Char.{is_ascii_hexdigit}
use Rattle.rules_text.specs.nodes.Limits.{depth_limit, statement_limit, file_limit}
use Rattle.rules_text.specs.nodes.Tree.{Tree, Trees}
use Rattle.rules_text.specs.text.Fault.{Flaw}
use Rattle.rules_text.specs.text.Lexical.{after_gap, token_at, first_shape}
use Rattle.rules_text.specs.text.Text.{IsStatementLimit, IsFileLimit}
use Rattle.rules_text.specs.text.Text as within
use Rattle.rules_text.specs.text.Token.{Token, token_shape}
use Rattle.rules_text.specs.declared.text.Shape.{Shape}
use Rattle.rules_text.specs.declared.text.TextKind.{TextKind}
use Rattle.rules_text.specs.declared.text.TextKind.TheVariants.{BadChar, BadString, BadBytes, BadNumber, Unclosed, Unexpected, TooDeep, TooLong}
use Rattle.mich_base.specs.View.{tree, trees}
use Rattle.mich_base.specs.declared.node.App.{App}
use Rattle.mich_base.specs.declared.node.Node.{Node}
use Rattle.mich_base.specs.declared.node.Node as nodes
use Rattle.mich_base.specs.declared.node.Node.TheVariants as node
use Rattle.mich_text.specs.Limited.{IsOnly, IsUpTo}
use Rattle.mich_text.specs.Machine.{Stack, Refusal, finish, has_statement, is_root, ready_for, refused, put, start, step}
use Rattle.mich_text.specs.Plain.{IsFaultWithoutLimits, IsNodeWithoutLimits, IsEndWithoutLimits}
use Rattle.mich_text.specs.Results.{EndsClosed, IsRead, Refuses, first_flaw, kind_of}
use Rattle.mich_text.specs.Shown.{IsOpenBytes}
use Rattle.mich_text.specs.declared.fault.LexError.TheVariants as errors
use Rattle.mich_text.specs.declared.plain.Found.{Found}
use Rattle.mich_text.proofs.ForCallers.{step_ok, long_end, long_open, long_file, kept_node, long_late, kept_fault, open_tells, unlimited, up_to, begun, refuses, gap_le, token_shape_is, token_shorter, At, bad_char, own_flaw, refused_place, at_next, closed_node, comment_behind, comment_first, nothing_here, open_at_end, unclosed_node, NoStatement, still_none}

-- ---- the code's node of a tree

tree_int : (n : _) → tree (node.Int n) ≡ Tree.int n
tree_int n = search (rules, nodes.the_lemmas)

tree_str : (s : List ℕ) → tree (node.Str s) ≡ Tree.str s
tree_str s = search (rules, nodes.the_lemmas)

tree_bytes : (b : List ℕ) → tree (node.Bytes b) ≡ Tree.bytes b
tree_bytes b = search (rules, nodes.the_lemmas)

tree_prim : (a : App) → tree (node.Prim a) ≡ Tree.prim a.name a.annots (trees a.args)
tree_prim a = search (rules, nodes.the_lemmas)

tree_seq : (ns : List Node) → tree (node.Seq ns) ≡ Tree.seq (trees ns)
tree_seq ns = search (rules, nodes.the_lemmas)

mutual
  node_of : (t : Tree) → (n : Node) × (tree n ≡ t)
  node_of (Tree.int n) = (node.Int n, tree_int n)
  node_of (Tree.str s) = (node.Str s, tree_str s)
  node_of (Tree.bytes b) = (node.Bytes b, tree_bytes b)
  node_of (Tree.prim name annots ts) =
      let ns = nodes_of ts in
      let a : App = record { name = name; annots = annots; args = ns.0 } in
      (node.Prim a, tree_prim a ∙ ap (Tree.prim name annots) ns.1)
  node_of (Tree.seq ts) = let ns = nodes_of ts in (node.Seq ns.0, tree_seq ns.0 ∙ ap Tree.seq ns.1)

  nodes_of : (ts : Trees) → (ns : List Node) × (trees ns ≡ ts)
  nodes_of Trees.none = ([], refl)
  nodes_of (Trees.more t ts) =
      let n = node_of t in
      let ns = nodes_of ts in
      (n.0 ∷ ns.0, ap (λ (x : Tree). Trees.more x (trees ns.0)) n.1 ∙ ap (Trees.more t) ns.1)

-- ---- texts of which no limit is looked at

-- what a text is
data Plain (text : List ℕ) : Type 0 where
  found : (f : Found) → IsRead text (Ok (Some f)) → Plain text
  fault : (kind : TextKind) (left : ℕ) → IsFaultWithoutLimits text kind left → Plain text
  nothing : IsEndWithoutLimits text → Plain text

found_node : (text : List ℕ) (t : Tree) (start end : ℕ) (closed : Bool) → ((n : IsNodeWithoutLimits text t start end) × EndsClosed closed n.stands.rest) → Plain text
found_node text t start end closed p =
    let n = node_of t in
    let f : Found = record { node = n.0; start = start; end = end; closed = closed } in
    found f (subst (λ (x : Tree). (m : IsNodeWithoutLimits text x start end) × EndsClosed closed m.stands.rest) (sym n.1) p)

-- where all tokens were taken
at_end : (text first : List ℕ) (s : Stack) → after_gap text ≡ Some first → (ts : List Token) × At text ts [] s → Plain text
at_end text first s g at = by (has_statement (finish s)) refl where
  open_or_not : (b : Bool) → is_root (finish s) ≡ b → has_statement (finish s) ≡ false → Plain text
  open_or_not true r h = nothing (nothing_here text at.0 s at.1 r h)
  open_or_not false r h = fault Unclosed 0 (open_at_end text at.0 s at.1 r)

  by : (b : Bool) → has_statement (finish s) ≡ b → Plain text
  by true h = found_node text _ (length first) 0 false (unclosed_node text at.0 s at.1 first (Tree.seq Trees.none) g h)
  by false h = open_or_not (is_root (finish s)) refl h

is_semicolon : (t : Token) → (t ≡ Token.semicolon) ⊎ (t ≡ Token.semicolon → ⊥)
is_semicolon (Token.number n) = inr (λ e. cc)
is_semicolon (Token.bytes b) = inr (λ e. cc)
is_semicolon (Token.string b) = inr (λ e. cc)
is_semicolon (Token.name b) = inr (λ e. cc)
is_semicolon (Token.annotation b) = inr (λ e. cc)
is_semicolon Token.open_brace = inr (λ e. cc)
is_semicolon Token.close_brace = inr (λ e. cc)
is_semicolon Token.open_paren = inr (λ e. cc)
is_semicolon Token.close_paren = inr (λ e. cc)
is_semicolon Token.semicolon = inl refl

-- where a token is taken: the parser goes on, or the statement ends
data Moved (text here : List ℕ) : Type 0 where
  ended : Plain text → Moved text here
  on : (next : List ℕ) (s : Stack) → length next < length here → ((ts : List Token) × At text ts next s) → Moved text here

module _ (text here first : List ℕ) (s : Stack) (g : after_gap text ≡ Some first) (some : 0 < length here) (at : (ts : List Token) × At text ts here s) where
  refused_by : (f : Flaw) → Refuses here s f → Moved text here
  refused_by f r = ended (fault f.kind f.left (refuses text here s at f some r))

  module _ (t : Token) (behind : List ℕ) (e : token_at here ≡ Ok (t, behind)) (fits : refused depth_limit (ready_for (token_shape t) s) (token_shape t) ≡ None) where
    went : step depth_limit s t ≡ Ok (put t (ready_for (token_shape t) s))
    went = step_ok depth_limit s t fits

    goes_on : NoStatement (at.0 ++ t ∷ []) → Moved text here
    goes_on lacks = by (after_gap behind) refl where
      by : (o : Option (List ℕ)) → after_gap behind ≡ o → Moved text here
      by None gap = ended (fault Unclosed 0 (comment_behind text at.0 here s (put t (ready_for (token_shape t) s)) behind t at.1 e went gap lacks))
      by (Some next) gap =
          on next (put t (ready_for (token_shape t) s)) (omega (arith, token_shorter here behind t e, gap_le behind next gap))
          (at.0 ++ t ∷ [], at_next text at.0 here s at.1 behind t e (put t (ready_for (token_shape t) s)) went next gap lacks)

    lacks_by : (t ≡ Token.semicolon → has_statement (finish s) ≡ false) → NoStatement (at.0 ++ t ∷ [])
    lacks_by none = still_none depth_limit s at.0 t at.1.runs at.1.lacks none

    closes : has_statement (finish s) ≡ true → t ≡ Token.semicolon → Moved text here
    closes h is =
        ended (found_node text _ (length first) (length behind) true
        (closed_node text at.0 here s (put t (ready_for (token_shape t) s)) first behind (Tree.seq Trees.none) at.1 some g (subst (λ (u : Token). token_at here ≡ Ok (u, behind)) is e)
        (subst (λ (u : Token). step depth_limit s u ≡ Ok (put t (ready_for (token_shape t) s))) is went) h))

    takes : Moved text here
    takes = by (has_statement (finish s)) refl where
      by : (b : Bool) → has_statement (finish s) ≡ b → Moved text here
      by false h = goes_on (lacks_by (λ is. h))
      by true h = elim (is_semicolon t) [
        | inl is ↦ closes h is
        | inr other ↦ goes_on (lacks_by (λ is. absurd (other is)))
      ]

  moves : (r : Result (Token × List ℕ) Flaw) → token_at here ≡ r → (o : Option Shape) → first_shape here ≡ o → Moved text here
  moves (Ok (t, behind)) e o f = by (refused depth_limit (ready_for (token_shape t) s) (token_shape t)) refl where
    by : (x : Option Refusal) → refused depth_limit (ready_for (token_shape t) s) (token_shape t) ≡ x → Moved text here
    by None fits = takes t behind e fits
    by (Some r) h = refused_by (record { kind = kind_of r; left = length here }) (refused_place here behind s t (token_shape t) r e (token_shape_is here t behind e) h)
  moves (Err own) e (Some shape) f =
      refused_by (first_flaw own (refused depth_limit (ready_for shape s) shape) (length here)) (own_flaw here s own shape (refused depth_limit (ready_for shape s) shape) e f refl)
  moves (Err own) e None f = none_there here s some f refused_by where
    none_there : (l : List ℕ) (z : Stack) → 0 < length l → first_shape l ≡ None → ((d : Flaw) → Refuses l z d → Moved text here) → Moved text here
    none_there [] z h k done = absurd (omega (arith, h))
    none_there (c ∷ rest) z h k done = done (record { kind = BadChar; left = length (c ∷ rest) }) (bad_char (c ∷ rest) z h k)

read_on : (n : ℕ) (text here first : List ℕ) (s : Stack) → after_gap text ≡ Some first → length here ≤ n → (ts : List Token) × At text ts here s → Plain text
read_on n text [] first s g h at = at_end text first s g at
read_on zero text (c ∷ here) first s g h at = absurd (omega (arith, h))
read_on (suc n) text (c ∷ here) first s g h at = elim (moves text (c ∷ here) first s g (omega arith) at (token_at (c ∷ here)) refl (first_shape (c ∷ here)) refl) [
  | ended p ↦ p
  | on next r less more ↦ read_on n text next first r g (omega (arith, less, h)) more
]

plain : (text : List ℕ) → Plain text
plain text = by (after_gap text) refl where
  by : (o : Option (List ℕ)) → after_gap text ≡ o → Plain text
  by None g = fault Unclosed 0 (comment_first text g)
  by (Some first) g = read_on (length first) text first first start g (omega arith) (begun text first start (sym g) refl)

-- ---- texts within limits

pub data Readable (before : ℕ) (text : List ℕ) : Type 0 where
  is_node : (t : Tree) (start end : ℕ) → within.IsNode before text t start end → Readable before text
  is_fault : (kind : TextKind) (left : ℕ) → within.IsFault before text kind left → Readable before text
  is_end : within.IsEnd before text → Readable before text

-- how many bytes are left at the limit of the statement, or 0
statement_left : (text : List ℕ) → (n : ℕ) × IsOnly (IsStatementLimit text) n × (n ≤ length text)
statement_left text = by (after_gap text) refl where
  same_first : (a b : List ℕ) → Some a ≡ Some b → a ≡ b
  same_first a b e = cc

  no_first : (a : List ℕ) → None ≡ Some a → ⊥
  no_first a e = absurd cc

  by : (o : Option (List ℕ)) → after_gap text ≡ o → (n : ℕ) × IsOnly (IsStatementLimit text) n × (n ≤ length text)
  by None g = (0, (λ h. absurd (omega (arith, h)), λ m l. absurd (no_first l.first (sym g ∙ l.begins))), omega arith)
  by (Some first) g = (
    length first - statement_limit,
    (
      (λ h. record { first = first; begins = g; left_is = omega (arith, h); some = h }),
      λ m l. omega (arith, l.left_is, l.some, ap (λ (x : List ℕ). length x) (same_first first l.first (sym g ∙ l.begins))),
    ),
    omega (arith, gap_le text first g),
  )

-- and at the limit of the file
file_left : (before : ℕ) (text : List ℕ) → (n : ℕ) × IsOnly (IsFileLimit before text) n × (n ≤ length text)
file_left before text = by (ltb file_limit before) refl where
  by : (b : Bool) → ltb file_limit before ≡ b → (n : ℕ) × IsOnly (IsFileLimit before text) n × (n ≤ length text)
  by false e =
      let low : before ≤ file_limit = ltb-false file_limit before e in (
        before + length text - file_limit,
        (
          (λ h. record { left_is = omega (arith, h); some = h; here = omega (arith, h, low) }),
          λ m l. omega (arith, l.left_is, l.some),
        ),
        omega (arith, low),
      )
  by true e =
      let high : file_limit < before = ltb-true file_limit before e in
      (0, (λ h. absurd (omega (arith, h)), λ m l. absurd (omega (arith, l.left_is, l.here, high))), omega arith)

-- whether bytes have digits to their end
open_or_not : (text : List ℕ) (kind : TextKind) → IsOpenBytes text kind ⊎ (IsOpenBytes text kind → ⊥)
open_or_not text BadBytes = by (eqb (prefix_len is_ascii_hexdigit (drop 2 text)) (length (drop 2 text))) refl where
  by : (b : Bool) → eqb (prefix_len is_ascii_hexdigit (drop 2 text)) (length (drop 2 text)) ≡ b → IsOpenBytes text BadBytes ⊎ (IsOpenBytes text BadBytes → ⊥)
  by true e = inl (refl, eqb-true _ _ e)
  by false e = inr (λ p. eqb-false _ _ e p.1)
open_or_not text BadChar = inr (λ p. absurd (other p.0)) where
  other : BadChar ≡ BadBytes → ⊥
  other e = cc
open_or_not text BadString = inr (λ p. absurd (other p.0)) where
  other : BadString ≡ BadBytes → ⊥
  other e = cc
open_or_not text BadNumber = inr (λ p. absurd (other p.0)) where
  other : BadNumber ≡ BadBytes → ⊥
  other e = cc
open_or_not text Unclosed = inr (λ p. absurd (other p.0)) where
  other : Unclosed ≡ BadBytes → ⊥
  other e = cc
open_or_not text Unexpected = inr (λ p. absurd (other p.0)) where
  other : Unexpected ≡ BadBytes → ⊥
  other e = cc
open_or_not text TooDeep = inr (λ p. absurd (other p.0)) where
  other : TooDeep ≡ BadBytes → ⊥
  other e = cc
open_or_not text TooLong = inr (λ p. absurd (other p.0)) where
  other : TooLong ≡ BadBytes → ⊥
  other e = cc

-- a text by its front up to a limit
module _ (before : ℕ) (text front : List ℕ) (behind : ℕ) (ends_file : Bool) (u : IsUpTo before text front behind ends_file) where
  by_found : (f : Found) → IsRead front (Ok (Some f)) → Readable before text
  by_found f p = by f.closed refl where
    kept : f.closed ≡ true → (0 < f.end) ⊎ (ends_file ≡ false) → Readable before text
    kept e h = is_node (tree f.node) (f.start + behind) (f.end + behind) (kept_node before text front behind ends_file u f p e h)

    at_file : (b : Bool) → ends_file ≡ b → (n : ℕ) → f.end ≡ n → f.closed ≡ true → Readable before text
    at_file false e n z c = kept c (inr e)
    at_file true e zero z c = is_fault TooLong (1 + behind) (long_file before text front behind ends_file u f p e z)
    at_file true e (suc n) z c = kept c (inl (omega (arith, z)))

    by : (b : Bool) → f.closed ≡ b → Readable before text
    by false e = is_fault TooLong (1 + behind) (long_open before text front behind ends_file u f p e)
    by true e = at_file ends_file refl f.end refl e

  by_fault : (kind : TextKind) (left : ℕ) → left ≤ length front → IsFaultWithoutLimits front kind left → Readable before text
  by_fault kind left fits p = by (ltb 1 left) refl where
    by_short : (k : TextKind) (other : ℕ) → IsFaultWithoutLimits (take (length front - 1) front) k other → (far : 1 < left) → IsFaultWithoutLimits front BadBytes left →
        IsOpenBytes (drop (length front - left) front) BadBytes → Readable before text
    by_short k other q far b o =
        let tells = open_tells before text front behind ends_file u left far fits b o in
        here (eqb (other + 1) left) refl tells.0 tells.1
      where
        here : (x : Bool) → eqb (other + 1) left ≡ x →
            ((j : TextKind) (m : ℕ) → IsFaultWithoutLimits (take (length front - 1) front) j m → m + 1 ≡ left → within.IsFault before text j (left + behind)) →
            ((j : TextKind) (m : ℕ) → IsFaultWithoutLimits (take (length front - 1) front) j m → (m + 1 ≡ left → ⊥) → within.IsFault before text TooLong (1 + behind)) → Readable before text
        here true e at elsewhere = is_fault k (left + behind) (at k other q (eqb-true _ _ e))
        here false e at elsewhere = is_fault TooLong (1 + behind) (elsewhere k other q (eqb-false _ _ e))

    by_digits : (far : 1 < left) → IsFaultWithoutLimits front BadBytes left → IsOpenBytes (drop (length front - left) front) BadBytes → Readable before text
    by_digits far b o = without (plain (take (length front - 1) front)) where
      without : Plain (take (length front - 1) front) → Readable before text
      without (found f q) = is_fault TooLong (1 + behind) ((open_tells before text front behind ends_file u left far fits b o).2 (Some f) q)
      without (fault k other q) = by_short k other q far b o
      without (nothing q) = is_fault TooLong (1 + behind) ((open_tells before text front behind ends_file u left far fits b o).2 None q)

    by : (b : Bool) → ltb 1 left ≡ b → Readable before text
    by false e = is_fault TooLong (1 + behind) (long_late before text front behind ends_file u kind left (ltb-false 1 left e) p)
    by true e =
        let far : 1 < left = ltb-true 1 left e in
        elim (open_or_not (drop (length front - left) front) kind) [
          | inl o ↦ by_digits far (subst (λ (k : TextKind). IsFaultWithoutLimits front k left) o.0 p) (refl, o.1)
          | inr closed ↦ is_fault kind (left + behind) (kept_fault before text front behind ends_file u kind left far p closed)
        ]

  by_front : Plain front → Readable before text
  by_front (found f p) = by_found f p
  by_front (fault kind left p) = by_fault kind left (Rattle.mich_text.proofs.ForCallers.holds_within front kind left p.holds) p
  by_front (nothing p) = is_fault TooLong (1 + behind) (long_end before text front behind ends_file u p)

pub readable : (before : ℕ) (text : List ℕ) → Readable before text
readable before text = by (max s.0 f.0) refl where
  s : (n : ℕ) × IsOnly (IsStatementLimit text) n × (n ≤ length text)
  s = statement_left text

  f : (n : ℕ) × IsOnly (IsFileLimit before text) n × (n ≤ length text)
  f = file_left before text

  free : max s.0 f.0 ≡ 0 → Plain text → Readable before text
  free none (found x p) = is_node (tree x.node) x.start x.end (unlimited before text s.0 f.0 s.1 f.1 none (Ok (Some x)) p)
  free none (fault kind left p) = is_fault kind left (unlimited before text s.0 f.0 s.1 f.1 none (Err (errors.Flaw (record { kind = kind; left = left }))) p)
  free none (nothing p) = is_end (unlimited before text s.0 f.0 s.1 f.1 none (Ok None) p)

  by : (n : ℕ) → max s.0 f.0 ≡ n → Readable before text
  by zero none = free none (plain text)
  by (suc n) e =
      by_front before text (take (length text - (suc n - 1)) text) (suc n - 1) (eqb f.0 (suc n))
      (up_to before text s.0 f.0 (suc n) s.1 f.1 s.2 f.2 (sym e) (omega arith)) (plain (take (length text - (suc n - 1)) text))
