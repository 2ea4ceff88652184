-- What has been read when a statement may end.
use Rattle.std.proofs.Common.{◌≡◌, ℕ, ◌≤◌, max, true, false, List, [], ◌∷◌, ◌++◌, length, Result, Ok, refl, sym, ap, ◌∙◌, append_assoc, arith, inl, inr, ◌⊎◌}
use Rattle.std.proofs.lemmas.List.{same_from_push, length-append}
use Rattle.rules_text.specs.nodes.Tree.{Tree}
use Rattle.rules_text.specs.text.Token.{Token}
use Rattle.rules_text.specs.text.Syntax.{Element, element_tokens, element_tree, element_depth, Separated, nothing, followed, separated_tokens, separated_trees, statements_depth, IsWhole, IsStatement}
use Rattle.mich_text.specs.Machine.{elements, named, paren, Stack, finish, is_root, has_statement, ended_tree, run, start}
use Rattle.mich_text.proofs.grammar.Complete.{statements_run, element_runs}
use Rattle.mich_text.proofs.grammar.Sound.{Spelt, finish_spelt}
use Rattle.mich_text.proofs.grammar.Fronts.{is_spelt, run_higher}

abbrev okay : Stack → Result Stack Rattle.mich_text.specs.Machine.Refusal
okay s = Ok s

same_state : (s r : Stack) → okay s ≡ okay r → s ≡ r
same_state s r e = cc

-- the statement's node, where the stack has one
statement_of : (limit : ℕ) (s : Stack) (ts : List Token) (d : Tree) → Spelt limit s ts → has_statement s ≡ true
    → IsStatement ts (ended_tree s d)
statement_of limit [] ts d p h = absurd cc
statement_of limit (elements true es r ∷ s) ts d p h = absurd cc
statement_of limit (elements false [] r ∷ s) ts d p h = absurd cc
statement_of limit (elements false (x ∷ []) true ∷ s) ts d p h = absurd cc
statement_of limit (elements false (x ∷ []) false ∷ []) ts d (before, nothing, e, below, tokens, stands, depth, on, high) h =
    record { element = e; tokens = rw (tokens, below) refl; stands = cc }
statement_of limit (elements false (x ∷ []) false ∷ []) ts d (before, followed y f, e, below, tokens, stands, depth, on, high) h =
    absurd (omega (
      arith,
      ap length stands,
      length-append (separated_trees y ++ element_tree f ∷ []) (element_tree e ∷ []),
      length-append (separated_trees y) (element_tree f ∷ []),
    ))
statement_of limit (elements false (x ∷ []) false ∷ (f ∷ s)) ts d p h = absurd cc
statement_of limit (elements false (x ∷ y ∷ es) r ∷ s) ts d p h = absurd cc
statement_of limit (named w n ns xs ∷ s) ts d p h = absurd cc
statement_of limit (paren ∷ s) ts d p h = absurd cc

-- its element, which is no deeper than the limit
element_within : (limit : ℕ) (s : Stack) (ts : List Token) → Spelt limit s ts → has_statement s ≡ true
    → (e : Element) × (ts ≡ element_tokens e) × (element_depth e ≤ limit)
element_within limit [] ts p h = absurd cc
element_within limit (elements true es r ∷ s) ts p h = absurd cc
element_within limit (elements false [] r ∷ s) ts p h = absurd cc
element_within limit (elements false (x ∷ []) true ∷ s) ts p h = absurd cc
element_within limit (elements false (x ∷ []) false ∷ []) ts (before, nothing, e, below, tokens, stands, depth, on, high) h =
    (e, rw (tokens, below) refl, omega (arith, depth))
element_within limit (elements false (x ∷ []) false ∷ []) ts (before, followed y f, e, below, tokens, stands, depth, on, high) h =
    absurd (omega (
      arith,
      ap length stands,
      length-append (separated_trees y ++ element_tree f ∷ []) (element_tree e ∷ []),
      length-append (separated_trees y) (element_tree f ∷ []),
    ))
element_within limit (elements false (x ∷ []) false ∷ (f ∷ s)) ts p h = absurd cc
element_within limit (elements false (x ∷ y ∷ es) r ∷ s) ts p h = absurd cc
element_within limit (named w n ns xs ∷ s) ts p h = absurd cc
element_within limit (paren ∷ s) ts p h = absurd cc

pub statement_within : (limit : ℕ) (s : Stack) (ts : List Token) → run limit start ts ≡ Ok s → has_statement (finish s) ≡ true
    → (e : Element) × (ts ≡ element_tokens e) × (element_depth e ≤ limit)
statement_within limit s ts e h = element_within limit (finish s) ts (finish_spelt limit s ts (is_spelt limit s ts e)) h

pub is_statement : (limit : ℕ) (s : Stack) (ts : List Token) (d : Tree) → run limit start ts ≡ Ok s → has_statement (finish s) ≡ true
    → IsStatement ts (ended_tree (finish s) d)
is_statement limit s ts d e h = statement_of limit (finish s) ts d (finish_spelt limit s ts (is_spelt limit s ts e)) h

-- a list of statements leaves no node open
pub whole_is_root : (limit : ℕ) (s : Stack) (ts : List Token) → run limit start ts ≡ Ok s → IsWhole ts → is_root (finish s) ≡ true
whole_is_root limit s ts e p =
    let high = max limit (statements_depth p.whole) in
    let q = statements_run high p.whole (omega arith) in
    let same : s ≡ q.0 = same_state s q.0 (sym (run_higher limit high start s ts (omega arith) e) ∙ ap (run high start) p.tokens ∙ q.1) in
    ap (λ x. is_root (finish x)) same ∙ q.2

-- no statement with its `;` was read so far
abbrev pub NoStatement : List Token → Type 0
NoStatement ts = (e : Element) (more : List Token) → ts ≡ element_tokens e ++ Token.semicolon ∷ more → ⊥

first_of : (x : Separated) → (x ≡ nothing)
    ⊎ ((e : Element) × (more : List Token) × (separated_tokens x ≡ element_tokens e ++ Token.semicolon ∷ more))
first_of nothing = inl refl
first_of (followed x f) = elim (first_of x) [
  | inl none ↦ inr (f, [], ap (λ y. separated_tokens y ++ (element_tokens f ++ Token.semicolon ∷ [])) none)
  | inr p ↦ inr (
    p.0,
    p.1 ++ (element_tokens f ++ Token.semicolon ∷ []),
    rw p.2 (append_assoc (element_tokens p.0) (Token.semicolon ∷ p.1) (element_tokens f ++ Token.semicolon ∷ [])),
  )
]

-- what has no statement with its `;`, and leaves no node open, is one statement or nothing
whole_of : (limit : ℕ) (s : Stack) (ts : List Token) → Spelt limit s ts → is_root s ≡ true → has_statement s ≡ false → NoStatement ts
    → ts ≡ []
whole_of limit [] ts p r h lacks = absurd cc
whole_of limit (elements true es b ∷ s) ts p r h lacks = absurd cc
whole_of limit (elements false es b ∷ (f ∷ s)) ts p r h lacks = absurd cc
whole_of limit (elements false es true ∷ []) ts p r h lacks = elim (first_of p.1) [
  | inl none ↦ p.3 ∙ rw (p.2, none) refl
  | inr q ↦ absurd (lacks q.0 q.1 (p.3 ∙ rw (p.2, q.2) refl))
]
whole_of limit (elements false es false ∷ []) ts p r h lacks = elim (first_of p.1) [
  | inl none ↦ absurd (one es (element_tree p.2) (p.5 ∙ ap (λ y. separated_trees y ++ element_tree p.2 ∷ []) none) h)
  | inr q ↦ absurd (lacks q.0 (q.1 ++ element_tokens p.2)
      (p.4 ∙ rw (p.3, q.2) (append_assoc (element_tokens q.0) (Token.semicolon ∷ q.1) (element_tokens p.2))))
] where
  one : (xs : List Tree) (x : Tree) → xs ≡ x ∷ [] → has_statement (elements false xs false ∷ []) ≡ false → ⊥
  one xs x e f = cc (sym (ap (λ l. has_statement (elements false l false ∷ [])) e) ∙ f)
whole_of limit (named w n ns xs ∷ s) ts p r h lacks = absurd cc
whole_of limit (paren ∷ s) ts p r h lacks = absurd cc

pub is_nothing : (limit : ℕ) (s : Stack) (ts : List Token) → run limit start ts ≡ Ok s → is_root (finish s) ≡ true
    → has_statement (finish s) ≡ false → NoStatement ts → ts ≡ []
is_nothing limit s ts e r h lacks = whole_of limit (finish s) ts (finish_spelt limit s ts (is_spelt limit s ts e)) r h lacks

last_of : (xs : List Token) → (xs ≡ []) ⊎ ((front : List Token) × (x : Token) × (xs ≡ front ++ x ∷ []))
last_of [] = inl refl
last_of (x ∷ xs) = elim (last_of xs) [
  | inl none ↦ inr ([], x, ap (λ l. x ∷ l) none)
  | inr p ↦ inr (x ∷ p.0, p.1, ap (λ l. x ∷ l) p.2)
]

-- one statement was read: the parser says so
pub statement_is : (limit : ℕ) (s : Stack) (e : Element) → run limit start (element_tokens e) ≡ Ok s → has_statement (finish s) ≡ true
statement_is limit s e f =
    let high = max limit (element_depth e) in
    let q = element_runs high false [] [] e (omega arith) in
    let same : s ≡ q.0 = same_state s q.0 (sym (run_higher limit high start s (element_tokens e) (omega arith) f) ∙ q.1) in
    ap (λ x. has_statement (finish x)) same ∙ ap has_statement q.2

pub still_none : (limit : ℕ) (s : Stack) (ts : List Token) (t : Token) → run limit start ts ≡ Ok s → NoStatement ts
    → (t ≡ Token.semicolon → has_statement (finish s) ≡ false) → NoStatement (ts ++ t ∷ [])
still_none limit s ts t e lacks h = λ x more f. elim (last_of more) [
  | inl none ↦
      let p = same_from_push ts (element_tokens x) t Token.semicolon (f ∙ ap (λ l. element_tokens x ++ Token.semicolon ∷ l) none) in
      cc (sym (statement_is limit s x (ap (run limit start) (sym p.0) ∙ e)) ∙ h p.1)
  | inr q ↦
      let p = same_from_push ts (element_tokens x ++ Token.semicolon ∷ q.0) t q.1 (f ∙ ap (λ l. element_tokens x ++ Token.semicolon ∷ l) q.2
      ∙ sym (append_assoc (element_tokens x) (Token.semicolon ∷ q.0) (q.1 ∷ []))) in
      lacks x q.0 p.0
]
