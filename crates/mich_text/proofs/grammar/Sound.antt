-- What the parser holds after some tokens has these tokens, and can be completed to a list of statements.
use Rattle.std.proofs.Common.{◌≡◌, ℕ, ◌+◌, ◌≤◌, max, Bool, true, false, cond, ltb, List, [], ◌∷◌, ◌++◌, length, Result, Ok, Err, refl, sym, ap, subst, ◌∙◌, append_assoc, arith}
use Rattle.std.proofs.lemmas.Bool.{ltb-false}
use Rattle.std.proofs.lemmas.List.{append-nil}
use Rattle.rules_text.specs.nodes.Tree.{Tree, prim, none}
use Rattle.rules_text.specs.text.Token.{Token}
use Rattle.rules_text.specs.text.Syntax.{Node, number, bytes, string, parens, braces, braces_to, Items, no_items, with_annotation, with_name, with_node, Element, alone, application, Separated, nothing, followed, ended, unended, node_tokens, item_tokens, element_tokens, separated_tokens, annotations, node_tree, arguments, element_tree, separated_trees, node_depth, items_depth, element_depth, separated_depth, IsFrontWithin}
use Rattle.mich_text.specs.Machine.{elements, named, paren, Refusal, unexpected, too_deep, Stack, is_open, add, begins, finish, at_name, at_annotation, at_close_paren, at_semicolon, at_close_brace, step, start}

abbrev pub brace : Bool → List Token
brace true = Token.open_brace ∷ []
brace false = []

abbrev pub bracket : Bool → List Token
bracket true = Token.open_paren ∷ []
bracket false = []

-- what a frame may stand on
abbrev pub Stands : Bool → Stack → Type 0
Stands true s = is_open s ≡ true
Stands false [] = Unit {0}
Stands false (f ∷ s) = ⊥

abbrev pub IsReady : Stack → Type 0
IsReady [] = ⊥
IsReady (elements b es true ∷ s) = Unit {0}
IsReady (elements b es false ∷ s) = ⊥
IsReady (named w n ns xs ∷ s) = ⊥
IsReady (paren ∷ s) = ⊥

abbrev pub Carries : Bool → Stack → Type 0
Carries true s = is_open s ≡ true
Carries false s = IsReady s

-- the open nodes have these tokens, and none of their parts is too deep
abbrev pub Spelt : ℕ → Stack → List Token → Type 0
Spelt limit [] ts = ts ≡ []
Spelt limit (elements b es true ∷ s) ts =
    (before : List Token) × (x : Separated) × Spelt limit s before × (ts ≡ before ++ (brace b ++ separated_tokens x))
    × (es ≡ separated_trees x) × (separated_depth x + length s ≤ limit) × Stands b s × (length s ≤ limit)
Spelt limit (elements b es false ∷ s) ts =
    (before : List Token) × (x : Separated) × (e : Element) × Spelt limit s before
    × (ts ≡ before ++ (brace b ++ (separated_tokens x ++ element_tokens e))) × (es ≡ separated_trees x ++ element_tree e ∷ [])
    × (max (separated_depth x) (element_depth e) + length s ≤ limit) × Stands b s × (length s ≤ limit)
Spelt limit (named w n ns xs ∷ s) ts =
    (before : List Token) × (i : Items) × Spelt limit s before × (ts ≡ before ++ (bracket w ++ (Token.name n ∷ item_tokens i)))
    × (ns ≡ annotations i) × (xs ≡ arguments i) × (items_depth i + length s ≤ limit) × Carries w s × (length s ≤ limit)
Spelt limit (paren ∷ s) ts =
    (before : List Token) × Spelt limit s before × (ts ≡ before ++ Token.open_paren ∷ []) × (is_open s ≡ true) × (length s ≤ limit)

pub start_spelt : (limit : ℕ) → Spelt limit start []
start_spelt limit = ([], nothing, refl, refl, refl, omega arith, tt, omega arith)

-- a node is put in
pub add_spelt : (limit : ℕ) (s : Stack) (ts : List Token) (n : Node) → Spelt limit s ts → is_open s ≡ true
    → node_depth n + length s ≤ limit + 1 → Spelt limit (add (node_tree n) s) (ts ++ node_tokens n)
add_spelt limit [] ts n p o h = absurd cc
add_spelt limit (elements b es true ∷ s) ts n p o h =
    (p.0, p.1, alone n, p.2, rw p.3 (simp append_assoc), ap (λ (l : List Tree). l ++ node_tree n ∷ []) p.4, omega (arith, p.5), p.6, p.7)
add_spelt limit (elements b es false ∷ s) ts n p o h = absurd cc
add_spelt limit (named w m ns xs ∷ s) ts n p o h = (
  p.0,
  with_node p.1 n,
  p.2,
  rw p.3 (simp append_assoc),
  p.4,
  ap (λ (l : List Tree). l ++ node_tree n ∷ []) p.5,
  omega (arith, p.6),
  p.7,
  p.8,
)
add_spelt limit (paren ∷ s) ts n p o h = absurd cc

pub finish_spelt : (limit : ℕ) (s : Stack) (ts : List Token) → Spelt limit s ts → Spelt limit (finish s) ts
finish_spelt limit [] ts p = p
finish_spelt limit (elements b es ready ∷ s) ts p = p
finish_spelt limit (named true n ns xs ∷ s) ts p = p
finish_spelt limit (named false n ns xs ∷ []) ts p = absurd p.7
finish_spelt limit (named false n ns xs ∷ (elements b es true ∷ s)) ts p =
    let q = p.2 in (
      q.0,
      q.1,
      application n p.1,
      q.2,
      p.3 ∙ ap (λ (l : List Token). l ++ Token.name n ∷ item_tokens p.1) q.3
          ∙ simp append_assoc,
      rw (p.4, p.5, q.4) refl,
      omega (arith, p.6, q.5),
      q.6,
      q.7,
    )
finish_spelt limit (named false n ns xs ∷ (elements b es false ∷ s)) ts p = absurd p.7
finish_spelt limit (named false n ns xs ∷ (named w m ms ys ∷ s)) ts p = absurd p.7
finish_spelt limit (named false n ns xs ∷ (paren ∷ s)) ts p = absurd p.7
finish_spelt limit (paren ∷ s) ts p = p

spelt_at : (limit : ℕ) (s r : Stack) (a b : List Token) → s ≡ r → a ≡ b → Spelt limit s a → Spelt limit r b
spelt_at limit s r a b e f p = subst (λ (q : Stack). Spelt limit q b) e (subst (λ (q : List Token). Spelt limit s q) f p)

abbrev okay : Stack → Result Stack Refusal
okay s = Ok s

ok_is : (s r : Stack) → okay s ≡ okay r → s ≡ r
ok_is s r e = cc

begins_by : (o b : Bool) (next r : Stack) → cond o (cond b (Err too_deep) (okay next)) (Err unexpected) ≡ Ok r
    → (o ≡ true) × (b ≡ false) × (next ≡ r)
begins_by true true next r e = absurd cc
begins_by true false next r e = (refl, refl, ok_is next r e)
begins_by false b next r e = absurd cc

pub begins_is : (limit : ℕ) (s next r : Stack) → begins limit s next ≡ Ok r → (is_open s ≡ true) × (length s ≤ limit) × (next ≡ r)
begins_is limit s next r e = let q = begins_by (is_open s) (ltb limit (length s)) next r e in (q.0, ltb-false _ _ q.1, q.2)

leaf_spelt : (limit : ℕ) (s r : Stack) (ts : List Token) (n : Node) → node_depth n ≡ 1 → Spelt limit s ts
    → begins limit s (add (node_tree n) s) ≡ Ok r → Spelt limit r (ts ++ node_tokens n)
leaf_spelt limit s r ts n d p e =
    let q = begins_is limit s (add (node_tree n) s) r e in subst (λ (x : Stack). Spelt limit x (ts ++ node_tokens n)) q.2
    (add_spelt limit s ts n p q.0 (omega (arith, q.1)))

close_brace_spelt : (limit : ℕ) (s r : Stack) (ts : List Token) → Spelt limit s ts → at_close_brace s ≡ Ok r
    → Spelt limit r (ts ++ Token.close_brace ∷ [])
close_brace_spelt limit [] r ts p e = absurd cc
close_brace_spelt limit (elements true es true ∷ s) r ts p e =
    let q = add_spelt limit s p.0 (braces p.1) p.2 p.6 (omega (arith, p.5)) in
    spelt_at limit _ r _ _ (rw (← p.4) (ok_is _ r e)) (rw p.3 (simp append_assoc)) q
close_brace_spelt limit (elements true es false ∷ s) r ts p e =
    let q = add_spelt limit s p.0 (braces_to p.1 p.2) p.3 p.7 (omega (arith, p.6)) in
    spelt_at limit _ r _ _ (rw (← p.5) (ok_is _ r e)) (rw p.4 (simp append_assoc)) q
close_brace_spelt limit (elements false es ready ∷ s) r ts p e = absurd cc
close_brace_spelt limit (named w n ns xs ∷ s) r ts p e = absurd cc
close_brace_spelt limit (paren ∷ s) r ts p e = absurd cc

semicolon_spelt : (limit : ℕ) (s r : Stack) (ts : List Token) → Spelt limit s ts → at_semicolon s ≡ Ok r
    → Spelt limit r (ts ++ Token.semicolon ∷ [])
semicolon_spelt limit [] r ts p e = absurd cc
semicolon_spelt limit (elements b es true ∷ s) r ts p e = absurd cc
semicolon_spelt limit (elements b es false ∷ s) r ts p e =
    let q : Spelt limit (elements b es true ∷ s)
    (ts ++ Token.semicolon ∷ []) = (p.0, followed p.1 p.2, p.3, rw p.4 (simp append_assoc), p.5, p.6, p.7, p.8) in
    subst (λ (x : Stack). Spelt limit x (ts ++ Token.semicolon ∷ [])) (ok_is _ r e) q
semicolon_spelt limit (named w n ns xs ∷ s) r ts p e = absurd cc
semicolon_spelt limit (paren ∷ s) r ts p e = absurd cc

close_paren_spelt : (limit : ℕ) (s r : Stack) (ts : List Token) → Spelt limit s ts → at_close_paren s ≡ Ok r
    → Spelt limit r (ts ++ Token.close_paren ∷ [])
close_paren_spelt limit [] r ts p e = absurd cc
close_paren_spelt limit (elements b es ready ∷ s) r ts p e = absurd cc
close_paren_spelt limit (named true n ns xs ∷ s) r ts p e =
    let q = add_spelt limit s p.0 (parens n p.1) p.2 p.7 (omega (arith, p.6)) in
    spelt_at limit _ r _ _ (rw (← p.4, ← p.5) (ok_is _ r e)) (rw p.3 (simp append_assoc)) q
close_paren_spelt limit (named false n ns xs ∷ s) r ts p e = absurd cc
close_paren_spelt limit (paren ∷ s) r ts p e = absurd cc

annotation_spelt : (limit : ℕ) (s r : Stack) (ts : List Token) (a : List ℕ) → Spelt limit s ts → at_annotation a s ≡ Ok r
    → Spelt limit r (ts ++ Token.annotation a ∷ [])
annotation_spelt limit [] r ts a p e = absurd cc
annotation_spelt limit (elements b es ready ∷ s) r ts a p e = absurd cc
annotation_spelt limit (named w n ns xs ∷ s) r ts a p e =
    let q : Spelt limit (named w n (ns ++ a ∷ []) xs ∷ s) (ts ++ Token.annotation a ∷ []) = (
      p.0,
      with_annotation p.1 a,
      p.2,
      rw p.3 (simp append_assoc),
      ap (λ (l : List (List ℕ)). l ++ a ∷ []) p.4,
      p.5,
      p.6,
      p.7,
      p.8,
    ) in
    subst (λ (x : Stack). Spelt limit x (ts ++ Token.annotation a ∷ [])) (ok_is _ r e) q
annotation_spelt limit (paren ∷ s) r ts a p e = absurd cc

name_spelt : (limit : ℕ) (s r : Stack) (ts : List Token) (n : List ℕ) → Spelt limit s ts → at_name limit n s ≡ Ok r
    → Spelt limit r (ts ++ Token.name n ∷ [])
name_spelt limit [] r ts n p e = absurd cc
name_spelt limit (elements b es true ∷ s) r ts n p e =
    let d = begins_is limit (elements b es true ∷ s) (named false n [] [] ∷ elements b es true ∷ s) r e in
    let q : Spelt limit (named false n [] [] ∷ elements b es true ∷ s)
    (ts ++ Token.name n ∷ []) = (ts, no_items, p, refl, refl, refl, omega (arith, d.1), tt, d.1) in
    subst (λ (x : Stack). Spelt limit x (ts ++ Token.name n ∷ [])) d.2 q
name_spelt limit (elements b es false ∷ s) r ts n p e = absurd cc
name_spelt limit (named w m ns xs ∷ s) r ts n p e =
    let d = begins_is limit (named w m ns xs ∷ s) (named w m ns (xs ++ prim n [] none ∷ []) ∷ s) r e in
    let q : Spelt limit (named w m ns (xs ++ prim n [] none ∷ []) ∷ s) (ts ++ Token.name n ∷ []) = (
      p.0,
      with_name p.1 n,
      p.2,
      rw p.3 (simp append_assoc),
      p.4,
      ap (λ (l : List Tree). l ++ prim n [] none ∷ []) p.5,
      omega (arith, p.6, d.1),
      p.7,
      p.8,
    ) in
    subst (λ (x : Stack). Spelt limit x (ts ++ Token.name n ∷ [])) d.2 q
name_spelt limit (paren ∷ s) r ts n p e =
    let q : Spelt limit (named true n [] [] ∷ s)
    (ts ++ Token.name n ∷ []) = (p.0, no_items, p.1, rw p.2 (simp append_assoc), refl, refl, omega (arith, p.4), p.3, p.4) in
    subst (λ (x : Stack). Spelt limit x (ts ++ Token.name n ∷ [])) (ok_is _ r e) q

-- one token
pub step_spelt : (limit : ℕ) (s r : Stack) (ts : List Token) (t : Token) → Spelt limit s ts → step limit s t ≡ Ok r
    → Spelt limit r (ts ++ t ∷ [])
unfolding step
step_spelt limit s r ts (Token.number n) p e = leaf_spelt limit s r ts (number n) refl p e
step_spelt limit s r ts (Token.bytes n) p e = leaf_spelt limit s r ts (bytes n) refl p e
step_spelt limit s r ts (Token.string n) p e = leaf_spelt limit s r ts (string n) refl p e
step_spelt limit s r ts (Token.name n) p e = name_spelt limit s r ts n p e
step_spelt limit s r ts (Token.annotation a) p e = annotation_spelt limit s r ts a p e
step_spelt limit s r ts Token.open_brace p e =
    let d = begins_is limit s (elements true [] true ∷ s) r e in
    let q : Spelt limit (elements true [] true ∷ s)
    (ts ++ Token.open_brace ∷ []) = (ts, nothing, p, refl, refl, omega (arith, d.1), d.0, d.1) in
    subst (λ (x : Stack). Spelt limit x (ts ++ Token.open_brace ∷ [])) d.2 q
step_spelt limit s r ts Token.open_paren p e =
    let d = begins_is limit s (paren ∷ s) r e in
    let q : Spelt limit (paren ∷ s) (ts ++ Token.open_paren ∷ []) = (ts, p, refl, d.0, d.1) in
    subst (λ (x : Stack). Spelt limit x (ts ++ Token.open_paren ∷ [])) d.2 q
step_spelt limit s r ts Token.close_brace p e = close_brace_spelt limit (finish s) r ts (finish_spelt limit s ts p) e
step_spelt limit s r ts Token.close_paren p e = close_paren_spelt limit s r ts p e
step_spelt limit s r ts Token.semicolon p e = semicolon_spelt limit (finish s) r ts (finish_spelt limit s ts p) e

-- ---- completing what is open

shorter : (limit : ℕ) (a b : List Token) → IsFrontWithin limit (a ++ b) → IsFrontWithin limit a
shorter limit a b p = record { whole = p.whole; more = b ++ p.more; tokens = sym (append_assoc a b p.more) ∙ p.tokens; depth = p.depth }

front_at : (limit : ℕ) (a b : List Token) → a ≡ b → IsFrontWithin limit a → IsFrontWithin limit b
front_at limit a b e p = subst (λ (q : List Token). IsFrontWithin limit q) e p

abbrev Fills : ℕ → Stack → Type 0
Fills limit s =
    (before : List Token) (n : Node) → Spelt limit s before → is_open s ≡ true → node_depth n + length s ≤ limit + 1
    → IsFrontWithin limit (before ++ node_tokens n)

abbrev FillsElement : ℕ → Stack → Type 0
FillsElement limit s =
    (before : List Token) (e : Element) → Spelt limit s before → IsReady s → element_depth e + length s ≤ limit + 1
    → IsFrontWithin limit (before ++ element_tokens e)

fills_element : (limit : ℕ) (s : Stack) → Fills limit s → (b : Bool) (es : List Tree) → FillsElement limit (elements b es true ∷ s)
fills_element limit s fill true es before e p r h =
    let q = fill p.0 (braces_to p.1 e) p.2 p.6 (omega (arith, p.5)) in
    shorter limit (before ++ element_tokens e) (Token.close_brace ∷ []) (front_at limit _ _ (rw p.3 (simp append_assoc)) q)
fills_element limit [] fill false es before e p r h =
    record { whole = unended p.1 e; more = []; tokens = append-nil _ ∙ rw (p.3, p.2) (simp append_assoc); depth = omega (arith, p.5) }
fills_element limit (f ∷ s) fill false es before e p r h = absurd p.6

pub fills : (limit : ℕ) (s : Stack) → Fills limit s
fills limit [] before n p o h = absurd cc
fills limit (elements b es true ∷ s) before n p o h = fills_element limit s (fills limit s) b es before (alone n) p tt h
fills limit (elements b es false ∷ s) before n p o h = absurd cc
fills limit (named true m ns xs ∷ s) before n p o h =
    let q = fills limit s p.0 (parens m (with_node p.1 n)) p.2 p.7 (omega (arith, p.6)) in
    shorter limit (before ++ node_tokens n) (Token.close_paren ∷ []) (front_at limit _ _ (rw p.3 (simp append_assoc)) q)
fills limit (named false m ns xs ∷ []) before n p o h = absurd p.7
fills limit (named false m ns xs ∷ (elements b es true ∷ s)) before n p o h =
    let q = fills_element limit s (fills limit s) b es p.0 (application m (with_node p.1 n)) p.2 tt (omega (arith, p.6)) in
    front_at limit _ _ (rw p.3 (simp append_assoc)) q
fills limit (named false m ns xs ∷ (elements b es false ∷ s)) before n p o h = absurd p.7
fills limit (named false m ns xs ∷ (named w k ms ys ∷ s)) before n p o h = absurd p.7
fills limit (named false m ns xs ∷ (paren ∷ s)) before n p o h = absurd p.7
fills limit (paren ∷ s) before n p o h = absurd cc

pub completes : (limit : ℕ) (s : Stack) (ts : List Token) → Spelt limit s ts → IsFrontWithin limit ts
completes limit [] ts p = record { whole = ended nothing; more = []; tokens = append-nil _ ∙ p; depth = omega arith }
completes limit (elements true es true ∷ s) ts p =
    let q = fills limit s p.0 (braces p.1) p.2 p.6 (omega (arith, p.5)) in
    shorter limit ts (Token.close_brace ∷ []) (front_at limit _ _ (rw p.3 (simp append_assoc)) q)
completes limit (elements true es false ∷ s) ts p =
    let q = fills limit s p.0 (braces_to p.1 p.2) p.3 p.7 (omega (arith, p.6)) in
    shorter limit ts (Token.close_brace ∷ []) (front_at limit _ _ (rw p.4 (simp append_assoc)) q)
completes limit (elements false es true ∷ []) ts p =
    record { whole = ended p.1; more = []; tokens = append-nil _ ∙ rw (p.3, p.2) refl; depth = omega (arith, p.5) }
completes limit (elements false es false ∷ []) ts p =
    record { whole = unended p.1 p.2; more = []; tokens = append-nil _ ∙ rw (p.4, p.3) refl; depth = omega (arith, p.6) }
completes limit (elements false es true ∷ (f ∷ s)) ts p = absurd p.6
completes limit (elements false es false ∷ (f ∷ s)) ts p = absurd p.7
completes limit (named true m ns xs ∷ s) ts p =
    let q = fills limit s p.0 (parens m p.1) p.2 p.7 (omega (arith, p.6)) in
    shorter limit ts (Token.close_paren ∷ []) (front_at limit _ _ (rw p.3 (simp append_assoc)) q)
completes limit (named false m ns xs ∷ []) ts p = absurd p.7
completes limit (named false m ns xs ∷ (elements b es true ∷ s)) ts p =
    let q = fills_element limit s (fills limit s) b es p.0 (application m p.1) p.2 tt (omega (arith, p.6)) in
    front_at limit _ _ (sym p.3) q
completes limit (named false m ns xs ∷ (elements b es false ∷ s)) ts p = absurd p.7
completes limit (named false m ns xs ∷ (named w k ms ys ∷ s)) ts p = absurd p.7
completes limit (named false m ns xs ∷ (paren ∷ s)) ts p = absurd p.7
completes limit (paren ∷ s) ts p =
    let q = fills limit s p.0 (parens [] no_items) p.1 p.3 (omega (arith, p.4)) in
    shorter limit ts (Token.name [] ∷ Token.close_paren ∷ []) (front_at limit _ _ (rw p.2 (simp append_assoc)) q)
