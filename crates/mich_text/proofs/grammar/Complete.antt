-- The parser takes the tokens of every list of statements that is no deeper than its limit, and so each front of them.
use Rattle.std.proofs.Common.{◌≡◌, ℕ, ◌+◌, ◌≤◌, Bool, true, false, List, [], ◌∷◌, ◌++◌, length, Result, Ok, Err, refl, ap, ◌∙◌, arith}
use Rattle.std.proofs.lemmas.Bool.{le-ltb}
use Rattle.rules_text.specs.nodes.Tree.{Tree}
use Rattle.rules_text.specs.text.Token.{Token}
use Rattle.rules_text.specs.text.Syntax.{Node, number, bytes, string, parens, braces, braces_to, Items, no_items, with_annotation, with_name, with_node, Element, alone, application, Separated, nothing, followed, Statements, ended, unended, node_tokens, item_tokens, element_tokens, separated_tokens, statements_tokens, annotations, node_tree, arguments, element_tree, separated_trees, node_depth, items_depth, element_depth, separated_depth, statements_depth}
use Rattle.mich_text.specs.Machine.{elements, named, paren, Refusal, Stack, is_open, add, begins, finish, at_semicolon, at_close_brace, is_root, step, then_run, run, start}

after : (r : Result Stack Refusal) (f g : Stack → Result Stack Refusal) (h : Stack → Result Stack Refusal)
    → ((n : Stack) → f n ≡ then_run (g n) h) → then_run r f ≡ then_run (then_run r g) h
after (Ok n) f g h e = e n
after (Err d) f g h e = refl

pub run-append : (limit : ℕ) (s : Stack) (a b : List Token) → run limit s (a ++ b) ≡ then_run (run limit s a) (λ n. run limit n b)
unfolding run
run-append limit s [] b = refl
run-append limit s (t ∷ a) b =
    after (step limit s t) (λ n. run limit n (a ++ b)) (λ n. run limit n a) (λ n. run limit n b) (λ n. run-append limit n a b)

-- one run after another
pub run_then : (limit : ℕ) (s n r : Stack) (a b : List Token) → run limit s a ≡ Ok n → run limit n b ≡ Ok r → run limit s (a ++ b) ≡ Ok r
run_then limit s n r a b e f = run-append limit s a b ∙ ap (λ x. then_run x (λ n. run limit n b)) e ∙ f

pub run_one : (limit : ℕ) (s n : Stack) (t : Token) → step limit s t ≡ Ok n → run limit s (t ∷ []) ≡ Ok n
unfolding run
run_one limit s n t e = ap (λ x. then_run x (λ n. Ok n)) e

pub run_front : (limit : ℕ) (s n r : Stack) (t : Token) (b : List Token) → step limit s t ≡ Ok n → run limit n b ≡ Ok r
    → run limit s (t ∷ b) ≡ Ok r
unfolding run
run_front limit s n r t b e f = ap (λ x. then_run x (λ n. run limit n b)) e ∙ f

pub run_none : (limit : ℕ) (s : Stack) → run limit s [] ≡ Ok s
unfolding run
run_none limit s = refl

pub begins_ok : (limit : ℕ) (s next : Stack) → is_open s ≡ true → length s ≤ limit → begins limit s next ≡ Ok next
begins_ok limit s next o h = rw (o, le-ltb _ _ h) refl

mutual
  unfolding step

  pub node_runs : (limit : ℕ) (s : Stack) (n : Node) → is_open s ≡ true → node_depth n + length s ≤ limit + 1
      → run limit s (node_tokens n) ≡ Ok (add (node_tree n) s)
  node_runs limit s (number n) o h = run_one limit s _ (Token.number n) (begins_ok limit s _ o (omega arith))
  node_runs limit s (bytes n) o h = run_one limit s _ (Token.bytes n) (begins_ok limit s _ o (omega arith))
  node_runs limit s (string n) o h = run_one limit s _ (Token.string n) (begins_ok limit s _ o (omega arith))
  node_runs limit s (parens n i) o h =
      let opened : step limit s Token.open_paren ≡ Ok (paren ∷ s) = begins_ok limit s (paren ∷ s) o (omega arith) in
      run_front limit s (paren ∷ s) _ Token.open_paren _ opened
      (run_front limit (paren ∷ s) (named true n [] [] ∷ s) _ (Token.name n) _ refl
      (run_then limit _ (named true n (annotations i) (arguments i) ∷ s) _ (item_tokens i) (Token.close_paren ∷ [])
      (items_run limit true n s i (omega arith)) (run_one limit (named true n (annotations i) (arguments i) ∷ s) _ Token.close_paren refl)))
  node_runs limit s (braces x) o h =
      let opened : step limit s Token.open_brace ≡ Ok (elements true [] true ∷ s) = begins_ok limit s (elements true [] true ∷ s) o
      (omega arith) in
      run_front limit s (elements true [] true ∷ s) _ Token.open_brace _ opened
      (run_then limit _ (elements true (separated_trees x) true ∷ s) _ (separated_tokens x) (Token.close_brace ∷ [])
      (separated_runs limit true s x (omega arith)) (run_one limit (elements true (separated_trees x) true ∷ s) _ Token.close_brace refl))
  node_runs limit s (braces_to x e) o h =
      let opened : step limit s Token.open_brace ≡ Ok (elements true [] true ∷ s) = begins_ok limit s (elements true [] true ∷ s) o
      (omega arith) in
      let last = element_runs limit true s (separated_trees x) e (omega arith) in
      run_front limit s (elements true [] true ∷ s) _ Token.open_brace _ opened
      (run_then limit _ (elements true (separated_trees x) true ∷ s) _ (separated_tokens x) (element_tokens e ++ Token.close_brace ∷ [])
      (separated_runs limit true s x (omega arith))
      (run_then limit _ last.0 _ (element_tokens e) (Token.close_brace ∷ []) last.1
      (run_one limit last.0 _ Token.close_brace (ap at_close_brace last.2))))

  pub items_run : (limit : ℕ) (w : Bool) (n : List ℕ) (s : Stack) (i : Items) → items_depth i + (length s + 1) ≤ limit + 1
      → run limit (named w n [] [] ∷ s) (item_tokens i) ≡ Ok (named w n (annotations i) (arguments i) ∷ s)
  items_run limit w n s no_items h = run_none limit _
  items_run limit w n s (with_annotation i a) h =
      run_then limit _ _ _ (item_tokens i) (Token.annotation a ∷ []) (items_run limit w n s i h)
      (run_one limit (named w n (annotations i) (arguments i) ∷ s) _ (Token.annotation a) refl)
  items_run limit w n s (with_name i m) h =
      run_then limit _ _ _ (item_tokens i) (Token.name m ∷ []) (items_run limit w n s i (omega arith))
      (run_one limit (named w n (annotations i) (arguments i) ∷ s) _ (Token.name m)
      (begins_ok limit (named w n (annotations i) (arguments i) ∷ s) _ refl (omega arith)))
  items_run limit w n s (with_node i m) h =
      run_then limit _ _ _ (item_tokens i) (node_tokens m) (items_run limit w n s i (omega arith))
      (node_runs limit (named w n (annotations i) (arguments i) ∷ s) m refl (omega arith))

  pub element_runs : (limit : ℕ) (b : Bool) (s : Stack) (es : List Tree) (e : Element) → element_depth e + (length s + 1) ≤ limit + 1
      → (next : Stack) × (run limit (elements b es true ∷ s) (element_tokens e) ≡ Ok next)
      × (finish next ≡ elements b (es ++ element_tree e ∷ []) false ∷ s)
  element_runs limit b s es (alone n) h =
      (elements b (es ++ node_tree n ∷ []) false ∷ s, node_runs limit (elements b es true ∷ s) n refl (omega arith), refl)
  element_runs limit b s es (application n i) h =
      let opened : step limit (elements b es true ∷ s) (Token.name n) ≡ Ok (named false n [] [] ∷ elements b es true ∷ s) = begins_ok limit
      (elements b es true ∷ s) _ refl (omega arith) in (
        named false n (annotations i) (arguments i) ∷ elements b es true ∷ s,
        run_front limit (elements b es true ∷ s)
            (named false n [] [] ∷ elements b es true ∷ s) _ (Token.name n) (item_tokens i) opened
            (items_run limit false n (elements b es true ∷ s) i (omega arith)),
        refl,
      )

  pub separated_runs : (limit : ℕ) (b : Bool) (s : Stack) (x : Separated) → separated_depth x + (length s + 1) ≤ limit + 1
      → run limit (elements b [] true ∷ s) (separated_tokens x) ≡ Ok (elements b (separated_trees x) true ∷ s)
  separated_runs limit b s nothing h = run_none limit _
  separated_runs limit b s (followed x e) h =
      let last = element_runs limit b s (separated_trees x) e (omega arith) in
      run_then limit _ _ _ (separated_tokens x) (element_tokens e ++ Token.semicolon ∷ []) (separated_runs limit b s x (omega arith))
      (run_then limit _ last.0 _ (element_tokens e) (Token.semicolon ∷ []) last.1
      (run_one limit last.0 _ Token.semicolon (ap at_semicolon last.2)))

-- a list of statements is taken whole
pub statements_run : (limit : ℕ) (x : Statements) → statements_depth x ≤ limit
    → (next : Stack) × (run limit start (statements_tokens x) ≡ Ok next) × (is_root (finish next) ≡ true)
statements_run limit (ended x) h = (elements false (separated_trees x) true ∷ [], separated_runs limit false [] x (omega arith), refl)
statements_run limit (unended x e) h =
    let last = element_runs limit false [] (separated_trees x) e (omega arith) in (
      last.0,
      run_then limit _ _ _ (separated_tokens x) (element_tokens e) (separated_runs limit false [] x (omega arith)) last.1,
      ap is_root last.2,
    )
