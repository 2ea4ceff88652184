-- A node that a text gives is no deeper than the limit, and its line is read again.
use Rattle.std.proofs.Common.{◌≡◌, ℕ, ◌≤◌, ◌⊎◌, inl, inr, List, [], ◌∷◌, ◌++◌, length, Option, Some, None, Result, Ok, Err, refl, sym, ap, subst, ◌∙◌, append_assoc, arith}
use Rattle.std.specs.List.{AllByRecursion}
use Rattle.rules_text.specs.nodes.Limits.{depth_limit}
use Rattle.rules_text.specs.nodes.Tree.{Tree, depth}
use Rattle.rules_text.specs.text.Token.{Token, token_shape}
use Rattle.rules_text.specs.declared.text.Shape.{Shape}
use Rattle.rules_text.specs.declared.text.TextKind.TheVariants.{TooDeep}
use Rattle.rules_text.specs.text.Text.{Leads, IsNode, too_deep}
use Rattle.rules_text.specs.text.Syntax.{IsFront, unended, nothing, element_tokens, Element, element_tree, element_depth}
use Rattle.mich_text.specs.Machine.{Stack, run, start, unexpected, ready_for, refused, step, put, Refusal}
use Rattle.mich_text.proofs.grammar.Complete.{run_none, run_front}
use Rattle.mich_text.proofs.grammar.Depths.{element_tree_depth}
use Rattle.mich_text.proofs.grammar.Fronts.{is_front_within, no_front, no_front_within, deeper_front, answer, step_answer}
use Rattle.mich_text.proofs.grammar.Whole.{statement_is, statement_within}
use Rattle.mich_text.proofs.printed.Again.{IsPrintable}
use Rattle.mich_text.proofs.printed.Printable.{element_printable}
use Rattle.mich_text.proofs.readings.Ends.{ends_le}
use Rattle.mich_text.proofs.readings.Reading.{passes}
use Rattle.mich_text.proofs.readings.Unique.{one_tree}
use Rattle.mich_text.proofs.tokens.Good.{IsGood, leads_good}
use Rattle.mich_text.proofs.tokens.Shapes.{token_shape_is}

-- the parser takes these tokens, or stops at one of them
record Stops (limit : ℕ) (s : Stack) (ts : List Token) : Type 0 where
  before : List Token
  token : Token
  behind : List Token
  stack : Stack
  refusal : Refusal
  tokens : ts ≡ before ++ token ∷ behind
  runs : run limit s before ≡ Ok stack
  refuses : step limit stack token ≡ Err refusal

abbrev Runs : ℕ → Stack → List Token → Type 0
Runs limit s ts = ((r : Stack) × (run limit s ts ≡ Ok r)) ⊎ Stops limit s ts

one_step : (limit : ℕ) (s : Stack) (t : Token) (ts : List Token) (x : Result Stack Refusal) → step limit s t ≡ x
    → ((n : Stack) → Runs limit n ts) → Runs limit s (t ∷ ts)
one_step limit s t ts (Err r) e next =
    inr (record { before = []; token = t; behind = ts; stack = s; refusal = r; tokens = refl; runs = run_none limit s; refuses = e })
one_step limit s t ts (Ok n) e next = elim (next n) [
  | inl p ↦ inl (p.0, run_front limit s n p.0 t ts e p.1)
  | inr q ↦ inr (record {
    before = t ∷ q.before;
    token = q.token;
    behind = q.behind;
    stack = q.stack;
    refusal = q.refusal;
    tokens = ap (λ (l : List Token). t ∷ l) q.tokens;
    runs = run_front limit s n q.stack t q.before e q.runs;
    refuses = q.refuses;
  })
]

runs : (limit : ℕ) (s : Stack) (ts : List Token) → Runs limit s ts
runs limit s [] = inl (s, run_none limit s)
runs limit s (t ∷ ts) = one_step limit s t ts (step limit s t) refl (λ n. runs limit n ts)

refusal_is : (o : Option Refusal) (s : Stack) (r : Refusal) → answer o s ≡ Err r → o ≡ Some r
refusal_is None s r e = absurd cc
refusal_is (Some q) s r e = ap (λ (x : Refusal). Some x) (same q r e)
  where
    same : (q r : Refusal) → ◌≡◌ {A = Result Stack Refusal} (Err q) (Err r) → q ≡ r
    same q r e = cc

refused_at : (limit : ℕ) (s : Stack) (t : Token) (r : Refusal) → step limit s t ≡ Err r
    → refused limit (ready_for (token_shape t) s) (token_shape t) ≡ Some r
refused_at limit s t r e =
    refusal_is (refused limit (ready_for (token_shape t) s) (token_shape t)) (put t (ready_for (token_shape t) s)) r
    (sym (step_answer limit s t) ∙ e)

-- the tokens of a statement, up to one of them, are a front
statement_front : (e : Element) (before behind : List Token) (t : Token) → element_tokens e ≡ before ++ t ∷ behind
    → IsFront (before ++ t ∷ [])
statement_front e before behind t f =
    record { whole = unended nothing e; more = behind; tokens = append_assoc before (t ∷ []) behind ∙ sym f }

stopped : (before : ℕ) (text : List ℕ) (tree : Tree) (from end : ℕ) → (n : IsNode before text tree from end) → (r : Refusal)
    → (q : Stops depth_limit start (element_tokens n.stands.statement.element)) → q.refusal ≡ r → ⊥
stopped before text tree from end n unexpected q e =
    no_front depth_limit q.stack q.before q.token q.runs
    (refused_at depth_limit q.stack q.token unexpected (q.refuses ∙ ap (λ (x : Refusal). Err x) e))
    (statement_front n.stands.statement.element q.before q.behind q.token q.tokens)
stopped before text tree from end n Rattle.mich_text.specs.Machine.too_deep q e =
    let p = n.stands in
    let leads : Leads text (q.before ++ q.token ∷ q.behind) (Some p.rest) = subst (λ (l : List Token). Leads text l (Some p.rest))
    (p.statement.tokens ∙ q.tokens) p.leads in
    let at = passes text q.before q.behind q.token p.rest leads in
    let refuses = refused_at depth_limit q.stack q.token Rattle.mich_text.specs.Machine.too_deep
    (q.refuses ∙ ap (λ (x : Refusal). Err x) e) in
    let same : (t : Token) → token_shape t ≡ token_shape q.token → refused depth_limit (ready_for (token_shape t) q.stack)
    (token_shape t) ≡ Some Rattle.mich_text.specs.Machine.too_deep
    = λ t f. subst (λ (s : Shape). refused depth_limit (ready_for s q.stack) s ≡ Some Rattle.mich_text.specs.Machine.too_deep)
    (sym f) refuses in
    let deep = n.clean TooDeep (length at.here) (too_deep (record {
      before = q.before;
      here = at.here;
      shape = token_shape q.token;
      leads = at.leads;
      begins = token_shape_is at.here q.token at.behind at.read;
      within = is_front_within depth_limit q.stack q.before q.runs;
      front = λ t f. deeper_front depth_limit q.stack q.before t q.runs (same t f);
      deep = λ t f. no_front_within depth_limit q.stack q.before t q.runs (same t f);
      kind_is = refl;
      left_is = refl;
    })) in
    omega (arith, deep, at.further, ends_le p.rest end p.ends)

-- the parser takes the tokens of a node that a text gives
node_runs : (before : ℕ) (text : List ℕ) (tree : Tree) (from end : ℕ) → (n : IsNode before text tree from end)
    → (r : Stack) × (run depth_limit start (element_tokens n.stands.statement.element) ≡ Ok r)
node_runs before text tree from end n = elim (runs depth_limit start (element_tokens n.stands.statement.element)) [
  | inl p ↦ p
  | inr q ↦ absurd (stopped before text tree from end n q.refusal q refl)
]

pub node_depth : (before : ℕ) (text : List ℕ) (tree : Tree) (from end : ℕ) → IsNode before text tree from end → depth tree ≤ depth_limit
node_depth before text tree from end n =
    let s = n.stands.statement in
    let r = node_runs before text tree from end n in
    let w = statement_within depth_limit r.0 (element_tokens s.element) r.1 (statement_is depth_limit r.0 s.element r.1) in
    let same : tree ≡ element_tree w.0 = s.stands ∙ one_tree s.element w.0 w.1 in
    let shallow : depth tree ≤ element_depth w.0 = subst (λ (t : Tree). depth t ≤ element_depth w.0) (sym same) (element_tree_depth w.0) in
    omega (arith, shallow, w.2)

pub node_printable : (before : ℕ) (text : List ℕ) (tree : Tree) (from end : ℕ) → IsNode before text tree from end → IsPrintable tree
node_printable before text tree from end n =
    let p = n.stands in
    let s = p.statement in
    let good : AllByRecursion IsGood (element_tokens s.element) = subst (AllByRecursion IsGood) s.tokens
    (leads_good text p.tokens (Some p.rest) p.leads) in
    subst IsPrintable (sym s.stands) (element_printable s.element good)
