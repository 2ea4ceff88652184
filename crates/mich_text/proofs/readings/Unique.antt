-- A text is one thing only.
use Rattle.std.proofs.Common.{◌≡◌, ℕ, max, false, List, [], ◌∷◌, ◌++◌, length, Option, Some, None, Result, Ok, refl, sym, ap, subst, ◌∙◌, arith, inl, inr}
use Rattle.std.proofs.lemmas.List.{append-nil}
use Rattle.rules_text.specs.nodes.Tree.{Tree}
use Rattle.rules_text.specs.text.Token.{Token}
use Rattle.rules_text.specs.text.Syntax.{Element, alone, application, number, bytes, string, parens, braces, braces_to, nothing, ended, element_tokens, element_tree, element_depth}
use Rattle.mich_text.specs.Machine.{Stack, Refusal, finish, ended_tree, run, start}
use Rattle.rules_text.specs.text.Lexical.{token_at, first_shape}
use Rattle.rules_text.specs.text.Text.{Leads, IsInComment, IsOpen, EndsAt, Stands}
use Rattle.rules_text.specs.declared.text.Shape.{Shape}
use Rattle.mich_text.specs.Plain.{IsFlawedWithoutLimits, HoldsWithoutLimits, flawed, in_comment, is_open, unexpected, too_deep, rank_without_limits, IsEndWithoutLimits}
use Rattle.rules_text.specs.text.Fault.{Flaw}
use Rattle.rules_text.specs.declared.text.TextKind.{TextKind}
use Rattle.rules_text.specs.declared.text.TextKind.TheVariants.{Unclosed, Unexpected, TooDeep}
use Rattle.mich_text.proofs.grammar.Complete.{element_runs}
use Rattle.mich_text.proofs.tokens.Ahead.{no_token, flaw_le}
use Rattle.mich_text.proofs.tokens.Read.{okay_is, clash, wrongly, err_is}
use Rattle.mich_text.proofs.readings.Reading.{same_rest, From, compare}
use Rattle.mich_text.proofs.grammar.Signs.{no_inner}

okay_stack : Stack → Result Stack Refusal
okay_stack s = Ok s

same_stack : (s r : Stack) → okay_stack s ≡ okay_stack r → s ≡ r
unfolding okay_stack
same_stack s r e = cc

-- the tokens of a statement stand for one node
pub one_tree : (e f : Element) → element_tokens e ≡ element_tokens f → element_tree e ≡ element_tree f
unfolding okay_stack
one_tree e f h =
    let high = max (element_depth e) (element_depth f) in
    let p = element_runs high false [] [] e (omega arith) in
    let q = element_runs high false [] [] f (omega arith) in
    let same : p.0 ≡ q.0 = same_stack p.0 q.0 (sym p.1 ∙ ap (run high start) h ∙ q.1) in
    ap (λ s. ended_tree s (element_tree e)) (sym p.2 ∙ ap finish same ∙ q.2)

pub end_token : (rest behind : List ℕ) (end : ℕ) (t : Token) → EndsAt rest end → token_at rest ≡ Ok (t, behind) → t ≡ Token.semicolon
end_token [] behind end t p e = absurd (no_token behind t e)
end_token (c ∷ rest) behind end t p e = ap (λ (x : Token × List ℕ). x.0) (okay_is (t, behind) (Token.semicolon, p.0) (sym e ∙ p.1))

one_end : (rest : List ℕ) (a b : ℕ) → EndsAt rest a → EndsAt rest b → a ≡ b
one_end [] a b p q = p ∙ sym q
one_end (c ∷ rest) a b p q =
    p.2 ∙ ap (λ (x : Token × List ℕ). length x.1) (okay_is (Token.semicolon, p.0) (Token.semicolon, q.0) (sym p.1 ∙ q.1)) ∙ sym q.2

pub one_statement : (text : List ℕ) (x y : Tree) (a b c d : ℕ) → Stands text x a b → Stands text y c d → (x ≡ y) × (a ≡ c) × (b ≡ d)
one_statement text x y a b c d p q = elim (compare text p.tokens p.rest q.tokens (Some q.rest) p.leads q.leads) [
  | inl f ↦ by f.more f.from f.tokens
  | inr g ↦
      let sign : g.token ≡ Token.semicolon = end_token q.rest g.behind d g.token q.ends
      (ap token_at (same_rest q.rest g.at g.rest_is) ∙ g.read) in
      absurd (no_inner p.statement.element q.statement.element g.more (sym p.statement.tokens ∙ g.tokens
      ∙ ap (λ (l : List Token). l ++ g.token ∷ g.more) q.statement.tokens
      ∙ ap (λ (t : Token). element_tokens q.statement.element ++ t ∷ g.more) sign))
] where
  starts : a ≡ c
  starts = p.start_is ∙ ap length (same_rest p.first q.first (sym p.begins ∙ q.begins)) ∙ sym q.start_is

  by : (more : List Token) → From p.rest more (Some q.rest) → q.tokens ≡ p.tokens ++ more → (x ≡ y) × (a ≡ c) × (b ≡ d)
  by [] f h =
      let tokens : element_tokens p.statement.element ≡ element_tokens q.statement.element = sym p.statement.tokens
      ∙ sym (append-nil p.tokens) ∙ sym h ∙ q.statement.tokens in (
        p.statement.stands ∙ one_tree p.statement.element q.statement.element tokens
            ∙ sym q.statement.stands,
        starts,
        one_end p.rest b d p.ends (subst (λ (r : List ℕ). EndsAt r d) (same_rest q.rest p.rest f) q.ends),
      )
  by (t ∷ more) f h =
      let sign : t ≡ Token.semicolon = end_token p.rest f.0 b t p.ends f.1 in
      absurd (no_inner q.statement.element p.statement.element more (sym q.statement.tokens ∙ h
      ∙ ap (λ (l : List Token). l ++ t ∷ more) p.statement.tokens
      ∙ ap (λ (u : Token). element_tokens p.statement.element ++ u ∷ more) sign))

-- ---- one kind

same_kind : (k j : TextKind) (a b : ℕ) → wrongly (record { kind = k; left = a }) ≡ wrongly (record { kind = j; left = b }) → k ≡ j
same_kind k j a b e = ap (λ (d : Flaw). d.kind) (err_is (record { kind = k; left = a }) (record { kind = j; left = b }) e)

module _ (text : List ℕ) (k j : TextKind) (left other : ℕ) where
  two_flaws : IsFlawedWithoutLimits text k left → IsFlawedWithoutLimits text j other → k ≡ j
  two_flaws p q = elim (compare text p.before p.here q.before (Some q.here) p.leads q.leads) [
    | inl f ↦ by f.more f.from
    | inr g ↦ absurd (clash q.here q.wrong (ap token_at (same_rest q.here g.at g.rest_is) ∙ g.read))
  ] where
    by : (more : List Token) → From p.here more (Some q.here) → k ≡ j
    by [] f = same_kind k j left other (sym p.wrong ∙ ap token_at (sym (same_rest q.here p.here f)) ∙ q.wrong)
    by (t ∷ more) f = absurd (clash p.here p.wrong f.1)

  flaw_in_comment : IsFlawedWithoutLimits text k left → IsInComment text j other → ⊥
  flaw_in_comment p q = elim (compare text p.before p.here q.before None p.leads q.leads) [
    | inl f ↦ by f.more f.from
    | inr g ↦ cc g.rest_is
  ] where
    by : (more : List Token) → From p.here more None → ⊥
    by [] f = cc f
    by (t ∷ more) f = clash p.here p.wrong f.1

  flaw_open : IsFlawedWithoutLimits text k left → IsOpen text j other → ⊥
  flaw_open p q = elim (compare text p.before p.here q.before (Some []) p.leads q.leads) [
    | inl f ↦ by f.more f.from
    | inr g ↦ no_token g.behind g.token (ap token_at (same_rest [] g.at g.rest_is) ∙ g.read)
  ] where
    by : (more : List Token) → From p.here more (Some []) → ⊥
    by [] f = omega (arith, p.some, ap length (same_rest [] p.here f))
    by (t ∷ more) f = clash p.here p.wrong f.1

-- what a condition says of its kind
data Sort (text : List ℕ) (k : TextKind) (left : ℕ) : Type 0 where
  own : IsFlawedWithoutLimits text k left → rank_without_limits k ≡ 0 → Sort text k left
  comment : IsInComment text k left → k ≡ Unclosed → Sort text k left
  open_still : IsOpen text k left → k ≡ Unclosed → Sort text k left
  placeless : k ≡ Unexpected → Sort text k left
  deep : k ≡ TooDeep → Sort text k left

sort_of : (text : List ℕ) (k : TextKind) (left : ℕ) → HoldsWithoutLimits text k left → Sort text k left
sort_of text k left (flawed p) = own p (flaw_le p.here (record { kind = k; left = left }) p.wrong).1
sort_of text k left (in_comment p) = comment p p.kind_is
sort_of text k left (is_open p) = open_still p p.kind_is
sort_of text k left (unexpected p) = placeless p.kind_is
sort_of text k left (too_deep p) = deep p.kind_is

ranks : (k j : TextKind) (n m : ℕ) → rank_without_limits k ≡ rank_without_limits j → rank_without_limits k ≡ n → rank_without_limits j ≡ m
    → n ≡ m
ranks k j n m e f g = sym f ∙ e ∙ g

by_sorts : (text : List ℕ) (k j : TextKind) (left other : ℕ) → rank_without_limits k ≡ rank_without_limits j → Sort text k left
    → Sort text j other → k ≡ j
by_sorts text k j left other e (own p a) (own q b) = two_flaws text k j left other p q
by_sorts text k j left other e (own p a) (comment q b) = absurd (flaw_in_comment text k j left other p q)
by_sorts text k j left other e (own p a) (open_still q b) = absurd (flaw_open text k j left other p q)
by_sorts text k j left other e (own p a) (placeless b) = absurd (omega (arith, ranks k j 0 1 e a (ap rank_without_limits b)))
by_sorts text k j left other e (own p a) (deep b) = absurd (omega (arith, ranks k j 0 2 e a (ap rank_without_limits b)))
by_sorts text k j left other e (comment p a) (own q b) = absurd (flaw_in_comment text j k other left q p)
by_sorts text k j left other e (comment p a) (comment q b) = a ∙ sym b
by_sorts text k j left other e (comment p a) (open_still q b) = a ∙ sym b
by_sorts text k j left other e (comment p a) (placeless b) =
    absurd (omega (arith, ranks k j 0 1 e (ap rank_without_limits a) (ap rank_without_limits b)))
by_sorts text k j left other e (comment p a) (deep b) =
    absurd (omega (arith, ranks k j 0 2 e (ap rank_without_limits a) (ap rank_without_limits b)))
by_sorts text k j left other e (open_still p a) (own q b) = absurd (flaw_open text j k other left q p)
by_sorts text k j left other e (open_still p a) (comment q b) = a ∙ sym b
by_sorts text k j left other e (open_still p a) (open_still q b) = a ∙ sym b
by_sorts text k j left other e (open_still p a) (placeless b) =
    absurd (omega (arith, ranks k j 0 1 e (ap rank_without_limits a) (ap rank_without_limits b)))
by_sorts text k j left other e (open_still p a) (deep b) =
    absurd (omega (arith, ranks k j 0 2 e (ap rank_without_limits a) (ap rank_without_limits b)))
by_sorts text k j left other e (placeless a) (own q b) = absurd (omega (arith, ranks k j 1 0 e (ap rank_without_limits a) b))
by_sorts text k j left other e (placeless a) (comment q b) =
    absurd (omega (arith, ranks k j 1 0 e (ap rank_without_limits a) (ap rank_without_limits b)))
by_sorts text k j left other e (placeless a) (open_still q b) =
    absurd (omega (arith, ranks k j 1 0 e (ap rank_without_limits a) (ap rank_without_limits b)))
by_sorts text k j left other e (placeless a) (placeless b) = a ∙ sym b
by_sorts text k j left other e (placeless a) (deep b) =
    absurd (omega (arith, ranks k j 1 2 e (ap rank_without_limits a) (ap rank_without_limits b)))
by_sorts text k j left other e (deep a) (own q b) = absurd (omega (arith, ranks k j 2 0 e (ap rank_without_limits a) b))
by_sorts text k j left other e (deep a) (comment q b) =
    absurd (omega (arith, ranks k j 2 0 e (ap rank_without_limits a) (ap rank_without_limits b)))
by_sorts text k j left other e (deep a) (open_still q b) =
    absurd (omega (arith, ranks k j 2 0 e (ap rank_without_limits a) (ap rank_without_limits b)))
by_sorts text k j left other e (deep a) (placeless b) =
    absurd (omega (arith, ranks k j 2 1 e (ap rank_without_limits a) (ap rank_without_limits b)))
by_sorts text k j left other e (deep a) (deep b) = a ∙ sym b

-- two conditions of one rank_without_limits at one place are of one kind
pub one_kind : (text : List ℕ) (k j : TextKind) (left other : ℕ) → rank_without_limits k ≡ rank_without_limits j
    → HoldsWithoutLimits text k left → HoldsWithoutLimits text j other → k ≡ j
one_kind text k j left other e p q = by_sorts text k j left other e (sort_of text k left p) (sort_of text j other q)

-- ---- the end is neither

pub end_leads : (text : List ℕ) (ts : List Token) (o : Option (List ℕ)) → IsEndWithoutLimits text → Leads text ts o
    → (ts ≡ []) × (o ≡ Some [])
end_leads text [] o e p = (refl, sym p ∙ e)
end_leads text (t ∷ ts) o e p = absurd (no_token p.1 t (ap token_at (same_rest [] p.0 (sym e ∙ p.2)) ∙ p.3))

pub no_tokens : (e : Element) → element_tokens e ≡ [] → ⊥
no_tokens (alone (number n)) h = omega (arith, ap (λ (l : List Token). length l) h)
no_tokens (alone (bytes b)) h = omega (arith, ap (λ (l : List Token). length l) h)
no_tokens (alone (string s)) h = omega (arith, ap (λ (l : List Token). length l) h)
no_tokens (alone (parens n i)) h = omega (arith, ap (λ (l : List Token). length l) h)
no_tokens (alone (braces s)) h = omega (arith, ap (λ (l : List Token). length l) h)
no_tokens (alone (braces_to s e)) h = omega (arith, ap (λ (l : List Token). length l) h)
no_tokens (application n i) h = omega (arith, ap (λ (l : List Token). length l) h)

pub no_statement_at_end : (text : List ℕ) (tree : Tree) (from end : ℕ) → IsEndWithoutLimits text → Stands text tree from end → ⊥
no_statement_at_end text tree from end e s =
    no_tokens s.statement.element (sym s.statement.tokens ∙ (end_leads text s.tokens (Some s.rest) e s.leads).0)

no_shape : (here : List ℕ) (shape : Shape) → Some here ≡ Some [] → first_shape here ≡ Some shape → ⊥
no_shape [] shape e h = cc h
no_shape (c ∷ here) shape e h = omega (arith, ap (λ (l : List ℕ). length l) (same_rest (c ∷ here) [] e))

pub nothing_holds : (text : List ℕ) (k : TextKind) (left : ℕ) → IsEndWithoutLimits text → HoldsWithoutLimits text k left → ⊥
nothing_holds text k left e (flawed p) =
    omega (arith, p.some, ap (λ (l : List ℕ). length l) (same_rest p.here [] (end_leads text p.before (Some p.here) e p.leads).1))
nothing_holds text k left e (in_comment p) = cc (end_leads text p.before None e p.leads).1
nothing_holds text k left e (is_open p) =
    p.open_still (record { whole = ended nothing; tokens = (end_leads text p.before (Some []) e p.leads).0 })
nothing_holds text k left e (unexpected p) = no_shape p.here p.shape (end_leads text p.before (Some p.here) e p.leads).1 p.begins
nothing_holds text k left e (too_deep p) = no_shape p.here p.shape (end_leads text p.before (Some p.here) e p.leads).1 p.begins
