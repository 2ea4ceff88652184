-- A `;` that ends a statement has no fault.
use Rattle.std.proofs.Common.{◌≡◌, ℕ, true, false, ◌≤◌, ◌<◌, inl, inr, List, [], ◌∷◌, ◌++◌, length, Option, Some, None, Ok, refl, sym, ap, subst, ◌∙◌, arith}
use Rattle.std.proofs.lemmas.List.{append-nil, length-append}
use Rattle.rules_text.specs.nodes.Limits.{depth_limit}
use Rattle.rules_text.specs.nodes.Tree.{Tree}
use Rattle.rules_text.specs.text.Token.{Token}
use Rattle.rules_text.specs.text.Syntax.{Element, nothing, followed, ended, element_tokens, IsFront, IsFrontWithin}
use Rattle.rules_text.specs.text.Lexical.{token_at, first_shape}
use Rattle.rules_text.specs.declared.text.Shape.{Shape}
use Rattle.rules_text.specs.declared.text.Shape.TheVariants.{Semicolon}
use Rattle.rules_text.specs.declared.text.TextKind.{TextKind}
use Rattle.rules_text.specs.text.Text.{Leads, EndsAt, Stands, IsUnexpected, IsTooDeep}
use Rattle.mich_text.specs.Machine.{Stack, Refusal, run, start, refused, ready_for, put, no_semicolon, elements, named, paren}
use Rattle.mich_text.specs.Machine as machine
use Rattle.mich_text.specs.Plain.{IsFlawedWithoutLimits, HoldsWithoutLimits, flawed, in_comment, is_open, unexpected, too_deep, IsFaultWithoutLimits}
use Rattle.mich_text.proofs.tokens.Shapes.{token_shape_is}
use Rattle.mich_text.proofs.tokens.Ahead.{token_shorter, leads_le}
use Rattle.mich_text.proofs.readings.Reading.{same_rest, From, compare, passes}
use Rattle.mich_text.proofs.grammar.Complete.{statements_run}
use Rattle.mich_text.proofs.grammar.Fronts.{run_split, run_more, step_ok, is_front_within, no_front}
use Rattle.mich_text.proofs.tokens.Read.{clash}
use Rattle.mich_text.proofs.readings.Closed.{sign_rest}
use Rattle.mich_text.proofs.limits.Past.{NoneClosed}

pub leads_one : (text : List ℕ) (ts : List Token) (a b : List ℕ) → Leads text ts (Some a) → Leads text ts (Some b) → a ≡ b
leads_one text ts a b p q = elim (compare text ts a ts (Some b) p q) [
  | inl f ↦ by f.more f.from f.tokens
  | inr g ↦ absurd (omega (arith, ap (λ (l : List Token). length l) g.tokens, length-append ts (g.token ∷ g.more)))
] where
  by : (more : List Token) → From a more (Some b) → ts ≡ ts ++ more → a ≡ b
  by [] f e = sym (same_rest b a f)
  by (t ∷ more) f e = absurd (omega (arith, ap (λ (l : List Token). length l) e, length-append ts (t ∷ more)))

-- the last byte, as a place that tokens lead to
meet_last : (text : List ℕ) (ts us : List Token) (here rest : List ℕ) → Leads text ts (Some here) → Leads text us (Some rest)
    → length here ≡ 1 → length rest ≡ 1 → (ts ≡ us) × (here ≡ rest)
meet_last text ts us here rest p q one last = elim (compare text ts here us (Some rest) p q) [
  | inl f ↦ by f.more f.from f.tokens
  | inr g ↦
      let at = passes text us g.more g.token here (subst (λ (l : List Token). Leads text l (Some here)) g.tokens p) in
      absurd (omega (arith, at.further, ap (λ (l : List ℕ). length l) (leads_one text us at.here rest at.leads q), one, last))
] where
  by : (more : List Token) → From here more (Some rest) → us ≡ ts ++ more → (ts ≡ us) × (here ≡ rest)
  by [] f e = (sym (e ∙ append-nil ts), sym (same_rest rest here f))
  by (t ∷ more) f e = absurd (omega (arith, leads_le f.0 more rest f.2, token_shorter here f.0 t f.1, one, last))

sign_front : (e : Element) → IsFront (element_tokens e ++ Token.semicolon ∷ [])
sign_front e = record { whole = ended (followed nothing e); more = []; tokens = append-nil (element_tokens e ++ Token.semicolon ∷ []) }

never_deep : (s : Stack) → no_semicolon s ≡ Some machine.too_deep → ⊥
never_deep [] e = cc e
never_deep (elements braced es true ∷ s) e = cc e
never_deep (elements braced es false ∷ s) e = cc e
never_deep (named w n ns xs ∷ s) e = cc e
never_deep (paren ∷ s) e = cc e

never : (n : Stack) → refused depth_limit (ready_for Semicolon n) Semicolon ≡ Some machine.too_deep → ⊥
unfolding refused
never n e = never_deep (ready_for Semicolon n) e

sign_within : (ts : List Token) → IsFrontWithin depth_limit ts → IsFront (ts ++ Token.semicolon ∷ [])
    → IsFrontWithin depth_limit (ts ++ Token.semicolon ∷ [])
sign_within ts p f =
    let all = statements_run depth_limit p.whole p.depth in
    let part = run_split depth_limit start all.0 ts p.more (ap (run depth_limit start) p.tokens ∙ all.1) in
    by part.0 part.1 (refused depth_limit (ready_for Semicolon part.0) Semicolon) refl
  where
    by : (n : Stack) → run depth_limit start ts ≡ Ok n → (o : Option Refusal) → refused depth_limit (ready_for Semicolon n) Semicolon ≡ o
        → IsFrontWithin depth_limit (ts ++ Token.semicolon ∷ [])
    by n r None e =
        is_front_within depth_limit (put Token.semicolon (ready_for Semicolon n)) (ts ++ Token.semicolon ∷ []) (run_more depth_limit start n
        (put Token.semicolon (ready_for Semicolon n)) ts Token.semicolon r (step_ok depth_limit n Token.semicolon e))
    by n r (Some machine.unexpected) e = absurd (no_front depth_limit n ts Token.semicolon r e f)
    by n r (Some machine.too_deep) e = absurd (never n e)

module _ (front : List ℕ) (tree : Tree) (begin end : ℕ) (q : Stands front tree begin end) (c : ℕ) (r : List ℕ) (rest_is : q.rest ≡ c ∷ r)
    (read : token_at (c ∷ r) ≡ Ok (Token.semicolon, [])) where
  one_left : length q.rest ≡ 1
  one_left = ap (λ (l : List ℕ). length l) rest_is ∙ ap (λ (l : List ℕ). length (c ∷ l)) (sym (sign_rest c r [] read))

  read_rest : token_at q.rest ≡ Ok (Token.semicolon, [])
  read_rest = ap token_at rest_is ∙ read

  shape_rest : first_shape q.rest ≡ Some Semicolon
  shape_rest = token_shape_is q.rest Token.semicolon [] read_rest

  no_flaw : (k : TextKind) (left : ℕ) → IsFlawedWithoutLimits front k left → ⊥
  no_flaw k left p = elim (compare front p.before p.here q.tokens (Some q.rest) p.leads q.leads) [
    | inl f ↦ by f.more f.from
    | inr g ↦
        let at = passes front q.tokens g.more g.token p.here (subst (λ (l : List Token). Leads front l (Some p.here)) g.tokens p.leads) in
        omega (
          arith,
          at.further,
          ap (λ (l : List ℕ). length l) (leads_one front q.tokens at.here q.rest at.leads q.leads),
          one_left,
          p.some,
        )
  ] where
    by : (more : List Token) → From p.here more (Some q.rest) → ⊥
    by [] f = clash p.here p.wrong (ap token_at (sym (same_rest q.rest p.here f)) ∙ read_rest)
    by (t ∷ more) f = clash p.here p.wrong f.1

  front_is : (before : List Token) → before ≡ q.tokens → IsFront (before ++ Token.semicolon ∷ [])
  front_is before e =
      subst (λ (l : List Token). IsFront (l ++ Token.semicolon ∷ [])) (sym (e ∙ q.statement.tokens)) (sign_front q.statement.element)

  shape_is : (here : List ℕ) (shape : Shape) → here ≡ q.rest → first_shape here ≡ Some shape → Semicolon ≡ shape
  shape_is here shape e b = some (Semicolon) shape (sym shape_rest ∙ ap first_shape (sym e) ∙ b) where
    some : (a b : Shape) → Some a ≡ Some b → a ≡ b
    some a b h = cc

  no_unexpected : (k : TextKind) → IsUnexpected front k 1 → ⊥
  no_unexpected k p =
      let meet = meet_last front p.before q.tokens p.here q.rest p.leads q.leads (sym p.left_is) one_left in
      p.ends Token.semicolon (shape_is p.here p.shape meet.1 p.begins) (front_is p.before meet.0)

  no_too_deep : (k : TextKind) → IsTooDeep front k 1 → ⊥
  no_too_deep k p =
      let meet = meet_last front p.before q.tokens p.here q.rest p.leads q.leads (sym p.left_is) one_left in
      p.deep Token.semicolon (shape_is p.here p.shape meet.1 p.begins) (sign_within p.before p.within (front_is p.before meet.0))

  pub no_fault : (k : TextKind) → HoldsWithoutLimits front k 1 → ⊥
  no_fault k (flawed p) = no_flaw k 1 p
  no_fault k (in_comment p) = omega (arith, p.left_is)
  no_fault k (is_open p) = omega (arith, p.left_is)
  no_fault k (unexpected p) = no_unexpected k p
  no_fault k (too_deep p) = no_too_deep k p

-- where a fault stands at the last byte or at the end, no statement has its `;` before
pub none_before_fault : (front : List ℕ) (k : TextKind) (left : ℕ) → left ≤ 1 → IsFaultWithoutLimits front k left → NoneClosed front
none_before_fault front k left near f tree begin end q some = by q.rest refl some q.ends (f.within tree begin end q)
  where
    at_last : (c : ℕ) (r : List ℕ) → q.rest ≡ c ∷ r → (behind : List ℕ) → token_at (c ∷ r) ≡ Ok (Token.semicolon, behind)
        → end ≡ length behind → end ≡ 0 → left ≡ 1 → ⊥
    at_last c r e [] read is zero one = no_fault front tree begin end q c r e read k (subst (HoldsWithoutLimits front k) one f.holds)
    at_last c r e (b ∷ bs) read is zero one = omega (arith, is, zero)

    by : (rest : List ℕ) → q.rest ≡ rest → 0 < length rest → EndsAt rest end → end < left → ⊥
    by [] e s ends less = omega (arith, s)
    by (c ∷ r) e s ends less = at_last c r e ends.0 ends.1 ends.2 (omega (arith, less, near)) (omega (arith, less, near))
