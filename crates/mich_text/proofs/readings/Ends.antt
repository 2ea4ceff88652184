-- A statement that stands in a text ends behind all that was read.
use Rattle.std.proofs.Common.{◌≡◌, ℕ, ◌≤◌, ◌<◌, ◌⊎◌, inl, inr, List, [], ◌∷◌, ◌++◌, length, Some, Ok, sym, ap, subst, ◌∙◌, arith}
use Rattle.rules_text.specs.nodes.Tree.{Tree}
use Rattle.rules_text.specs.text.Token.{Token}
use Rattle.rules_text.specs.text.Lexical.{token_at}
use Rattle.rules_text.specs.text.Text.{EndsAt, Stands}
use Rattle.rules_text.specs.text.Syntax.{element_tokens}
use Rattle.mich_text.specs.Machine.{Stack}
use Rattle.mich_text.proofs.readings.Reading.{same_rest, From, IsPassed, compare, At}
use Rattle.mich_text.proofs.tokens.Ahead.{token_shorter, leads_le}
use Rattle.mich_text.proofs.tokens.Read.{okay_is}

-- what lies behind a token that was read lies further on
pub behind_le : (here : List ℕ) (more : List Token) (t : Token) (there : List ℕ) → From here (t ∷ more) (Some there)
    → length there < length here
behind_le here more t there p = omega (arith, token_shorter here p.0 t p.1, leads_le p.0 more there p.2)

abbrev EndsBehind : List ℕ → ℕ → Type 0
EndsBehind here end = (here ≡ []) ⊎ (end < length here)

pub ends_le : (rest : List ℕ) (end : ℕ) → EndsAt rest end → end ≤ length rest
ends_le [] end p = omega arith
ends_le (c ∷ rest) end p = omega (arith, token_shorter (c ∷ rest) p.0 Token.semicolon p.1)

ends_lt : (rest : List ℕ) (end : ℕ) → 0 < length rest → EndsAt rest end → end < length rest
ends_lt [] end h p = absurd (omega arith)
ends_lt (c ∷ rest) end h p = omega (arith, token_shorter (c ∷ rest) p.0 Token.semicolon p.1)

-- the sign that ends a statement
pub end_sign : (rest behind : List ℕ) (end : ℕ) (t : Token) → EndsAt rest end → token_at rest ≡ Ok (t, behind) → t ≡ Token.semicolon
end_sign [] behind end t p e = absurd (omega (arith, token_shorter [] behind t e))
end_sign (c ∷ rest) behind end t p e = ap (λ (x : Token × List ℕ). x.0) (okay_is (t, behind) (Token.semicolon, p.0) (sym e ∙ p.1))

-- it wasn't passed
pub not_passed : (text : List ℕ) (ts : List Token) (here : List ℕ) (s : Stack) (tree : Tree) (from end : ℕ) → At text ts here s
    → (p : Stands text tree from end) → IsPassed ts p.tokens (Some p.rest) → ⊥
not_passed text ts here s tree from end a p g =
    let sign : g.token ≡ Token.semicolon = end_sign p.rest g.behind end g.token p.ends
    (ap token_at (same_rest p.rest g.at g.rest_is) ∙ g.read) in
    let e = p.statement.element in
    a.lacks e g.more (g.tokens ∙ ap (λ (l : List Token). l ++ g.token ∷ g.more) p.statement.tokens
    ∙ ap (λ (t : Token). element_tokens e ++ t ∷ g.more) sign)

pub stands_behind : (text : List ℕ) (ts : List Token) (here : List ℕ) (s : Stack) (tree : Tree) (from end : ℕ) → At text ts here s
    → 0 < length here → Stands text tree from end → end < length here
stands_behind text ts here s tree from end a some p = elim (compare text ts here p.tokens (Some p.rest) a.leads p.leads) [
  | inl f ↦ by f.more f.from
  | inr g ↦ absurd (not_passed text ts here s tree from end a p g)
] where
  by : (more : List Token) → From here more (Some p.rest) → end < length here
  by [] f =
      subst (λ (x : List ℕ). end < length x) (same_rest p.rest here f)
      (ends_lt p.rest end (subst (λ (x : List ℕ). 0 < length x) (sym (same_rest p.rest here f)) some) p.ends)
  by (t ∷ more) f = omega (arith, behind_le here more t p.rest f, ends_le p.rest end p.ends)
