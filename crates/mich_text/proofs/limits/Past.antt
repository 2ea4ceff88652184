-- A text that is too long at its first limit byte.
use Rattle.std.proofs.Common.{◌≡◌, ℕ, ◌+◌, ◌-◌, ◌≤◌, ◌<◌, ◌⊎◌, inl, inr, List, [], ◌∷◌, ◌++◌, length, Some, Ok, refl, sym, ap, ◌∙◌, arith}
use Rattle.rules_text.specs.nodes.Tree.{Tree}
use Rattle.rules_text.specs.text.Token.{Token}
use Rattle.rules_text.specs.text.Syntax.{Element, element_tokens, element_tree}
use Rattle.rules_text.specs.text.Lexical.{token_at}
use Rattle.rules_text.specs.declared.text.TextKind.{TextKind}
use Rattle.rules_text.specs.declared.text.TextKind.TheVariants.{TooLong}
use Rattle.rules_text.specs.text.Text.{IsLimit, IsFileLimit, IsStatementLimit, IsLongStatement, EndsAt, Stands, IsFault, rank}
use Rattle.rules_text.specs.text.Text as within
use Rattle.mich_text.specs.Plain as plain
use Rattle.mich_text.proofs.tokens.Ahead.{no_token}
use Rattle.mich_text.proofs.readings.Reading.{same_rest, From, compare}
use Rattle.mich_text.proofs.grammar.Signs.{no_inner}
use Rattle.mich_text.proofs.readings.Unique.{end_token, end_leads, no_tokens, nothing_holds}
use Rattle.mich_text.proofs.readings.Closed.{stands_cut, cut_rest}
use Rattle.mich_text.proofs.limits.Limited.{holds_cut, closed_rest, split}

-- no statement of the front has its `;`
abbrev pub NoneClosed : List ℕ → Type 0
NoneClosed front = (tree : Tree) (start end : ℕ) → (p : Stands front tree start end) → 0 < length p.rest → ⊥

-- nothing is wrong before the last byte of the front
abbrev pub NoneBefore : List ℕ → Type 0
NoneBefore front = (k : TextKind) (left : ℕ) → plain.HoldsWithoutLimits front k left → left ≤ 1

-- no statement of the front ends before its last byte
abbrev pub NoneEnds : List ℕ → Type 0
NoneEnds front = (tree : Tree) (start end : ℕ) → Stands front tree start end → end ≡ 0

module _ (before : ℕ) (front more : List ℕ) (at : ℕ) (is_limit : IsLimit before (front ++ more) at) (cuts : at ≡ 1 + length more)
    (last : (limit : ℕ) → IsLimit before (front ++ more) limit → limit ≤ at) where
  -- no condition of the text holds before the limit byte
  pub none_holds : NoneBefore front → (k : TextKind) (left : ℕ) → within.Holds before (front ++ more) k left → at < left → ⊥
  none_holds none k left h far =
      omega (arith, none k (left - length more) (holds_cut before front more at is_limit cuts last k left far h), far, cuts)

  -- the text is too long at the limit byte
  pub past : IsLongStatement (front ++ more) at ⊎ IsFileLimit before (front ++ more) at
      → ((k : TextKind) (left : ℕ) → within.Holds before (front ++ more) k left → at < left → ⊥) → NoneEnds front
      → IsFault before (front ++ more) TooLong at
  past long none ends = record {
    holds = within.past_limit (refl, long);
    first = λ j other q. by j other q (split other at);
    within = λ tree start end s. elim (split at end) [
      | inl h ↦
          let far : end < length s.rest = closed_rest s.rest end s.ends (omega (arith, h, cuts)) in
          let nothing = ends tree (start - length more) (end - length more)
          (stands_cut front more tree start end s (omega (arith, far, h, cuts))) in
          absurd (omega (arith, nothing, h, cuts))
      | inr h ↦ h
    ];
  } where
    by : (j : TextKind) (other : ℕ) (q : within.Holds before (front ++ more) j other) → (other ≤ at) ⊎ (at < other)
        → (other < at) ⊎ ((other ≡ at) × (0 ≤ rank q))
    by j other q (inr far) = absurd (none j other q far)
    by j other q (inl near) = elim (split at other) [
      | inl h ↦ inr (omega (arith, h, near), omega arith)
      | inr h ↦ inl h
    ]

  -- a statement that has no `;` in the front goes on past its limit
  pub goes_on : IsStatementLimit (front ++ more) at → NoneClosed front → IsLongStatement (front ++ more) at
  goes_on l none = record {
    limit = l;
    goes_on = λ e rest behind leads read. elim (split at (length rest)) [
      | inl h ↦
          let s : Stands (front ++ more) (element_tree e) (length l.first) (length behind) = record {
            tokens = element_tokens e;
            first = l.first;
            rest = rest;
            begins = l.begins;
            leads = leads;
            statement = record { element = e; tokens = refl; stands = refl };
            start_is = refl;
            ends = ends_at rest behind read;
          } in
          absurd (cut_closed e (length l.first) (length behind) s (omega (arith, h, cuts)))
      | inr h ↦ h
    ];
  } where
    ends_at : (rest behind : List ℕ) → token_at rest ≡ Ok (Token.semicolon, behind) → EndsAt rest (length behind)
    ends_at [] behind read = absurd (no_token behind Token.semicolon read)
    ends_at (c ∷ rest) behind read = (behind, read, refl)

    cut_closed : (e : Element) (start end : ℕ) → (s : Stands (front ++ more) (element_tree e) start end) → length more < length s.rest → ⊥
    cut_closed e start end s h =
        none (element_tree e) (start - length more) (end - length more) (stands_cut front more (element_tree e) start end s h)
        (omega (arith, cut_rest front more (element_tree e) start end s h, h))

-- ---- what the front is

pub none_at_end : (front : List ℕ) → plain.IsEndWithoutLimits front → NoneBefore front × NoneClosed front
none_at_end front e = (
  λ k left h. absurd (nothing_holds front k left e h),
  λ tree start end p h. no_tokens p.statement.element (sym p.statement.tokens ∙ (end_leads front p.tokens (Some p.rest) e p.leads).0),
)

pub none_stands : (front : List ℕ) → plain.IsEndWithoutLimits front → NoneEnds front
none_stands front e tree start end p =
    absurd (no_tokens p.statement.element (sym p.statement.tokens ∙ (end_leads front p.tokens (Some p.rest) e p.leads).0))

-- a statement that ends with the front has no `;` there
pub none_closed : (front : List ℕ) (x : Tree) (a b : ℕ) → (p : Stands front x a b) → p.rest ≡ [] → NoneClosed front
none_closed front x a b p ends tree start end q h = elim (compare front p.tokens p.rest q.tokens (Some q.rest) p.leads q.leads) [
  | inl f ↦ further f.more f.from
  | inr g ↦
      let sign : g.token ≡ Token.semicolon = end_token q.rest g.behind end g.token q.ends
      (ap token_at (same_rest q.rest g.at g.rest_is) ∙ g.read) in
      no_inner p.statement.element q.statement.element g.more (sym p.statement.tokens ∙ g.tokens
      ∙ ap (λ (l : List Token). l ++ g.token ∷ g.more) q.statement.tokens
      ∙ ap (λ (t : Token). element_tokens q.statement.element ++ t ∷ g.more) sign)
] where
  further : (more : List Token) → From p.rest more (Some q.rest) → ⊥
  further [] f = omega (arith, h, ap (λ (l : List ℕ). length l) (same_rest q.rest p.rest f ∙ ends))
  further (t ∷ more) f = no_token f.0 t (ap token_at (sym ends) ∙ f.1)

module _ (before : ℕ) (front more : List ℕ) (at : ℕ) (is_limit : IsLimit before (front ++ more) at) (cuts : at ≡ 1 + length more)
    (last : (limit : ℕ) → IsLimit before (front ++ more) limit → limit ≤ at) where
  -- the limit that ends the front, where no statement of it has its `;`
  pub long : NoneClosed front → IsLongStatement (front ++ more) at ⊎ IsFileLimit before (front ++ more) at
  long none = by is_limit where
    by : IsLimit before (front ++ more) at → IsLongStatement (front ++ more) at ⊎ IsFileLimit before (front ++ more) at
    by (inl s) = inl (goes_on before front more at is_limit cuts last s none)
    by (inr f) = inr f
