-- A token with a byte behind it is the same whatever bytes follow.
use Rattle.std.proofs.Common.{◌≡◌, ℕ, List, [], ◌∷◌, ◌++◌, Option, Some, None, ℤ, Result, Ok, Err, refl, subst, arith}
use Rattle.rules_text.specs.text.Token.{Token, string, name, annotation, number, bytes}
use Rattle.rules_text.specs.declared.text.Shape.{Shape}
use Rattle.rules_text.specs.declared.text.Shape.TheVariants.{Digits, Quoted, Word, Note, OpenBrace, CloseBrace, OpenParen, CloseParen, Semicolon}
use Rattle.rules_text.specs.text.Fault.{Flaw}
use Rattle.rules_text.specs.text.Lexical.{name_at, annotation_at, string_at, bytes_at, number_at, made, digits_at, begins_bytes, shape_at, shape_of, token_at}
use Rattle.mich_text.proofs.tokens.Annotations.{annotation_stable}
use Rattle.mich_text.proofs.tokens.Bytes.{bytes_stable}
use Rattle.mich_text.proofs.tokens.Names.{name_stable}
use Rattle.mich_text.proofs.tokens.Numbers.{number_ahead, number_stable}
use Rattle.mich_text.proofs.tokens.Properties.{IsAhead, IsStable, either_stable, made_stable}
use Rattle.mich_text.proofs.tokens.Strings.{string_stable}

-- one byte has no byte behind it
one_byte : (c : ℕ) (more : List ℕ) (again : Result (Token × List ℕ) Flaw) → IsStable more (digits_at (c ∷ [])) again
one_byte c more again = by (number_at (c ∷ [])) (number_ahead (c ∷ [])) where
  by : (r : Result (ℤ × List ℕ) Flaw) → IsAhead 1 r → IsStable more (made number r) again
  by (Ok (x, [])) p = tt
  by (Ok (x, d ∷ rest)) p = absurd (omega arith)
  by (Err d) p = tt

digits_stable : (c : ℕ) (xs more : List ℕ) → IsStable more (digits_at (c ∷ xs)) (digits_at (c ∷ (xs ++ more)))
digits_stable c [] more = one_byte c more (digits_at (c ∷ more))
digits_stable c (d ∷ xs) more =
    either_stable (begins_bytes (c ∷ d ∷ xs)) more _ _ _ _
    (made_stable bytes more (bytes_at (c ∷ d ∷ xs)) (bytes_at (c ∷ d ∷ (xs ++ more))) (bytes_stable c d xs more))
    (made_stable number more (number_at (c ∷ d ∷ xs)) (number_at (c ∷ d ∷ (xs ++ more))) (number_stable c (d ∷ xs) more))

sign_stable : (t : Token) (xs more : List ℕ) → IsStable more (Ok (t, xs)) (Ok (t, xs ++ more))
sign_stable t [] more = tt
sign_stable t (c ∷ xs) more = refl

shape_stable : (o : Option Shape) (c : ℕ) (xs more : List ℕ) → IsStable more (shape_at o (c ∷ xs)) (shape_at o (c ∷ (xs ++ more)))
shape_stable None c xs more = tt
shape_stable (Some Digits) c xs more = digits_stable c xs more
shape_stable (Some Quoted) c xs more = made_stable string more (string_at (c ∷ xs)) (string_at (c ∷ (xs ++ more))) (string_stable c xs more)
shape_stable (Some Word) c xs more = made_stable name more (name_at (c ∷ xs)) (name_at (c ∷ (xs ++ more))) (name_stable (c ∷ xs) more)
shape_stable (Some Note) c xs more =
    made_stable annotation more (annotation_at (c ∷ xs)) (annotation_at (c ∷ (xs ++ more))) (annotation_stable c xs more)
shape_stable (Some OpenBrace) c xs more = sign_stable _ xs more
shape_stable (Some CloseBrace) c xs more = sign_stable _ xs more
shape_stable (Some OpenParen) c xs more = sign_stable _ xs more
shape_stable (Some CloseParen) c xs more = sign_stable _ xs more
shape_stable (Some Semicolon) c xs more = sign_stable _ xs more

-- a token with a byte behind it
pub token_stable : (text more rest : List ℕ) (t : Token) (c : ℕ) → token_at text ≡ Ok (t, c ∷ rest)
    → token_at (text ++ more) ≡ Ok (t, c ∷ (rest ++ more))
unfolding token_at
token_stable [] more rest t c e = absurd cc
token_stable (d ∷ xs) more rest t c e =
    subst (λ (r : Result (Token × List ℕ) Flaw). IsStable more r (token_at (d ∷ (xs ++ more)))) e (shape_stable (shape_of d) d xs more)
