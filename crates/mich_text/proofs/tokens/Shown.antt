-- A flaw of a token that some bytes show, whatever follows them.
use Rattle.std.proofs.Common.{◌≡◌, ℕ, ◌<◌, List, [], ◌∷◌, ◌++◌, length, Option, Some, None, Result, Err, subst, arith}
use Rattle.rules_text.specs.text.Token.{Token, string, name, annotation, number, bytes}
use Rattle.rules_text.specs.declared.text.Shape.{Shape}
use Rattle.rules_text.specs.declared.text.Shape.TheVariants.{Digits, Quoted, Word, Note, OpenBrace, CloseBrace, OpenParen, CloseParen, Semicolon}
use Rattle.rules_text.specs.declared.text.TextKind.TheVariants.{BadChar}
use Rattle.rules_text.specs.text.Fault.{Flaw}
use Rattle.rules_text.specs.text.Lexical.{name_at, annotation_at, string_at, bytes_at, number_at, begins_bytes, shape_at, shape_of, token_at}
use Rattle.mich_text.specs.Shown.{Counts}
use Rattle.mich_text.proofs.tokens.Annotations.{annotation_shown}
use Rattle.mich_text.proofs.tokens.Bytes.{bytes_shown}
use Rattle.mich_text.proofs.tokens.Names.{name_shown}
use Rattle.mich_text.proofs.tokens.Numbers.{number_shown}
use Rattle.mich_text.proofs.tokens.Properties.{IsShown, at_first, either_shown, made_shown, moved}
use Rattle.mich_text.proofs.tokens.Strings.{string_shown}

shape_shown : (o : Option Shape) (c d : ℕ) (xs more : List ℕ)
    → IsShown (c ∷ d ∷ xs) more (shape_at o (c ∷ d ∷ xs)) (shape_at o (c ∷ d ∷ (xs ++ more)))
shape_shown None c d xs more = λ _. at_first BadChar (c ∷ d ∷ xs) more
shape_shown (Some Digits) c d xs more =
    either_shown (begins_bytes (c ∷ d ∷ xs)) (c ∷ d ∷ xs) more _ _ _ _
    (made_shown bytes (c ∷ d ∷ xs) more (bytes_at (c ∷ d ∷ xs)) (bytes_at (c ∷ d ∷ (xs ++ more))) (bytes_shown c d xs more))
    (made_shown number (c ∷ d ∷ xs) more (number_at (c ∷ d ∷ xs)) (number_at (c ∷ d ∷ (xs ++ more))) (number_shown c d xs more))
shape_shown (Some Quoted) c d xs more =
    made_shown string (c ∷ d ∷ xs) more (string_at (c ∷ d ∷ xs)) (string_at (c ∷ d ∷ (xs ++ more))) (string_shown c (d ∷ xs) more)
shape_shown (Some Word) c d xs more =
    made_shown name (c ∷ d ∷ xs) more (name_at (c ∷ d ∷ xs)) (name_at (c ∷ d ∷ (xs ++ more))) (name_shown (c ∷ d ∷ xs) more)
shape_shown (Some Note) c d xs more =
    made_shown annotation (c ∷ d ∷ xs) more (annotation_at (c ∷ d ∷ xs)) (annotation_at (c ∷ d ∷ (xs ++ more)))
    (annotation_shown c (d ∷ xs) more)
shape_shown (Some OpenBrace) c d xs more = tt
shape_shown (Some CloseBrace) c d xs more = tt
shape_shown (Some OpenParen) c d xs more = tt
shape_shown (Some CloseParen) c d xs more = tt
shape_shown (Some Semicolon) c d xs more = tt

-- a flaw that two bytes or more show
pub token_shown : (text more : List ℕ) (f : Flaw) → 1 < length text → token_at text ≡ Err f → Counts text f.kind
    → token_at (text ++ more) ≡ Err (moved (length more) f)
unfolding token_at
token_shown [] more f h e c = absurd (omega (arith, h))
token_shown (x ∷ []) more f h e c = absurd (omega (arith, h))
token_shown (x ∷ y ∷ xs) more f h e c =
    (subst (λ (r : Result (Token × List ℕ) Flaw). IsShown (x ∷ y ∷ xs) more r (token_at (x ∷ y ∷ (xs ++ more)))) e
    (shape_shown (shape_of x) x y xs more)) c
