-- What is read of any token lies further on.
use Rattle.std.proofs.Common.{◌≡◌, ℕ, suc, ◌≤◌, ◌<◌, List, [], ◌∷◌, length, Option, Some, None, Ok, Err, refl, subst, arith}
use Rattle.rules_text.specs.text.Token.{Token, string, name, annotation, number, bytes}
use Rattle.rules_text.specs.declared.text.Shape.{Shape}
use Rattle.rules_text.specs.declared.text.Shape.TheVariants.{Digits, Quoted, Word, Note, OpenBrace, CloseBrace, OpenParen, CloseParen, Semicolon}
use Rattle.rules_text.specs.text.Fault.{Flaw}
use Rattle.rules_text.specs.text.Lexical.{name_at, annotation_at, string_at, bytes_at, number_at, digits_at, begins_bytes, shape_at, shape_of, token_at}
use Rattle.rules_text.specs.text.Text.{Leads}
use Rattle.mich_text.specs.Plain.{rank_without_limits}
use Rattle.mich_text.proofs.tokens.Annotations.{annotation_ahead}
use Rattle.mich_text.proofs.tokens.Bytes.{bytes_ahead}
use Rattle.mich_text.proofs.tokens.Gaps.{gap_le}
use Rattle.mich_text.proofs.tokens.Names.{name_ahead, word_is}
use Rattle.mich_text.proofs.tokens.Numbers.{number_ahead}
use Rattle.mich_text.proofs.tokens.Properties.{IsAhead, either_ahead, made_ahead}
use Rattle.mich_text.proofs.tokens.Strings.{string_ahead}

pub digits_ahead : (text : List ℕ) → IsAhead (length text) (digits_at text)
digits_ahead [] = made_ahead number 0 (number_at []) (number_ahead [])
digits_ahead (c ∷ []) = made_ahead number 1 (number_at (c ∷ [])) (number_ahead (c ∷ []))
digits_ahead (c ∷ d ∷ rest) =
    either_ahead (begins_bytes (c ∷ d ∷ rest)) (suc (suc (length rest))) _ _
    (λ _. made_ahead bytes _ (bytes_at (c ∷ d ∷ rest)) (bytes_ahead c d rest))
    (λ _. made_ahead number _ (number_at (c ∷ d ∷ rest)) (number_ahead (c ∷ d ∷ rest)))

shape_ahead : (c : ℕ) (rest : List ℕ) (o : Option Shape) → shape_of c ≡ o → IsAhead (suc (length rest)) (shape_at o (c ∷ rest))
shape_ahead c rest None e = (omega arith, refl)
shape_ahead c rest (Some Digits) e = digits_ahead (c ∷ rest)
shape_ahead c rest (Some Quoted) e = made_ahead string _ (string_at (c ∷ rest)) (string_ahead c rest)
shape_ahead c rest (Some Word) e = made_ahead name _ (name_at (c ∷ rest)) (name_ahead c rest (word_is c e))
shape_ahead c rest (Some Note) e = made_ahead annotation _ (annotation_at (c ∷ rest)) (annotation_ahead c rest)
shape_ahead c rest (Some OpenBrace) e = omega arith
shape_ahead c rest (Some CloseBrace) e = omega arith
shape_ahead c rest (Some OpenParen) e = omega arith
shape_ahead c rest (Some CloseParen) e = omega arith
shape_ahead c rest (Some Semicolon) e = omega arith

pub token_ahead : (text : List ℕ) → IsAhead (length text) (token_at text)
unfolding token_at
token_ahead [] = (omega arith, refl)
token_ahead (c ∷ rest) = shape_ahead c rest (shape_of c) refl

pub token_shorter : (text behind : List ℕ) (t : Token) → token_at text ≡ Ok (t, behind) → length behind < length text
token_shorter text behind t e = subst (IsAhead (length text)) e (token_ahead text)

-- no token stands at the end of the input
pub no_token : (behind : List ℕ) (t : Token) → token_at [] ≡ Ok (t, behind) → ⊥
no_token behind t e = omega (arith, token_shorter [] behind t e)

pub flaw_le : (text : List ℕ) (f : Flaw) → token_at text ≡ Err f → (f.left ≤ length text) × (rank_without_limits f.kind ≡ 0)
flaw_le text f e = subst (IsAhead (length text)) e (token_ahead text)

pub leads_le : (text : List ℕ) (ts : List Token) (rest : List ℕ) → Leads text ts (Some rest) → length rest ≤ length text
leads_le text [] rest p = gap_le text rest p
leads_le text (t ∷ ts) rest p = omega (arith, gap_le text p.0 p.2, token_shorter p.0 p.1 t p.3, leads_le p.1 ts rest p.4)
