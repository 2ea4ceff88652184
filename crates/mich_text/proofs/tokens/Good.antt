-- What a token that was read is like.
use Rattle.std.proofs.Common.{◌≡◌, ℕ, List, [], ◌∷◌, Option, Some, None, Result, Ok, Err, refl, subst}
use Rattle.std.specs.List.{AllByRecursion}
use Rattle.rules_text.specs.text.Token.{Token, string, name, annotation, number, bytes}
use Rattle.rules_text.specs.declared.text.Shape.{Shape}
use Rattle.rules_text.specs.declared.text.Shape.TheVariants.{Digits, Quoted, Word, Note, OpenBrace, CloseBrace, OpenParen, CloseParen, Semicolon}
use Rattle.rules_text.specs.text.Fault.{Flaw}
use Rattle.rules_text.specs.text.Lexical.{name_at, annotation_at, string_at, bytes_at, number_at, made, digits_at, begins_bytes, shape_at, shape_of, token_at}
use Rattle.rules_text.specs.text.Text.{Leads}
use Rattle.mich_text.proofs.tokens.Annotations.{IsNote, annotation_reads}
use Rattle.mich_text.proofs.tokens.Bytes.{IsBytes, bytes_reads}
use Rattle.mich_text.proofs.tokens.Names.{IsName, name_reads}
use Rattle.mich_text.proofs.tokens.Numbers.{IsInt, number_reads}
use Rattle.mich_text.proofs.tokens.Properties.{Reads, either_reads}
use Rattle.mich_text.proofs.tokens.Strings.{IsString, string_reads}

abbrev pub IsGood : Token → Type 0
IsGood (Token.number z) = IsInt z
IsGood (Token.bytes b) = IsBytes b
IsGood (Token.string s) = IsString s
IsGood (Token.name n) = IsName n
IsGood (Token.annotation a) = IsNote a
IsGood Token.open_brace = Unit {0}
IsGood Token.close_brace = Unit {0}
IsGood Token.open_paren = Unit {0}
IsGood Token.close_paren = Unit {0}
IsGood Token.semicolon = Unit {0}

made_reads : {A : Type 0} (P : A → Type 0) (f : A → Token) (r : Result (A × List ℕ) Flaw) → ((x : A) → P x → IsGood (f x)) → Reads P r
    → Reads IsGood (made f r)
made_reads P f (Ok r) g p = g r.0 p
made_reads P f (Err e) g p = tt

digits_reads : (text : List ℕ) → Reads IsGood (digits_at text)
digits_reads [] = made_reads IsInt number (number_at []) (λ x p. p) (number_reads [])
digits_reads (c ∷ []) = made_reads IsInt number (number_at (c ∷ [])) (λ x p. p) (number_reads (c ∷ []))
digits_reads (c ∷ d ∷ rest) =
    either_reads IsGood (begins_bytes (c ∷ d ∷ rest)) _ _
    (λ _. made_reads IsBytes bytes (bytes_at (c ∷ d ∷ rest)) (λ x p. p) (bytes_reads c d rest))
    (λ _. made_reads IsInt number (number_at (c ∷ d ∷ rest)) (λ x p. p) (number_reads (c ∷ d ∷ rest)))

shape_reads : (c : ℕ) (rest : List ℕ) (o : Option Shape) → shape_of c ≡ o → Reads IsGood (shape_at o (c ∷ rest))
shape_reads c rest None e = tt
shape_reads c rest (Some Digits) e = digits_reads (c ∷ rest)
shape_reads c rest (Some Quoted) e = made_reads IsString string (string_at (c ∷ rest)) (λ x p. p) (string_reads c rest)
shape_reads c rest (Some Word) e = made_reads IsName name (name_at (c ∷ rest)) (λ x p. p) (name_reads c rest e)
shape_reads c rest (Some Note) e = made_reads IsNote annotation (annotation_at (c ∷ rest)) (λ x p. p) (annotation_reads c rest e)
shape_reads c rest (Some OpenBrace) e = tt
shape_reads c rest (Some CloseBrace) e = tt
shape_reads c rest (Some OpenParen) e = tt
shape_reads c rest (Some CloseParen) e = tt
shape_reads c rest (Some Semicolon) e = tt

pub token_good : (text behind : List ℕ) (t : Token) → token_at text ≡ Ok (t, behind) → IsGood t
unfolding token_at
token_good [] behind t e = absurd cc
token_good (c ∷ rest) behind t e = subst (Reads IsGood) e (shape_reads c rest (shape_of c) refl)

pub leads_good : (text : List ℕ) (ts : List Token) (rest : Option (List ℕ)) → Leads text ts rest → AllByRecursion IsGood ts
leads_good text [] rest p = tt
leads_good text (t ∷ ts) rest p = (token_good p.0 p.1 t p.3, leads_good p.1 ts rest p.4)
