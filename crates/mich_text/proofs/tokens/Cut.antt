-- What stands in a front of a text, where its end lies in that front, stands there without the bytes behind it.
use Rattle.std.proofs.Common.{◌≡◌, ℕ, suc, ◌<◌, List, [], ◌∷◌, ◌++◌, length, Option, Some, None, Result, Ok, Err, refl, sym, ap, subst, ◌∙◌, arith}
use Rattle.rules_text.specs.text.Token.{Token, string, name, annotation, number, bytes}
use Rattle.rules_text.specs.declared.text.Shape.{Shape}
use Rattle.rules_text.specs.declared.text.Shape.TheVariants.{Digits, Quoted, Word, Note, OpenBrace, CloseBrace, OpenParen, CloseParen, Semicolon}
use Rattle.rules_text.specs.text.Fault.{Flaw}
use Rattle.rules_text.specs.text.Lexical.{name_at, annotation_at, string_at, bytes_at, number_at, digits_at, begins_bytes, shape_at, shape_of, token_at}
use Rattle.rules_text.specs.text.Text.{Leads}
use Rattle.mich_text.proofs.tokens.Ahead.{digits_ahead, token_shorter, leads_le}
use Rattle.mich_text.proofs.tokens.Annotations.{annotation_cut}
use Rattle.mich_text.proofs.tokens.Bytes.{bytes_cut}
use Rattle.mich_text.proofs.tokens.Gaps.{gap_cut}
use Rattle.mich_text.proofs.tokens.Names.{name_cut}
use Rattle.mich_text.proofs.tokens.Numbers.{number_cut}
use Rattle.mich_text.proofs.tokens.Properties.{IsAhead, IsCut, either_cut, made_cut, short_cut}
use Rattle.mich_text.proofs.tokens.Strings.{string_cut}

one_byte : (more : List ℕ) (front r : Result (Token × List ℕ) Flaw) → IsAhead (suc (length more)) r → IsCut more front r
one_byte more front (Ok r) p = short_cut more front r (omega (arith, p))
one_byte more front (Err d) p = tt

digits_cut : (c : ℕ) (xs more : List ℕ) → IsCut more (digits_at (c ∷ xs)) (digits_at (c ∷ (xs ++ more)))
digits_cut c [] more = one_byte more (digits_at (c ∷ [])) (digits_at (c ∷ more)) (digits_ahead (c ∷ more))
digits_cut c (d ∷ xs) more =
    either_cut (begins_bytes (c ∷ d ∷ xs)) more _ _ _ _
    (made_cut bytes more (bytes_at (c ∷ d ∷ xs)) (bytes_at (c ∷ d ∷ (xs ++ more))) (bytes_cut c d xs more))
    (made_cut number more (number_at (c ∷ d ∷ xs)) (number_at (c ∷ d ∷ (xs ++ more))) (number_cut c (d ∷ xs) more))

sign_cut : (t : Token) (xs more : List ℕ) → IsCut more (Ok (t, xs)) (Ok (t, xs ++ more))
sign_cut t xs more = λ h. (xs, refl, refl)

shape_cut : (o : Option Shape) (c : ℕ) (xs more : List ℕ) → IsCut more (shape_at o (c ∷ xs)) (shape_at o (c ∷ (xs ++ more)))
shape_cut None c xs more = tt
shape_cut (Some Digits) c xs more = digits_cut c xs more
shape_cut (Some Quoted) c xs more = made_cut string more (string_at (c ∷ xs)) (string_at (c ∷ (xs ++ more))) (string_cut c xs more)
shape_cut (Some Word) c xs more = made_cut name more (name_at (c ∷ xs)) (name_at (c ∷ (xs ++ more))) (name_cut (c ∷ xs) more)
shape_cut (Some Note) c xs more =
    made_cut annotation more (annotation_at (c ∷ xs)) (annotation_at (c ∷ (xs ++ more))) (annotation_cut c xs more)
shape_cut (Some OpenBrace) c xs more = sign_cut Token.open_brace xs more
shape_cut (Some CloseBrace) c xs more = sign_cut Token.close_brace xs more
shape_cut (Some OpenParen) c xs more = sign_cut Token.open_paren xs more
shape_cut (Some CloseParen) c xs more = sign_cut Token.close_paren xs more
shape_cut (Some Semicolon) c xs more = sign_cut Token.semicolon xs more

-- a token with a byte behind it in the front
pub token_cut : (text more behind : List ℕ) (t : Token) → token_at (text ++ more) ≡ Ok (t, behind) → length more < length behind
    → (b : List ℕ) × (behind ≡ b ++ more) × (token_at text ≡ Ok (t, b))
unfolding token_at
token_cut [] more behind t e h = absurd (omega (arith, token_shorter more behind t e, h))
token_cut (c ∷ xs) more behind t e h =
    (subst (λ (r : Result (Token × List ℕ) Flaw). IsCut more (token_at (c ∷ xs)) r) e (shape_cut (shape_of c) c xs more)) h

-- tokens that lead to a place in the front
pub leads_cut : (text more : List ℕ) (ts : List Token) (here : List ℕ) → Leads (text ++ more) ts (Some here) → length more < length here
    → (b : List ℕ) × (here ≡ b ++ more) × Leads text ts (Some b)
leads_cut text more [] here p h = gap_cut text more here p h
leads_cut text more (t ∷ ts) here p h =
    let behind_long : length more < length p.1 = omega (arith, leads_le p.1 ts here p.4, h) in
    let here_long : length more < length p.0 = omega (arith, token_shorter p.0 p.1 t p.3, behind_long) in
    let g = gap_cut text more p.0 p.2 here_long in
    let read : token_at (g.0 ++ more) ≡ Ok (t, p.1) = ap token_at (sym g.1) ∙ p.3 in
    let c = token_cut g.0 more p.1 t read behind_long in
    let rest : Leads (c.0 ++ more) ts (Some here) = subst (λ (l : List ℕ). Leads l ts (Some here)) c.1 p.4 in
    let r = leads_cut c.0 more ts here rest h in
    (r.0, r.1, (g.0, c.0, g.2, c.2, r.2))
