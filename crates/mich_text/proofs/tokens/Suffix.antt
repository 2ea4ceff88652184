-- What is left behind tokens is the end of the text.
use Rattle.std.proofs.Common.{◌≡◌, ℕ, List, [], ◌∷◌, ◌++◌, Option, Some, None, Ok, refl, sym, ap, subst, ◌∙◌, append_assoc}
use Rattle.rules_text.specs.text.Token.{Token, string, name, annotation, number, bytes}
use Rattle.rules_text.specs.declared.text.Shape.{Shape}
use Rattle.rules_text.specs.declared.text.Shape.TheVariants.{Digits, Quoted, Word, Note, OpenBrace, CloseBrace, OpenParen, CloseParen, Semicolon}
use Rattle.rules_text.specs.text.Lexical.{name_at, annotation_at, string_at, bytes_at, number_at, begins_bytes, shape_at, shape_of, token_at}
use Rattle.rules_text.specs.text.Text.{Leads}
use Rattle.mich_text.proofs.tokens.Annotations.{annotation_ends}
use Rattle.mich_text.proofs.tokens.Bytes.{bytes_ends}
use Rattle.mich_text.proofs.tokens.Gaps.{EndsGap, gap_ends}
use Rattle.mich_text.proofs.tokens.Names.{name_ends}
use Rattle.mich_text.proofs.tokens.Numbers.{number_ends}
use Rattle.mich_text.proofs.tokens.Properties.{Ends, EndsRead, made_ends, read_either}
use Rattle.mich_text.proofs.tokens.Strings.{string_read_ends}

shape_ends : (o : Option Shape) (c : ℕ) (rest : List ℕ) → EndsRead (c ∷ rest) (shape_at o (c ∷ rest))
shape_ends None c rest = tt
shape_ends (Some Digits) c rest =
    read_either (begins_bytes (c ∷ rest)) (c ∷ rest) _ _ (made_ends bytes (c ∷ rest) (bytes_at (c ∷ rest)) (bytes_ends (c ∷ rest)))
    (made_ends number (c ∷ rest) (number_at (c ∷ rest)) (number_ends (c ∷ rest)))
shape_ends (Some Quoted) c rest = made_ends string (c ∷ rest) (string_at (c ∷ rest)) (string_read_ends c rest)
shape_ends (Some Word) c rest = made_ends name (c ∷ rest) (name_at (c ∷ rest)) (name_ends (c ∷ rest))
shape_ends (Some Note) c rest = made_ends annotation (c ∷ rest) (annotation_at (c ∷ rest)) (annotation_ends (c ∷ rest))
shape_ends (Some OpenBrace) c rest = (c ∷ [], refl)
shape_ends (Some CloseBrace) c rest = (c ∷ [], refl)
shape_ends (Some OpenParen) c rest = (c ∷ [], refl)
shape_ends (Some CloseParen) c rest = (c ∷ [], refl)
shape_ends (Some Semicolon) c rest = (c ∷ [], refl)

token_ends : (text behind : List ℕ) (t : Token) → token_at text ≡ Ok (t, behind) → Ends text behind
unfolding token_at
token_ends [] behind t e = absurd cc
token_ends (c ∷ rest) behind t e = subst (EndsRead (c ∷ rest)) e (shape_ends (shape_of c) c rest)

-- the place to which tokens lead is an end of the text
pub leads_end : (text : List ℕ) (ts : List Token) (here : List ℕ) → Leads text ts (Some here) → (front : List ℕ) × (text ≡ front ++ here)
leads_end text [] here p = subst (EndsGap text) p (gap_ends text)
leads_end text (t ∷ ts) here p =
    let g : Ends text p.0 = subst (EndsGap text) p.2 (gap_ends text) in
    let r = token_ends p.0 p.1 t p.3 in
    let m = leads_end p.1 ts here p.4 in (
      g.0 ++ (r.0 ++ m.0),
      g.1 ∙ ap (λ (l : List ℕ). g.0 ++ l) (r.1 ∙ ap (λ (l : List ℕ). r.0 ++ l) m.1 ∙ sym (append_assoc r.0 m.0 here))
          ∙ sym (append_assoc g.0 (r.0 ++ m.0) here),
    )
