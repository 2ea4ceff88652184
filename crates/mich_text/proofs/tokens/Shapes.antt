-- A token that was read has the shape that its first byte tells.
use Rattle.std.proofs.Common.{◌≡◌, ℕ, Bool, true, false, cond, List, drop, Option, Some, None, Result, Ok, Err, refl, sym, ap, ◌∙◌}
use Rattle.rules_text.specs.text.Token.{Token, string, name, annotation, number, bytes, token_shape}
use Rattle.rules_text.specs.declared.text.Shape.{Shape}
use Rattle.rules_text.specs.declared.text.Shape.TheVariants.{Digits, Quoted, Word, Note, OpenBrace, CloseBrace, OpenParen, CloseParen, Semicolon}
use Rattle.rules_text.specs.text.Fault.{Flaw}
use Rattle.rules_text.specs.text.Lexical.{name_at, annotation_at, string_at, bytes_at, number_at, made, begins_bytes, shape_at, token_at, first_shape}
use Rattle.mich_text.proofs.tokens.Read.{okay_is}

made_shape : {A : Type 0} (f : A → Token) (s : Shape) (r : Result (A × List ℕ) Flaw) (t : Token) (behind : List ℕ)
    → ((x : A) → token_shape (f x) ≡ s) → made f r ≡ Ok (t, behind) → s ≡ token_shape t
made_shape f s (Ok r) t behind p e = sym (p r.0) ∙ ap (λ (q : Token × List ℕ). token_shape q.0) (okay_is (f r.0, r.1) (t, behind) e)
made_shape f s (Err d) t behind p e = absurd cc

shape_is : (o : Option Shape) (text : List ℕ) (t : Token) (behind : List ℕ) → shape_at o text ≡ Ok (t, behind) → o ≡ Some (token_shape t)
shape_is None text t behind e = absurd cc
shape_is (Some Digits) text t behind e = ap (λ s. Some s) (digits (begins_bytes text) e) where
  digits : (b : Bool) → cond b (made bytes (bytes_at text)) (made number (number_at text)) ≡ Ok (t, behind) → Digits ≡ token_shape t
  digits true f = made_shape bytes Digits (bytes_at text) t behind (λ x. refl) f
  digits false f = made_shape number Digits (number_at text) t behind (λ x. refl) f
shape_is (Some Quoted) text t behind e = ap (λ s. Some s) (made_shape string Quoted (string_at text) t behind (λ x. refl) e)
shape_is (Some Word) text t behind e = ap (λ s. Some s) (made_shape name Word (name_at text) t behind (λ x. refl) e)
shape_is (Some Note) text t behind e = ap (λ s. Some s) (made_shape annotation Note (annotation_at text) t behind (λ x. refl) e)
shape_is (Some OpenBrace) text t behind e =
    ap (λ (q : Token × List ℕ). Some (token_shape q.0)) (okay_is (Token.open_brace, drop 1 text) (t, behind) e)
shape_is (Some CloseBrace) text t behind e =
    ap (λ (q : Token × List ℕ). Some (token_shape q.0)) (okay_is (Token.close_brace, drop 1 text) (t, behind) e)
shape_is (Some OpenParen) text t behind e =
    ap (λ (q : Token × List ℕ). Some (token_shape q.0)) (okay_is (Token.open_paren, drop 1 text) (t, behind) e)
shape_is (Some CloseParen) text t behind e =
    ap (λ (q : Token × List ℕ). Some (token_shape q.0)) (okay_is (Token.close_paren, drop 1 text) (t, behind) e)
shape_is (Some Semicolon) text t behind e =
    ap (λ (q : Token × List ℕ). Some (token_shape q.0)) (okay_is (Token.semicolon, drop 1 text) (t, behind) e)

pub token_shape_is : (text : List ℕ) (t : Token) (behind : List ℕ) → token_at text ≡ Ok (t, behind)
    → first_shape text ≡ Some (token_shape t)
unfolding token_at
token_shape_is text t behind e = shape_is (first_shape text) text t behind e
