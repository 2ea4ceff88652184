-- A token takes a byte at least; white space and comments may take some.
use Rattle.std.proofs.Common.{◌≡◌, ℕ, suc, ◌+◌, ◌-◌, ◌/◌, ◌^◌, ◌≤◌, ◌<◌, Bool, true, false, cond, ◌&&◌, ◌||◌, eqb, ltb, leb, List, [], ◌∷◌, length, take, drop, Option, Some, None, Result, Ok, Err, refl, subst, arith}
use Rattle.std.specs.List.{prefix_len}
use Rattle.std.specs.Char.{is_ascii_alphabetic, is_ascii_digit, is_ascii_hexdigit}
use Rattle.std.specs.Str.Parse.{digits_value}
use Rattle.std.proofs.lemmas.Bool.{eqb-false}
use Rattle.std.proofs.lemmas.Bool.Decides.{nat_tests}
use Rattle.std.proofs.lemmas.List.{length-drop}
use Rattle.std.proofs.lemmas.List.Sums.{prefix_len-le-length}
use Rattle.rules_text.specs.nodes.Limits.{name_limit, byte_limit}
use Rattle.rules_text.specs.text.Token.{Token, number, bytes, string, name, annotation}
use Rattle.rules_text.specs.declared.text.Shape.{Shape}
use Rattle.rules_text.specs.declared.text.Shape.TheVariants.{Digits, Quoted, Word, Note, OpenBrace, CloseBrace, OpenParen, CloseParen, Semicolon}
use Rattle.rules_text.specs.declared.text.TextKind.TheVariants.{BadString}
use Rattle.rules_text.specs.text.Fault.{Flaw}
use Rattle.rules_text.specs.text.Lexical.{flaw, is_word, is_noted, is_white, opens, closes, after_gap, after_slash, after_line, after_block, begins_word, name_at, annotation_at, Spelt, with_byte, escaped, with_escape, spelt, spelt_escape, ◌>>=◌, string_at, decoded, bytes_at, after_minus, is_minus, number_at, shape_of, begins_bytes, made, digits_at, shape_at, token_at}

-- ---- white space and comments

abbrev IsWithin : ℕ → Option (List ℕ) → Type 0
IsWithin n None = Unit {0}
IsWithin n (Some rest) = length rest ≤ n

either_within : (b : Bool) (n : ℕ) (x y : Option (List ℕ)) → IsWithin n x → IsWithin n y → IsWithin n (cond b x y)
either_within true n x y p q = p
either_within false n x y p q = q

mutual
  gap_within : (n : ℕ) (text : List ℕ) → length text ≤ n → IsWithin n (after_gap text)
  gap_within n [] h = h
  gap_within n (c ∷ rest) h =
      either_within (is_white c) n _ _ (gap_within n rest (omega arith))
      (either_within (eqb c 35) n _ _ (line_within n rest (omega arith))
      (either_within (eqb c 47) n _ _ (slash_within n rest h) h))

  slash_within : (n : ℕ) (rest : List ℕ) → suc (length rest) ≤ n → IsWithin n (after_slash rest)
  slash_within n [] h = h
  slash_within n (c ∷ rest) h = either_within (eqb c 42) n _ _ (block_within n 1 rest (omega arith)) h

  line_within : (n : ℕ) (rest : List ℕ) → length rest ≤ n → IsWithin n (after_line rest)
  line_within n [] h = h
  line_within n (c ∷ rest) h = either_within (eqb c 10) n _ _ (gap_within n rest (omega arith)) (line_within n rest (omega arith))

  block_within : (n levels : ℕ) (rest : List ℕ) → length rest ≤ n → IsWithin n (after_block levels rest)
  block_within n levels [] h = tt
  block_within n levels (c ∷ []) h = tt
  block_within n levels (c ∷ d ∷ rest) h =
      either_within (opens c d) n _ _ (block_within n (levels + 1) rest (omega arith))
      (either_within (closes c d) n _ _
      (either_within (eqb levels 1) n _ _ (gap_within n rest (omega arith)) (block_within n (levels - 1) rest (omega arith)))
      (block_within n levels (d ∷ rest) (omega arith)))

pub gap_le : (text rest : List ℕ) → after_gap text ≡ Some rest → length rest ≤ length text
gap_le text rest e = subst (IsWithin (length text)) e (gap_within (length text) text (omega arith))

-- ---- what is read of a token

abbrev IsAhead : {A : Type 0} → ℕ → Result (A × List ℕ) Flaw → Type 0
IsAhead n (Ok r) = length r.1 < n
IsAhead n (Err f) = Unit {0}

either_ahead : {A : Type 0} (b : Bool) (n : ℕ) (x y : Result (A × List ℕ) Flaw) → (b ≡ true → IsAhead n x) → (b ≡ false → IsAhead n y)
    → IsAhead n (cond b x y)
either_ahead true n x y p q = p refl
either_ahead false n x y p q = q refl

made_ahead : {A : Type 0} (f : A → Token) (n : ℕ) (r : Result (A × List ℕ) Flaw) → IsAhead n r → IsAhead n (made f r)
made_ahead f n (Ok r) p = p
made_ahead f n (Err d) p = tt

-- a byte of this shape is a letter or `_`
word_is : (c : ℕ) → shape_of c ≡ Some Word → is_word c ≡ true
word_is c e = letter (by _ _ _ _ _ _ _ _ _ e) where
  by : (a b d f g h i j k : Bool) → cond a (Some Digits) (cond b (Some Quoted) (cond d (Some Word) (cond f (Some Note) (cond g
      (Some OpenBrace) (cond h (Some CloseBrace)
      (cond i (Some OpenParen) (cond j (Some CloseParen) (cond k (Some Semicolon) None)))))))) ≡ Some Word → d ≡ true
  by a b true f g h i j k e = refl
  by true b false f g h i j k e = absurd cc
  by false true false f g h i j k e = absurd cc
  by false false false true g h i j k e = absurd cc
  by false false false false true h i j k e = absurd cc
  by false false false false false true i j k e = absurd cc
  by false false false false false false true j k e = absurd cc
  by false false false false false false false true k e = absurd cc
  by false false false false false false false false true e = absurd cc
  by false false false false false false false false false e = absurd cc

  letter : (is_ascii_alphabetic c || eqb c 95) ≡ true → is_word c ≡ true
  letter h = grind (arith, nat_tests, h)

prefix_some : (p : ℕ → Bool) (c : ℕ) (rest : List ℕ) → p c ≡ true → 0 < prefix_len p (c ∷ rest)
prefix_some p c rest e = rw e (omega arith)

name_ahead : (c : ℕ) (rest : List ℕ) → is_word c ≡ true → IsAhead (suc (length rest)) (name_at (c ∷ rest))
unfolding name_at
name_ahead c rest e =
    let n = prefix_len is_word (c ∷ rest) in
    either_ahead (ltb name_limit n) (suc (length rest)) _ _ (λ _. tt)
    (λ _. omega (arith, prefix_some is_word c rest e, length-drop n (c ∷ rest)))

annotation_ahead : (c : ℕ) (rest : List ℕ) → IsAhead (suc (length rest)) (annotation_at (c ∷ rest))
unfolding annotation_at
annotation_ahead c rest =
    let n = prefix_len is_noted rest in
    either_ahead (ltb name_limit n) (suc (length rest)) _ _ (λ _. tt) (λ _. omega (arith, length-drop (n + 1) (c ∷ rest)))

-- ---- strings

abbrev EndsWithin : ℕ → Result (List ℕ) Flaw → Type 0
EndsWithin n (Ok rest) = length rest ≤ n
EndsWithin n (Err f) = Unit {0}

spelt_either : (b : Bool) (n : ℕ) (x y : Spelt) → EndsWithin n x.end → EndsWithin n y.end → EndsWithin n (cond b x y).end
spelt_either true n x y p q = p
spelt_either false n x y p q = q

escape_within : (o : Option ℕ) (n : ℕ) (s : Spelt) (here : List ℕ) → EndsWithin n s.end → EndsWithin n (with_escape o s here).end
escape_within None n s here p = tt
escape_within (Some c) n s here p = p

mutual
  spelt_within : (n : ℕ) (text : List ℕ) → length text ≤ n → EndsWithin n (spelt text).end
  spelt_within n [] h = tt
  spelt_within n (c ∷ rest) h =
      spelt_either (eqb c 34) n _ _ (omega arith)
      (spelt_either (eqb c 92) n _ _ (behind_within n rest h)
      (spelt_either (leb 32 c && leb c 126) n (with_byte c (spelt rest)) (record { text = []; end = flaw BadString (c ∷ rest) })
      (spelt_within n rest (omega arith)) tt))

  behind_within : (n : ℕ) (rest : List ℕ) → suc (length rest) ≤ n → EndsWithin n (spelt_escape rest).end
  behind_within n [] h = tt
  behind_within n (c ∷ rest) h = escape_within (escaped c) n (spelt rest) (92 ∷ c ∷ rest) (spelt_within n rest (omega arith))

end_ahead : (n : ℕ) (text : List ℕ) (r : Result (List ℕ) Flaw) → EndsWithin n r → IsAhead (suc n) (r >>= λ rest. Ok (text, rest))
end_ahead n text (Ok rest) p = omega arith
end_ahead n text (Err f) p = tt

string_ahead : (c : ℕ) (rest : List ℕ) → IsAhead (suc (length rest)) (string_at (c ∷ rest))
unfolding string_at
string_ahead c rest =
    either_ahead (ltb byte_limit (length (spelt rest).text)) (suc (length rest)) _ _ (λ _. tt)
    (λ _. end_ahead (length rest) (spelt rest).text (spelt rest).end (spelt_within (length rest) rest (omega arith)))

-- ---- bytes and numbers

either_result : {A B E : Type 0} (f : Result A E → B) (P : B → Type 0) → ((x : A) → P (f (Ok x))) → ((e : E) → P (f (Err e))) →
    (r : Result A E) → P (f r)
either_result f P p q (Ok x) = p x
either_result f P p q (Err e) = q e

bytes_ahead : (c d : ℕ) (rest : List ℕ) → IsAhead (suc (suc (length rest))) (bytes_at (c ∷ d ∷ rest))
unfolding bytes_at
bytes_ahead c d rest =
    let n = prefix_len is_ascii_hexdigit rest in
    let shorter : length (drop n rest) < suc (suc (length rest)) = omega (arith, length-drop n rest) in
    either_ahead (ltb byte_limit (n / 2)) (suc (suc (length rest))) _ _ (λ _. tt)
    (λ _. either_ahead (begins_word (drop n rest)) (suc (suc (length rest))) _ _ (λ _. tt)
    (λ _. either_result (decoded (c ∷ d ∷ rest) (drop n rest)) (IsAhead (suc (suc (length rest)))) (λ b. shorter) (λ e. tt) _))

minus_le : (text : List ℕ) → length (after_minus text) ≤ length text
minus_le [] = omega arith
minus_le (c ∷ rest) = by (eqb c 45) where
  by : (b : Bool) → length (cond b rest (c ∷ rest)) ≤ suc (length rest)
  by true = omega arith
  by false = omega arith

or_false : (a b : Bool) → (a || b) ≡ false → a ≡ false
or_false true b e = e
or_false false b e = refl

number_ahead : (text : List ℕ) → IsAhead (length text) (number_at text)
unfolding number_at
number_ahead text =
    let digits = after_minus text in
    let n = prefix_len is_ascii_digit digits in
    let most = cond (is_minus text) (2 ^ 127) (2 ^ 127 - 1) in
    either_ahead (eqb n 0 || begins_word (drop n digits)) (length text) _ _ (λ _. tt)
    (λ e. either_ahead (ltb most (digits_value 10 (take n digits))) (length text) _ _ (λ _. tt)
    (λ _. let positive : n ≡ 0 → ⊥ = eqb-false n 0 (or_false (eqb n 0) (begins_word (drop n digits)) e) in
    omega (arith, length-drop n digits, minus_le text, prefix_len-le-length is_ascii_digit digits)))

digits_ahead : (text : List ℕ) → IsAhead (length text) (digits_at text)
digits_ahead [] = made_ahead number 0 (number_at []) (number_ahead [])
digits_ahead (c ∷ []) = made_ahead number 1 (number_at (c ∷ [])) (number_ahead (c ∷ []))
digits_ahead (c ∷ d ∷ rest) =
    either_ahead (begins_bytes (c ∷ d ∷ rest)) (suc (suc (length rest))) _ _
    (λ _. made_ahead bytes _ (bytes_at (c ∷ d ∷ rest)) (bytes_ahead c d rest))
    (λ _. made_ahead number _ (number_at (c ∷ d ∷ rest)) (number_ahead (c ∷ d ∷ rest)))

-- ---- tokens

shape_ahead : (c : ℕ) (rest : List ℕ) (o : Option Shape) → shape_of c ≡ o → IsAhead (suc (length rest)) (shape_at o (c ∷ rest))
shape_ahead c rest None e = tt
shape_ahead c rest (Some Digits) e = digits_ahead (c ∷ rest)
shape_ahead c rest (Some Quoted) e = made_ahead string _ (string_at (c ∷ rest)) (string_ahead c rest)
shape_ahead c rest (Some Word) e = made_ahead name _ (name_at (c ∷ rest)) (name_ahead c rest (word_is c e))
shape_ahead c rest (Some Note) e = made_ahead annotation _ (annotation_at (c ∷ rest)) (annotation_ahead c rest)
shape_ahead c rest (Some OpenBrace) e = omega arith
shape_ahead c rest (Some CloseBrace) e = omega arith
shape_ahead c rest (Some OpenParen) e = omega arith
shape_ahead c rest (Some CloseParen) e = omega arith
shape_ahead c rest (Some Semicolon) e = omega arith

token_ahead : (text : List ℕ) → IsAhead (length text) (token_at text)
unfolding token_at
token_ahead [] = tt
token_ahead (c ∷ rest) = shape_ahead c rest (shape_of c) refl

pub token_shorter : (text behind : List ℕ) (t : Token) → token_at text ≡ Ok (t, behind) → length behind < length text
token_shorter text behind t e = subst (IsAhead (length text)) e (token_ahead text)
