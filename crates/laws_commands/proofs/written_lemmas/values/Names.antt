-- The names of primitives are names, and their codes are bytes.
use Rattle.std.proofs.Common.{◌≡◌, ◌<◌, ℕ, zero, suc, Bool, true, false, ◌&&◌, nat_le, Option, Some, None, List, [], ◌∷◌, length, slice_get, refl, subst, arith}
use Rattle.std.specs.Prelude.{unwrap_or}
use Rattle.std.specs.List.{list_all, position}
use Rattle.std.specs.Str.{bytes_eq}
use Rattle.std.proofs.lemmas.Bool.{and_parts, leb-true}
use Rattle.std.proofs.lemmas.List.Quantifiers.{position-Some}
use Rattle.rules_text.specs.nodes.Limits.{name_limit}
use Rattle.rules_text.specs.nodes.Primitives.{primitive_names, name_of_code, code_of_name}
use Rattle.rules_text.specs.text.Lexical.{is_word, first_shape}
use Rattle.rules_text.specs.declared.text.Shape.{Shape}
use Rattle.rules_text.specs.declared.text.Shape.TheVariants.{Digits, Quoted, Word, Note, OpenBrace, CloseBrace, OpenParen, CloseParen, Semicolon}
use Rattle.rules_text.specs.binary.Spelling.{code}
use Rattle.mich_text.specs.Written.{IsName}

abbrev is_shape_of_word : Option Shape → Bool
is_shape_of_word (Some Word) = true
is_shape_of_word _ = false

abbrev is_name : List ℕ → Bool
is_name n = is_shape_of_word (first_shape n) && (list_all is_word n && nat_le (length n) name_limit)

shape_is : (o : Option Shape) → is_shape_of_word o ≡ true → o ≡ Some Word
shape_is (Some Word) e = refl
shape_is (Some Digits) e = absurd cc
shape_is (Some Quoted) e = absurd cc
shape_is (Some Note) e = absurd cc
shape_is (Some OpenBrace) e = absurd cc
shape_is (Some CloseBrace) e = absurd cc
shape_is (Some OpenParen) e = absurd cc
shape_is (Some CloseParen) e = absurd cc
shape_is (Some Semicolon) e = absurd cc
shape_is None e = absurd cc

name_is : (n : List ℕ) → is_name n ≡ true → IsName n
name_is n e =
    let outer = and_parts (is_shape_of_word (first_shape n)) (list_all is_word n && nat_le (length n) name_limit) e in
    let inner = and_parts (list_all is_word n) (nat_le (length n) name_limit) outer.1 in
    (shape_is (first_shape n) outer.0, inner.0, leb-true (length n) name_limit inner.1)

all_names : list_all is_name primitive_names ≡ true
unfolding primitive_names
all_names = refl

get_all : {X : Type 0} (test : X → Bool) (xs : List X) (i : ℕ) (x : X) → list_all test xs ≡ true → slice_get xs i ≡ Some x → test x ≡ true
get_all test [] i x h e = absurd cc
get_all test (y ∷ xs) zero x h e = let f : y ≡ x = cc in subst (λ z. test z ≡ true) f (and_parts (test y) (list_all test xs) h).0
get_all test (y ∷ xs) (suc i) x h e = get_all test xs i x (and_parts (test y) (list_all test xs) h).1 e

-- the name of a code
pub coded_name : (c : ℕ) (name : List ℕ) → name_of_code c ≡ Some name → IsName name
unfolding name_of_code
coded_name c name e = name_is name (get_all is_name primitive_names c name all_names e)

-- ---- codes

few_names : nat_le (length primitive_names) 255 ≡ true
unfolding primitive_names
few_names = refl

code_by : (o : Option ℕ) → ((i : ℕ) → o ≡ Some i → i < 256) → unwrap_or o 0 < 256
code_by None h = omega arith
code_by (Some i) h = h i refl

pub code_small : (name : List ℕ) → code name < 256
unfolding code_of_name
code_small name =
    code_by (position (bytes_eq name) primitive_names) (λ i e.
    omega (arith, (position-Some (bytes_eq name) primitive_names i [] e).0, leb-true (length primitive_names) 255 few_names))
