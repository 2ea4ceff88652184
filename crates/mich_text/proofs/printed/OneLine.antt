-- A printed line has only bytes that ASCII prints.
use Rattle.std.specs.Prelude.{◌==◌, pos, negsuc}
use Rattle.std.proofs.Common.{◌≡◌, ℕ, suc, Bool, true, false, cond, ◌||◌, ◌&&◌, List, [], ◌∷◌, ◌++◌, ℤ, refl, arith}
use Rattle.std.proofs.lemmas.Bool.Decides.{nat_tests}
use Rattle.std.proofs.lemmas.Fmt.{decimal_is_IsNumeral_wide}
use Rattle.std.specs.Char.{is_ascii_digit, is_ascii_hexdigit}
use Rattle.std.specs.Fmt.{decimal, signed_decimal}
use Rattle.std.specs.List.{AllByRecursion, list_all}
use Rattle.hex.specs.Hex.{encode_lower}
use Rattle.rules_text.specs.nodes.Tree.{Tree, int, str, prim, seq, Trees, none, more}
use Rattle.rules_text.specs.text.Token.{Token}
use Rattle.rules_text.specs.text.Lexical.{is_word, is_noted}
use Rattle.rules_text.specs.text.Printed.{spelling, string_text, annotations_text, in_parens, is_wrapped, printed, arguments_text, elements_text}
use Rattle.mich_text.specs.Line.{is_printing}
use Rattle.mich_text.proofs.tokens.ByteRuns.{IsAll}
use Rattle.mich_text.proofs.tokens.Names.{IsName}
use Rattle.mich_text.proofs.tokens.Spelling.{is_spelt}
use Rattle.mich_text.proofs.tokens.Bytes.{hexes}
use Rattle.mich_text.proofs.tokens.Digits.{digits_pass}
use Rattle.mich_text.proofs.printed.Again.{IsToken, IsPrintable, ArePrintable}
use Rattle.mich_text.proofs.tokens.Good.{IsGood, token_good}
use Rattle.mich_text.proofs.tokens.Numbers.{IsInt}
use Rattle.mich_text.proofs.tokens.Annotations.{IsNote}
use Rattle.mich_text.proofs.printed.Printable.{note_sign, wide}

abbrev InLine : List ℕ → Type 0
InLine text = IsAll is_printing text

weaker : (p q : ℕ → Bool) → ((c : ℕ) → p c ≡ true → q c ≡ true) → (xs : List ℕ) → IsAll p xs → IsAll q xs
weaker p q h [] all = tt
weaker p q h (x ∷ xs) all = (h x all.0, weaker p q h xs all.1)

both : (xs ys : List ℕ) → InLine xs → InLine ys → InLine (xs ++ ys)
both [] ys p q = q
both (x ∷ xs) ys p q = (p.0, both xs ys p.1 q)

word_in : (c : ℕ) → is_word c ≡ true → is_printing c ≡ true
word_in c h = grind (arith, nat_tests, h)

noted_in : (c : ℕ) → is_noted c ≡ true → is_printing c ≡ true
noted_in c h = grind (arith, nat_tests, h)

sign_in : (c : ℕ) → (c == 64 || (c == 58 || c == 37)) ≡ true → is_printing c ≡ true
sign_in c h = grind (arith, nat_tests, h)

digit_in : (c : ℕ) → is_ascii_digit c ≡ true → is_printing c ≡ true
digit_in c h = grind (arith, nat_tests, h)

hex_in : (c : ℕ) → is_ascii_hexdigit c ≡ true → is_printing c ≡ true
hex_in c h = grind (arith, nat_tests, h)

own_in : (c : ℕ) → is_spelt c ≡ true → (c == 10) ≡ false → (c == 9) ≡ false → (c == 8) ≡ false → (c == 13) ≡ false → is_printing c ≡ true
own_in c h e1 e2 e3 e4 = grind (arith, nat_tests, h, e1, e2, e3, e4)

spelling_in : (c : ℕ) → is_spelt c ≡ true → InLine (spelling c)
spelling_in c h = by (c == 10) (c == 92) (c == 34) (c == 9) (c == 8) (c == 13) refl refl refl refl where
  by : (b1 b2 b3 b4 b5 b6 : Bool) → (c == 10) ≡ b1 → (c == 9) ≡ b4 → (c == 8) ≡ b5 → (c == 13) ≡ b6
      → InLine (cond b1 (92 ∷ 110 ∷ []) (cond b2 (92 ∷ 92 ∷ [])
      (cond b3 (92 ∷ 34 ∷ []) (cond b4 (92 ∷ 116 ∷ []) (cond b5 (92 ∷ 98 ∷ []) (cond b6 (92 ∷ 114 ∷ []) (c ∷ [])))))))
  by true b2 b3 b4 b5 b6 e1 e4 e5 e6 = (refl, (refl, tt))
  by false true b3 b4 b5 b6 e1 e4 e5 e6 = (refl, (refl, tt))
  by false false true b4 b5 b6 e1 e4 e5 e6 = (refl, (refl, tt))
  by false false false true b5 b6 e1 e4 e5 e6 = (refl, (refl, tt))
  by false false false false true b6 e1 e4 e5 e6 = (refl, (refl, tt))
  by false false false false false true e1 e4 e5 e6 = (refl, (refl, tt))
  by false false false false false false e1 e4 e5 e6 = (own_in c h e1 e4 e5 e6, tt)

string_in : (s : List ℕ) → IsAll is_spelt s → InLine (string_text s)
string_in [] h = (refl, tt)
string_in (c ∷ s) h = both (spelling c) (string_text s) (spelling_in c h.0) (string_in s h.1)

-- what is read of a token that stands alone
pub good : (text : List ℕ) (t : Token) → IsToken text t → IsGood t
good text t p = token_good (text ++ []) [] t (p.read [] tt)

int_in : (z : ℤ) → IsInt z → InLine (signed_decimal z)
int_in (pos n) h =
    let d = decimal_is_IsNumeral_wide n (wide n (omega (arith, h))) in
    weaker is_ascii_digit is_printing digit_in (decimal n) (digits_pass (decimal n) d.0.1)
int_in (negsuc n) h =
    let d = decimal_is_IsNumeral_wide (suc n) (wide (suc n) (omega (arith, h))) in
    (refl, weaker is_ascii_digit is_printing digit_in (decimal (suc n)) (digits_pass (decimal (suc n)) d.0.1))

name_in : (n : List ℕ) → IsName n → InLine n
name_in n p = weaker is_word is_printing word_in n p.all

note_in : (a : List ℕ) → IsNote a → InLine a
note_in [] p = tt
note_in (c ∷ cs) p = (sign_in c (note_sign c p.first), weaker is_noted is_printing noted_in cs p.all)

notes_in : (ns : List (List ℕ)) → AllByRecursion (λ a. IsToken a (Token.annotation a)) ns → InLine (annotations_text ns)
notes_in [] p = tt
notes_in (a ∷ ns) p = (refl, both a (annotations_text ns) (note_in a (good a (Token.annotation a) p.0)) (notes_in ns p.1))

parens_in : (b : Bool) (text : List ℕ) → InLine text → InLine (in_parens b text)
parens_in true text p = (refl, both text (41 ∷ []) p (refl, tt))
parens_in false text p = p

mutual
  pub line_in : (t : Tree) → IsPrintable t → InLine (printed t)
  line_in (int n) h = int_in n (good (signed_decimal n) (Token.number n) h)
  line_in (str s) h = (refl, string_in s h.0)
  line_in (Tree.bytes b) h = (refl, (refl, weaker is_ascii_hexdigit is_printing hex_in (encode_lower b) (hexes b h.0)))
  line_in (prim n ns xs) h =
      both n (annotations_text ns ++ arguments_text xs) (name_in n (good n (Token.name n) h.0))
      (both (annotations_text ns) (arguments_text xs) (notes_in ns h.1) (arguments_in xs h.2))
  line_in (seq none) h = (refl, (refl, tt))
  line_in (seq (more x xs)) h = (
    refl,
    (
      refl,
      both (printed x) (elements_text xs ++ 32 ∷ 125 ∷ []) (line_in x h.0)
          (both (elements_text xs) (32 ∷ 125 ∷ []) (elements_in xs h.1) (refl, (refl, tt))),
    ),
  )

  arguments_in : (xs : Trees) → ArePrintable xs → InLine (arguments_text xs)
  arguments_in none h = tt
  arguments_in (more x xs) h = (
    refl,
    both (in_parens (is_wrapped x) (printed x)) (arguments_text xs) (parens_in (is_wrapped x) (printed x) (line_in x h.0))
        (arguments_in xs h.1),
  )

  elements_in : (xs : Trees) → ArePrintable xs → InLine (elements_text xs)
  elements_in none h = tt
  elements_in (more x xs) h = (refl, (refl, (refl, both (printed x) (elements_text xs) (line_in x h.0) (elements_in xs h.1))))

both_true : (a b : Bool) → a ≡ true → b ≡ true → (a && b) ≡ true
both_true true b p q = q
both_true false b p q = p

pub all_of : (p : ℕ → Bool) (xs : List ℕ) → IsAll p xs → list_all p xs ≡ true
all_of p [] h = refl
all_of p (x ∷ xs) h = both_true (p x) (list_all p xs) h.0 (all_of p xs h.1)
