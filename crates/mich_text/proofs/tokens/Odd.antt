-- Bytes whose digits have no pair: what more of them shows.
use Rattle.std.proofs.Common.{◌≡◌, ℕ, suc, ◌+◌, ◌/◌, ◌%◌, ◌≤◌, inl, inr, Bool, true, false, cond, ltb, List, [], ◌∷◌, ◌++◌, length, take, drop, Option, Some, None, Result, Ok, Err, refl, sym, ap, subst, ◌∙◌, arith}
use Rattle.std.proofs.lemmas.List.{length-append, drop_all, take_all}
use Rattle.std.specs.List.{prefix_len, AllPass}
use Rattle.std.specs.Char.{is_ascii_hexdigit}
use Rattle.std.proofs.lemmas.Bool.{ltb-false, le-ltb, cases_eq}
use Rattle.std.proofs.lemmas.Bool.Decides.{nat_tests}
use Rattle.std.proofs.lemmas.List.Elements.{All-cons, All-nil}
use Rattle.hex.specs.Hex.{decode_of, is_hex_digit}
use Rattle.hex.specs.declared.error.FromHexError.{FromHexError}
use Rattle.hex.proofs.HexLemmas.{decode_of-digits}
use Rattle.rules_text.specs.nodes.Limits.{byte_limit}
use Rattle.rules_text.specs.text.Token.{Token, string, name, annotation, number, bytes}
use Rattle.rules_text.specs.declared.text.Shape.{Shape}
use Rattle.rules_text.specs.declared.text.Shape.TheVariants.{Digits, Quoted, Word, Note, OpenBrace, CloseBrace, OpenParen, CloseParen, Semicolon}
use Rattle.rules_text.specs.declared.text.TextKind.TheVariants.{BadString, BadBytes, BadNumber, TooLong, BadChar, Unclosed}
use Rattle.rules_text.specs.text.Fault.{Flaw}
use Rattle.rules_text.specs.text.Lexical.{flaw, begins_word, name_at, annotation_at, string_at, bytes_at, decoded, number_at, made, begins_bytes, shape_at, shape_of, token_at}
use Rattle.rules_text.specs.declared.text.TextKind.{TextKind}
use Rattle.mich_text.proofs.tokens.Annotations.{annotation_each}
use Rattle.mich_text.proofs.tokens.ByteRuns.{all_front, all_more}
use Rattle.mich_text.proofs.tokens.Bytes.{IsHexDigit}
use Rattle.mich_text.proofs.tokens.Names.{name_each}
use Rattle.mich_text.proofs.tokens.Numbers.{number_each}
use Rattle.mich_text.proofs.tokens.Properties.{Each, made_each}
use Rattle.mich_text.proofs.tokens.Strings.{string_each}

-- of a kind other than BadBytes
abbrev NotBytes : Flaw → Type 0
NotBytes f = f.kind ≡ BadBytes → ⊥

too_long : TooLong ≡ BadBytes → ⊥
too_long e = cc

bad_number : BadNumber ≡ BadBytes → ⊥
bad_number e = cc

bad_string : BadString ≡ BadBytes → ⊥
bad_string e = cc

unclosed : Unclosed ≡ BadBytes → ⊥
unclosed e = cc

bad_char : BadChar ≡ BadBytes → ⊥
bad_char e = cc

string_none : (text : List ℕ) → Each NotBytes (string_at text)
string_none = string_each NotBytes (λ n. too_long) (λ n. bad_string) unclosed

-- bytes that are read as bytes whatever stands behind their `0x`
record Starts (text : List ℕ) : Type 0 where
  c : ℕ
  d : ℕ
  digits : List ℕ
  text_is : text ≡ c ∷ d ∷ digits
  reads : (others : List ℕ) → token_at (c ∷ d ∷ others) ≡ made bytes (bytes_at (c ∷ d ∷ others))

abbrev MayStart : {A : Type 0} → List ℕ → Result (A × List ℕ) Flaw → Type 0
MayStart text (Ok r) = Unit {0}
MayStart text (Err f) = f.kind ≡ BadBytes → Starts text

none_starts : {A : Type 0} (text : List ℕ) (r : Result (A × List ℕ) Flaw) → Each NotBytes r → MayStart text r
none_starts text (Ok r) p = tt
none_starts text (Err f) p = λ e. absurd (p e)

any_starts : {A : Type 0} (text : List ℕ) (r : Result (A × List ℕ) Flaw) → Starts text → MayStart text r
any_starts text (Ok r) p = tt
any_starts text (Err f) p = λ e. p

digits_by : (c d : ℕ) (rest : List ℕ) (b : Bool) → shape_of c ≡ Some Digits → begins_bytes (c ∷ d ∷ rest) ≡ b
    → MayStart (c ∷ d ∷ rest) (cond b (made bytes (bytes_at (c ∷ d ∷ rest))) (made number (number_at (c ∷ d ∷ rest))))
unfolding token_at
digits_by c d rest true e h = any_starts (c ∷ d ∷ rest) (made bytes (bytes_at (c ∷ d ∷ rest))) (record {
  c = c;
  d = d;
  digits = rest;
  text_is = refl;
  reads = λ others. ap (λ o. shape_at o (c ∷ d ∷ others)) e
      ∙ ap (λ (b : Bool). cond {A = Result (Token × List ℕ) Flaw} b (made bytes (bytes_at (c ∷ d ∷ others)))
      (made number (number_at (c ∷ d ∷ others)))) h;
})
digits_by c d rest false e h =
    none_starts (c ∷ d ∷ rest) (made number (number_at (c ∷ d ∷ rest)))
    (made_each NotBytes number (number_at (c ∷ d ∷ rest)) (number_each NotBytes (λ n. bad_number) (c ∷ d ∷ rest)))

shape_starts : (o : Option Shape) (c : ℕ) (rest : List ℕ) → shape_of c ≡ o → MayStart (c ∷ rest) (shape_at o (c ∷ rest))
shape_starts None c rest e = none_starts (c ∷ rest) (flaw {A = Token × List ℕ} BadChar (c ∷ rest)) bad_char
shape_starts (Some Digits) c [] e =
    none_starts (c ∷ []) (made number (number_at (c ∷ [])))
    (made_each NotBytes number (number_at (c ∷ [])) (number_each NotBytes (λ n. bad_number) (c ∷ [])))
shape_starts (Some Digits) c (d ∷ rest) e = digits_by c d rest (begins_bytes (c ∷ d ∷ rest)) e refl
shape_starts (Some Quoted) c rest e =
    none_starts (c ∷ rest) (made string (string_at (c ∷ rest))) (made_each NotBytes string (string_at (c ∷ rest)) (string_none (c ∷ rest)))
shape_starts (Some Word) c rest e =
    none_starts (c ∷ rest) (made name (name_at (c ∷ rest)))
    (made_each NotBytes name (name_at (c ∷ rest)) (name_each NotBytes (λ n. too_long) (c ∷ rest)))
shape_starts (Some Note) c rest e =
    none_starts (c ∷ rest) (made annotation (annotation_at (c ∷ rest)))
    (made_each NotBytes annotation (annotation_at (c ∷ rest)) (annotation_each NotBytes (λ n. too_long) (c ∷ rest)))
shape_starts (Some OpenBrace) c rest e = tt
shape_starts (Some CloseBrace) c rest e = tt
shape_starts (Some OpenParen) c rest e = tt
shape_starts (Some CloseParen) c rest e = tt
shape_starts (Some Semicolon) c rest e = tt

starts : (text : List ℕ) (left : ℕ) → token_at text ≡ Err (record { kind = BadBytes; left = left }) → Starts text
unfolding token_at
starts [] left e = (subst (MayStart []) e (none_starts [] (flaw {A = Token × List ℕ} BadChar []) bad_char)) refl
starts (c ∷ rest) left e = (subst (MayStart (c ∷ rest)) e (shape_starts (shape_of c) c rest refl)) refl

-- what a test on bytes says of its flaw
made_err : (r : Result (List ℕ × List ℕ) Flaw) (f : Flaw) → made bytes r ≡ Err f → r ≡ Err f
made_err (Ok r) f e = absurd cc
made_err (Err g) f e = ap (λ (x : Flaw). Err x) (same g f e)
  where
    same : (g f : Flaw) → ◌≡◌ {A = Result (Token × List ℕ) Flaw} (Err g) (Err f) → g ≡ f
    same g f e = cc

flaw_same : (g f : Flaw) → ◌≡◌ {A = Result (List ℕ × List ℕ) Flaw} (Err g) (Err f) → g ≡ f
flaw_same g f e = cc

-- a flaw of bytes: they aren't too long, it stands at their first byte, and behind digits without a letter it is theirs
bytes_by : (t u : Bool) (text rest : List ℕ) (r : Result (List ℕ) FromHexError) (left : ℕ)
    → cond t (flaw TooLong text) (cond u (flaw BadBytes text) (decoded text rest r)) ≡ Err (record { kind = BadBytes; left = left })
    → (t ≡ false) × (left ≡ length text) × (u ≡ false → (b : List ℕ) → r ≡ Ok b → ⊥)
bytes_by true u text rest r left e = absurd (too_long (ap (λ (f : Flaw). f.kind) (flaw_same _ _ e)))
bytes_by false true text rest r left e = (refl, sym (ap (λ (f : Flaw). f.left) (flaw_same _ _ e)), λ p. absurd cc)
bytes_by false false text rest (Ok b) left e = absurd cc
bytes_by false false text rest (Err f) left e = (refl, sym (ap (λ (f : Flaw). f.left) (flaw_same _ _ e)), λ p b q. cc q)

-- ---- digits in pairs

hex_reads : (c : ℕ) → is_ascii_hexdigit c ≡ true → is_hex_digit c ≡ true
hex_reads c h = grind (arith, nat_tests, h)

reads_by : (c : ℕ) (xs : List ℕ) (b : Bool) → is_ascii_hexdigit c ≡ b
    → cond (is_ascii_hexdigit c) (1 + prefix_len is_ascii_hexdigit xs) 0 ≡ suc (length xs)
    → (is_hex_digit c ≡ true) × (prefix_len is_ascii_hexdigit xs ≡ length xs)
reads_by c xs true h e =
    let inner : 1 + prefix_len is_ascii_hexdigit xs ≡ suc (length xs) = ap (λ (t : Bool). cond t (1 + prefix_len is_ascii_hexdigit xs) 0)
    (sym h) ∙ e in
    (hex_reads c h, omega (arith, inner))
reads_by c xs false h e =
    let inner : 0 ≡ suc (length xs) = ap (λ (t : Bool). cond t (1 + prefix_len is_ascii_hexdigit xs) 0) (sym h) ∙ e in
    absurd (omega (arith, inner))

all_read : (xs : List ℕ) → prefix_len is_ascii_hexdigit xs ≡ length xs → AllPass is_hex_digit xs
all_read [] e = All-nil IsHexDigit
all_read (c ∷ xs) e = let p = reads_by c xs (is_ascii_hexdigit c) refl e in All-cons IsHexDigit c xs p.0 (all_read xs p.1)

-- an even number of digits decodes
pairs_decode : (xs : List ℕ) (n : ℕ) → n ≡ prefix_len is_ascii_hexdigit xs → n ≡ length xs → n % 2 ≡ 0
    → (b : List ℕ) × (decode_of (take n xs) ≡ Ok b)
pairs_decode xs n run whole even =
    let d = decode_of-digits xs (omega (arith, even, whole)) (all_read xs (sym run ∙ whole)) in
    (d.0, ap decode_of (take_all n xs (omega (arith, whole))) ∙ d.1)

-- digits without a pair, which reach the end
pub record IsOdd (text : List ℕ) : Type 0 where
  pub c : ℕ
  pub d : ℕ
  pub digits : List ℕ
  pub text_is : text ≡ c ∷ d ∷ digits
  pub reads : (others : List ℕ) → token_at (c ∷ d ∷ others) ≡ made bytes (bytes_at (c ∷ d ∷ others))
  pub all : prefix_len is_ascii_hexdigit digits ≡ length digits
  pub odd : length digits % 2 ≡ 1
  pub short : length digits / 2 ≤ byte_limit

-- where a flaw of bytes stands
pub bytes_left : (text : List ℕ) (left : ℕ) → token_at text ≡ Err (record { kind = BadBytes; left = left }) → left ≡ length text
unfolding bytes_at
bytes_left text left e =
    let s = starts text left e in
    let read : bytes_at (s.c ∷ s.d ∷ s.digits) ≡ Err (record { kind = BadBytes; left = left }) = made_err (bytes_at (s.c ∷ s.d ∷ s.digits))
    (record { kind = BadBytes; left = left }) (sym (s.reads s.digits) ∙ ap token_at (sym s.text_is) ∙ e) in
    let n = prefix_len is_ascii_hexdigit s.digits in
    let h = bytes_by (ltb byte_limit (n / 2)) (begins_word (drop n s.digits)) (s.c ∷ s.d ∷ s.digits) (drop n s.digits)
    (decode_of (take n s.digits)) left read in
    h.1 ∙ ap (λ (l : List ℕ). length l) (sym s.text_is)

pub is_odd : (text : List ℕ) (left : ℕ) → token_at text ≡ Err (record { kind = BadBytes; left = left })
    → prefix_len is_ascii_hexdigit (drop 2 text) ≡ length (drop 2 text) → IsOdd text
unfolding bytes_at
is_odd text left e reached =
    let s = starts text left e in
    let read : bytes_at (s.c ∷ s.d ∷ s.digits) ≡ Err (record { kind = BadBytes; left = left }) = made_err (bytes_at (s.c ∷ s.d ∷ s.digits))
    (record { kind = BadBytes; left = left }) (sym (s.reads s.digits) ∙ ap token_at (sym s.text_is) ∙ e) in
    let n = prefix_len is_ascii_hexdigit s.digits in
    let h = bytes_by (ltb byte_limit (n / 2)) (begins_word (drop n s.digits)) (s.c ∷ s.d ∷ s.digits) (drop n s.digits)
    (decode_of (take n s.digits)) left read in
    let all : n ≡ length s.digits = subst (λ (l : List ℕ). prefix_len is_ascii_hexdigit (drop 2 l) ≡ length (drop 2 l)) s.text_is reached in
    let none : begins_word (drop n s.digits) ≡ false = ap begins_word (drop_all n s.digits (omega (arith, all))) in
    let odd : n % 2 ≡ 1 = elim (cases_eq (n % 2) 1) [
      | inl one ↦ one
      | inr even ↦ let d = pairs_decode s.digits n refl all (omega (arith, even)) in absurd (h.2 none d.0 d.1)
    ] in
    record {
      c = s.c;
      d = s.d;
      digits = s.digits;
      text_is = s.text_is;
      reads = s.reads;
      all = all;
      odd = ap (λ (k : ℕ). k % 2) (sym all) ∙ odd;
      short = omega (arith, ltb-false byte_limit (n / 2) h.0, all);
    }

-- with one digit more they have no such flaw
pub odd_not_shown : (text : List ℕ) → IsOdd text → (f : Flaw) → token_at (text ++ 48 ∷ []) ≡ Err f → f.kind ≡ BadBytes → ⊥
unfolding bytes_at
odd_not_shown text o f e k =
    let zs = o.digits ++ 48 ∷ [] in
    let read : bytes_at (o.c ∷ o.d ∷ zs) ≡ Err f = made_err (bytes_at (o.c ∷ o.d ∷ zs)) f
    (sym (o.reads zs) ∙ ap (λ (l : List ℕ). token_at (l ++ 48 ∷ [])) (sym o.text_is) ∙ e) in
    let n = prefix_len is_ascii_hexdigit zs in
    let more : n ≡ length o.digits + 1 = all_more is_ascii_hexdigit o.digits (48 ∷ []) o.all in
    let whole : n ≡ length zs = omega (arith, more, length-append o.digits (48 ∷ [])) in
    let none : begins_word (drop n zs) ≡ false = ap begins_word (drop_all n zs (omega (arith, whole))) in
    let d = pairs_decode zs n refl whole (omega (arith, more, o.odd)) in
    let fits : ◌≡◌ {A = Flaw} f (record { kind = BadBytes; left = f.left }) = ap (λ (x : TextKind). record { kind = x; left = f.left }) k in
    let h = bytes_by (ltb byte_limit (n / 2)) (begins_word (drop n zs)) (o.c ∷ o.d ∷ zs) (drop n zs) (decode_of (take n zs)) f.left
    (read ∙ ap (λ (x : Flaw). Err x) fits) in
    h.2 none d.0 d.1

-- without its last digit the token is read
pub odd_front : (text front : List ℕ) (l : ℕ) → IsOdd text → text ≡ front ++ l ∷ [] → (f : Flaw) → token_at front ≡ Err f → ⊥
unfolding bytes_at
odd_front text [] l o e f h = absurd (omega (arith, ap (λ (x : List ℕ). length x) (sym e ∙ o.text_is)))
odd_front text (x ∷ []) l o e f h = absurd (omega (arith, ap (λ (x : List ℕ). length x) (sym e ∙ o.text_is), o.odd))
odd_front text (x ∷ y ∷ zs) l o e f h =
    let same : x ∷ y ∷ (zs ++ l ∷ []) ≡ o.c ∷ o.d ∷ o.digits = sym e ∙ o.text_is in
    let first : x ≡ o.c = ap (λ (t : List ℕ). head t) same in
    let second : y ≡ o.d = ap (λ (t : List ℕ). head (drop 1 t)) same in
    let rest : zs ++ l ∷ [] ≡ o.digits = ap (λ (t : List ℕ). drop 2 t) same in
    let here : token_at (o.c ∷ o.d ∷ zs) ≡ Err f = ap (λ (k : ℕ). token_at (k ∷ o.d ∷ zs)) (sym first)
    ∙ ap (λ (k : ℕ). token_at (x ∷ k ∷ zs)) (sym second) ∙ h in
    let read : bytes_at (o.c ∷ o.d ∷ zs) ≡ Err f = made_err (bytes_at (o.c ∷ o.d ∷ zs)) f (sym (o.reads zs) ∙ here) in
    let count : length o.digits ≡ length zs + 1 = ap (λ (t : List ℕ). length t) (sym rest) ∙ length-append zs (l ∷ []) in
    let all : prefix_len is_ascii_hexdigit (zs ++ l ∷ []) ≡ length (zs ++ l ∷ []) = ap (prefix_len is_ascii_hexdigit) rest ∙ o.all
    ∙ ap (λ (t : List ℕ). length t) (sym rest) in
    let n = prefix_len is_ascii_hexdigit zs in
    let whole : n ≡ length zs = all_front is_ascii_hexdigit zs (l ∷ []) all in
    let none : begins_word (drop n zs) ≡ false = ap begins_word (drop_all n zs (omega (arith, whole))) in
    let d = pairs_decode zs n refl whole (omega (arith, whole, count, o.odd)) in
    let short : ltb byte_limit (n / 2) ≡ false = le-ltb byte_limit (n / 2) (omega (arith, o.short, whole, count)) in
    okay_not (ltb byte_limit (n / 2)) (begins_word (drop n zs)) (o.c ∷ o.d ∷ zs) (drop n zs)
    (decode_of (take n zs)) f short none d.0 d.1 read
  where
    head : List ℕ → ℕ
    head [] = 0
    head (k ∷ t) = k

    okay_not : (t u : Bool) (text rest : List ℕ) (r : Result (List ℕ) FromHexError) (f : Flaw) → t ≡ false → u ≡ false → (b : List ℕ)
        → r ≡ Ok b → cond t (flaw TooLong text) (cond u (flaw BadBytes text) (decoded text rest r)) ≡ Err f → ⊥
    okay_not true u text rest r f p q b g e = cc p
    okay_not false true text rest r f p q b g e = cc q
    okay_not false false text rest (Ok c) f p q b g e = cc e
    okay_not false false text rest (Err h) f p q b g e = cc g
