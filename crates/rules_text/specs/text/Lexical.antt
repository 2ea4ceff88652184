-- From bytes to tokens. Each function reads at the front of the bytes, and gives what it read and the bytes after it,
-- or a flaw: a kind of fault and how many bytes are left at its place.
use Rattle.std.specs.Prelude.{ℕ, ◌+◌, ◌-◌, ◌/◌, ◌^◌, ℤ, pos, neg_ℤ, List, [], ◌∷◌, length, take, drop, Bool, true, false, ◌&&◌, ◌||◌, nat_lt, nat_le, ◌==◌, Option, Some, None, Result, Ok, Err, if◌then◌else◌}
use Rattle.std.specs.List.{prefix_len}
use Rattle.std.specs.Char.{is_ascii_digit, is_ascii_alphabetic, is_ascii_alphanumeric, is_ascii_hexdigit}
use Rattle.std.specs.Str.Parse.{digits_value}
use Rattle.hex.specs.Hex.{decode_of}
use Rattle.hex.specs.declared.error.FromHexError.{FromHexError}
use Rattle.rules_text.specs.nodes.Limits.{name_limit, byte_limit}
use Rattle.rules_text.specs.text.Token.{Token, number, bytes, string, name, annotation, open_brace, close_brace, open_paren, close_paren, semicolon}
use Rattle.rules_text.specs.declared.text.TextKind.{TextKind}
use Rattle.rules_text.specs.declared.text.TextKind.TheVariants.{BadChar, BadString, BadBytes, BadNumber, Unclosed, TooLong}
use Rattle.rules_text.specs.text.Fault.{Flaw}
use Rattle.rules_text.specs.declared.text.Shape.{Shape}
use Rattle.rules_text.specs.declared.text.Shape.TheVariants.{Digits, Quoted, Word, Note, OpenBrace, CloseBrace, OpenParen, CloseParen, Semicolon}

abbrev pub flaw : {A : Type 0} → TextKind → List ℕ → Result A Flaw
flaw kind rest = Err (record { kind = kind; left = length rest })

-- ---- bytes

-- a letter, a digit or `_`
abbrev pub is_word : ℕ → Bool
is_word c = is_ascii_alphanumeric c || c == 95

abbrev pub begins_word : List ℕ → Bool
begins_word [] = false
begins_word (c ∷ rest) = is_word c

-- A-Z a-z 0-9 _ . % @
abbrev pub is_noted : ℕ → Bool
is_noted c = is_word c || (c == 46 || (c == 37 || c == 64))

-- ---- white space and comments

abbrev pub is_white : ℕ → Bool
is_white c = (c == 32 || c == 9) || (c == 10 || c == 13)

-- `/*` and `*/`
abbrev pub opens : ℕ → ℕ → Bool
opens c d = c == 47 && d == 42

abbrev pub closes : ℕ → ℕ → Bool
closes c d = c == 42 && d == 47

abbrev mutual
  -- The bytes after white space and comments, or None where the input ends in a block comment.
  pub after_gap : List ℕ → Option (List ℕ)
  after_gap [] = Some []
  after_gap (c ∷ rest) = if is_white c then after_gap rest else (if c == 35 then after_line rest else (if c == 47 then after_slash rest else Some (c ∷ rest)))

  pub after_slash : List ℕ → Option (List ℕ)
  after_slash [] = Some (47 ∷ [])
  after_slash (c ∷ rest) = if c == 42 then after_block 1 rest else Some (47 ∷ c ∷ rest)

  -- behind a `#`
  pub after_line : List ℕ → Option (List ℕ)
  after_line [] = Some []
  after_line (c ∷ rest) = if c == 10 then after_gap rest else after_line rest

  -- inside a block comment, with as many levels open
  pub after_block : ℕ → List ℕ → Option (List ℕ)
  after_block levels [] = None
  after_block levels (c ∷ []) = None
  after_block levels (c ∷ d ∷ rest) =
      if opens c d then after_block (levels + 1) rest
      else (if closes c d then (if levels == 1 then after_gap rest else after_block (levels - 1) rest)
      else after_block levels (d ∷ rest))

-- ---- names and annotations

unfoldable pub name_at : List ℕ → Result (List ℕ × List ℕ) Flaw
name_at text =
    let n = prefix_len is_word text in
    if nat_lt name_limit n then flaw TooLong text else Ok (take n text, drop n text)

-- with its sign
unfoldable pub annotation_at : List ℕ → Result (List ℕ × List ℕ) Flaw
annotation_at text =
    let n = prefix_len is_noted (drop 1 text) in
    if nat_lt name_limit n then flaw TooLong text else Ok (take (n + 1) text, drop (n + 1) text)

-- ---- strings

-- the byte that is spelt by a backslash and this one
abbrev pub escaped : ℕ → Option ℕ
escaped c =
    if c == 110 then Some 10 else (if c == 92 then Some 92 else (if c == 34 then Some 34 else (if c == 116 then Some 9 else (if c == 98 then Some 8 else (if c == 114 then Some 13 else None)))))

-- how a string goes on behind its opening quote
pub record Spelt : Type 0 where
  -- the bytes that it spells up to its end
  pub text : List ℕ
  -- the bytes after the closing quote, or the flaw at which it ends
  pub end : Result (List ℕ) Flaw

abbrev pub with_byte : ℕ → Spelt → Spelt
with_byte c s = record { text = c ∷ s.text; end = s.end }

abbrev pub with_escape : Option ℕ → Spelt → List ℕ → Spelt
with_escape None s here = record { text = []; end = flaw BadString here }
with_escape (Some c) s here = with_byte c s

abbrev mutual
  pub spelt : List ℕ → Spelt
  spelt [] = record { text = []; end = flaw Unclosed [] }
  spelt (c ∷ rest) =
      if c == 34 then record { text = []; end = Ok rest }
      else (if c == 92 then spelt_escape rest
      else (if nat_le 32 c && nat_le c 126 then with_byte c (spelt rest)
      else record { text = []; end = flaw BadString (c ∷ rest) }))

  -- behind a backslash
  pub spelt_escape : List ℕ → Spelt
  spelt_escape [] = record { text = []; end = flaw Unclosed [] }
  spelt_escape (c ∷ rest) = with_escape (escaped c) (spelt rest) (92 ∷ c ∷ rest)

infixl 10 ◌>>=◌
abbrev pub ◌>>=◌ : {A B : Type 0} → Result A Flaw → (A → Result B Flaw) → Result B Flaw
(Ok x) >>= f = f x
(Err e) >>= f = Err e

-- from its opening quote
unfoldable pub string_at : List ℕ → Result (List ℕ × List ℕ) Flaw
string_at text =
    let s = spelt (drop 1 text) in
    if nat_lt byte_limit (length s.text) then flaw TooLong text else s.end >>= λ rest. Ok (s.text, rest)

-- ---- bytes

-- what hexadecimal digits decode to, and the bytes behind them
abbrev pub decoded : List ℕ → List ℕ → Result (List ℕ) FromHexError → Result (List ℕ × List ℕ) Flaw
decoded text rest (Ok b) = Ok (b, rest)
decoded text rest (Err e) = flaw BadBytes text

-- from its `0x`
unfoldable pub bytes_at : List ℕ → Result (List ℕ × List ℕ) Flaw
bytes_at text =
    let n = prefix_len is_ascii_hexdigit (drop 2 text) in
    let rest = drop n (drop 2 text) in
    if nat_lt byte_limit (n / 2) then flaw TooLong text
    else (if begins_word rest then flaw BadBytes text
    else decoded text rest (decode_of (take n (drop 2 text))))

-- ---- numbers

abbrev pub after_minus : List ℕ → List ℕ
after_minus [] = []
after_minus (c ∷ rest) = if c == 45 then rest else c ∷ rest

abbrev pub is_minus : List ℕ → Bool
is_minus [] = false
is_minus (c ∷ rest) = c == 45

-- the value of a sign and digits
abbrev pub signed : Bool → ℕ → ℤ
signed true n = neg_ℤ (pos n)
signed false n = pos n

unfoldable pub number_at : List ℕ → Result (ℤ × List ℕ) Flaw
number_at text =
    let digits = after_minus text in
    let n = prefix_len is_ascii_digit digits in
    let value = digits_value 10 (take n digits) in
    if n == 0 || begins_word (drop n digits) then flaw BadNumber text
    else (if nat_lt (if is_minus text then 2 ^ 127 else 2 ^ 127 - 1) value then flaw BadNumber text
    else Ok (signed (is_minus text) value, drop n digits))

-- ---- tokens

-- what a token is, by its first byte
abbrev pub shape_of : ℕ → Option Shape
shape_of c =
    if is_ascii_digit c || c == 45 then Some Digits
    else (if c == 34 then Some Quoted
    else (if is_ascii_alphabetic c || c == 95 then Some Word
    else (if c == 64 || (c == 58 || c == 37) then Some Note
    else (if c == 123 then Some OpenBrace else (if c == 125 then Some CloseBrace
    else (if c == 40 then Some OpenParen else (if c == 41 then Some CloseParen
    else (if c == 59 then Some Semicolon else None))))))))

abbrev pub begins_bytes : List ℕ → Bool
begins_bytes [] = false
begins_bytes (c ∷ []) = false
begins_bytes (c ∷ d ∷ rest) = c == 48 && d == 120

abbrev pub made : {A : Type 0} → (A → Token) → Result (A × List ℕ) Flaw → Result (Token × List ℕ) Flaw
made f (Ok r) = Ok (f r.0, r.1)
made f (Err e) = Err e

abbrev pub digits_at : List ℕ → Result (Token × List ℕ) Flaw
digits_at text = if begins_bytes text then made bytes (bytes_at text) else made number (number_at text)

abbrev pub shape_at : Option Shape → List ℕ → Result (Token × List ℕ) Flaw
shape_at None text = flaw BadChar text
shape_at (Some Digits) text = digits_at text
shape_at (Some Quoted) text = made string (string_at text)
shape_at (Some Word) text = made name (name_at text)
shape_at (Some Note) text = made annotation (annotation_at text)
shape_at (Some OpenBrace) text = Ok (open_brace, drop 1 text)
shape_at (Some CloseBrace) text = Ok (close_brace, drop 1 text)
shape_at (Some OpenParen) text = Ok (open_paren, drop 1 text)
shape_at (Some CloseParen) text = Ok (close_paren, drop 1 text)
shape_at (Some Semicolon) text = Ok (semicolon, drop 1 text)

abbrev pub first_shape : List ℕ → Option Shape
first_shape [] = None
first_shape (c ∷ rest) = shape_of c

-- the token at the front of the bytes, which aren't empty
unfoldable pub token_at : List ℕ → Result (Token × List ℕ) Flaw
token_at text = shape_at (first_shape text) text
