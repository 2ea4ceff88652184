-- A string that isn't closed ends with the input.
use Rattle.std.proofs.Common.{◌≡◌, ℕ, List, length, Option, Some, None, Err, refl, subst}
use Rattle.rules_text.specs.text.Token.{string, name, annotation, number, bytes}
use Rattle.rules_text.specs.declared.text.Shape.{Shape}
use Rattle.rules_text.specs.declared.text.Shape.TheVariants.{Digits, Quoted, Word, Note, OpenBrace, CloseBrace, OpenParen, CloseParen, Semicolon}
use Rattle.rules_text.specs.declared.text.TextKind.TheVariants.{BadString, BadBytes, BadNumber, TooLong, BadChar, Unclosed}
use Rattle.rules_text.specs.text.Fault.{Flaw}
use Rattle.rules_text.specs.text.Lexical.{name_at, annotation_at, string_at, bytes_at, number_at, digits_at, begins_bytes, shape_at, token_at, first_shape}
use Rattle.mich_text.proofs.tokens.Annotations.{annotation_each}
use Rattle.mich_text.proofs.tokens.Bytes.{bytes_each}
use Rattle.mich_text.proofs.tokens.Names.{name_each}
use Rattle.mich_text.proofs.tokens.Numbers.{number_each}
use Rattle.mich_text.proofs.tokens.Properties.{Each, Of, each_either, made_each}
use Rattle.mich_text.proofs.tokens.Strings.{string_each}

abbrev AtEnd : Flaw → Type 0
AtEnd f = f.kind ≡ Unclosed → f.left ≡ 0

long_not : Of AtEnd TooLong
long_not n e = absurd (cc e)

char_not : Of AtEnd BadChar
char_not n e = absurd (cc e)

string_not : Of AtEnd BadString
string_not n e = absurd (cc e)

bytes_not : Of AtEnd BadBytes
bytes_not n e = absurd (cc e)

number_not : Of AtEnd BadNumber
number_not n e = absurd (cc e)

at_end : AtEnd (record { kind = Unclosed; left = 0 })
at_end e = refl

digits_end : (text : List ℕ) → Each AtEnd (digits_at text)
digits_end text =
    each_either AtEnd (begins_bytes text) _ _ (made_each AtEnd bytes (bytes_at text) (bytes_each AtEnd long_not bytes_not text))
    (made_each AtEnd number (number_at text) (number_each AtEnd number_not text))

shape_end : (o : Option Shape) (text : List ℕ) → Each AtEnd (shape_at o text)
shape_end None text = char_not (length text)
shape_end (Some Digits) text = digits_end text
shape_end (Some Quoted) text = made_each AtEnd string (string_at text) (string_each AtEnd long_not string_not at_end text)
shape_end (Some Word) text = made_each AtEnd name (name_at text) (name_each AtEnd long_not text)
shape_end (Some Note) text = made_each AtEnd annotation (annotation_at text) (annotation_each AtEnd long_not text)
shape_end (Some OpenBrace) text = tt
shape_end (Some CloseBrace) text = tt
shape_end (Some OpenParen) text = tt
shape_end (Some CloseParen) text = tt
shape_end (Some Semicolon) text = tt

pub unclosed_left : (text : List ℕ) (left : ℕ) → token_at text ≡ Err (record { kind = Unclosed; left = left }) → left ≡ 0
unfolding token_at
unclosed_left text left e = (subst (Each AtEnd) e (shape_end (first_shape text) text)) refl
