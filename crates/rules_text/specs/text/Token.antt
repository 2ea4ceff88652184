-- The tokens of a text.
use Rattle.std.specs.Prelude.{ℕ, ℤ, List}
use Rattle.rules_text.specs.declared.text.Shape.{Shape}
use Rattle.rules_text.specs.declared.text.Shape.TheVariants.{Digits, Quoted, Word, Note, OpenBrace, CloseBrace, OpenParen, CloseParen, Semicolon}

pub data Token : Type 0 where
  number : ℤ → Token
  bytes : List ℕ → Token
  string : List ℕ → Token
  name : List ℕ → Token
  annotation : List ℕ → Token
  open_brace : Token
  close_brace : Token
  open_paren : Token
  close_paren : Token
  semicolon : Token

-- what a token is by its first byte
abbrev pub token_shape : Token → Shape
token_shape (Token.number n) = Digits
token_shape (Token.bytes b) = Digits
token_shape (Token.string s) = Quoted
token_shape (Token.name n) = Word
token_shape (Token.annotation a) = Note
token_shape Token.open_brace = OpenBrace
token_shape Token.close_brace = CloseBrace
token_shape Token.open_paren = OpenParen
token_shape Token.close_paren = CloseParen
token_shape Token.semicolon = Semicolon
