-- What the code's tokens are.
use Rattle.rules_text.specs.text.Token.{Token, number, bytes, string, name, annotation, open_brace, close_brace, open_paren, close_paren, semicolon}
use Rattle.mich_text.specs.declared.token.Token.{Token as CodeToken}
use Rattle.mich_text.specs.declared.token.Token.TheVariants as code

abbrev pub token_view : CodeToken → Token
token_view (code.Number n) = number n
token_view (code.Bytes b) = bytes b
token_view (code.Text t) = string t
token_view (code.Name n) = name n
token_view (code.Annotation a) = annotation a
token_view code.OpenBrace = open_brace
token_view code.CloseBrace = close_brace
token_view code.OpenParen = open_paren
token_view code.CloseParen = close_paren
token_view code.Semicolon = semicolon
