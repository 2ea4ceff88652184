-- Where the bytes of a token up to a limit show its flaw whatever follows them.
use Rattle.std.specs.Prelude.{◌≡◌, ℕ, ◌<◌, List, length, drop}
use Rattle.std.specs.List.{prefix_len}
use Rattle.std.specs.Char.{is_ascii_hexdigit}
use Rattle.rules_text.specs.declared.text.TextKind.{TextKind}
use Rattle.rules_text.specs.declared.text.TextKind.TheVariants.{BadChar, BadString, BadBytes, BadNumber, Unclosed, Unexpected, TooDeep, TooLong}

-- a flaw of this kind in two bytes or more: what is unclosed may be closed, and digits may go on
abbrev pub Counts : List ℕ → TextKind → Type 0
Counts text BadChar = Unit {0}
Counts text BadString = Unit {0}
Counts text BadBytes = prefix_len is_ascii_hexdigit (drop 2 text) < length (drop 2 text)
Counts text BadNumber = Unit {0}
Counts text Unclosed = ⊥
Counts text Unexpected = Unit {0}
Counts text TooDeep = Unit {0}
Counts text TooLong = Unit {0}

-- bytes with a flaw, whose digits go on to the end
abbrev pub IsOpenBytes : List ℕ → TextKind → Type 0
IsOpenBytes text kind = (kind ≡ BadBytes) × (prefix_len is_ascii_hexdigit (drop 2 text) ≡ length (drop 2 text))
