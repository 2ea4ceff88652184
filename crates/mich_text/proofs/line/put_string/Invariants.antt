use Rattle.std.proofs.Common.{◌≡◌, ◌++◌, drop}
use Rattle.rules_text.specs.text.Printed.{string_text}
use Rattle.mich_text.proofs.line.put_string.Given as goal

-- the line so far, and what is left of the string
abbrev pub invariant-bytes : goal.invariant-bytes
invariant-bytes l = l.line.items ++ string_text (drop l.byte-index l.text) ≡ l.fn.line.items ++ string_text l.text
