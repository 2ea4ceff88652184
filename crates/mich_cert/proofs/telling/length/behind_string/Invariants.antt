use Rattle.std.proofs.Common.{◌≡◌, ◌+◌, length, drop}
use Rattle.rules_text.specs.text.Printed.{string_text}
use Rattle.mich_cert.proofs.telling.length.behind_string.Given as goal

-- what is left of the room and of the string
abbrev pub invariant-loop-byte : goal.invariant-loop-byte
invariant-loop-byte l = l.left + length (string_text l.text) ≡ l.fn.room + length (string_text (drop l.byte-index l.text))
