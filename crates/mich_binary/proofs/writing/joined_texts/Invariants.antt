use Rattle.std.proofs.Common.{◌≡◌, ◌++◌, drop}
use Rattle.rules_text.specs.binary.Spelling.{joined}
use Rattle.mich_binary.proofs.Writings.{spaced}
use Rattle.mich_binary.proofs.writing.joined_texts.Given as goal

abbrev pub invariant-loop-text : goal.invariant-loop-text
invariant-loop-text l = l.out.items ++ spaced (drop l.text-index l.rest) ≡ joined l.texts
