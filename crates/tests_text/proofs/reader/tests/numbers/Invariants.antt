use Rattle.std.proofs.Common.{◌≡◌, false}
use Rattle.tests_text.proofs.reader.tests.numbers.Given as goal

abbrev pub invariant-numbers : goal.invariant-numbers
invariant-numbers l = l.reader.ended ≡ false
