use Rattle.std.proofs.Common.{◌≡◌, false}
use Rattle.tests_text.proofs.reader.tests.filled.Given as goal

abbrev pub invariant-pieces : goal.invariant-pieces
invariant-pieces l = l.reader.ended ≡ false
