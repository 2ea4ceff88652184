use Rattle.std.proofs.Common.{◌≡◌, false}
use Rattle.tests_text.proofs.reader.tests.agrees.Given as goal

abbrev pub invariant-bytes : goal.invariant-bytes
invariant-bytes l = l.reader.ended ≡ false
