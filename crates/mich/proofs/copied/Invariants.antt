use Rattle.std.proofs.Common.{◌≡◌, take}
use Rattle.mich.proofs.copied.Given as goal

abbrev pub invariant-words : goal.invariant-words
invariant-words l = l.copy ≡ take l.word-index l.words
