use Rattle.std.proofs.Common.{◌≡◌, drop}
use Rattle.mich_num.specs.View.{sign}
use Rattle.mich_num.proofs.ReadBytes.{extend}
use Rattle.mich_num.proofs.spelling.from_bytes.Given as goal

abbrev pub invariant-loop-c : goal.invariant-loop-c
invariant-loop-c l = extend (sign l.signed l.bytes) l.bytes ≡ extend l.value (drop l.c-index l.bytes)
