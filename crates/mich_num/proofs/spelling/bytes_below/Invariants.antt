use Rattle.std.proofs.Common.{◌≡◌, ◌-◌}
use Rattle.rules_data.specs.numbers.Bytes.{least, holds_natural}
use Rattle.mich_num.proofs.spelling.bytes_below.Given as goal

abbrev pub invariant-loop-k : goal.invariant-loop-k
invariant-loop-k l = least (holds_natural l.number) 16 0 ≡ least (holds_natural l.number) (16 - l.k) l.k
