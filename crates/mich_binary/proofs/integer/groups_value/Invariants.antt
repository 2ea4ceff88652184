use Rattle.std.proofs.Common.{◌≡◌, ◌-◌, ◌<◌, ◌^◌, length, drop}
use Rattle.rules_text.specs.binary.Reading.{groups_value}
use Rattle.mich_binary.proofs.integer.groups_value.Given as goal

abbrev pub invariant-loop-i : goal.invariant-loop-i
invariant-loop-i l = record { below : l.value < 2 ^ 128; is : l.value ≡ groups_value (drop (length l.groups - l.i) l.groups) }
