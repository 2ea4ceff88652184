use Rattle.std.proofs.Common.{◌≡◌, ◌<◌, drop}
use Rattle.rules_files.specs.commands.Commands.{digits_behind}
use Rattle.mich_replay.proofs.Digits.{power}
use Rattle.mich_replay.proofs.command.value_of.Given as goal

-- the value so far, and the digits that are left
abbrev pub invariant-digits : goal.invariant-digits
invariant-digits l = record {
  rest : digits_behind l.value (drop l.digit-index l.word) ≡ digits_behind 0 l.word;
  small : l.value < power l.digit-index;
}
