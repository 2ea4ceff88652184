use Rattle.std.proofs.Common.{◌≡◌, ◌-◌, map}
use Rattle.std.specs.List.{AllByRecursion}
use Rattle.mich_saved.specs.Shown.{IsAloneContract, contract}
use Rattle.mich_saved.specs.Parts.{placed, kept_contract_at}
use Rattle.rules_files.specs.snapshots.Reading.{parts_at}
use Rattle.mich_saved.specs.Results.{spot}
use Rattle.mich_saved.proofs.Lines.{with_front}
use Rattle.mich_saved.proofs.parts.some_contracts.Given as goal

abbrev pub invariant-loop : goal.invariant-loop
invariant-loop l = record {
  read : with_front (map contract l.contracts) (parts_at (placed kept_contract_at) (l.count - l.counter) (spot l.here)) ≡ parts_at (placed kept_contract_at) l.count (spot l.cursor);
  alone : AllByRecursion IsAloneContract l.contracts;
}
