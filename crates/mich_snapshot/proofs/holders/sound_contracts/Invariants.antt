use Rattle.std.proofs.Common.{ℕ, map}
use Rattle.std.specs.List.{AllByRecursion}
use Rattle.std.specs.Vec.Iter.{into_iter_items}
use Rattle.rules_data.specs.values.Tickets.{Identity}
use Rattle.rules_files.specs.snapshots.Spelling.{contract_spelling}
use Rattle.rules_files.specs.snapshots.State.{State}
use Rattle.mich_instr.specs.Scripts.{IsTypedScript}
use Rattle.mich_saved.specs.KeptStates.{IsKeptContract}
use Rattle.mich_saved.specs.Shown.{IsAloneContract, contract}
use Rattle.mich_saved.specs.Sound.{EachAt}
use Rattle.mich_world.specs.Restoring.{IsAlone}
use Rattle.mich_snapshot.specs.Heads.{HasHead}
use Rattle.mich_snapshot.specs.Holders.{AreOfSpelt}
use Rattle.mich_snapshot.specs.Sums.{AreFound}
use Rattle.mich_snapshot.proofs.Ways.{ContractsOnWay}
use Rattle.mich_snapshot.proofs.holders.sound_contracts.Given as goal

abbrev pub invariant-loop-contract : goal.invariant-loop-contract
invariant-loop-contract l = record {
  way : (s : State) (found : Identity → ℕ) (place : ℕ) → HasHead s l.fn.head → AreFound s found l.fn.sums.found.entries
      → EachAt IsKeptContract contract_spelling place s.contracts (map contract l.fn.contracts)
      → ContractsOnWay s found place l.former (into_iter_items l.contract-iterator) l.sound l.sums.found.entries;
  spelt : AreOfSpelt (into_iter_items l.contract-iterator);
  typed : AllByRecursion (λ saved. IsTypedScript saved.contract.script) l.sound;
  alone : AllByRecursion IsAloneContract l.fn.contracts → AllByRecursion IsAloneContract (into_iter_items l.contract-iterator) × AllByRecursion IsAlone l.sound;
}
