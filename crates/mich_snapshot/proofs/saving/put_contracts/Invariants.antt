use Rattle.std.proofs.Common.{◌≡◌, ◌++◌, drop, length}
use Rattle.rules_files.specs.snapshots.Spelling.{eight}
use Rattle.mich_snapshot.proofs.Putting.{any_long}
use Rattle.mich_snapshot.proofs.Parts.{contracts_nodes, contracts_text}
use Rattle.mich_snapshot.proofs.saving.put_contracts.Given as goal

-- the contracts so far, and those that are left
abbrev pub invariant-contracts : goal.invariant-contracts
invariant-contracts l = record {
  text : l.out.items ++ contracts_text l.world (drop l.hash-index l.hash-items)
      ≡ l.fn.out.items ++ (eight (length l.hash-items) ++ contracts_text l.world l.hash-items);
  long : any_long (contracts_nodes l.world (drop l.hash-index l.hash-items)) ≡ any_long (contracts_nodes l.world l.hash-items);
}
