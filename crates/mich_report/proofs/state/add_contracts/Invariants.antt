use Rattle.std.proofs.Common.{◌≡◌, ◌++◌, drop, map}
use Rattle.rules_world.specs.lines.Nodes.{line}
use Rattle.mich_report.proofs.Rest.{contracts_nodes}
use Rattle.mich_report.proofs.state.add_contracts.Given as goal

-- the contracts so far, and those that are left
abbrev pub invariant-contracts : goal.invariant-contracts
invariant-contracts l =
    l.lines ++ map line (contracts_nodes l.world.store.bases.present l.world.funds.present (drop l.hash-index l.hash-items))
    ≡ l.fn.lines ++ map line (contracts_nodes l.world.store.bases.present l.world.funds.present l.hash-items)
