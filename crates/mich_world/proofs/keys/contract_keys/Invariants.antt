use Rattle.std.proofs.Common.{◌≡◌, ◌++◌}
use Rattle.std.specs.Map.{keys_of}
use Rattle.mich_world.proofs.keys.contract_keys.Given as goal

abbrev pub invariant-contracts : goal.invariant-contracts
invariant-contracts l = l.keys ++ keys_of l.hash-iterator ≡ keys_of l.contracts.entries
