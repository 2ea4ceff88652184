use Rattle.std.proofs.Common.{◌≡◌, ◌+◌, drop}
use Rattle.std.specs.List.{sum_by}
use Rattle.mich_world.proofs.restoring.contract_balances.Given as goal

abbrev pub invariant-loop-saved : goal.invariant-loop-saved
invariant-loop-saved l = l.sum + sum_by (λ c. c.contract.balance) (drop l.saved-index l.saved-items) ≡ sum_by (λ c. c.contract.balance) l.contracts
