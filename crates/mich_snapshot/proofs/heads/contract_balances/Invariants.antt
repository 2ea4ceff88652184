use Rattle.std.proofs.Common.{◌≡◌, ◌≤◌, ◌+◌, ◌-◌, ◌^◌, drop}
use Rattle.std.specs.List.{sum_by}
use Rattle.mich_term.specs.Weights.{capped}
use Rattle.mich_snapshot.proofs.heads.contract_balances.Given as goal

abbrev pub invariant-loop-contract : goal.invariant-loop-contract
invariant-loop-contract l = record {
  same : capped (l.sum + sum_by (λ x. x.balance) (drop l.contract-index l.contract-items)) ≡ capped (sum_by (λ x. x.balance) l.contracts);
  small : l.sum ≤ 2 ^ 64 - 1;
}
