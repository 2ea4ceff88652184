use Rattle.std.proofs.Common.{◌≡◌, ◌≤◌, ◌+◌, ◌-◌, ◌^◌, drop}
use Rattle.std.specs.List.{sum_by}
use Rattle.mich_term.specs.Weights.{capped}
use Rattle.mich_snapshot.proofs.heads.account_balances.Given as goal

abbrev pub invariant-loop-account : goal.invariant-loop-account
invariant-loop-account l = record {
  same : capped (l.sum + sum_by (λ x. x.balance) (drop l.account-index l.account-items)) ≡ capped (sum_by (λ x. x.balance) l.accounts);
  small : l.sum ≤ 2 ^ 64 - 1;
}
