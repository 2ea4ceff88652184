use Rattle.std.proofs.Common.{◌≡◌, ◌+◌, drop}
use Rattle.std.specs.List.{sum_by}
use Rattle.mich_world.proofs.restoring.account_balances.Given as goal

abbrev pub invariant-loop-account : goal.invariant-loop-account
invariant-loop-account l = l.sum + sum_by (λ a. a.balance) (drop l.account-index l.account-items) ≡ sum_by (λ a. a.balance) l.accounts
