use Rattle.std.proofs.Common.{◌≡◌, ◌++◌}
use Rattle.std.specs.Map.{keys_of}
use Rattle.mich_world.proofs.keys.account_keys.Given as goal

abbrev pub invariant-accounts : goal.invariant-accounts
invariant-accounts l = l.keys ++ keys_of l.who-iterator ≡ keys_of l.accounts.entries
