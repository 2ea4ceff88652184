use Rattle.std.proofs.Common.{ℕ, map}
use Rattle.std.specs.Vec.Iter.{into_iter_items}
use Rattle.rules_data.specs.values.Tickets.{Identity}
use Rattle.rules_files.specs.snapshots.Spelling.{account_spelling}
use Rattle.rules_files.specs.snapshots.State.{State}
use Rattle.mich_saved.specs.Shown.{account}
use Rattle.mich_saved.specs.Sound.{EachAt, IsSame}
use Rattle.mich_snapshot.specs.Sums.{AreFound}
use Rattle.mich_snapshot.proofs.Ways.{AccountsOnWay}
use Rattle.mich_snapshot.proofs.holders.sound_accounts.Given as goal

abbrev pub invariant-loop-account : goal.invariant-loop-account
invariant-loop-account l = (s : State) (found : Identity → ℕ) (place : ℕ) → AreFound s found l.fn.sums.found.entries
    → EachAt IsSame account_spelling place s.accounts (map account l.fn.accounts)
    → AccountsOnWay s found place l.former (into_iter_items l.account-iterator) l.sound l.sums.found.entries
