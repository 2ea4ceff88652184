use Rattle.std.proofs.Common.{◌≡◌, ◌++◌, drop, length}
use Rattle.rules_files.specs.snapshots.Spelling.{eight}
use Rattle.rules_world.specs.world.World.{World as PlainWorld}
use Rattle.mich_report.specs.State.{GathersOf, IsAtRest}
use Rattle.mich_snapshot.proofs.Parts.{accounts_text}
use Rattle.mich_snapshot.proofs.saving.put_accounts.Given as goal

-- the accounts so far, and those that are left
abbrev pub invariant-accounts : goal.invariant-accounts
invariant-accounts l = (w : PlainWorld) → IsAtRest l.world w → GathersOf l.world l.purses.entries →
    l.out.items ++ accounts_text l.world w (drop l.who-index l.who-items)
    ≡ l.fn.out.items ++ (eight (length l.who-items) ++ accounts_text l.world w l.who-items)
