use Rattle.std.proofs.Common.{◌≡◌, ◌++◌, drop, map}
use Rattle.rules_world.specs.lines.Nodes.{line}
use Rattle.rules_world.specs.world.World.{World as PlainWorld}
use Rattle.mich_report.specs.State.{IsAtRest, Gathers}
use Rattle.mich_report.proofs.Rest.{accounts_nodes}
use Rattle.mich_report.proofs.state.add_accounts.Given as goal

-- the accounts so far, and those that are left
abbrev pub invariant-accounts : goal.invariant-accounts
invariant-accounts l = (w : PlainWorld) → IsAtRest l.world w → Gathers l.world.ledger.books.present.lines l.purses.entries →
    l.lines ++ map line (accounts_nodes w l.world.funds.present (drop l.who-index l.who-items))
    ≡ l.fn.lines ++ map line (accounts_nodes w l.world.funds.present l.who-items)
