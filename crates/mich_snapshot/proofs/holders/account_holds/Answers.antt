use Rattle.std.proofs.Common.{None, sym, ◌∙◌}
use Rattle.rules_files.specs.snapshots.Rules.{are_holdings, is_account}
use Rattle.mich_saved.specs.Shown.{account}
use Rattle.mich_snapshot.specs.Sums.{more_account}
use Rattle.mich_snapshot.proofs.HolderRules.{account_below, account_is, found_alike}
use Rattle.mich_snapshot.proofs.holders.account_holds.Goals as goal

pub returns-then-not-who_is_above : goal.returns-then-not-who_is_above
returns-then-not-who_is_above c = λ s found h.
    (sym (account_below s c.args.former.now (account c.args.account.now).1 (sym c.who_is_above.ensures ∙ c.if-not-who_is_above.true)), λ e. absurd cc)

pub returns : goal.returns
returns c = λ s found h.
    let a = (account c.args.account.now).1 in
    found_alike s (more_account found a) c.holdings_hold.new.sums.found.entries (are_holdings s None a.1.holdings) (is_account s c.args.former.now a) c.holdings_hold.result
    (account_is s c.args.former.now a (sym c.who_is_above.ensures ∙ c.if-not-who_is_above.false)) (c.holdings_hold.ensures s found h)
