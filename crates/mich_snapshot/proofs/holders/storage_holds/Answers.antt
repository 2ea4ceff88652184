use Rattle.std.proofs.Common.{Bool}
use Rattle.std.proofs.lemmas.Result.{IfOk-weaker}
use Rattle.rules_data.specs.values.Tickets.{tickets}
use Rattle.mich_base.specs.TypeView.{kind}
use Rattle.mich_base.specs.View.{tree}
use Rattle.mich_term.specs.ValueView.{val}
use Rattle.mich_snapshot.specs.Holders.{storage_rules}
use Rattle.mich_snapshot.specs.Sums.{Finds, have_totals, more_tickets}
use Rattle.mich_snapshot.proofs.Trying.{not_paid, not_stored, totals_decide}
use Rattle.mich_snapshot.proofs.holders.storage_holds.Goals as goal

pub returns-then-not-branch : goal.returns-then-not-branch
returns-then-not-branch c = λ s found d h paying.
    not_stored s c.args.pays (kind c.args.ty.now) d c.args.contract.now.paid (tree c.args.contract.now.script)
    (val c.args.storage.now) _ _ _ paying c.in_ok-value_fits.ensures c.if-not-branch.true

pub returns-then-not-paid_holds : goal.returns-then-not-paid_holds
returns-then-not-paid_holds c = λ s found d h paying.
    not_paid s c.args.pays (kind c.args.ty.now) d c.args.contract.now.paid (tree c.args.contract.now.script)
    (val c.args.storage.now) _ _ _ _ paying c.in_ok-value_fits.ensures c.if-not-branch.false
    (c.paid_holds.ensures d paying) c.if-not-paid_holds.true

pub returns : goal.returns
returns c = λ s found d h paying.
    let x = val c.args.storage.now in
    let es = c.tickets_hold.new.sums.found.entries in
    IfOk-weaker c.tickets_hold.result (Finds s (have_totals s (tickets x)) (more_tickets found (tickets x)) es)
    (Finds s (storage_rules s c.args.pays (kind c.args.ty.now) d) (more_tickets found (tickets d.storage)) es)
    (λ (b : Bool) finds. totals_decide s c.args.pays (kind c.args.ty.now) d c.args.contract.now.paid
    (tree c.args.contract.now.script) x found es _ _ b paying c.in_ok-value_fits.ensures c.if-not-branch.false
    (c.paid_holds.ensures d paying) c.if-not-paid_holds.false finds)
    (c.tickets_hold.ensures s found h)
