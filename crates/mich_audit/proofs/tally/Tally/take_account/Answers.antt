use Rattle.std.proofs.Common.{refl, sym, ap, ◌∙◌}
use Rattle.mich_audit.specs.View.{parts_seen}
use Rattle.mich_audit.proofs.Taken.{passed_as, account_done}
use Rattle.mich_audit.proofs.tally.Tally.take_account.Goals as goal

pub returns : goal.returns
returns c = λ before it forms.
    account_done before c.args.self.now it _ c.pass.new.self (parts_seen c.args.parts.now) (parts_seen c.as_slice.result.now) (ap parts_seen c.as_slice.ensures) forms c.pass.ensures.tickets.2
    c.in_ok-add_parts.ensures c.args.balance (sym c.is_within.ensures ∙ c.if-not-is_within.false)
    (passed_as c.args.self.now c.args.self.now _ c.pass.new.self 2 c.args.balance refl refl refl refl refl c.pass.ensures.passed) c.pass.ensures.fourth
    c.pass.ensures.tickets.0 c.pass.ensures.tickets.1
