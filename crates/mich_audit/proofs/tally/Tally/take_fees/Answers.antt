use Rattle.std.proofs.Common.{sym, ◌∙◌}
use Rattle.mich_audit.proofs.Taken.{fees_done}
use Rattle.mich_audit.proofs.tally.Tally.take_fees.Goals as goal

pub returns : goal.returns
returns c = λ before it.
    fees_done before c.args.self.now it c.pass.new.self c.args.amount (sym c.is_within.ensures ∙ c.if-not-is_within.false) c.pass.ensures.passed c.pass.ensures.fourth
    c.pass.ensures.tickets.0 c.pass.ensures.tickets.1 c.pass.ensures.tickets.2
