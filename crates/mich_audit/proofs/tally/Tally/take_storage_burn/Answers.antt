use Rattle.std.proofs.Common.{sym, ◌∙◌}
use Rattle.mich_audit.proofs.Taken.{burn_done}
use Rattle.mich_audit.proofs.tally.Tally.take_storage_burn.Goals as goal

pub returns : goal.returns
returns c = λ before it.
    burn_done before c.args.self.now it c.pass.new.self c.args.amount (sym c.follows_storage_burn.ensures ∙ c.if-not-follows_storage_burn.false) c.pass.ensures.passed c.pass.ensures.fourth
    c.pass.ensures.tickets.0 c.pass.ensures.tickets.1 c.pass.ensures.tickets.2
