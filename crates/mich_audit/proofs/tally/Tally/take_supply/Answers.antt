use Rattle.std.proofs.Common.{refl, sym, ◌∙◌}
use Rattle.mich_audit.proofs.Taken.{passed_as, supply_done}
use Rattle.mich_audit.proofs.tally.Tally.take_supply.Goals as goal

pub returns : goal.returns
returns c = λ before it.
    supply_done before c.args.self.now it _ c.args.amount (sym c.follows_supply.ensures ∙ c.if-not-follows_supply.false)
    (passed_as c.args.self.now c.args.self.now _ c.pass.new.self 7 0 refl refl refl refl refl c.pass.ensures.passed) refl c.pass.ensures.fourth
    c.pass.ensures.tickets.0 c.pass.ensures.tickets.1 c.pass.ensures.tickets.2
