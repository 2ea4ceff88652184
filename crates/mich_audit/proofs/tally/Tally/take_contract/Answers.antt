use Rattle.std.proofs.Common.{refl, sym, ap, ◌∙◌}
use Rattle.mich_audit.specs.View.{parts_seen}
use Rattle.mich_audit.proofs.Taken.{passed_as, contract_done}
use Rattle.mich_audit.proofs.tally.Tally.take_contract.Goals as goal

pub returns : goal.returns
returns c = λ before it forms.
    contract_done before c.args.self.now it _ c.pass.new.self (parts_seen c.args.parts.now) (parts_seen c.as_slice.result.now) (ap parts_seen c.as_slice.ensures) forms c.pass.ensures.tickets.2
    c.in_ok-add_parts.ensures c.args.balance c.args.fourth (sym c.follows_contract.ensures ∙ c.if-not-follows_contract.false)
    (passed_as c.args.self.now c.args.self.now _ c.pass.new.self 3 c.args.balance refl refl refl refl refl c.pass.ensures.passed) refl
    c.pass.ensures.tickets.0 c.pass.ensures.tickets.1
