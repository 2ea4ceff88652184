use Rattle.rules_data.specs.declared.gas.Kind.TheVariants as g
use Rattle.rules_code.specs.instructions.Straight as i
use Rattle.mich_base.specs.TypeView.{kind}
use Rattle.mich_forms.specs.Spelled.{address_bytes}
use Rattle.mich_gas.specs.View.{listed}
use Rattle.mich_interpreter.specs.View.{tops}
use Rattle.mich_frames.proofs.ForCallers.{place_acts, row_broke}
use Rattle.mich_interpreter.proofs.Spelled.{contract_takes}
use Rattle.mich_interpreter.proofs.Paid.{paid_less, stands_paid}
use Rattle.mich_interpreter.proofs.issuing.act_contract.Goals as goal

pub returns-then-not-pay-clause-acts : goal.returns-then-not-pay-clause-acts
returns-then-not-pay-clause-acts c = λ app x fs d Z o h w. row_broke _ h (rw c.if-not-pay.true at c.pay.ensures)

pub pop_address-address-requires : goal.pop_address-address-requires
pop_address-address-requires c = (c.requires.1.0.sight, contract_takes c.args.annotation (kind c.args.ty.now) c.requires.1.5)

pub contract_of-found-requires : goal.contract_of-found-requires
contract_of-found-requires c = c.requires.1.6.typed

pub returns-clause-less : goal.returns-clause-less
returns-clause-less c =
    let p = rw c.if-not-pay.false at c.pay.ensures in
    paid_less (listed c.args.costs.now) g.Contract 0 _ _ c.requires.1.5.runs.charged p.0 p.1

pub returns-clause-acts : goal.returns-clause-acts
returns-clause-acts c = λ app x fs d Z o h w.
    let p = rw c.if-not-pay.false at c.pay.ensures in
    let b = address_bytes c.pop_address-address.result in
    let W = tops x.sight c.pop_address-address.new.stack in
    rw (c.in_ok-push.ensures x.sight, c.in_ok-value.ensures x.sight, c.contract_of-found.ensures x.contract_at w.contracts)
    (stands_paid g.Contract 0 _ c.pay.new.meter p.1 (place_acts (i.contract c.args.annotation (kind c.args.ty.now)) tt b W p.0 (rw (c.pop_address-address.ensures x.sight) at h)))
