use Rattle.std.proofs.Common.{rules, SFits, sym, subst}
use Rattle.std.specs.Int.{w128}
use Rattle.std.proofs.lemmas.Int.{to_z-of_z}
use Rattle.rules_data.specs.declared.gas.Kind.TheVariants as price
use Rattle.rules_code.specs.typing.Nodes.{script}
use Rattle.rules_world.specs.world.Application.{apply_action}
use Rattle.rules_world.specs.world.Contents.{Originate}
use Rattle.rules_world.specs.world.Gives.{Offer, given, offered, with_offered}
use Rattle.rules_world.specs.world.Groups.{setting_of}
use Rattle.rules_world.specs.world.Originations.{with_script}
use Rattle.rules_world.specs.world.Outcomes.{ordered}
use Rattle.mich_base.specs.View.{tree}
use Rattle.mich_forms.specs.Spelled.{place_bytes}
use Rattle.mich_gas.specs.View.{listed}
use Rattle.mich_machine.specs.Calls.{counts_of}
use Rattle.mich_ops.specs.View.{action as action_of}
use Rattle.mich_ops.specs.declared.group.Action.{Action as Ordered}
use Rattle.mich_operations.specs.Going.{Begins, EndsAs}
use Rattle.mich_operations.proofs.Hosting.{keeps_same}
use Rattle.mich_operations.proofs.Issuing.{keeps_either}
use Rattle.mich_operations.proofs.Paying.{charged_paid, ends_along}
use Rattle.mich_operations.proofs.action.apply_action.Goals as goal

pub returns-in_err-charge-in-Call-clause-keeps : goal.returns-in_err-charge-in-Call-clause-keeps
returns-in_err-charge-in-Call-clause-keeps c = search (rules, keeps_same)

pub returns-in_err-charge-in-Originate-clause-keeps : goal.returns-in_err-charge-in-Originate-clause-keeps
returns-in_err-charge-in-Originate-clause-keeps c = keeps_either c.from_residual-in_err-charge-in-Originate.result c.args.world.now

pub returns-in_ok-charge-in-Originate-clause-ends : goal.returns-in_ok-charge-in-Originate-clause-ends
returns-in_ok-charge-in-Originate-clause-ends c = λ w b.
    let o = c.in-Originate in
    let s = setting_of (listed c.args.costs.now) c.args.counts.now.group c.args.source.now in
    let paid = c.in_ok-charge-in-Originate.ensures in
    let t = tree o.script in
    let u = tree o.storage in
    let begins = subst (λ (a : Ordered). Begins c.args.world.now w s (ordered (action_of a)) (counts_of c.args.counts.now)) o.is b in
    subst (λ (a : Ordered). EndsAs (apply_action s w (action_of a) c.args.meter.now (counts_of c.args.counts.now)) c.originate.new.world c.charge-in-Originate.new.meter
    c.args.counts.now c.originate.new.counts c.originate.result) (sym o.is)
    (ends_along (apply_action s w (Originate o.balance t u) c.args.meter.now (counts_of c.args.counts.now))
    (with_script (script t) s w o.balance t u c.charge-in-Originate.new.meter (counts_of c.args.counts.now)) c.originate.new.world c.charge-in-Originate.new.meter
    c.args.counts.now c.originate.new.counts c.originate.result
    (charged_paid s.prices price.Origination c.args.meter.now c.charge-in-Originate.new.meter _ paid.0 paid.1)
    (c.originate.ensures.ends (listed c.args.costs.now) w c.charge-in-Originate.new.meter begins))

pub returns-in_err-charge-in-Give-clause-keeps : goal.returns-in_err-charge-in-Give-clause-keeps
returns-in_err-charge-in-Give-clause-keeps c = keeps_either c.from_residual-in_err-charge-in-Give.result c.args.world.now

pub returns-in_ok-charge-in-Give-clause-ends : goal.returns-in_ok-charge-in-Give-clause-ends
returns-in_ok-charge-in-Give-clause-ends c = λ w b.
    let o = c.in-Give in
    let s = setting_of (listed c.args.costs.now) c.args.counts.now.group c.args.source.now in
    let paid = c.in_ok-charge-in-Give.ensures in
    let fits : SFits w128 o.amount = search rules in
    let offer : Offer = record { issuer = place_bytes o.issuer; kind = tree o.ty; content = tree o.content; amount = o.amount } in
    let begins = subst (λ (a : Ordered). Begins c.args.world.now w s (ordered (action_of a)) (counts_of c.args.counts.now)) o.is b in
    subst (λ (a : Ordered). EndsAs (apply_action s w (action_of a) c.args.meter.now (counts_of c.args.counts.now)) c.give.new.world c.give.new.meter
    c.args.counts.now c.give.new.counts c.give.result) (sym o.is)
    (ends_along (given s w offer (place_bytes o.to) o.entry c.args.meter.now (counts_of c.args.counts.now))
    (with_offered (offered offer) s w (place_bytes o.to) o.entry c.charge-in-Give.new.meter (counts_of c.args.counts.now)) c.give.new.world c.give.new.meter
    c.args.counts.now c.give.new.counts c.give.result
    (charged_paid s.prices price.Transfer c.args.meter.now c.charge-in-Give.new.meter _ paid.0 paid.1)
    ((rw (to_z-of_z w128 o.amount fits) at (c.give.ensures.ends w)) begins))

pub give-requires-clause-next : goal.give-requires-clause-next
give-requires-clause-next c =
    let o = c.in-Give in
    let n = c.requires.next in
    let s = setting_of (listed c.args.costs.now) c.args.counts.now.group c.args.source.now in
    let fits : SFits w128 o.amount = search rules in (
      n.0,
      rw (to_z-of_z w128 o.amount fits)
          (subst (λ (a : Ordered). Begins c.args.world.now n.0 s (ordered (action_of a)) (counts_of c.args.counts.now)) o.is n.1),
    )
