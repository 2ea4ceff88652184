use Rattle.rules_data.specs.declared.gas.Kind.TheVariants as g
use Rattle.mich_gas.specs.View.{listed}
use Rattle.mich_frames.proofs.ForCallers.{map_top, map_acts}
use Rattle.mich_interpreter.proofs.Any.{map_any_broke, mapped_top, mapped_alone}
use Rattle.mich_interpreter.proofs.Paid.{stands_paid, paid_less, turns_spend}
use Rattle.mich_interpreter.proofs.mapping.act_map.Goals as goal

pub returns-then-not-pay-clause-acts : goal.returns-then-not-pay-clause-acts
returns-then-not-pay-clause-acts c = λ x fs d Z o h.
    map_any_broke _ (rw c.if-not-pay.true at c.pay.ensures) h (map_top h)

pub pop-over-requires : goal.pop-over-requires
pop-over-requires c = (c.requires.0.sight, mapped_top _ (map_top c.requires.5))

pub begin_map-requires : goal.begin_map-requires
begin_map-requires c =
    let r = c.requires in
    let p = rw c.if-not-pay.false at c.pay.ensures in
    record {
      shape = (r.0.sight, mapped_alone _ _ (rw (c.pop-over.ensures r.0.sight) at (map_top r.5)));
      waits = (r.0, r.1, r.2, r.3, r.4, stands_paid g.Map 0 _ c.pay.new.meter p.1 (map_acts _ p.0 (rw (c.pop-over.ensures r.0.sight) at r.5)));
    }

pub returns-clause-acts : goal.returns-clause-acts
returns-clause-acts c = λ x fs d Z o h.
    let p = rw c.if-not-pay.false at c.pay.ensures in
    c.in_ok-act.ensures.acts x fs d Z o (stands_paid g.Map 0 _ c.pay.new.meter p.1 (map_acts _ p.0 (rw (c.pop-over.ensures x.sight) at h)))

pub returns-clause-less : goal.returns-clause-less
returns-clause-less c =
    let p = rw c.if-not-pay.false at c.pay.ensures in
    let lt = paid_less (listed c.args.costs.now) g.Map 0 _ _ c.requires.5.runs.charged p.0 p.1 in
    turns_spend _ _ _ c.in_ok-act.act lt c.in_ok-act.ensures.gas
