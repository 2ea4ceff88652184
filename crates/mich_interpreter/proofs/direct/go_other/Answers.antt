use Rattle.std.proofs.Common.{true, false}
use Rattle.mich_overload.specs.View.{straight}
use Rattle.mich_interpreter.proofs.Gone.{broken, fits_paid, pays_weighed, ready_met, steps_gone, suits_met}
use Rattle.mich_interpreter.proofs.Weighed.{some_operands}
use Rattle.mich_interpreter.proofs.direct.go_other.Goals as goal

pub weigh-requires-clause-operands : goal.weigh-requires-clause-operands
weigh-requires-clause-operands c =
    let t = c.requires.comes in
    some_operands t.1.0 c.args.costs.now c.args.m.now (straight c.args.instr.now) t.1.5

pub step-requires : goal.step-requires
step-requires c =
    let r = straight c.args.instr.now in
    let pays = pays_weighed c.args.costs.now c.args.m.now r _ true _ _ _ c.if-not-pay_capped.false c.price.ensures c.in-Ok.ensures c.pay_capped.ensures in
    record {
      in_step = c.requires.in_step;
      fits = fits_paid c.args.costs.now c.args.m.now r c.requires.in_step c.requires.comes _ pays;
      suits = suits_met c.args.costs.now c.args.m.now r c.requires.in_step c.requires.comes _ pays;
      ready = ready_met c.args.costs.now c.args.m.now r c.requires.in_step c.requires.comes _ pays;
    }

pub returns-then-not-pay_capped : goal.returns-then-not-pay_capped
returns-then-not-pay_capped c =
    broken c.args.costs.now c.args.m.now (straight c.args.instr.now) _
    (pays_weighed c.args.costs.now c.args.m.now (straight c.args.instr.now) _ false _ _ _ c.if-not-pay_capped.true c.price.ensures c.in-Ok.ensures c.pay_capped.ensures)

pub returns : goal.returns
returns c =
    steps_gone c.args.costs.now c.args.m.now (straight c.args.instr.now) c.requires.in_step c.requires.comes _
    (pays_weighed c.args.costs.now c.args.m.now (straight c.args.instr.now) _ true _ _ _ c.if-not-pay_capped.false c.price.ensures c.in-Ok.ensures c.pay_capped.ensures)
    _ _ c.step.ensures.keeps _ _ c.went_by.ensures c.step.ensures.ends c.step.ensures.tells
