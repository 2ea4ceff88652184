use Rattle.std.proofs.Common.{true, false, refl}
use Rattle.rules_code.specs.instructions.Straight.{on_stack}
use Rattle.rules_code.specs.instructions.Straight as i
use Rattle.mich_interpreter.proofs.Gone.{broken, fits_paid, keeps_gone, pays_weighed, suits_met}
use Rattle.mich_interpreter.proofs.direct.go_dup.Goals as goal

pub returns-then-not-pay_capped : goal.returns-then-not-pay_capped
returns-then-not-pay_capped c = broken c.args.costs.now c.args.m.now (on_stack (i.dup c.args.place)) _ (pays_weighed c.args.costs.now c.args.m.now (on_stack (i.dup c.args.place)) _ false _ _ _ c.if-not-pay_capped.true refl c.copied_weight-weighed.ensures c.pay_capped.ensures)

pub dup_value-requires : goal.dup_value-requires
dup_value-requires c =
    let r = on_stack (i.dup c.args.place) in
    let pays = (pays_weighed c.args.costs.now c.args.m.now (r) _ true _ _ _ c.if-not-pay_capped.false refl c.copied_weight-weighed.ensures c.pay_capped.ensures) in
    record {
      fits = fits_paid c.args.costs.now c.args.m.now r refl c.requires _ pays;
      suits = suits_met c.args.costs.now c.args.m.now r refl c.requires _ pays;
    }

pub returns : goal.returns
returns c = keeps_gone c.args.costs.now c.args.m.now (on_stack (i.dup c.args.place)) refl c.requires _ (pays_weighed c.args.costs.now c.args.m.now (on_stack (i.dup c.args.place)) _ true _ _ _ c.if-not-pay_capped.false refl c.copied_weight-weighed.ensures c.pay_capped.ensures)
    _ _ _ c.went_by.ensures c.dup_value.ensures
