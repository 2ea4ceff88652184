use Rattle.std.proofs.Common.{true, false, refl}
use Rattle.mich_overload.specs.View.{number_row}
use Rattle.rules_code.specs.instructions.Straight.{on_numbers}
use Rattle.mich_interpreter.proofs.Gone.{broken, fits_paid, keeps_gone, pays_weighed, suits_met}
use Rattle.mich_interpreter.proofs.direct.go_numbers.Goals as goal

pub returns-then-not-pay_capped : goal.returns-then-not-pay_capped
returns-then-not-pay_capped c = broken c.args.costs.now c.args.m.now (on_numbers (number_row c.args.row.now)) _ (pays_weighed c.args.costs.now c.args.m.now (on_numbers (number_row c.args.row.now)) _ false _ _ _ c.if-not-pay_capped.true c.number_price.ensures c.number_weight-weighed.ensures c.pay_capped.ensures)

pub number_step-requires : goal.number_step-requires
number_step-requires c =
    let r = on_numbers (number_row c.args.row.now) in
    let pays = (pays_weighed c.args.costs.now c.args.m.now (r) _ true _ _ _ c.if-not-pay_capped.false c.number_price.ensures c.number_weight-weighed.ensures c.pay_capped.ensures) in
    record {
      fits = fits_paid c.args.costs.now c.args.m.now r refl c.requires _ pays;
      suits = suits_met c.args.costs.now c.args.m.now r refl c.requires _ pays;
    }

pub returns : goal.returns
returns c = keeps_gone c.args.costs.now c.args.m.now (on_numbers (number_row c.args.row.now)) refl c.requires _ (pays_weighed c.args.costs.now c.args.m.now (on_numbers (number_row c.args.row.now)) _ true _ _ _ c.if-not-pay_capped.false c.number_price.ensures c.number_weight-weighed.ensures c.pay_capped.ensures)
    _ _ _ c.went_by.ensures c.number_step.ensures
