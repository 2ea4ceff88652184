use Rattle.std.proofs.Common.{true, false, refl}
use Rattle.mich_overload.specs.View.{union_row}
use Rattle.rules_code.specs.instructions.Straight.{on_unions}
use Rattle.mich_interpreter.proofs.Gone.{broken, fits_paid, keeps_gone, pays_flat}
use Rattle.mich_interpreter.proofs.direct.go_unions.Goals as goal

pub returns-then-not-pay : goal.returns-then-not-pay
returns-then-not-pay c = broken c.args.costs.now c.args.m.now (on_unions (union_row c.args.row.now)) _ (pays_flat c.args.costs.now c.args.m.now (on_unions (union_row c.args.row.now)) _ false _ _ c.if-not-pay.true c.union_price.ensures (λ V. refl) c.pay.ensures)

pub union_step-requires : goal.union_step-requires
union_step-requires c = fits_paid c.args.costs.now c.args.m.now (on_unions (union_row c.args.row.now)) refl c.requires _ (pays_flat c.args.costs.now c.args.m.now (on_unions (union_row c.args.row.now)) _ true _ _ c.if-not-pay.false c.union_price.ensures (λ V. refl) c.pay.ensures)

pub returns : goal.returns
returns c = keeps_gone c.args.costs.now c.args.m.now (on_unions (union_row c.args.row.now)) refl c.requires _ (pays_flat c.args.costs.now c.args.m.now (on_unions (union_row c.args.row.now)) _ true _ _ c.if-not-pay.false c.union_price.ensures (λ V. refl) c.pay.ensures)
    _ _ _ c.went_by.ensures c.union_step.ensures
