use Rattle.std.proofs.Common.{true, false, refl}
use Rattle.rules_code.specs.instructions.Straight.{on_stack}
use Rattle.rules_code.specs.instructions.Straight as i
use Rattle.mich_interpreter.proofs.Gone.{broken, fits_paid, keeps_gone, pays_flat}
use Rattle.mich_interpreter.proofs.direct.go_dug.Goals as goal

pub returns-then-not-pay : goal.returns-then-not-pay
returns-then-not-pay c = broken c.args.costs.now c.args.m.now (on_stack (i.dug c.args.depth)) _ (pays_flat c.args.costs.now c.args.m.now (on_stack (i.dug c.args.depth)) _ false _ _ c.if-not-pay.true refl (λ V. refl) c.pay.ensures)

pub dug-requires : goal.dug-requires
dug-requires c = fits_paid c.args.costs.now c.args.m.now (on_stack (i.dug c.args.depth)) refl c.requires _ (pays_flat c.args.costs.now c.args.m.now (on_stack (i.dug c.args.depth)) _ true _ _ c.if-not-pay.false refl (λ V. refl) c.pay.ensures)

pub returns : goal.returns
returns c = keeps_gone c.args.costs.now c.args.m.now (on_stack (i.dug c.args.depth)) refl c.requires _ (pays_flat c.args.costs.now c.args.m.now (on_stack (i.dug c.args.depth)) _ true _ _ c.if-not-pay.false refl (λ V. refl) c.pay.ensures)
    _ _ _ c.went_by.ensures c.dug.ensures
