use Rattle.std.proofs.Common.{Err, refl, subst}
use Rattle.rules_code.specs.evaluation.Trying.{trial}
use Rattle.rules_code.specs.instructions.Straight.{on_hashes}
use Rattle.rules_code.specs.steps.Packing.{hash_step}
use Rattle.mich_overload.specs.View.{hash_row}
use Rattle.mich_stack.specs.Ends.{IsKept}
use Rattle.mich_stack.specs.Views.{values}
use Rattle.mich_stack.specs.declared.error.StepError.{StepError}
use Rattle.mich_interpreter.proofs.Capped.{paid_is, broke_is}
use Rattle.mich_interpreter.proofs.Keeping.{same_keeps, past_of}
use Rattle.mich_interpreter.proofs.Operands.{some_operand}
use Rattle.mich_interpreter.proofs.Hashed.{heavy, hash_stands, hash_failed}
use Rattle.mich_frames.proofs.ForCallers.{row_broke}
use Rattle.mich_interpreter.proofs.hashing.act_hash.Goals as goal

pub hash_weight-weight-requires : goal.hash_weight-weight-requires
hash_weight-weight-requires c =
    let t = c.requires.comes in some_operand t.1.0 c.args.costs.now c.args.m.now (hash_row c.args.row.now) t.1.5

pub hash_step-requires-clause-operand : goal.hash_step-requires-clause-operand
hash_step-requires-clause-operand c =
    let t = c.requires.comes in some_operand t.1.0 c.args.costs.now c.args.m.now (hash_row c.args.row.now) t.1.5

pub returns-then-not-pay_capped-clause-acts : goal.returns-then-not-pay_capped-clause-acts
returns-then-not-pay_capped-clause-acts c = λ app x fs d Z o h.
    let r = hash_row c.args.row.now in
    row_broke (on_hashes r) h (broke_is _ _ _ _ _ _ _ c.if-not-pay_capped.true c.hash_price.ensures (c.pay_capped.ensures (heavy x c.args.costs.now c.args.m.now r h) (c.hash_weight-weight.ensures x.sight) h.runs.charged))

pub returns-in-Ok-clause-acts : goal.returns-in-Ok-clause-acts
returns-in-Ok-clause-acts c = λ app x fs d Z o h.
    let r = hash_row c.args.row.now in
    let p = paid_is _ _ _ _ _ _ _ c.if-not-pay_capped.false c.hash_price.ensures (c.pay_capped.ensures (heavy x c.args.costs.now c.args.m.now r h) (c.hash_weight-weight.ensures x.sight) h.runs.charged) in
    hash_stands x c.args.costs.now c.args.m.now r h p.0 c.hash_step.new.stack c.pay_capped.new.meter (λ e. c.in-Ok.ensures (trial e) x.sight) p.1

pub returns-in-Err-Failed-clause-acts : goal.returns-in-Err-Failed-clause-acts
returns-in-Err-Failed-clause-acts c = λ app x fs d Z o h.
    let r = hash_row c.args.row.now in
    let p = paid_is _ _ _ _ _ _ _ c.if-not-pay_capped.false c.hash_price.ensures (c.pay_capped.ensures (heavy x c.args.costs.now c.args.m.now r h) (c.hash_weight-weight.ensures x.sight) h.runs.charged) in
    rw (c.failed.ensures x.sight) (hash_failed x c.args.costs.now c.args.m.now r h p.0 _ (λ passes.
    subst (λ (e : StepError). IsKept (hash_step passes r (values x.sight c.args.m.now.stack)) (values x.sight c.hash_step.new.stack) (Err e)) c.in-Err-Failed.field-0-is (c.in-Err-Failed.ensures passes x.sight)))

pub returns-then-not-pay_capped-clause-keeps : goal.returns-then-not-pay_capped-clause-keeps
returns-then-not-pay_capped-clause-keeps c = past_of _ _ (same_keeps _ _ refl refl refl)

pub returns-in-Ok-clause-keeps : goal.returns-in-Ok-clause-keeps
returns-in-Ok-clause-keeps c = same_keeps _ _ refl refl refl

pub returns-in-Err-Failed-clause-keeps : goal.returns-in-Err-Failed-clause-keeps
returns-in-Err-Failed-clause-keeps c = past_of _ _ (same_keeps _ _ refl refl refl)
