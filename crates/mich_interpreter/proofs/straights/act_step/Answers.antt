use Rattle.std.proofs.Common.{Err, refl, subst}
use Rattle.mich_overload.specs.View.{straight}
use Rattle.mich_stack.specs.Views.{values}
use Rattle.mich_term.specs.ValueView.{big_step}
use Rattle.mich_stack.specs.declared.error.StepError.{StepError}
use Rattle.mich_step.specs.Tells.{IsDone}
use Rattle.mich_interpreter.proofs.Capped.{paid_is, broke_is}
use Rattle.mich_interpreter.proofs.Keeping.{same_keeps, past_of}
use Rattle.mich_interpreter.proofs.Suited.{suits_plain, ready_plain}
use Rattle.mich_interpreter.proofs.Straightened.{heavy, ends, step_fits, step_stands, step_failed}
use Rattle.mich_interpreter.proofs.Weighed.{some_operands}
use Rattle.mich_frames.proofs.ForCallers.{row_broke}
use Rattle.mich_interpreter.proofs.straights.act_step.Goals as goal

pub weigh-requires-clause-operands : goal.weigh-requires-clause-operands
weigh-requires-clause-operands c =
    let t = c.requires.comes in
    some_operands t.1.0 c.args.costs.now c.args.m.now (straight c.args.instr.now) t.1.5

pub step-requires : goal.step-requires
step-requires c =
    let t = c.requires.comes in
    let x = t.1.0 in
    let r = straight c.args.instr.now in
    let p = paid_is _ _ _ _ _ _ _ c.if-not-pay_capped.false c.price.ensures (c.pay_capped.ensures (heavy x c.args.costs.now c.args.m.now r c.requires.in_step t.1.5) (c.in_ok-weight.ensures x.sight) t.1.5.runs.charged) in
    record {
      in_step = c.requires.in_step;
      fits = step_fits x c.args.costs.now c.args.m.now r c.requires.in_step t.1.5 p.0;
      suits = suits_plain x c.args.costs.now c.args.m.now r t.1.5;
      ready = ready_plain x c.args.costs.now c.args.m.now r t.1.5;
    }

pub returns-then-not-pay_capped-clause-acts : goal.returns-then-not-pay_capped-clause-acts
returns-then-not-pay_capped-clause-acts c = λ app x fs d Z o h.
    let r = straight c.args.instr.now in
    row_broke r h (broke_is _ _ _ _ _ _ _ c.if-not-pay_capped.true c.price.ensures (c.pay_capped.ensures (heavy x c.args.costs.now c.args.m.now r c.requires.in_step h) (c.in_ok-weight.ensures x.sight) h.runs.charged))

pub returns-in-Ok-clause-acts : goal.returns-in-Ok-clause-acts
returns-in-Ok-clause-acts c = λ app x fs d Z o h.
    let r = straight c.args.instr.now in
    let p = paid_is _ _ _ _ _ _ _ c.if-not-pay_capped.false c.price.ensures (c.pay_capped.ensures (heavy x c.args.costs.now c.args.m.now r c.requires.in_step h) (c.in_ok-weight.ensures x.sight) h.runs.charged) in
    step_stands x c.args.costs.now c.args.m.now r c.requires.in_step h p.0 c.step.new.stack c.pay_capped.new.meter c.step.new.ledger
    (c.in-Ok.ensures.ends x.sight) (c.in-Ok.ensures.tells x.sight (x.shows c.args.m.now.stack)) p.1

pub returns-in-Err-Failed-clause-acts : goal.returns-in-Err-Failed-clause-acts
returns-in-Err-Failed-clause-acts c = λ app x fs d Z o h.
    let r = straight c.args.instr.now in
    let p = paid_is _ _ _ _ _ _ _ c.if-not-pay_capped.false c.price.ensures (c.pay_capped.ensures (heavy x c.args.costs.now c.args.m.now r c.requires.in_step h) (c.in_ok-weight.ensures x.sight) h.runs.charged) in
    let ended = subst (λ (e : StepError). IsDone (ends x c.args.costs.now c.args.m.now r c.requires.in_step h) (values x.sight c.step.new.stack) (Err e))
    c.in-Err-Failed.field-0-is (c.in-Err-Failed.ensures.ends x.sight) in
    rw (c.failed.ensures x.sight) (step_failed x c.args.costs.now c.args.m.now r c.requires.in_step h p.0 _ ended)

pub returns-then-not-pay_capped-clause-keeps : goal.returns-then-not-pay_capped-clause-keeps
returns-then-not-pay_capped-clause-keeps c = past_of _ _ (same_keeps _ _ refl refl refl)

pub returns-in-Ok-clause-keeps : goal.returns-in-Ok-clause-keeps
returns-in-Ok-clause-keeps c = record {
  books = c.step.ensures.keeps;
  changes = _;
  tells = c.in-Ok.ensures.tells big_step refl;
  group = refl;
  scripts = λ h. h;
}

pub returns-in-Err-Failed-clause-keeps : goal.returns-in-Err-Failed-clause-keeps
returns-in-Err-Failed-clause-keeps c = record { books = c.step.ensures.keeps; group = refl; scripts = λ h. h }
