use Rattle.std.proofs.Common.{◌≡◌, ◌+◌, ◌∷◌, ◌++◌, drop, Some, None, sym, ap, ◌∙◌, refl}
use Rattle.std.specs.List.{slice_get}
use Rattle.mich_base.specs.View.{app_tree}
use Rattle.mich_instr.specs.Code as made
use Rattle.mich_instr.specs.View.{code, codes}
use Rattle.mich_frames.specs.Frames as fr
use Rattle.mich_frames.proofs.ForCallers.{seq_opens}
use Rattle.mich_interpreter.specs.View.{frames}
use Rattle.mich_interpreter.specs.Ends.{Acts, KeepsAct, Spends}
use Rattle.mich_interpreter.specs.Runs.{HasActedIn, IsSpent, IsStep, KeepsStep}
use Rattle.mich_interpreter.specs.declared.act.Act.TheVariants as a
use Rattle.mich_interpreter.specs.declared.machine.Machine.{Machine}
use Rattle.mich_interpreter.proofs.Begun.{opens_inside, deep_inside}
use Rattle.mich_interpreter.proofs.Codes.{code_seq, code_straight}
use Rattle.mich_interpreter.proofs.Gone.{step_says}
use Rattle.mich_interpreter.proofs.Keeping.{keeps_state, keeps_to, past_of}
use Rattle.mich_interpreter.proofs.Left.{meets_at}
use Rattle.mich_interpreter.proofs.Listed.{code_at}
use Rattle.mich_interpreter.proofs.Stepped.{seq_smaller, paid_spent}
use Rattle.mich_interpreter.proofs.machine.advance_inside.Goals as goal

pub perform-requires : goal.perform-requires
perform-requires c =
    let m = c.args.m.now in
    let e : slice_get c.args.m.now.block c.args.m.now.at ≡ Some c.at-instr.result.now = ap (λ b. slice_get b c.args.m.now.at) (sym c.get.ensures) ∙ c.at-instr.ensures in
    let r = c.requires.stands in
    record {
      charged = c.in_default.not-Seq;
      comes = (
        r.0,
        fr.rest (codes (drop (c.args.m.now.at + 1) c.args.m.now.block)) ∷ frames r.0.sight c.args.m.now.frames ++ r.1,
        c.args.m.now.depth,
        r.2,
        r.3,
        meets_at r.0 c.args.costs.now r.1 r.2 r.3 c.args.m.now r.4 c.at-instr.result.now c.requires.within e,
        r.5,
      );
    }

pub returns-then-begun-clause-stays : goal.returns-then-begun-clause-stays
returns-then-begun-clause-stays c = λ x gs Z o h s.
    let e : slice_get c.args.m.now.block c.args.m.now.at ≡ Some c.at-instr.result.now = ap (λ b. slice_get b c.args.m.now.at) (sym c.get.ensures) ∙ c.at-instr.ensures in
    let mid : Machine = record c.args.m.now { at = c.args.m.now.at + 1 } in
    let meets = rw (ap code c.in-Seq.is ∙ code_seq c.in-Seq.inner) at (meets_at x c.args.costs.now gs Z o c.args.m.now h c.at-instr.result.now c.requires.within e) in
    let opens : HasActedIn (a.Open None c.in_ok-inner.inner) x c.args.costs.now mid gs Z o = rw c.in_ok-inner.ensures (seq_opens meets) in
    let begun = rw c.if-begun.true at c.in_ok-begun.ensures.begun in
    opens_inside x c.args.costs.now gs Z o None c.in_ok-inner.inner mid c.begin_inside.new.m begun c.begin_inside.ensures.state opens

pub returns-then-begun-clause-spent : goal.returns-then-begun-clause-spent
returns-then-begun-clause-spent c =
    let e : slice_get c.args.m.now.block c.args.m.now.at ≡ Some c.at-instr.result.now = ap (λ b. slice_get b c.args.m.now.at) (sym c.get.ensures) ∙ c.at-instr.ensures in
    let mid : Machine = record c.args.m.now { at = c.args.m.now.at + 1 } in
    let begun = rw c.if-begun.true at c.in_ok-begun.ensures.begun in
    let one = code_at c.args.m.now.block c.args.m.now.at c.at-instr.result.now c.requires.within e in
    let two = ap (λ i. made.more i (codes (drop (c.args.m.now.at + 1) c.args.m.now.block))) (ap code c.in-Seq.is ∙ code_seq c.in-Seq.inner ∙ ap (λ b. made.seq (codes b)) (sym c.in_ok-inner.ensures)) in
    (ap (λ s. s.meter) c.begin_inside.ensures.state, seq_smaller c.args.m.now mid c.begin_inside.new.m c.in_ok-inner.inner (one ∙ two) refl begun)

pub returns-else-begun-clause-stays : goal.returns-else-begun-clause-stays
returns-else-begun-clause-stays c = λ x gs Z o h s.
    let e : slice_get c.args.m.now.block c.args.m.now.at ≡ Some c.at-instr.result.now = ap (λ b. slice_get b c.args.m.now.at) (sym c.get.ensures) ∙ c.at-instr.ensures in
    let mid : Machine = record c.args.m.now { at = c.args.m.now.at + 1 } in
    let meets = rw (ap code c.in-Seq.is ∙ code_seq c.in-Seq.inner) at (meets_at x c.args.costs.now gs Z o c.args.m.now h c.at-instr.result.now c.requires.within e) in
    let opens : HasActedIn (a.Open None c.in_ok-inner.inner) x c.args.costs.now mid gs Z o = rw c.in_ok-inner.ensures (seq_opens meets) in
    let begun = rw c.if-begun.false at c.in_ok-begun.ensures.begun in
    deep_inside x c.args.costs.now gs Z o None c.in_ok-inner.inner mid begun opens

pub returns-in_ok-step : goal.returns-in_ok-step
returns-in_ok-step c =
    let e : slice_get c.args.m.now.block c.args.m.now.at ≡ Some c.at-instr.result.now = ap (λ b. slice_get b c.args.m.now.at) (sym c.get.ensures) ∙ c.at-instr.ensures in
    record {
      stays = λ x gs Z o h s. c.in_ok-step.ensures.stays x c.args.costs.now gs Z o
          (c.in_ok-act.ensures.acts x (fr.rest (codes (drop (c.args.m.now.at + 1) c.args.m.now.block)) ∷ frames x.sight c.args.m.now.frames ++ gs) c.args.m.now.depth Z o
          (meets_at x c.args.costs.now gs Z o c.args.m.now h c.at-instr.result.now c.requires.within e) s);
      spent = paid_spent c.in_ok-step.step c.args.m.now c.follow.new.m (c.in_ok-step.ensures.spent c.args.m.now.state.meter c.in_ok-act.ensures.less);
      keeps = c.in_ok-step.ensures.keeps c.args.m.now.state c.in_ok-act.ensures.keeps;
    }

pub returns-then-begun-clause-keeps : goal.returns-then-begun-clause-keeps
returns-then-begun-clause-keeps c = keeps_to _ _ _ (keeps_state c.args.m.now.state) c.begin_inside.ensures.state

pub returns-else-begun-clause-keeps : goal.returns-else-begun-clause-keeps
returns-else-begun-clause-keeps c = past_of _ _ (keeps_to _ _ _ (keeps_state c.args.m.now.state) c.begin_inside.ensures.state)

pub go_straight-went-requires : goal.go_straight-went-requires
go_straight-went-requires c =
    let m = c.args.m.now in
    let e : slice_get c.args.m.now.block c.args.m.now.at ≡ Some c.at-instr.result.now = ap (λ b. slice_get b c.args.m.now.at) (sym c.get.ensures) ∙ c.at-instr.ensures in
    let r = c.requires.stands in
    let s = c.in-Straight in
    record {
      in_step = sym c.in_step.ensures ∙ c.if-in_step.true;
      comes = (
        app_tree s.field-1,
        (
          r.0,
          fr.rest (codes (drop (c.args.m.now.at + 1) c.args.m.now.block)) ∷ frames r.0.sight c.args.m.now.frames ++ r.1,
          c.args.m.now.depth,
          r.2,
          r.3,
          rw (ap code s.is ∙ code_straight s.simple s.field-1) at (meets_at r.0 c.args.costs.now r.1 r.2 r.3 c.args.m.now r.4 c.at-instr.result.now c.requires.within e),
        ),
      );
    }

pub returns-then-in_step : goal.returns-then-in_step
returns-then-in_step c =
    let m : Machine = c.args.m.now in
    let went = c.go_straight-went.ensures in
    let new : Machine = record c.args.m.now { state = c.go_straight-went.new.m; at = c.args.m.now.at + 1 } in
    let e : slice_get c.args.m.now.block c.args.m.now.at ≡ Some c.at-instr.result.now = ap (λ b. slice_get b c.args.m.now.at) (sym c.get.ensures) ∙ c.at-instr.ensures in
    let s = c.in-Straight in
    record {
      stays = λ x gs Z o h sees.
          let left = fr.rest (codes (drop (c.args.m.now.at + 1) c.args.m.now.block)) ∷ frames x.sight c.args.m.now.frames ++ gs in
          step_says c.go_straight-went.result c.step_by.result (λ a. Acts a x c.args.costs.now c.go_straight-went.new.m left c.args.m.now.depth Z o)
          (λ step. IsStep step x c.args.costs.now new gs Z o) (λ h. h) (λ why h. h) c.step_by.ensures
          (went.acts (app_tree s.field-1) x left c.args.m.now.depth Z o
          (rw (ap code s.is ∙ code_straight s.simple s.field-1) at (meets_at x c.args.costs.now gs Z o c.args.m.now h c.at-instr.result.now c.requires.within e)));
      spent = step_says c.go_straight-went.result c.step_by.result (λ a. Spends a c.args.m.now.state.meter c.go_straight-went.new.m.meter) (λ step. IsSpent step m new) (λ h. h) (λ why h. tt) c.step_by.ensures went.less;
      keeps = step_says c.go_straight-went.result c.step_by.result (λ a. KeepsAct a c.args.m.now.state c.go_straight-went.new.m) (λ step. KeepsStep step m.state new.state) (λ h. h) (λ why h. h) c.step_by.ensures went.keeps;
    }
