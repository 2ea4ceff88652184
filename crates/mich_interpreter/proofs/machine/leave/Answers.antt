use Rattle.std.proofs.Common.{◌<◌, ◌++◌, refl, ap, ◌∙◌, arith}
use Rattle.mich_frames.specs.Sizes.{frames_size}
use Rattle.mich_interpreter.specs.View.{frames}
use Rattle.mich_interpreter.specs.declared.frame.Frame.TheVariants as f
use Rattle.mich_interpreter.proofs.Begun.{begun_in, begun_deep}
use Rattle.mich_interpreter.proofs.Keeping.{keeps_state, keeps_on, keeps_to, past_of, past_on}
use Rattle.mich_interpreter.proofs.Leaving.{on_top, at_end, no_block}
use Rattle.mich_interpreter.proofs.Stepped.{popped_smaller}
use Rattle.mich_interpreter.proofs.machine.leave.Goals as goal
use Rattle.mich_term.specs.ValueView.{big_step}

pub returns-in-None-clause-stays : goal.returns-in-None-clause-stays
returns-in-None-clause-stays c = λ x gs Z o h.
    let e = c.in-None.ensures in
    at_end x c.args.costs.now gs Z o c.frames.m e.0 (c.frames.invariant.keeps x gs Z o h)

pub returns-in-Rest-clause-stays : goal.returns-in-Rest-clause-stays
returns-in-Rest-clause-stays c = λ x gs Z o h.
    let e = rw c.in-Rest.is at c.in-Some.ensures in
    on_top x c.args.costs.now gs Z o c.frames.m c.pop.new.self (f.Rest c.in-Rest.block c.in-Rest.at) e (c.frames.invariant.keeps x gs Z o h)

pub frames-preserved : goal.frames-preserved
frames-preserved c =
    let e = c.in-Some.ensures in
    let act = c.in_ok-unwind-in_default.ensures.acts in
    let r = c.frames.invariant.some in
    let less : frames_size (frames big_step c.pop.new.self) < frames_size (frames big_step c.frames.m.frames) = popped_smaller c.frames.m.frames c.pop.new.self c.in-Some.top e in
    let size = c.frames.invariant.size in
    record {
      some = (r.0, r.1, r.2, r.3, rw c.in-On.is at act r.0 (frames r.0.sight c.pop.new.self ++ r.1) c.frames.m.depth r.2 r.3 (on_top r.0 c.args.costs.now r.1 r.2 r.3 c.frames.m c.pop.new.self c.in-Some.top e r.4));
      keeps = λ x gs Z o h. rw c.in-On.is at act x (frames x.sight c.pop.new.self ++ gs) c.frames.m.depth Z o (on_top x c.args.costs.now gs Z o c.frames.m c.pop.new.self c.in-Some.top e (c.frames.invariant.keeps x gs Z o h));
      gas = (rw c.in-On.is at c.in_ok-unwind-in_default.ensures.gas) ∙ c.frames.invariant.gas;
      size = omega (arith, less, size);
      state = keeps_on _ _ _ c.frames.invariant.state (rw c.in-On.is at c.in_ok-unwind-in_default.ensures.keeps);
    }

pub returns-in-Failed : goal.returns-in-Failed
returns-in-Failed c =
    let e = c.in-Some.ensures in
    let act = c.in_ok-unwind-in_default.ensures.acts in
    record {
      stays = λ x gs Z o h. rw c.in-Failed.is at act x (frames x.sight c.pop.new.self ++ gs) c.frames.m.depth Z o (on_top x c.args.costs.now gs Z o c.frames.m c.pop.new.self c.in-Some.top e (c.frames.invariant.keeps x gs Z o h));
      spent = tt;
      keeps = past_on _ _ _ c.frames.invariant.state (rw c.in-Failed.is at c.in_ok-unwind-in_default.ensures.keeps);
    }

pub returns-then-begun : goal.returns-then-begun
returns-then-begun c =
    let e = c.in-Some.ensures in
    let act = c.in_ok-unwind-in_default.ensures.acts in
    let begun = rw c.if-begun.true at c.in_ok-begun-in-Open.ensures.begun in
    let same = ap (λ s. s.meter) c.begin.ensures.state in
    let less = rw c.in-Open.is at c.in_ok-unwind-in_default.ensures.gas in
    let gas = c.frames.invariant.gas in
    record {
      stays = λ x gs Z o h. begun_in x c.args.costs.now gs Z o _ _ _ _ _ c.unwind.new.m begun c.begin.ensures.state
          (rw c.in-Open.is at act x (frames x.sight c.pop.new.self ++ gs) c.frames.m.depth Z o (on_top x c.args.costs.now gs Z o c.frames.m c.pop.new.self c.in-Some.top e (c.frames.invariant.keeps x gs Z o h)));
      spent = omega (arith, same, less, gas);
      keeps = keeps_to _ _ _ (keeps_on _ _ _ c.frames.invariant.state (rw c.in-Open.is at c.in_ok-unwind-in_default.ensures.keeps)) c.begin.ensures.state;
    }

pub returns-else-begun : goal.returns-else-begun
returns-else-begun c =
    let e = c.in-Some.ensures in
    let act = c.in_ok-unwind-in_default.ensures.acts in
    let begun = rw c.if-begun.false at c.in_ok-begun-in-Open.ensures.begun in
    record {
      stays = λ x gs Z o h. begun_deep x c.args.costs.now gs Z o c.in-Open.below c.in-Open.body c.pop.new.self c.unwind.new.m _ begun
          (rw c.in-Open.is at act x (frames x.sight c.pop.new.self ++ gs) c.frames.m.depth Z o (on_top x c.args.costs.now gs Z o c.frames.m c.pop.new.self c.in-Some.top e (c.frames.invariant.keeps x gs Z o h)));
      spent = tt;
      keeps = past_of _ _ (keeps_to _ _ _ (keeps_on _ _ _ c.frames.invariant.state (rw c.in-Open.is at c.in_ok-unwind-in_default.ensures.keeps)) c.begin.ensures.state);
    }

pub frames-init : goal.frames-init
frames-init c = record { some = c.requires; keeps = λ x gs Z o h. h; gas = refl; size = omega arith; state = keeps_state c.args.m.now.state }

pub unwind-requires : goal.unwind-requires
unwind-requires c =
    let r = c.frames.invariant.some in
    record {
      no_block = no_block c.in-Some.top c.in_default.not-Rest;
      waits = (r.0, frames r.0.sight c.pop.new.self ++ r.1, c.frames.m.depth, r.2, r.3, on_top r.0 c.args.costs.now r.1 r.2 r.3 c.frames.m c.pop.new.self c.in-Some.top c.in-Some.ensures r.4);
    }

pub unreachable-requires : goal.unreachable-requires
unreachable-requires c = rw c.in-View.is at c.in_ok-unwind-in_default.ensures.gas

pub returns-in-None-clause-spent : goal.returns-in-None-clause-spent
returns-in-None-clause-spent c = c.frames.invariant.gas
