use Rattle.std.proofs.Common.{refl, ◌∙◌}
use Rattle.mich_interpreter.proofs.Keeping.{keeps_state, keeps_on, step_on}
use Rattle.mich_interpreter.proofs.Stepped.{settled_of}
use Rattle.mich_interpreter.proofs.machine.settle.Goals as goal

pub free-preserved : goal.free-preserved
free-preserved c =
    let r = c.free.invariant.some in
    record {
      some = (r.0, r.1, r.2, r.3, rw c.in-Free.is at c.in_ok-other.ensures.stays r.0 r.1 r.2 r.3 r.4 r.5, r.5);
      keeps = λ x gs Z o h s. rw c.in-Free.is at c.in_ok-other.ensures.stays x gs Z o (c.free.invariant.keeps x gs Z o h s) s;
      gas = (rw c.in-Free.is at c.in_ok-other.ensures.spent).0 ∙ c.free.invariant.gas;
      state = keeps_on _ _ _ c.free.invariant.state (rw c.in-Free.is at c.in_ok-other.ensures.keeps);
    }

pub returns-in_default : goal.returns-in_default
returns-in_default c = record {
  stays = λ x gs Z o h s. c.in_ok-other.ensures.stays x gs Z o (c.free.invariant.keeps x gs Z o h s) s;
  less = settled_of c.in_ok-other.other c.args.m.now c.free.m c.advance.new.m c.in_default.not-Free c.free.invariant.gas c.in_ok-other.ensures.spent;
  keeps = step_on c.in_ok-other.other _ _ _ c.free.invariant.state c.in_ok-other.ensures.keeps;
}

pub free-init : goal.free-init
free-init c = record { some = c.requires; keeps = λ x gs Z o h s. h; gas = refl; state = keeps_state c.args.m.now.state }
