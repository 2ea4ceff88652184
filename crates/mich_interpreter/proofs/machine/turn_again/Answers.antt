use Rattle.std.proofs.Common.{◌++◌, None, ap}
use Rattle.mich_interpreter.specs.View.{frames}
use Rattle.mich_interpreter.specs.declared.frame.Frame.TheVariants as f
use Rattle.mich_interpreter.proofs.Begun.{begun_in, begun_deep}
use Rattle.mich_interpreter.proofs.Keeping.{keeps_to, past_of, same_keeps}
use Rattle.mich_interpreter.proofs.Leaving.{on_top, over_top}
use Rattle.mich_interpreter.proofs.machine.turn_again.Goals as goal

pub further_turn-requires : goal.further_turn-requires
further_turn-requires c =
    let p = c.in-Some.ensures in
    let r = c.requires in
    (c.in-Some.body.now, (r.0, frames r.0.sight p.0 ++ r.1, c.args.m.now.depth, r.2, r.3, on_top r.0 c.args.costs.now r.1 r.2 r.3 c.args.m.now p.0 (f.Turns c.in-Some.body.now) p.1 r.4))

pub returns-in-Over-clause-spent : goal.returns-in-Over-clause-spent
returns-in-Over-clause-spent c = ap (λ s. record c.args.m.now { state = s }) (rw c.in-Over.is at c.further_turn.ensures.gas)

pub returns-in-Unpaid-clause-stays : goal.returns-in-Unpaid-clause-stays
returns-in-Unpaid-clause-stays c = λ x gs Z o h.
    let p = c.in-Some.ensures in
    rw c.in-Unpaid.is at c.further_turn.ensures.turned c.in-Some.body.now x (frames x.sight p.0 ++ gs) c.args.m.now.depth Z o
    (on_top x c.args.costs.now gs Z o c.args.m.now p.0 (f.Turns c.in-Some.body.now) p.1 h)

pub returns-in-Unpaid-clause-keeps : goal.returns-in-Unpaid-clause-keeps
returns-in-Unpaid-clause-keeps c =
    past_of _ _ (same_keeps _ _ c.further_turn.ensures.ledger c.further_turn.ensures.counts c.further_turn.ensures.issued)

pub returns-then-begun : goal.returns-then-begun
returns-then-begun c =
    let p = c.in-Some.ensures in
    let begun = rw (c.in_ok-code-in-Paid.ensures) at (rw c.if-begun.true at c.in_ok-begun-in-Paid.ensures.begun) in
    let same = ap (λ s. s.meter) c.begin.ensures.state in
    let less = rw c.in-Paid.is at c.further_turn.ensures.gas in
    record {
      stays = λ x gs Z o h. begun_in x c.args.costs.now gs Z o _ _ _ _ _ c.further_turn.new.m begun c.begin.ensures.state
          (over_top x c.args.costs.now gs Z o c.args.m.now p.0 c.in-Some.body.now c.further_turn.new.m p.1
          (rw c.in-Paid.is at c.further_turn.ensures.turned c.in-Some.body.now x (frames x.sight p.0 ++ gs) c.args.m.now.depth Z o
          (on_top x c.args.costs.now gs Z o c.args.m.now p.0 (f.Turns c.in-Some.body.now) p.1 h)));
      spent = rw same less;
      keeps = keeps_to _ _ _ (same_keeps _ _ c.further_turn.ensures.ledger c.further_turn.ensures.counts c.further_turn.ensures.issued) c.begin.ensures.state;
    }

pub returns-else-begun : goal.returns-else-begun
returns-else-begun c =
    let p = c.in-Some.ensures in
    let begun = rw c.if-begun.false at c.in_ok-begun-in-Paid.ensures.begun in
    record {
      stays = λ x gs Z o h. begun_deep x c.args.costs.now gs Z o None c.in-Some.body.now c.args.m.now.frames c.further_turn.new.m _ begun
          (over_top x c.args.costs.now gs Z o c.args.m.now p.0 c.in-Some.body.now c.further_turn.new.m p.1
          (rw c.in-Paid.is at c.further_turn.ensures.turned c.in-Some.body.now x (frames x.sight p.0 ++ gs) c.args.m.now.depth Z o
          (on_top x c.args.costs.now gs Z o c.args.m.now p.0 (f.Turns c.in-Some.body.now) p.1 h)));
      spent = tt;
      keeps = past_of _ _ (keeps_to _ _ _ (same_keeps _ _ c.further_turn.ensures.ledger c.further_turn.ensures.counts c.further_turn.ensures.issued) c.begin.ensures.state);
    }
