use Rattle.std.proofs.Common.{ap, sym, subst}
use Rattle.mich_frames.proofs.ForCallers.{turns_top}
use Rattle.mich_interpreter.specs.Ends.{Stands}
use Rattle.mich_interpreter.specs.declared.frame.Frame.TheVariants as f
use Rattle.mich_state.specs.declared.state.State.{State}
use Rattle.mich_interpreter.proofs.Any.{turn_over}
use Rattle.mich_interpreter.proofs.loops.next_turn.Goals as goal

pub further_turn-requires : goal.further_turn-requires
further_turn-requires c = (c.args.body, c.requires)

pub pop_truth-requires : goal.pop_truth-requires
pop_truth-requires c =
    let same = rw c.in-Over.is at c.further_turn.ensures.gas in
    rw same (c.requires.0.sight, turns_top c.requires.5)

pub returns-in-Over-clause-acts : goal.returns-in-Over-clause-acts
returns-in-Over-clause-acts c = λ x fs d Z o h.
    let same = rw c.in-Over.is at c.further_turn.ensures.gas in
    let stands = subst (λ (s : State). Stands (f.Turns c.args.body) x c.args.costs.now s fs d Z o) (sym same) h in
    turn_over _ (rw c.in-Over.is at c.further_turn.ensures.turned c.args.body x fs d Z o h) (c.pop_truth.ensures x.sight) stands

pub returns-in-Over-clause-gas : goal.returns-in-Over-clause-gas
returns-in-Over-clause-gas c =
    let same = rw c.in-Over.is at c.further_turn.ensures.gas in
    ap (λ s. s.meter) same

pub returns-in-Unpaid-clause-acts : goal.returns-in-Unpaid-clause-acts
returns-in-Unpaid-clause-acts c = λ x fs d Z o h. rw c.in-Unpaid.is at c.further_turn.ensures.turned c.args.body x fs d Z o h

pub returns-in_ok-code-in-Paid-clause-acts : goal.returns-in_ok-code-in-Paid-clause-acts
returns-in_ok-code-in-Paid-clause-acts c = λ x fs d Z o h.
    rw c.in_ok-code-in-Paid.ensures (rw c.in-Paid.is at c.further_turn.ensures.turned c.args.body x fs d Z o h)

pub returns-in_ok-code-in-Paid-clause-gas : goal.returns-in_ok-code-in-Paid-clause-gas
returns-in_ok-code-in-Paid-clause-gas c = rw c.in-Paid.is at c.further_turn.ensures.gas
