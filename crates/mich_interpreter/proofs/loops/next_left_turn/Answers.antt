use Rattle.rules_data.specs.declared.gas.Kind.TheVariants as g
use Rattle.std.proofs.Common.{◌∙◌}
use Rattle.mich_gas.specs.View.{listed}
use Rattle.mich_frames.proofs.ForCallers.{left_turns_top}
use Rattle.mich_interpreter.proofs.Any.{left_turns_over, left_turns_broken, left_turns_open}
use Rattle.mich_interpreter.proofs.Paid.{opens_paid, paid_less}
use Rattle.mich_interpreter.proofs.loops.next_left_turn.Goals as goal

pub is_left-requires : goal.is_left-requires
is_left-requires c = (c.requires.0.sight, left_turns_top c.requires.5)

pub open_union-requires : goal.open_union-requires
open_union-requires c = (c.requires.0.sight, left_turns_top c.requires.5)

pub open_union-requires-2 : goal.open_union-requires-2
open_union-requires-2 c = (c.requires.0.sight, left_turns_top c.requires.5)

pub returns-then-not-is_left-clause-acts : goal.returns-then-not-is_left-clause-acts
returns-then-not-is_left-clause-acts c = λ x fs d Z o h.
    rw (c.in_ok-open_union.ensures x.sight) (left_turns_over _ (c.is_left.ensures x.sight ∙ c.if-not-is_left.true) h (left_turns_top h))

pub returns-then-not-pay-clause-acts : goal.returns-then-not-pay-clause-acts
returns-then-not-pay-clause-acts c = λ x fs d Z o h.
    left_turns_broken _ (c.is_left.ensures x.sight ∙ c.if-not-is_left.false) (rw c.if-not-pay.true at c.pay.ensures) h

pub returns-clause-acts : goal.returns-clause-acts
returns-clause-acts c = λ x fs d Z o h.
    let p = rw c.if-not-pay.false at c.pay.ensures in
    let opens = opens_paid g.Turn 0 _ c.pay.new.meter p.1 (left_turns_open _ (c.is_left.ensures x.sight ∙ c.if-not-is_left.false) p.0 h) in
    rw (c.in_ok-code.ensures, c.in_ok-open_union-2.ensures x.sight) opens

pub returns-clause-gas : goal.returns-clause-gas
returns-clause-gas c =
    let p = rw c.if-not-pay.false at c.pay.ensures in
    paid_less (listed c.args.costs.now) g.Turn 0 _ _ c.requires.5.runs.charged p.0 p.1
