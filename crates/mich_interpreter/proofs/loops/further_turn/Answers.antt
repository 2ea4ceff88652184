use Rattle.std.proofs.Common.{◌∙◌}
use Rattle.rules_data.specs.declared.gas.Kind.TheVariants as g
use Rattle.mich_gas.specs.View.{listed}
use Rattle.mich_frames.proofs.ForCallers.{turns_top}
use Rattle.mich_interpreter.proofs.Any.{turn_broken, turn_open}
use Rattle.mich_interpreter.proofs.Paid.{opens_paid, paid_less}
use Rattle.mich_interpreter.proofs.loops.further_turn.Goals as goal

pub is_true-requires : goal.is_true-requires
is_true-requires c = (c.requires.1.0.sight, turns_top c.requires.1.5)

pub pop_truth-requires : goal.pop_truth-requires
pop_truth-requires c = (c.requires.1.0.sight, turns_top c.requires.1.5)

pub returns-then-not-is_true-clause-turned : goal.returns-then-not-is_true-clause-turned
returns-then-not-is_true-clause-turned c = λ body x fs d Z o h. c.is_true.ensures x.sight ∙ c.if-not-is_true.true

pub returns-then-pay-clause-turned : goal.returns-then-pay-clause-turned
returns-then-pay-clause-turned c = λ body x fs d Z o h.
    let p = rw c.if-pay.true at c.pay.ensures in
    opens_paid g.Turn 0 _ c.pay.new.meter p.1 (turn_open _ (c.is_true.ensures x.sight ∙ c.if-not-is_true.false) (c.pop_truth.ensures x.sight) p.0 h)

pub returns-else-pay-clause-turned : goal.returns-else-pay-clause-turned
returns-else-pay-clause-turned c = λ body x fs d Z o h.
    turn_broken _ (c.is_true.ensures x.sight ∙ c.if-not-is_true.false) (c.pop_truth.ensures x.sight) (rw c.if-pay.false at c.pay.ensures) h

pub returns-then-pay-clause-gas : goal.returns-then-pay-clause-gas
returns-then-pay-clause-gas c =
    let p = rw c.if-pay.true at c.pay.ensures in
    paid_less (listed c.args.costs.now) g.Turn 0 _ _ c.requires.1.5.runs.charged p.0 p.1
