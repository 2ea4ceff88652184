use Rattle.std.proofs.Common.{◌+◌, refl, ◌∙◌}
use Rattle.rules_text.specs.nodes.Tree.{size}
use Rattle.rules_data.specs.declared.gas.Kind.TheVariants as g
use Rattle.rules_data.specs.values.Weight.{weight}
use Rattle.mich_base.specs.TypeView.{kind}
use Rattle.mich_base.specs.View.{tree}
use Rattle.mich_gas.specs.View.{listed}
use Rattle.mich_stack.specs.Views.{seen}
use Rattle.mich_frames.proofs.ForCallers.{push_pushable, push_acts, push_broke}
use Rattle.mich_step.proofs.prices_lemmas.ForCallers.{found_weighs}
use Rattle.mich_interpreter.proofs.Capped.{paid_is, broke_is}
use Rattle.mich_interpreter.proofs.Spelled.{push_small, push_lambdas, push_literal}
use Rattle.mich_interpreter.proofs.Paid.{stands_paid, paid_less}
use Rattle.mich_interpreter.proofs.giving.act_push.Goals as goal

pub literal_value-requires-clause-pushed : goal.literal_value-requires-clause-pushed
literal_value-requires-clause-pushed c = push_pushable (kind c.args.ty.now) c.requires.0 (tree c.args.literal.now) c.requires.1.5

pub literal_value-requires-clause-small : goal.literal_value-requires-clause-small
literal_value-requires-clause-small c = push_small (kind c.args.ty.now) c.requires.0 (tree c.args.literal.now) c.requires.1.5

pub literal_value-requires-clause-literal : goal.literal_value-requires-clause-literal
literal_value-requires-clause-literal c = push_literal (kind c.args.ty.now) c.requires.0 (tree c.args.literal.now) c.requires.1.5

pub literal_value-requires-clause-lambdas : goal.literal_value-requires-clause-lambdas
literal_value-requires-clause-lambdas c =
    (1 + size c.requires.0, push_lambdas (kind c.args.ty.now) c.requires.0 (tree c.args.literal.now) c.requires.1.5)

pub returns-then-not-pay_capped-clause-acts : goal.returns-then-not-pay_capped-clause-acts
returns-then-not-pay_capped-clause-acts c = λ written x fs d Z o h.
    let y = seen x.sight c.in_ok-value.value in
    push_broke (kind c.args.ty.now) written (tree c.args.literal.now) h y (c.in_ok-value.ensures x.sight (1 + size written))
    (broke_is _ _ _ _ _ _ _ c.if-not-pay_capped.true refl (c.pay_capped.ensures (weight y) (c.weight.ensures ∙ found_weighs x.sight c.in_ok-value.value) h.runs.charged))

pub returns-clause-acts : goal.returns-clause-acts
returns-clause-acts c = λ written x fs d Z o h.
    let y = seen x.sight c.in_ok-value.value in
    let p = paid_is _ _ _ _ _ _ _ c.if-not-pay_capped.false refl (c.pay_capped.ensures (weight y) (c.weight.ensures ∙ found_weighs x.sight c.in_ok-value.value) h.runs.charged) in
    rw (c.in_ok-push.ensures x.sight) (stands_paid g.Push (weight y) _ c.pay_capped.new.meter p.1 (push_acts (kind c.args.ty.now) written (tree c.args.literal.now) h y (c.in_ok-value.ensures x.sight (1 + size written)) p.0))

pub returns-clause-less : goal.returns-clause-less
returns-clause-less c =
    let x = c.requires.1.0 in
    let h = c.requires.1.5 in
    let y = seen x.sight c.in_ok-value.value in
    let p = paid_is _ _ _ _ _ _ _ c.if-not-pay_capped.false refl (c.pay_capped.ensures (weight y) (c.weight.ensures ∙ found_weighs x.sight c.in_ok-value.value) h.runs.charged) in
    paid_less (listed c.args.costs.now) g.Push (weight y) _ _ h.runs.charged p.0 p.1
