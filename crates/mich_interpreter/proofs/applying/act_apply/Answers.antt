use Rattle.std.proofs.Common.{◌≡◌, ◌≤◌, ◌<◌, false, refl, sym, ap, ◌∙◌, subst}
use Rattle.std.proofs.lemmas.Bool.{leb-true, leb-false}
use Rattle.rules_text.specs.nodes.Limits.{applied_size, applied_depth}
use Rattle.rules_text.specs.nodes.Tree.{Tree, size}
use Rattle.rules_text.specs.nodes.Tree.{depth as levels}
use Rattle.rules_data.specs.declared.gas.Kind.TheVariants as g
use Rattle.rules_data.specs.values.Val.{Val}
use Rattle.rules_data.specs.values.Canonical.{canonical}
use Rattle.rules_data.specs.values.Weight.{weight}
use Rattle.rules_code.specs.evaluation.Calls.{applied}
use Rattle.mich_base.specs.TypeView.{kind}
use Rattle.mich_base.specs.View.{tree}
use Rattle.mich_base.specs.declared.node.Node.{Node}
use Rattle.mich_gas.specs.View.{listed}
use Rattle.mich_term.specs.ValueView.{val}
use Rattle.mich_stack.specs.Views.{seen}
use Rattle.mich_frames.proofs.ForCallers.{apply_top}
use Rattle.mich_step.proofs.prices_lemmas.ForCallers.{found_weighs}
use Rattle.mich_interpreter.specs.Applied.{Captures}
use Rattle.mich_interpreter.specs.View.{tops}
use Rattle.mich_interpreter.proofs.Executed.{call_top, call_below}
use Rattle.mich_interpreter.proofs.Captured.{captured_seen, captures_value, apply_any_broke, apply_any_acts, apply_any_large, apply_any_deep}
use Rattle.mich_interpreter.proofs.Capped.{paid_is, broke_is}
use Rattle.mich_interpreter.proofs.Mapped.{seen_lambda}
use Rattle.mich_interpreter.proofs.Paid.{stands_paid, paid_less}
use Rattle.mich_interpreter.proofs.applying.act_apply.Goals as goal

pub pop-value-requires : goal.pop-value-requires
pop-value-requires c = (c.requires.0.sight, call_top _ (apply_top c.requires.5))

pub pop_lambda-body-requires : goal.pop_lambda-body-requires
pop_lambda-body-requires c =
    let x = c.requires.0 in
    (x.sight, call_below (seen x.sight c.pop-value.result) _ (rw (c.pop-value.ensures x.sight) at (apply_top c.requires.5)))

pub returns-then-not-pay_capped-clause-acts : goal.returns-then-not-pay_capped-clause-acts
returns-then-not-pay_capped-clause-acts c = λ x fs d Z o h.
    let y = seen x.sight c.pop-value.result in
    let meets = rw (c.pop-value.ensures x.sight) at h in
    apply_any_broke y _ (broke_is _ _ _ _ _ _ _ c.if-not-pay_capped.true refl (c.pay_capped.ensures (weight y) (c.weight.ensures ∙ found_weighs x.sight c.pop-value.result) h.runs.charged)) meets (apply_top meets)

pub returns-then-not-size_within-clause-acts : goal.returns-then-not-size_within-clause-acts
returns-then-not-size_within-clause-acts c = λ x fs d Z o h.
    let v = c.pop-value.result in
    let y = seen x.sight v in
    let l = c.pop_lambda-body.result in
    let W = tops x.sight c.pop_lambda-body.new.stack in
    let meets = rw (c.pop-value.ensures x.sight, c.pop_lambda-body.ensures x.sight) at h in
    let p = paid_is _ _ _ _ _ _ _ c.if-not-pay_capped.false refl (c.pay_capped.ensures (weight y) (c.weight.ensures ∙ found_weighs x.sight v) h.runs.charged) in
    let made : Val → Tree → Tree = λ z t. applied (kind c.args.captured.now) (kind c.args.rest.now) (kind c.args.ret.now) z t l.1 in
    let same : tree c.in_ok-made.made ≡ made y (tree l.0) = c.in_ok-made.ensures ∙ ap (λ (n : Node). made (val v) (tree n)) (c.node.ensures ∙ c.get-old.ensures) ∙ ap (λ (z : Val). made z (tree l.0)) (sym (captured_seen x.sight v (tree l.0) l.1 W meets)) in
    apply_any_large y (tree l.0) l.1 W meets p.0 (subst (λ (t : Tree). applied_size < size t) same (leb-false (size (tree c.in_ok-made.made)) applied_size (sym c.size_within.ensures ∙ c.if-not-size_within.true)))

pub returns-then-not-depth_within-clause-acts : goal.returns-then-not-depth_within-clause-acts
returns-then-not-depth_within-clause-acts c = λ x fs d Z o h.
    let v = c.pop-value.result in
    let y = seen x.sight v in
    let l = c.pop_lambda-body.result in
    let W = tops x.sight c.pop_lambda-body.new.stack in
    let meets = rw (c.pop-value.ensures x.sight, c.pop_lambda-body.ensures x.sight) at h in
    let p = paid_is _ _ _ _ _ _ _ c.if-not-pay_capped.false refl (c.pay_capped.ensures (weight y) (c.weight.ensures ∙ found_weighs x.sight v) h.runs.charged) in
    let made : Val → Tree → Tree = λ z t. applied (kind c.args.captured.now) (kind c.args.rest.now) (kind c.args.ret.now) z t l.1 in
    let same : tree c.in_ok-made.made ≡ made y (tree l.0) = c.in_ok-made.ensures ∙ ap (λ (n : Node). made (val v) (tree n)) (c.node.ensures ∙ c.get-old.ensures) ∙ ap (λ (z : Val). made z (tree l.0)) (sym (captured_seen x.sight v (tree l.0) l.1 W meets)) in
    apply_any_deep y (tree l.0) l.1 W meets p.0
    (subst (λ (t : Tree). size t ≤ applied_size) same (leb-true (size (tree c.in_ok-made.made)) applied_size (sym c.size_within.ensures ∙ c.if-not-size_within.false)))
    (subst (λ (t : Tree). applied_depth < levels t) same (leb-false (levels (tree c.in_ok-made.made)) applied_depth (sym c.depth_within.ensures ∙ c.if-not-depth_within.true)))

pub made_body-requires : goal.made_body-requires
made_body-requires c =
    let x = c.requires.0 in
    let v = c.pop-value.result in
    let l = c.pop_lambda-body.result in
    let a = kind c.args.captured.now in
    let b = kind c.args.rest.now in
    let r = kind c.args.ret.now in
    subst (λ (n : Node). Captures a b r (val v) (canonical (val v)) (tree n) l.1 (tree c.in_ok-made.made)) (sym c.get-old.ensures)
    (captures_value x.sight v (tree l.0) l.1 (tops x.sight c.pop_lambda-body.new.stack) (canonical (val v)) (tree c.in_ok-made.made)
    (rw (c.pop-value.ensures x.sight, c.pop_lambda-body.ensures x.sight) at c.requires.5) refl
    (c.in_ok-made.ensures ∙ ap (λ (n : Node). applied a b r (val v) (tree n) l.1) (c.node.ensures ∙ c.get-old.ensures)))

pub returns-clause-acts : goal.returns-clause-acts
returns-clause-acts c = λ x fs d Z o h.
    let v = c.pop-value.result in
    let y = seen x.sight v in
    let l = c.pop_lambda-body.result in
    let W = tops x.sight c.pop_lambda-body.new.stack in
    let meets = rw (c.pop-value.ensures x.sight, c.pop_lambda-body.ensures x.sight) at h in
    let p = paid_is _ _ _ _ _ _ _ c.if-not-pay_capped.false refl (c.pay_capped.ensures (weight y) (c.weight.ensures ∙ found_weighs x.sight v) h.runs.charged) in
    let made : Val → Tree → Tree = λ z t. applied (kind c.args.captured.now) (kind c.args.rest.now) (kind c.args.ret.now) z t l.1 in
    let same : tree c.in_ok-made.made ≡ made y (tree l.0) = c.in_ok-made.ensures ∙ ap (λ (n : Node). made (val v) (tree n)) (c.node.ensures ∙ c.get-old.ensures) ∙ ap (λ (z : Val). made z (tree l.0)) (sym (captured_seen x.sight v (tree l.0) l.1 W meets)) in
    let i = subst (λ (t : Tree). size t ≤ applied_size) same (leb-true (size (tree c.in_ok-made.made)) applied_size (sym c.size_within.ensures ∙ c.if-not-size_within.false)) in
    let j = subst (λ (t : Tree). levels t ≤ applied_depth) same (leb-true (levels (tree c.in_ok-made.made)) applied_depth (sym c.depth_within.ensures ∙ c.if-not-depth_within.false)) in
    rw (c.in_ok-push.ensures x.sight, c.in_ok-taken.ensures, seen_lambda x.sight c.in_ok-made.made false, same)
    (stands_paid g.Apply (weight y) _ c.pay_capped.new.meter p.1 (apply_any_acts y (tree l.0) l.1 W meets p.0 i j))

pub returns-clause-less : goal.returns-clause-less
returns-clause-less c =
    let x = c.requires.0 in
    let h = c.requires.5 in
    let y = seen x.sight c.pop-value.result in
    let p = paid_is _ _ _ _ _ _ _ c.if-not-pay_capped.false refl (c.pay_capped.ensures (weight y) (c.weight.ensures ∙ found_weighs x.sight c.pop-value.result) h.runs.charged) in
    paid_less (listed c.args.costs.now) g.Apply (weight y) _ _ h.runs.charged p.0 p.1
