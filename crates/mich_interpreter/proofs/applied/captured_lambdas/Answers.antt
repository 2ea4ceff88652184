use Rattle.std.proofs.Common.{sym, ap, ◌∙◌, subst}
use Rattle.rules_data.specs.types.Kind.{Kind}
use Rattle.rules_data.specs.types.Kind as k
use Rattle.mich_base.specs.TypeView.{kind}
use Rattle.mich_instr.specs.View.{codes}
use Rattle.mich_term.specs.ValueView.{val}
use Rattle.mich_interpreter.specs.Applied.{CapturesValue}
use Rattle.mich_interpreter.proofs.CapturedCode.{no_lambda}
use Rattle.mich_interpreter.proofs.Held.{kind_lambda}
use Rattle.std.specs.Prelude.{ℕ, IfOk, IfSome}
use Rattle.rules_data.specs.values.Canonical.{canonical}
use Rattle.mich_interpreter.specs.Literals.{HoldsLiteral}
use Rattle.mich_interpreter.proofs.applied.captured_lambdas.Goals as goal

pub returns-then-has_no_lambda : goal.returns-then-has_no_lambda
returns-then-has_no_lambda c =
    no_lambda (kind c.args.captured.now) (val c.args.value.now) _ (sym c.has_no_lambda.ensures ∙ c.if-has_no_lambda.true) c.requires (ap codes c.new.ensures)

pub held_lambda-requires : goal.held_lambda-requires
held_lambda-requires c =
    subst (λ (b : Kind). CapturesValue b (val c.args.value.now))
    (ap kind c.in-Lambda.is ∙ kind_lambda c.in-Lambda.arg c.in-Lambda.ret ∙ sym (λ i. k.lambda (kind (c.get.ensures i)) (kind (c.get-in-Lambda.ensures i)))) c.requires

pub returns-in-Lambda : goal.returns-in-Lambda
returns-in-Lambda c =
    let same = ap kind c.in-Lambda.is ∙ kind_lambda c.in-Lambda.arg c.in-Lambda.ret ∙ sym (λ i. k.lambda (kind (c.get.ensures i)) (kind (c.get-in-Lambda.ensures i))) in
    subst (λ (b : Kind). IfOk c.held_lambda.result (λ o. IfSome o (λ is. (at : ℕ) → HoldsLiteral at b (canonical (val c.args.value.now)) (codes is)))) (sym same) c.held_lambda.ensures
