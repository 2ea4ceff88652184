use Rattle.std.proofs.Common.{sym, ap, ◌∙◌, subst}
use Rattle.std.specs.Prelude.{Some}
use Rattle.rules_data.specs.types.Kind.{Kind}
use Rattle.rules_data.specs.types.Kind as k
use Rattle.rules_code.specs.evaluation.Given.{value_of}
use Rattle.mich_base.specs.TypeView.{kind}
use Rattle.mich_base.specs.View.{tree}
use Rattle.mich_instr.specs.View.{codes}
use Rattle.mich_interpreter.specs.Literals.{HoldsLiteral}
use Rattle.mich_interpreter.proofs.Held.{kind_lambda, literal_of}
use Rattle.mich_interpreter.proofs.Located.{value_there}
use Rattle.mich_interpreter.proofs.Pushed.{simple_is}
use Rattle.mich_interpreter.proofs.Spelled.{simple_there}
use Rattle.mich_interpreter.proofs.giving.literal_value.Goals as goal

pub simple_literal-requires : goal.simple_literal-requires
simple_literal-requires c = simple_there c.in-Some.simple (kind c.args.ty.now) (tree c.args.literal.now) c.in-Some.ensures (c.requires.literal 0)

pub returns-in-Some : goal.returns-in-Some
returns-in-Some c = λ big at.
    simple_is c.in-Some.simple (kind c.args.ty.now) (tree c.args.literal.now) c.in_ok-value.value c.in-Some.ensures c.requires.pushed c.in_ok-value.ensures.value c.in_ok-value.ensures.simple big at

pub only_lambda-requires : goal.only_lambda-requires
only_lambda-requires c =
    let l = c.requires.lambdas in
    let a = kind c.get.result.now in
    let r = kind c.get-in-Lambda.result.now in
    let same = ap kind c.in-Lambda.is ∙ kind_lambda c.in-Lambda.arg c.in-Lambda.ret ∙ sym (λ i. k.lambda (kind (c.get.ensures i)) (kind (c.get-in-Lambda.ensures i))) in (
      l.1.0,
      literal_of a r l.0 (tree c.args.literal.now) (codes c.args.lambdas.now)
          (subst (λ (b : Kind). HoldsLiteral l.0 b (tree c.args.literal.now) (codes c.args.lambdas.now)) same l.1),
    )

pub returns-in-Some-only : goal.returns-in-Some-only
returns-in-Some-only c = λ big at.
    let l = c.requires.lambdas in
    let a = kind c.get.result.now in
    let r = kind c.get-in-Lambda.result.now in
    let same = ap kind c.in-Lambda.is ∙ kind_lambda c.in-Lambda.arg c.in-Lambda.ret ∙ sym (λ i. k.lambda (kind (c.get.ensures i)) (kind (c.get-in-Lambda.ensures i))) in
    let is = literal_of a r l.0 (tree c.args.literal.now) (codes c.args.lambdas.now)
    (subst (λ (b : Kind). HoldsLiteral l.0 b (tree c.args.literal.now) (codes c.args.lambdas.now)) same l.1) in
    value_there (kind c.args.ty.now) at l.0 (tree c.args.literal.now) ∙ ap value_of l.1.2 ∙ ap Some (sym ((rw c.in-Some-only.is at c.in_ok-only.ensures) l.1.0 is big))
