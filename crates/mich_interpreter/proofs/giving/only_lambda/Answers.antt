use Rattle.std.proofs.Common.{ap, ◌∙◌, subst}
use Rattle.mich_base.specs.TypeView.{kind}
use Rattle.mich_instr.specs.Code.{Codes}
use Rattle.mich_instr.specs.Code as made
use Rattle.mich_instr.specs.View.{code, codes}
use Rattle.mich_interpreter.specs.Literals.{IsLiteralOf}
use Rattle.mich_interpreter.proofs.Codes.{code_lambda}
use Rattle.mich_interpreter.proofs.Held.{code_first, value_first}
use Rattle.mich_interpreter.proofs.giving.only_lambda.Goals as goal

pub typed_lambda-requires : goal.typed_lambda-requires
typed_lambda-requires c =
    let l = c.in-Lambda in
    let same = ap codes c.in-Some.ensures ∙ ap (λ i. made.more i made.none) (ap code l.is ∙ code_lambda l.recursive l.arg l.ret l.written l.body l.code) in
    code_first _ _ _ _ _ _ _ _ _ (subst (λ (is : Codes). IsLiteralOf (kind c.args._arg.now) (kind c.args._ret.now) c.requires.0 is) same c.requires.1)

pub returns : goal.returns
returns c = λ x h big.
    let l = c.in-Lambda in
    let same = ap codes c.in-Some.ensures ∙ ap (λ i. made.more i made.none) (ap code l.is ∙ code_lambda l.recursive l.arg l.ret l.written l.body l.code) in
    c.in_ok-value.ensures big ∙ value_first _ _ _ _ _ _ _ _ x (subst (λ (is : Codes). IsLiteralOf (kind c.args._arg.now) (kind c.args._ret.now) x is) same h)
