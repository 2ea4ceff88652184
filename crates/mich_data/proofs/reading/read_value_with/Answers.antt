use Rattle.std.proofs.Common.{sym, ap, ◌∙◌, subst, rules}
use Rattle.rules_data.specs.values.Literals.{read}
use Rattle.mich_base.specs.View.{tree}
use Rattle.mich_base.specs.TypeView.{kind}
use Rattle.mich_data.specs.Answers.{IsFault}
use Rattle.mich_data.specs.View.{all_pending}
use Rattle.mich_data.proofs.Formed.{formed}
use Rattle.mich_data.proofs.Steps.{with_nothing}
use Rattle.mich_data.proofs.reading.read_value_with.Goals as goal

pub returns-in_err-value-clause-literal : goal.returns-in_err-value-clause-literal
returns-in_err-value-clause-literal c =
    let fault : IsFault (read (kind c.args.ty.now) c.args.at (tree c.args.node.now)) c.in_err-value.field-0.0 =
    subst (λ l. IsFault l c.in_err-value.field-0.0) (sym (with_nothing (all_pending c.new.result) (read (kind c.args.ty.now) c.args.at (tree c.args.node.now)) (ap all_pending c.new.ensures)))
    c.in_err-value.ensures.found in
    search (rules, fault)

pub returns-clause-literal : goal.returns-clause-literal
returns-clause-literal c =
    with_nothing (all_pending c.new.result) (read (kind c.args.ty.now) c.args.at (tree c.args.node.now)) (ap all_pending c.new.ensures) ∙ c.in_ok-value.ensures.found.0

pub returns-clause-formed : goal.returns-clause-formed
returns-clause-formed c = λ w. formed (kind c.args.ty.now) _ w c.in_ok-value.ensures.whole
