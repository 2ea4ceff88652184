use Rattle.std.proofs.Common.{rules, ◌≡◌, Bool, true, sym, ap, ◌∙◌}
use Rattle.std.specs.Prelude.{◌&&◌}
use Rattle.rules_data.specs.forms.Spelling.{implicit_place, is_entrypoint, is_key_hash}
use Rattle.rules_code.specs.evaluation.Contracts.{is_taken_by_account}
use Rattle.mich_base.specs.TypeView.{kind}
use Rattle.mich_literals.proofs.arguments_lemmas.Claims.{account_place, account_takes, default_so, other_so, taken_is}
use Rattle.mich_literals.proofs.arguments.literals.account_takes.Goals as goal

pub returns-then-is_default : goal.returns-then-is_default
returns-then-is_default c = λ at.
    let named : is_entrypoint c.args.name ≡ true = search (rules, c.well_formed) in
    let who : is_key_hash c.args.who ≡ true = search (rules, c.well_formed) in
    let a = kind c.args.ty.now in
    c.is_taken_by_account.ensures
    ∙ ap (λ (b : Bool). b && is_taken_by_account a) (sym (default_so c.args.name (c.is_default.ensures.0 c.if-is_default.true)))
    ∙ sym (account_takes at c.args.who c.args.name a who) ∙ sym (taken_is at (implicit_place c.args.who) c.args.name a (account_place c.args.who who) named)

pub returns-else-is_default : goal.returns-else-is_default
returns-else-is_default c = λ at.
    let named : is_entrypoint c.args.name ≡ true = search (rules, c.well_formed) in
    let who : is_key_hash c.args.who ≡ true = search (rules, c.well_formed) in
    let a = kind c.args.ty.now in
    c.if-is_default.false
    ∙ ap (λ (b : Bool). b && is_taken_by_account a) (sym (other_so c.args.name c.is_default.result c.is_default.ensures.1 c.if-is_default.false))
    ∙ sym (account_takes at c.args.who c.args.name a who) ∙ sym (taken_is at (implicit_place c.args.who) c.args.name a (account_place c.args.who who) named)
