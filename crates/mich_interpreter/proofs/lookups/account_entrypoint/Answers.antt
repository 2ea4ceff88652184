use Rattle.std.proofs.Common.{rules, ◌≡◌, true, false, sym, ◌∙◌}
use Rattle.rules_data.specs.forms.Spelling.{implicit_place, is_entrypoint, is_key_hash}
use Rattle.mich_base.specs.TypeView.{kind}
use Rattle.mich_literals.proofs.arguments_lemmas.ForCallers.{account_place}
use Rattle.mich_interpreter.proofs.Looked.{named_so, unnamed_by}
use Rattle.mich_interpreter.proofs.lookups.account_entrypoint.Goals as goal

pub returns-in_default : goal.returns-in_default
returns-in_default c = λ at.
    let named : is_entrypoint c.args.of_address ≡ true = search (rules, c.well_formed) in
    let who : is_key_hash c.args.who ≡ true = search (rules, c.well_formed) in
    unnamed_by at (implicit_place c.args.who) c.args.annotation c.args.of_address (kind c.args.ty.now) (account_place c.args.who who) named c.chosen_entrypoint.result c.in_default.not-Some c.chosen_entrypoint.ensures

pub returns-then-account_takes : goal.returns-then-account_takes
returns-then-account_takes c = λ at.
    let named : is_entrypoint c.args.of_address ≡ true = search (rules, c.well_formed) in
    let who : is_key_hash c.args.who ≡ true = search (rules, c.well_formed) in
    named_so at (implicit_place c.args.who) c.args.annotation c.args.of_address (kind c.args.ty.now) (account_place c.args.who who) named c.in-Some.name true c.in-Some.ensures (sym c.if-account_takes.true ∙ c.account_takes.ensures at)

pub returns-else-account_takes : goal.returns-else-account_takes
returns-else-account_takes c = λ at.
    let named : is_entrypoint c.args.of_address ≡ true = search (rules, c.well_formed) in
    let who : is_key_hash c.args.who ≡ true = search (rules, c.well_formed) in
    named_so at (implicit_place c.args.who) c.args.annotation c.args.of_address (kind c.args.ty.now) (account_place c.args.who who) named c.in-Some.name false c.in-Some.ensures (sym c.if-account_takes.false ∙ c.account_takes.ensures at)
