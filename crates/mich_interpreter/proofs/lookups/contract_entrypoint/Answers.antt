use Rattle.std.proofs.Common.{rules, ◌≡◌, true, false, length, sym, ◌∙◌, arith}
use Rattle.rules_data.specs.forms.Spelling.{contract_place, is_entrypoint}
use Rattle.mich_base.specs.TypeView.{kind}
use Rattle.mich_literals.proofs.arguments_lemmas.ForCallers.{contract_place_is}
use Rattle.mich_interpreter.proofs.Looked.{named_so, unnamed_by}
use Rattle.mich_interpreter.proofs.lookups.contract_entrypoint.Goals as goal

pub returns-in_default : goal.returns-in_default
returns-in_default c = λ at looks.
    let named : is_entrypoint c.args.of_address ≡ true = search (rules, c.well_formed) in
    let twenty : length c.args.hash ≡ 20 = omega (arith, c.well_formed) in
    unnamed_by at (contract_place c.args.hash) c.args.annotation c.args.of_address (kind c.args.ty.now) (contract_place_is c.args.hash twenty) named c.chosen_entrypoint.result c.in_default.not-Some c.chosen_entrypoint.ensures

pub returns-then-contract_takes : goal.returns-then-contract_takes
returns-then-contract_takes c = λ at looks.
    let named : is_entrypoint c.args.of_address ≡ true = search (rules, c.well_formed) in
    let twenty : length c.args.hash ≡ 20 = omega (arith, c.well_formed) in
    named_so at (contract_place c.args.hash) c.args.annotation c.args.of_address (kind c.args.ty.now) (contract_place_is c.args.hash twenty) named c.in-Some.name true c.in-Some.ensures (sym c.if-contract_takes.true ∙ c.contract_takes.ensures at looks)

pub returns-else-contract_takes : goal.returns-else-contract_takes
returns-else-contract_takes c = λ at looks.
    let named : is_entrypoint c.args.of_address ≡ true = search (rules, c.well_formed) in
    let twenty : length c.args.hash ≡ 20 = omega (arith, c.well_formed) in
    named_so at (contract_place c.args.hash) c.args.annotation c.args.of_address (kind c.args.ty.now) (contract_place_is c.args.hash twenty) named c.in-Some.name false c.in-Some.ensures (sym c.if-contract_takes.false ∙ c.contract_takes.ensures at looks)
