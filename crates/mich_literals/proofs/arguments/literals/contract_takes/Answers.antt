use Rattle.std.proofs.Common.{rules, ◌≡◌, true, length, sym, ◌∙◌, arith}
use Rattle.rules_data.specs.forms.Spelling.{contract_place, is_entrypoint}
use Rattle.rules_world.specs.world.World.{contract_at}
use Rattle.mich_base.specs.TypeView.{kind}
use Rattle.mich_literals.proofs.arguments_lemmas.Claims.{contract_place_is, contract_takes, nobody_takes, taken_is}
use Rattle.mich_literals.proofs.arguments.literals.contract_takes.Goals as goal

pub returns-in-Some : goal.returns-in-Some
returns-in-Some c = λ w s.
    let named : is_entrypoint c.args.name ≡ true = search (rules, c.well_formed) in
    let twenty : length c.args.hash ≡ 20 = omega (arith, c.well_formed) in
    let a = kind c.args.ty.now in
    c.has_entrypoint.ensures
    ∙ sym (contract_takes c.args.world.now w c.args.hash c.args.name a c.requires s twenty c.in-Some.contract.now (sym c.in-Some.ensures))
    ∙ sym (taken_is (contract_at w) (contract_place c.args.hash) c.args.name a (contract_place_is c.args.hash twenty) named)

pub returns-in-None : goal.returns-in-None
returns-in-None c = λ w s.
    let named : is_entrypoint c.args.name ≡ true = search (rules, c.well_formed) in
    let twenty : length c.args.hash ≡ 20 = omega (arith, c.well_formed) in
    let a = kind c.args.ty.now in
    sym (nobody_takes c.args.world.now w c.args.hash c.args.name a c.requires s twenty (sym c.in-None.ensures))
    ∙ sym (taken_is (contract_at w) (contract_place c.args.hash) c.args.name a (contract_place_is c.args.hash twenty) named)
