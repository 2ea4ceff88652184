use Rattle.std.proofs.Common.{◌≡◌, length, sym, ◌∙◌, arith}
use Rattle.mich_base.specs.TypeView.{kind}
use Rattle.mich_interpreter.proofs.Looked.{contract_takes, nobody_takes}
use Rattle.mich_interpreter.proofs.lookups.contract_takes.Goals as goal

pub returns-in-Some : goal.returns-in-Some
returns-in-Some c = λ at looks.
    let twenty : length c.args.hash ≡ 20 = omega (arith, c.well_formed) in
    c.has_entrypoint.ensures
    ∙ sym (contract_takes c.args.world.now at looks c.args.hash c.args.name (kind c.args.ty.now) c.requires twenty c.in-Some.contract.now (sym c.in-Some.ensures))

pub returns-in-None : goal.returns-in-None
returns-in-None c = λ at looks.
    let twenty : length c.args.hash ≡ 20 = omega (arith, c.well_formed) in
    sym (nobody_takes c.args.world.now at looks c.args.hash c.args.name (kind c.args.ty.now) c.requires twenty (sym c.in-None.ensures))
