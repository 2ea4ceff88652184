use Rattle.std.proofs.Common.{◌≡◌, map, Some, sym, ap, ◌∙◌, subst}
use Rattle.std.specs.Prelude.{Err}
use Rattle.rules_world.specs.world.Arguments.{literal_in}
use Rattle.mich_typed.specs.declared.error.CheckError.{CheckError}
use Rattle.rules_data.specs.types.Entrypoints.{find_entry}
use Rattle.mich_base.specs.View.{tree}
use Rattle.mich_instr.specs.declared.instr.Script.{Script, out-Script}
use Rattle.mich_types.specs.Entered.{entry_of}
use Rattle.mich_literals.specs.arguments.Arguments.{IsIn, entries_in}
use Rattle.mich_literals.proofs.arguments_lemmas.Entries.{entry_formed}
use Rattle.mich_literals.proofs.arguments_lemmas.Targets.{nobody, nameless, target, target_met}
use Rattle.mich_literals.proofs.arguments.arguments.read_argument.Goals as goal

pub returns-in_default : goal.returns-in_default
returns-in_default c = λ w s. nobody c.args.world.now w c.args.to.now c.args.name.now s (sym c.in_default.ensures)

pub returns-in_default-entrypoint : goal.returns-in_default-entrypoint
returns-in_default-entrypoint c = λ w s.
    let k = c.in-Some.contract.now in
    nameless c.args.world.now w c.args.to.now c.args.name.now s c.requires.typed k (sym c.in-Some.ensures)
    (ap (λ (x : Script). find_entry c.args.name.now (map entry_of (out-Script x).parameter.entries)) (sym c.get.ensures) ∙ sym c.in_default-entrypoint.ensures)

pub returns-in-Ok : goal.returns-in-Ok
returns-in-Ok c = λ w s.
    let k = c.in-Some.contract.now in
    let e = entry_of c.in-Some-entrypoint.entry.now in
    let found : find_entry c.args.name.now (entries_in k) ≡ Some e
    = ap (λ (x : Script). find_entry c.args.name.now (map entry_of (out-Script x).parameter.entries)) (sym c.get.ensures) ∙ sym c.in-Some-entrypoint.ensures in
    record {
      target = target c.args.world.now w c.args.to.now c.args.name.now s c.requires.typed k (sym c.in-Some.ensures) e;
      met = target_met c.args.world.now w c.args.to.now c.args.name.now s c.requires.typed k (sym c.in-Some.ensures) e found;
      literal = c.in-Ok.ensures.literal w s;
      whole = c.in-Ok.ensures.whole;
      formed = c.in-Ok.ensures.formed (entry_formed c.args.world.now c.args.to.now k c.requires.typed (sym c.in-Some.ensures) c.args.name.now e found);
    }

pub returns-in-Err-IllTyped : goal.returns-in-Err-IllTyped
returns-in-Err-IllTyped c = λ w s.
    let k = c.in-Some.contract.now in
    let e = entry_of c.in-Some-entrypoint.entry.now in
    let found : find_entry c.args.name.now (entries_in k) ≡ Some e
    = ap (λ (x : Script). find_entry c.args.name.now (map entry_of (out-Script x).parameter.entries)) (sym c.get.ensures) ∙ sym c.in-Some-entrypoint.ensures in (
      target c.args.world.now w c.args.to.now c.args.name.now s c.requires.typed k (sym c.in-Some.ensures) e,
      target_met c.args.world.now w c.args.to.now c.args.name.now s c.requires.typed k (sym c.in-Some.ensures) e found,
      subst (λ (x : CheckError). IsIn (literal_in w e.kind (tree c.args.node.now)) (Err x)) c.in-Err-IllTyped.field-0-is (c.in-Err-IllTyped.ensures.literal w s),
    )
