use Rattle.std.proofs.Common.{◌≡◌, Some, map, refl, sym, ap, ◌∙◌}
use Rattle.rules_data.specs.types.Entrypoints.{find_entry}
use Rattle.mich_literals.specs.arguments.Arguments.{entries_in}
use Rattle.mich_literals.proofs.arguments_lemmas.ForCallers.{nobody, nameless, target, target_met}
use Rattle.mich_instr.specs.declared.instr.Script.{Script, out-Script}
use Rattle.mich_types.specs.Entered.{entry_of}
use Rattle.mich_operations.proofs.giving.wants.Goals as goal

pub returns-in_default : goal.returns-in_default
returns-in_default c = λ w s. nobody c.args.world.now w c.args.to.now c.args.name.now s (sym c.in_default.ensures)

pub returns-in_default-entrypoint : goal.returns-in_default-entrypoint
returns-in_default-entrypoint c = λ w s.
    let k = c.in-Some.contract.now in
    nameless c.args.world.now w c.args.to.now c.args.name.now s c.requires k (sym c.in-Some.ensures)
    (ap (λ (x : Script). find_entry c.args.name.now (map entry_of (out-Script x).parameter.entries)) (sym c.get.ensures) ∙ sym c.in_default-entrypoint.ensures)

pub returns-then-not-is_ticket_of : goal.returns-then-not-is_ticket_of
returns-then-not-is_ticket_of c = λ w s.
    let k = c.in-Some.contract.now in
    let e = entry_of c.in-Some-entrypoint.entry.now in
    let found : find_entry c.args.name.now (entries_in k) ≡ Some e
    = ap (λ (x : Script). find_entry c.args.name.now (map entry_of (out-Script x).parameter.entries)) (sym c.get.ensures) ∙ sym c.in-Some-entrypoint.ensures in (
      target c.args.world.now w c.args.to.now c.args.name.now s c.requires k (sym c.in-Some.ensures) e,
      target_met c.args.world.now w c.args.to.now c.args.name.now s c.requires k (sym c.in-Some.ensures) e found,
      sym c.is_ticket_of.ensures ∙ c.if-not-is_ticket_of.true,
      refl,
    )

pub returns : goal.returns
returns c = λ w s.
    let k = c.in-Some.contract.now in
    let e = entry_of c.in-Some-entrypoint.entry.now in
    let found : find_entry c.args.name.now (entries_in k) ≡ Some e
    = ap (λ (x : Script). find_entry c.args.name.now (map entry_of (out-Script x).parameter.entries)) (sym c.get.ensures) ∙ sym c.in-Some-entrypoint.ensures in (
      target c.args.world.now w c.args.to.now c.args.name.now s c.requires k (sym c.in-Some.ensures) e,
      target_met c.args.world.now w c.args.to.now c.args.name.now s c.requires k (sym c.in-Some.ensures) e found,
      sym c.is_ticket_of.ensures ∙ c.if-not-is_ticket_of.false,
    )
