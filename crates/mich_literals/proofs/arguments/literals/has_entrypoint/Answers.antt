use Rattle.std.proofs.Common.{map, ap, ◌∙◌}
use Rattle.rules_code.specs.evaluation.Contracts.{has_kind}
use Rattle.rules_data.specs.types.Entrypoints.{find_entry}
use Rattle.mich_base.specs.TypeView.{kind}
use Rattle.mich_instr.specs.declared.instr.Script.{Script, out-Script}
use Rattle.mich_types.specs.Entered.{entry_of}
use Rattle.mich_literals.proofs.arguments.literals.has_entrypoint.Goals as goal

pub returns-in-Some : goal.returns-in-Some
returns-in-Some c =
    c.same_kind.ensures ∙ ap (has_kind (kind c.args.ty.now))
    (c.in-Some.ensures ∙ ap (λ (s : Script). find_entry c.args.name.now (map entry_of (out-Script s).parameter.entries)) c.get.ensures)

pub returns-in-None : goal.returns-in-None
returns-in-None c =
    ap (has_kind (kind c.args.ty.now))
    (c.in-None.ensures ∙ ap (λ (s : Script). find_entry c.args.name.now (map entry_of (out-Script s).parameter.entries)) c.get.ensures)
