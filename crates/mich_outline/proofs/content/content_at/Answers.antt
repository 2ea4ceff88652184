use Rattle.std.proofs.Common.{rules, ◌≡◌, Some, ◌∙◌}
use Rattle.rules_text.specs.nodes.Primitives.{primitive_of_name}
use Rattle.mich_base.specs.View.{tree}
use Rattle.mich_outline.specs.View.{kind_of}
use Rattle.mich_outline.specs.declared.content.SectionKind.TheVariants as k
use Rattle.mich_outline.proofs.SectionArguments.{storage_section_is, code_section_is, view_section_is}
use Rattle.mich_outline.proofs.content.content_at.Goals as goal

pub returns-in-Storage : goal.returns-in-Storage
returns-in-Storage c =
    let e : kind_of (primitive_of_name c.in-Prim.app.name) ≡ Some k.Storage = search rules in
    c.storage_content.ensures (tree c.args.node.now) ∙ storage_section_is c.args.at c.args.node.now c.in-Prim.app c.in-Prim.is e

pub returns-in-Code : goal.returns-in-Code
returns-in-Code c =
    let e : kind_of (primitive_of_name c.in-Prim.app.name) ≡ Some k.Code = search rules in
    c.code_content.ensures (tree c.args.node.now) ∙ code_section_is c.args.at c.args.node.now c.in-Prim.app c.in-Prim.is e

pub returns-in-View : goal.returns-in-View
returns-in-View c =
    let e : kind_of (primitive_of_name c.in-Prim.app.name) ≡ Some k.View = search rules in
    c.view_content.ensures (tree c.args.node.now) ∙ view_section_is c.args.at c.args.node.now c.in-Prim.app c.in-Prim.is e
