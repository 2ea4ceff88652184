use Rattle.std.proofs.Common.{Err, sym, ◌∙◌, subst}
use Rattle.rules_data.specs.values.Literals.{read}
use Rattle.mich_base.specs.TypeView.{kind}
use Rattle.mich_base.specs.View.{tree}
use Rattle.mich_data.specs.Answers.{IsLiteral}
use Rattle.mich_data.specs.View.{all_pending}
use Rattle.mich_data.specs.declared.error.ValueError.{ValueError}
use Rattle.mich_term.specs.ValueView.{val}
use Rattle.mich_literals.proofs.unpacking_lemmas.Sequences.{read_bodies}
use Rattle.mich_literals.proofs.unpacking_lemmas.Tried.{value_tried, none_tried, value_is}
use Rattle.mich_literals.proofs.unpacking.unpacking.read_node.Goals as goal

pub value_of-requires-clause-bodies : goal.value_of-requires-clause-bodies
value_of-requires-clause-bodies c =
    read_bodies (kind c.args.ty.now) 0 (tree c.args.node.now) (val c.in-Ok.read.value) (all_pending c.in-Ok.read.pending) c.requires.small c.in-Ok.ensures.literal

pub value_of-requires-clause-reads : goal.value_of-requires-clause-reads
value_of-requires-clause-reads c = value_is _ _ _ c.in-Ok.ensures.literal

pub returns-in_ok-value_of-in-Ok-clause-tried : goal.returns-in_ok-value_of-in-Ok-clause-tried
returns-in_ok-value_of-in-Ok-clause-tried c = λ passes tries.
    let read = c.in-Ok.read in
    value_tried passes tries (kind c.args.ty.now) c.requires.pushable (tree c.args.node.now) (val read.value) (all_pending read.pending) c.in-Ok.ensures.literal
    ∙ sym c.in_ok-value_of-in-Ok.ensures.value

pub returns-in-Err-NotOfType-clause-tried : goal.returns-in-Err-NotOfType-clause-tried
returns-in-Err-NotOfType-clause-tried c = λ passes tries.
    none_tried passes tries (kind c.args.ty.now) c.requires.pushable (tree c.args.node.now) _
    (subst (λ (e : ValueError). IsLiteral (read (kind c.args.ty.now) 0 (tree c.args.node.now)) (Err e)) c.in-Err-NotOfType.field-0-is c.in-Err-NotOfType.ensures.literal)
