use Rattle.std.proofs.Common.{Option, Ok, subst}
use Rattle.mich_text.specs.declared.reader.Placed.{Placed}
use Rattle.mich_text.specs.Results.{IsText}
use Rattle.mich_base.specs.View.{tree}
use Rattle.mich_answers.proofs.Shorter.{further}
use Rattle.mich_answers.proofs.statements.read_next.Goals as goal

pub returns-in-Ok-Some : goal.returns-in-Ok-Some
returns-in-Ok-Some c =
    let placed = c.in-Ok-Some.placed in
    let node = subst (λ (o : Option Placed). IsText c.args.file.now c.args.place (Ok o)) c.in-Ok-Some.field-0-is c.in-Ok-Some.ensures.text in
    let within = further c.args.file.now c.args.place (tree placed.node) placed.start placed.end c.requires node in
    (node, within.0, within.1, within.2)
