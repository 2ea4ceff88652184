use Rattle.std.proofs.Common.{◌≡◌, Ok, Some, None, Option, subst, sym, ◌∙◌, ap}
use Rattle.std.specs.Prelude.{option_map}
use Rattle.rules_audit.specs.Lines.{line_of}
use Rattle.mich_base.specs.View.{tree}
use Rattle.mich_base.specs.declared.node.Node.{Node}
use Rattle.mich_text.specs.Parts.{IsAloneRead}
use Rattle.mich_audit.specs.View.{line_seen}
use Rattle.mich_audit.proofs.Pieced.{piece_taken, no_line, no_node, forms_of}
use Rattle.mich_audit.proofs.verdict.take_piece.Goals as goal

pub returns-in_default : goal.returns-in_default
returns-in_default c = λ before it.
    no_node before c.args.piece.now c.args.tally.now (subst (λ (o : Option Node). IsAloneRead c.args.piece.now (Ok o)) c.in_default.is c.in_ok-node.ensures) it

pub returns-in-Some-2 : goal.returns-in-Some-2
returns-in-Some-2 c = λ before it.
    let alone = subst (λ (o : Option Node). IsAloneRead c.args.piece.now (Ok o)) c.in-Some.is c.in_ok-node.ensures in
    let told : Some (line_seen c.in-Some-2.line) ≡ line_of (tree c.in-Some.node) = sym (ap (option_map line_seen) c.in-Some-2.is) ∙ c.in_ok-line.ensures in
    piece_taken before c.args.piece.now (tree c.in-Some.node) (line_seen c.in-Some-2.line) c.take.new.self c.take.result alone told
    (c.take.ensures before it (forms_of c.args.piece.now (tree c.in-Some.node) (line_seen c.in-Some-2.line) alone told))

pub returns : goal.returns
returns c = λ before it.
    let alone = subst (λ (o : Option Node). IsAloneRead c.args.piece.now (Ok o)) c.in-Some.is c.in_ok-node.ensures in
    no_line before c.args.piece.now (tree c.in-Some.node) c.args.tally.now alone (sym (ap (option_map line_seen) c.in-None.is) ∙ c.in_ok-line.ensures) it
