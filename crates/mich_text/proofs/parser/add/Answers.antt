use Rattle.std.proofs.Common.{◌-◌, vec_len, refl, arith}
use Rattle.mich_base.specs.View.{tree}
use Rattle.mich_text.proofs.grammar.Stacks.{add_last}
use Rattle.mich_text.proofs.parser.add.Goals as goal

pub returns-in_ok-add : goal.returns-in_ok-add
returns-in_ok-add c =
    add_last (tree c.args.node) c.args.stack.now.items (vec_len c.args.stack.now - 1) c.in-Some.frame.now c.add.new.self
    (omega (arith, c.in-Some.ensures.variant.0 refl)) c.in-Some.ensures.value c.in_ok-add.ensures
