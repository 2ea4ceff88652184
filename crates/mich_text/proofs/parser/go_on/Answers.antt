use Rattle.std.proofs.Common.{◌-◌, vec_len, refl, arith}
use Rattle.mich_text.specs.Machine.{go_on}
use Rattle.mich_text.proofs.grammar.Stacks.{change_last, go_on_top}
use Rattle.mich_text.proofs.parser.go_on.Goals as goal

pub returns-in-Some : goal.returns-in-Some
returns-in-Some c =
    change_last go_on go_on_top c.args.stack.now.items (vec_len c.args.stack.now - 1) c.in-Some.frame.now c.go_on.new.self
    (omega (arith, c.in-Some.ensures.variant.0 refl)) c.in-Some.ensures.value c.go_on.ensures
