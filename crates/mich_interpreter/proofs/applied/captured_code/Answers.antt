use Rattle.mich_base.specs.TypeView.{kind}
use Rattle.mich_base.specs.View.{tree}
use Rattle.mich_instr.specs.View.{codes}
use Rattle.mich_term.specs.ValueView.{val}
use Rattle.mich_interpreter.proofs.AppliedCode.{applied_code}
use Rattle.mich_interpreter.proofs.applied.captured_code.Goals as goal

pub captured_lambdas-requires : goal.captured_lambdas-requires
captured_lambdas-requires c = (c.requires.captures.pushes, c.requires.captures.gives)

pub returns-in_ok-code-in-Some : goal.returns-in_ok-code-in-Some
returns-in_ok-code-in-Some c =
    let held = rw c.in-Some.is at c.in_ok-found.ensures in
    let old = rw (c.requires.both) at c.requires.old in
    let fine = applied_code (kind c.args.captured.now) (kind c.args.rest.now) (kind c.args.ret.now) (val c.args.value.now) (tree c.args.literal.now) (tree c.args._made.now)
    (codes c.in-Some.lambdas) c.args.recursive (tree c.args.body.now) (codes c.args.old) c.requires.captures held old in
    rw (c.in_ok-code-in-Some.ensures, c.requires.both) fine
