use Rattle.mich_base.specs.TypeView.{kind}
use Rattle.mich_base.specs.View.{tree}
use Rattle.mich_check.proofs.HeldTyping.{all_held}
use Rattle.mich_interpreter.proofs.Pushed.{pushed_is}
use Rattle.mich_interpreter.proofs.giving.held_literal.Goals as goal

pub held_bodies-requires : goal.held_bodies-requires
held_bodies-requires c = all_held _ _ c.requires.lambdas.1.3

pub returns-in-Ok : goal.returns-in-Ok
returns-in-Ok c = λ big at.
    pushed_is (kind c.args.ty.now) (tree c.args.literal.now) c.in-Ok.read.value _ c.requires.pushed c.in-Ok.ensures.whole c.in-Ok.ensures.literal big at
