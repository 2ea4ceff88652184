use Rattle.mich_interpreter.proofs.applied.pushing_code.Goals as goal

pub returns : goal.returns
returns c = rw (c.in_ok-push.ensures, c.in_ok-below.ensures) at c.in_ok-code.ensures
