use Rattle.mich_interpreter.proofs.applied.applied_code.Goals as goal

pub captured_code-requires-clause-old : goal.captured_code-requires-clause-old
captured_code-requires-clause-old c = rw c.in-Some.is at c.in_ok-found.ensures
