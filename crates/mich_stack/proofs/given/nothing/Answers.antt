use Rattle.std.proofs.Common.{subst}
use Rattle.mich_stack.specs.Ends.{IsKept}
use Rattle.mich_stack.proofs.Burnt.{failed_given}
use Rattle.mich_stack.proofs.given.nothing.Goals as goal

pub returns-in-Err : goal.returns-in-Err
returns-in-Err c = λ big s V h. failed_given big s V V c.in-Err.error (subst (λ r. IsKept s V r) c.in-Err.is h)
