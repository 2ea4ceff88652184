use Rattle.mich_saved.proofs.Wholes.{lambda_whole}
use Rattle.mich_saved.proofs.values.lambda_at.Goals as goal

pub returns-clause-whole : goal.returns-clause-whole
returns-clause-whole c = λ a. lambda_whole a c.in_ok-body.body c.in_ok-recursive.recursive
