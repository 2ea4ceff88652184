use Rattle.mich_saved.proofs.Wholes.{bool_whole}
use Rattle.mich_saved.proofs.values.truth_at.Goals as goal

pub returns-clause-whole : goal.returns-clause-whole
returns-clause-whole c = λ a. bool_whole a c.in_ok-truth.truth
