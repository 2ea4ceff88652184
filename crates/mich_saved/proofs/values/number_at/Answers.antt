use Rattle.mich_saved.proofs.Wholes.{number_whole}
use Rattle.mich_saved.proofs.values.number_at.Goals as goal

pub returns-clause-whole : goal.returns-clause-whole
returns-clause-whole c = λ a. number_whole a _
