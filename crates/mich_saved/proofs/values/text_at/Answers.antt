use Rattle.mich_saved.proofs.Wholes.{text_whole}
use Rattle.mich_saved.proofs.values.text_at.Goals as goal

pub returns-clause-whole : goal.returns-clause-whole
returns-clause-whole c = λ a. text_whole a c.in_ok-from_slice.field-0
