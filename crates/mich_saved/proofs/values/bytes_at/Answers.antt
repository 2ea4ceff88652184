use Rattle.mich_saved.proofs.Wholes.{bytes_whole}
use Rattle.mich_saved.proofs.values.bytes_at.Goals as goal

pub returns-clause-whole : goal.returns-clause-whole
returns-clause-whole c = λ a. bytes_whole a c.in_ok-from_slice.field-0
