use Rattle.std.proofs.Common.{arith}
use Rattle.rules_files.specs.snapshots.Reading.{read}
use Rattle.mich_saved.specs.Parts.{kept_read}
use Rattle.mich_saved.proofs.Passes.{are_read, read_as}
use Rattle.mich_saved.proofs.Places.{placed_as}
use Rattle.mich_saved.proofs.reading.read.Goals as goal

pub returns-clause-read : goal.returns-clause-read
returns-clause-read c = read_as (read c.args.bytes.now) (kept_read c.args.bytes.now) c.kept_state.result (are_read c.args.bytes.now) c.kept_state.ensures.kept

pub returns-clause-placed : goal.returns-clause-placed
returns-clause-placed c = λ s e. placed_as c.args.bytes.now s c.kept_state.result (λ i. omega (arith, c.type_inv.bytes i)) e c.kept_state.ensures.kept
