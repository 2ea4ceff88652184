use Rattle.laws_files.proofs.certificates_lemmas.Blocks.{blocks_typed}
use Rattle.laws_files.proofs.certificates.blocks_are_typed.Goals as goal

pub returns : goal.returns
returns c = blocks_typed
