use Rattle.laws_files.proofs.certificates_lemmas.Scripts.{scripts}
use Rattle.laws_files.proofs.certificates.script_blocks_are_typed.Goals as goal

pub returns : goal.returns
returns c = scripts
