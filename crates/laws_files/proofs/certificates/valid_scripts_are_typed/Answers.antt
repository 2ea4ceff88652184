use Rattle.laws_files.proofs.certificates_lemmas.Entries.{valid_typed}
use Rattle.laws_files.proofs.certificates.valid_scripts_are_typed.Goals as goal

pub returns : goal.returns
returns c = valid_typed
