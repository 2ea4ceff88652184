use Rattle.laws_files.proofs.certificates_lemmas.Levels.{readable}
use Rattle.laws_files.proofs.certificates.certificates_are_readable.Goals as goal

pub returns : goal.returns
returns c = readable
