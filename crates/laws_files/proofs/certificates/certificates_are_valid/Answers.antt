use Rattle.laws_files.proofs.certificates_lemmas.Certified.{valid}
use Rattle.laws_files.proofs.certificates.certificates_are_valid.Goals as goal

pub returns : goal.returns
returns c = valid
