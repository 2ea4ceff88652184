use Rattle.laws_files.proofs.certificates_lemmas.Derived.{derived_types}
use Rattle.laws_files.proofs.certificates.derivations_have_types.Goals as goal

pub returns : goal.returns
returns c = derived_types
