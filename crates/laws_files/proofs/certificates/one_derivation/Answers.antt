use Rattle.std.proofs.Common.{sym, ◌∙◌}
use Rattle.laws_files.proofs.certificates_lemmas.Entries.{valid_typed}
use Rattle.laws_files.proofs.certificates.one_derivation.Goals as goal

pub returns : goal.returns
returns c = λ t es fs v w. (valid_typed t es v).1 ∙ sym (valid_typed t fs w).1
