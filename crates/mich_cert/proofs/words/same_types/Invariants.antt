use Rattle.std.proofs.Common.{◌≡◌, drop}
use Rattle.rules_code.specs.instructions.Same.{same_kinds}
use Rattle.mich_cert.specs.View.{kinds}
use Rattle.mich_cert.proofs.words.same_types.Given as goal

abbrev pub invariant-loop-ty : goal.invariant-loop-ty
invariant-loop-ty l = same_kinds (kinds (drop l.ty-index l.one)) (kinds l.rest) ≡ same_kinds (kinds l.one) (kinds l.other)
