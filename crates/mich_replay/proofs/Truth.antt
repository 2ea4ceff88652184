-- Tests that decide facts.
use Rattle.std.proofs.Common.{◌≡◌, Bool, true, false, refl, codes, rules}
use Rattle.std.specs.Str.{is_utf8}
use Rattle.std.proofs.lemmas.Str.{is_utf8-from_IsUtf8, IsUtf8-from_ascii}

-- a test of what doesn't hold
pub false_of : (b : Bool) (P : Type 0) → (b ≡ true → P) → (P → ⊥) → b ≡ false
false_of true P holds fails = absurd (fails (holds refl))
false_of false P holds fails = refl

-- the path of a file that never fails is text
pub file_is_text : is_utf8 (codes "file") ≡ true
file_is_text = is_utf8-from_IsUtf8 (codes "file") (IsUtf8-from_ascii (codes "file") (search rules))
