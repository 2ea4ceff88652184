-- Tests of which one is true.
use Rattle.std.proofs.Common.{◌≡◌, Bool, true, false, ◌||◌, refl}

pub or_rest : (b c : Bool) → c ≡ false → (b || c) ≡ b
or_rest true c e = refl
or_rest false c e = e
