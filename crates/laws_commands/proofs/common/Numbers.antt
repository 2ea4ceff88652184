-- Natural numbers in order.
use Rattle.std.proofs.Common.{◌≡◌, ◌≤◌, ◌<◌, ◌⊎◌, inl, inr, ℕ, Bool, true, false, refl, arith, ltb}
use Rattle.std.proofs.lemmas.Bool.{ltb-true, ltb-false}

pub rises : (a b c : ℕ) → a ≤ b → b ≤ c → a ≤ c
rises a b c h g = omega (arith, h, g)

pub split : (a b : ℕ) → (a ≤ b) ⊎ (b < a)
split a b = by (ltb b a) refl
  where
    by : (t : Bool) → ltb b a ≡ t → (a ≤ b) ⊎ (b < a)
    by true e = inr (ltb-true b a e)
    by false e = inl (ltb-false b a e)
