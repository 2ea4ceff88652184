-- The rounds of the compression function, one after the other.
use Rattle.std.proofs.Common.{◌≡◌, ℕ, suc, List, refl, ◌∙◌}
use Rattle.rules_text.specs.hash.Blake2b.{in_order, round, rounds}

pub no_round : (v m : List ℕ) → v ≡ rounds v m 0
unfolding rounds
no_round v m = refl

pub next_round : (v m : List ℕ) (r : ℕ) (before words after : List ℕ) → before ≡ rounds v m r → words ≡ in_order m r
    → after ≡ round before words → after ≡ rounds v m (suc r)
unfolding rounds
next_round v m r before words after at taken run = run ∙ (λ i. round (at i) (taken i))
