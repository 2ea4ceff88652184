-- Bases that are reached from numbers: those of these numbers, and those that such a one is over, directly or through others.
use Rattle.std.specs.Prelude.{◌≡◌, ℕ, true, false, Some, List, [], ◌∷◌}
use Rattle.mich_bigmap.specs.Bases.{Base, Bases, base_at}
use Rattle.mich_bigmap.specs.Formed.{is_there}
use Rattle.mich_bigmap.specs.Kept.{has}

pub data Reached (ns : List ℕ) (bs : Bases) : ℕ → Type 0 where
  named : (k : ℕ) → has k ns ≡ true → Reached ns bs k
  over : (j k : ℕ) (b : Base) (below : Bases) → Reached ns bs j → base_at bs j ≡ Some (b, below) → b.over ≡ Some k → is_there below (Some k) ≡ true
      → Reached ns bs k

-- there is a base of this number, and it is reached
abbrev pub IsReachedBase : List ℕ → Bases → ℕ → Type 0
IsReachedBase ns bs k = (is_there bs (Some k) ≡ true) × Reached ns bs k

-- no number is given twice
abbrev pub AreDistinct : Bases → Type 0
AreDistinct [] = Unit {0}
AreDistinct (b ∷ bs) = (is_there bs (Some b.number) ≡ false) × AreDistinct bs
