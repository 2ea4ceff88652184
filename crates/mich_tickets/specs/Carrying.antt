-- The tickets of a value that is stored, or stored no more.
use Rattle.std.specs.Prelude.{◌≡◌, ℕ, ℤ, neg_ℤ, ◌+ℤ◌, ◌≤ℤ◌, List, ◌++◌}
use Rattle.std.specs.List.{AllByRecursion}
use Rattle.rules_data.specs.values.Tickets.{Identity, Held}
use Rattle.rules_code.specs.steps.Changes.{amount_among}
use Rattle.mich_tickets.specs.Books.{Books}
use Rattle.mich_tickets.specs.Most.{most}
use Rattle.mich_tickets.specs.Sums.{held_of}
use Rattle.mich_tickets.specs.Effects.{Moves}
use Rattle.mich_tickets.specs.Limits.{IsPositive}
use Rattle.mich_tickets.specs.declared.carrying.Direction.{Direction}
use Rattle.mich_tickets.specs.declared.carrying.Direction.TheVariants.{In, Out}

abbrev pub signed : Direction → ℤ → ℤ
signed In n = n
signed Out n = neg_ℤ n

-- n tickets may come to those that are held, or go from them
abbrev pub Fits : Direction → ℤ → ℤ → Type 0
Fits In held n = (held +ℤ n) ≤ℤ most
Fits Out held n = n ≤ℤ held

-- tickets with positive amounts that may all come to an owner, or go from one
pub record MayCarry (d : Direction) (owner : List ℕ) (b : Books) (ts : List Held) : Type 0 where
  pub positive : AllByRecursion IsPositive ts
  pub fits : (j : Identity) → Fits d (held_of b j owner) (amount_among j ts)

-- they came, or went
abbrev pub Carries : Direction → List ℕ → List Held → Books → Books → Type 0
Carries d owner ts old new = Moves owner (λ j. signed d (amount_among j ts)) old new

-- tickets with positive amounts that may all come to an owner, and that came
abbrev pub MayEnter : List ℕ → Books → List Held → Type 0
MayEnter owner b ts = MayCarry In owner b ts

abbrev pub Enters : List ℕ → List Held → Books → Books → Type 0
Enters owner ts old new = Carries In owner ts old new

-- tickets with positive amounts that may all go from one, and that went
abbrev pub MayLeave : List ℕ → Books → List Held → Type 0
MayLeave owner b ts = MayCarry Out owner b ts

abbrev pub Leaves : List ℕ → List Held → Books → Books → Type 0
Leaves owner ts old new = Carries Out owner ts old new

-- all but those that are left did
pub record Carried (d : Direction) (owner : List ℕ) (old new : Books) (left whole : List Held) : Type 0 where
  pub front : List Held
  pub parts : front ++ left ≡ whole
  pub moved : Carries d owner front old new
