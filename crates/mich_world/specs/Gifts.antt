-- Tickets that come to owners, to one after the other.
use Rattle.std.specs.Prelude.{◌≡◌, ℕ, ℤ, pos, ◌+ℤ◌, ◌≤ℤ◌, List, [], ◌∷◌, if◌then◌else◌}
use Rattle.std.specs.List.{AllByRecursion}
use Rattle.std.specs.Str.{bytes_eq}
use Rattle.rules_code.specs.steps.Changes.{amount_among}
use Rattle.rules_data.specs.values.Tickets.{Identity, Held}
use Rattle.mich_tickets.specs.Books.{Books}
use Rattle.mich_tickets.specs.Effects.{listed_in}
use Rattle.mich_tickets.specs.Limits.{IsPositive}
use Rattle.mich_tickets.specs.Most.{most}
use Rattle.mich_tickets.specs.Sums.{held_of, totals_of}

-- an owner, and the tickets that come to it
abbrev pub Gift : Type 0
Gift = List ℕ × List Held

-- how much of an identity comes to an owner
abbrev pub given : Identity → List ℕ → List Gift → ℤ
given j o [] = pos 0
given j o (g ∷ gs) = (if bytes_eq o g.0 then amount_among j g.1 else pos 0) +ℤ given j o gs

-- tickets with positive amounts that may all come
pub record MayGive (gs : List Gift) (b : Books) : Type 0 where
  pub positive : AllByRecursion (λ g. AllByRecursion IsPositive g.1) gs
  pub fits : (j : Identity) (o : List ℕ) → (held_of b j o +ℤ given j o gs) ≤ℤ most

-- they came
pub record Gives (gs : List Gift) (old new : Books) : Type 0 where
  pub held : (j : Identity) (o : List ℕ) → held_of new j o ≡ held_of old j o +ℤ given j o gs
  pub totals : (j : Identity) → totals_of new j ≡ totals_of old j
  pub listed : listed_in new ≡ listed_in old
