-- What is so of each big map in a value.
use Rattle.std.specs.Prelude.{◌≡◌, true, Option, Some, None, is_some, []}
use Rattle.std.specs.Map.{keys_of}
use Rattle.std.specs.List.{AllByRecursion}
use Rattle.rules_data.specs.values.Tickets.{pair_tickets}
use Rattle.mich_term.specs.Keyed.{IsIncreasing}
use Rattle.mich_term.specs.ValueView.{put_pairs}
use Rattle.mich_term.specs.declared.value.Value.{Value, every-Value}
use Rattle.mich_term.specs.declared.value.Value.TheOpen.{Value-F, BigMap-F}
use Rattle.mich_term.specs.declared.value.BigMap.{BigMap}

-- nothing is said of other values
abbrev pub AnyLayer : Value-F Value BigMap → Type 0
AnyLayer v = Unit {0}

abbrev pub NoBigMap : BigMap-F Value BigMap → Type 0
NoBigMap b = ⊥

-- no big map is in a value that is put (Michelson reference, "big_map")
abbrev pub PutsNoBigMap : Option Value → Type 0
PutsNoBigMap None = Unit {0}
PutsNoBigMap (Some x) = every-Value AnyLayer NoBigMap x

-- The keys of the overlay strictly increase; where a big map has no base it takes nothing away; no big map is in what it puts; and
-- where it has a base, what it puts holds no ticket.
pub record FormedLayer (b : BigMap-F Value BigMap) : Type 0 where
  pub keys : IsIncreasing (keys_of b.overlay)
  pub puts : b.base ≡ None → AllByRecursion (λ c. is_some c.1 ≡ true) b.overlay
  pub plain : AllByRecursion (λ c. PutsNoBigMap c.1) b.overlay
  pub ticketless : is_some b.base ≡ true → pair_tickets (put_pairs b.overlay) ≡ []

-- each big map in a value has its form
abbrev pub AreFormed : Value → Type 0
AreFormed v = every-Value AnyLayer FormedLayer v
