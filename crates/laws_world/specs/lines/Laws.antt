-- Laws of what is told of tickets (Octez "Tickets").
use Rattle.std.specs.Prelude.{◌≡◌, ℤ, pos, ◌<ℤ◌, true, List, map, unwrap_or}
use Rattle.std.specs.BTreeMap.{is_at}
use Rattle.std.specs.List.{AllByRecursion}
use Rattle.std.specs.List.Sorted.{IsStrictlySortedBy}
use Rattle.std.specs.Map.{lookup, keys_of}
use Rattle.rules_data.specs.values.Tickets.{Identity}
use Rattle.rules_data.specs.values.Val.{is_comparable}
use Rattle.rules_world.specs.world.World.{World, identity_order}
use Rattle.rules_world.specs.world.Holdings.{minted_ever, identities}
use Rattle.rules_world.specs.world.Forms.{IsWorld}

-- the amount that a list tells of a ticket, 0 where it tells none
abbrev pub amount_told : Identity → List (Identity × ℤ) → ℤ
amount_told id es = unwrap_or (lookup (is_at (identity_order id)) es) (pos 0)

-- positive amounts, each of another ticket, in the order of tickets
pub record AreInOrder (es : List (Identity × ℤ)) : Type 0 where
  pub order : IsStrictlySortedBy identity_order (keys_of es)
  pub positive : AllByRecursion (λ e. pos 0 <ℤ e.1) es

-- the tickets that are printed of a world, with what was minted of them
abbrev pub told : World → List (Identity × ℤ)
told w = map (λ j. (j, minted_ever w j)) (identities w.log)

-- what was minted of each ticket is told, in order
abbrev pub TicketsAreTold : Type 0
TicketsAreTold = (w : World) → IsWorld w → AreInOrder (told w) × ((id : Identity) → amount_told id (told w) ≡ minted_ever w id)

-- lists that tell the same of each ticket are one
abbrev pub OneTelling : Type 0
OneTelling = (es fs : List (Identity × ℤ)) → AreInOrder es → AreInOrder fs → AllByRecursion (λ f. is_comparable f.0.content ≡ true) fs
    → ((id : Identity) → amount_told id es ≡ amount_told id fs) → es ≡ fs
