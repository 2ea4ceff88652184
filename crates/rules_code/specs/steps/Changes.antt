-- Tickets that come to be and cease to be (Octez "Tickets").
use Rattle.std.specs.Prelude.{ℤ, pos, ◌+ℤ◌, Bool, ◌&&◌, List, [], ◌∷◌, map, if◌then◌else◌}
use Rattle.std.specs.Ordering.{is_eq}
use Rattle.std.specs.Str.{bytes_eq}
use Rattle.rules_data.specs.values.Val.{Val}
use Rattle.rules_data.specs.values.Tickets.{Identity, Held, tickets}
use Rattle.rules_data.specs.values.Order.{order}
use Rattle.rules_code.specs.instructions.Same.{same_kind}

-- a ticket was made, or ceased to be
pub data Change : Type 0 where
  minted : Held → Change
  burnt : Held → Change

-- tickets that are discarded, in order
abbrev pub burns : List Held → List Change
burns held = map burnt held

-- the identity of a ticket
abbrev pub identity_of : Held → Identity
identity_of t = record { issuer = t.issuer; kind = t.kind; content = t.content }

-- whether tickets are alike
abbrev pub is_alike : Identity → Identity → Bool
is_alike a b = bytes_eq a.issuer b.issuer && same_kind a.kind b.kind && is_eq (order a.content b.content)

-- the amount of tickets of an identity, where it is that of this one
abbrev pub amount_of : Identity → Held → ℤ
amount_of id t = if is_alike id (identity_of t) then t.amount else pos 0

-- the amount of an identity among tickets, and in a value
abbrev pub amount_among : Identity → List Held → ℤ
amount_among id [] = pos 0
amount_among id (t ∷ ts) = amount_of id t +ℤ amount_among id ts

abbrev pub amount_in : Identity → Val → ℤ
amount_in id v = amount_among id (tickets v)

-- the amounts minted, and burnt, of an identity
abbrev pub minted_in : Identity → List Change → ℤ
minted_in id [] = pos 0
minted_in id (minted t ∷ changes) = amount_of id t +ℤ minted_in id changes
minted_in id (burnt t ∷ changes) = minted_in id changes

abbrev pub burnt_in : Identity → List Change → ℤ
burnt_in id [] = pos 0
burnt_in id (minted t ∷ changes) = burnt_in id changes
burnt_in id (burnt t ∷ changes) = amount_of id t +ℤ burnt_in id changes
