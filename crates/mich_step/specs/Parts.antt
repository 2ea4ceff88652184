-- Parts of pairs and combs.
use Rattle.std.specs.Prelude.{◌≡◌, ℕ, List, ◌∷◌, ◌++◌, Option, Some, None, option_map, flat_map}
use Rattle.rules_data.specs.values.Val.{Val, number, bytes, both, ticket}
use Rattle.rules_data.specs.values.Tickets.{Held, tickets}
use Rattle.rules_code.specs.steps.Stack.{Part, Replaced, parts}
use Rattle.mich_forms.specs.Spelled.{place_bytes}
use Rattle.mich_term.specs.View.{datum}
use Rattle.mich_term.specs.declared.ticket.Ticket.{Ticket}
use Rattle.mich_term.specs.declared.value.Value.{Value}
use Rattle.mich_stack.specs.Views.{Sight, seen, values}

abbrev pub IsPair : Val → Type 0
IsPair (both v w) = Unit {0}
IsPair _ = ⊥

-- the part that was found, and the tickets in what was passed and what stands behind it
abbrev pub IsPart : Option Part → Val → List Held → Type 0
IsPart (Some p) found ts = (p.found ≡ found) × (flat_map tickets (p.before ++ p.behind) ≡ ts)
IsPart None found ts = ⊥

-- so many parts of a comb, and the rest of it, stand on top of what was there, however big maps are seen
abbrev pub ArePartsOnTop : ℕ → Value → List Value → List Value → Type 0
ArePartsOnTop others comb old new = (big : Sight) → option_map (λ vs. vs ++ values big old) (parts others (seen big comb)) ≡ Some (values big new)

-- a comb with another part in a place, and the part that stood there
abbrev pub IsReplaced : Option Replaced → Val → Val → Type 0
IsReplaced (Some r) comb old = (r.comb ≡ comb) × (r.old ≡ old)
IsReplaced None comb old = ⊥

abbrev pub IsNumber : Val → Type 0
IsNumber (number n) = Unit {0}
IsNumber _ = ⊥

abbrev pub IsTicket : Val → Type 0
IsTicket (ticket issuer k content n) = Unit {0}
IsTicket _ = ⊥

-- what a ticket tells: its issuer, its content and its amount
abbrev pub ticket_parts : Ticket → Val
ticket_parts t = both (bytes (place_bytes t.id.issuer)) (both (datum t.id.content) (number t.amount))

-- two numbers stand in a pair on top, or two tickets
abbrev pub IsAmountsOnTop : List Val → Type 0
IsAmountsOnTop (both (number a) (number b) ∷ V) = Unit {0}
IsAmountsOnTop _ = ⊥

abbrev pub IsTicketsOnTop : List Val → Type 0
IsTicketsOnTop (both (ticket issuer k content n) (ticket issuer' k' content' n') ∷ V) = Unit {0}
IsTicketsOnTop _ = ⊥
