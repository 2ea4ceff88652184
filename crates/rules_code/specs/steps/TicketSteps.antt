-- Tickets (Michelson reference, "Operations on tickets"; Octez "Tickets").
use Rattle.std.specs.Prelude.{ℕ, zero, suc, ℤ, pos, ◌+ℤ◌, int_le, int_lt, Bool, ◌&&◌, List, [], ◌∷◌, if◌then◌else◌}
use Rattle.std.specs.Ordering.{int_eq}
use Rattle.rules_text.specs.nodes.Limits.{most_minted}
use Rattle.rules_data.specs.forms.Spelling.{contract_place}
use Rattle.rules_data.specs.types.Kind.{Kind}
use Rattle.rules_data.specs.values.Val.{Val, number, bytes, nothing, some, both, ticket}
use Rattle.rules_data.specs.values.Tickets.{Identity, Held}
use Rattle.rules_code.specs.instructions.Straight.{TicketRow}
use Rattle.rules_code.specs.instructions.Straight as i
use Rattle.rules_code.specs.steps.Failure as f
use Rattle.rules_code.specs.steps.Environment.{Environment}
use Rattle.rules_code.specs.steps.Changes.{minted, identity_of, is_alike}
use Rattle.rules_code.specs.steps.Step.{Step, done, fails, wrong, kept, discarding}

-- a ticket as a value
abbrev pub as_value : Held → Val
as_value t = ticket t.issuer t.kind t.content t.amount

-- a new ticket, of which so much was minted before
abbrev pub mint : ℤ → Held → List Val → Step
mint before t V =
    if int_le (before +ℤ t.amount) most_minted then done (some (as_value t) ∷ V) (minted t ∷ []) else fails f.integer_limit

-- the amount 0 makes no ticket
abbrev pub ticket_step_of : List ℕ → (Identity → ℤ) → Kind → Val → ℕ → List Val → Step
ticket_step_of issuer total a content zero V = kept (nothing ∷ V)
ticket_step_of issuer total a content (suc n) V =
    let t : Held = record { issuer = issuer; kind = a; content = content; amount = pos (suc n) } in
    mint (total (identity_of t)) t V

-- whether two positive amounts are the parts of a third
abbrev pub are_parts : ℤ → ℤ → ℤ → Bool
are_parts a b n = int_lt (pos 0) a && int_lt (pos 0) b && int_eq (a +ℤ b) n

-- two tickets of one, or none, where that one is discarded
abbrev pub split : Held → ℤ → ℤ → List Val → Step
split t a b V =
    if are_parts a b t.amount
    then kept (some (both (as_value (record t { amount = a })) (as_value (record t { amount = b }))) ∷ V)
    else discarding (as_value t ∷ []) (nothing ∷ V)

-- one ticket of two that are alike, or none, where both are discarded
abbrev pub join : Held → Held → List Val → Step
join t u V =
    if is_alike (identity_of t) (identity_of u)
    then kept (some (as_value (record t { amount = t.amount +ℤ u.amount })) ∷ V)
    else discarding (as_value t ∷ as_value u ∷ []) (nothing ∷ V)

-- `total` is what was ever minted of an identity
abbrev pub ticket_step : Environment → (Identity → ℤ) → TicketRow → List Val → Step
ticket_step e total (i.ticket a) (content ∷ number (pos n) ∷ V) = ticket_step_of (contract_place e.own) total a content n V
ticket_step e total i.read_ticket (ticket issuer a content n ∷ V) =
    kept (both (bytes issuer) (both content (number n)) ∷ ticket issuer a content n ∷ V)
ticket_step e total i.split_ticket (ticket issuer k content n ∷ both (number a) (number b) ∷ V) =
    split (record { issuer = issuer; kind = k; content = content; amount = n }) a b V
ticket_step e total i.join_tickets (both (ticket issuer k content n) (ticket issuer' k' content' n') ∷ V) =
    join
    (record { issuer = issuer; kind = k; content = content; amount = n })
    (record { issuer = issuer'; kind = k'; content = content'; amount = n' })
    V
ticket_step e total _ _ = wrong
