-- The rules of the instructions that ask for nothing but the stack, the tickets and what surrounds the run, and what they ask of
-- fitting values besides (Michelson reference, "Instructions").
use Rattle.std.specs.Prelude.{◌≡◌, ℤ, ◌+ℤ◌, ◌≤ℤ◌, true, false, List, [], ◌∷◌}
use Rattle.rules_text.specs.nodes.Limits.{most_minted}
use Rattle.rules_data.specs.forms.Spelling.{implicit_place}
use Rattle.rules_data.specs.values.Val.{Val, bytes, both, ticket}
use Rattle.rules_data.specs.values.Tickets.{Identity, Held, tickets}
use Rattle.rules_code.specs.instructions.Straight.{Straight, OperationRow, TicketRow, on_stack, on_pairs, on_collections, on_numbers, on_operations, on_tickets}
use Rattle.rules_code.specs.instructions.Straight as i
use Rattle.rules_code.specs.steps.Environment.{Environment}
use Rattle.rules_code.specs.steps.Changes.{is_alike}
use Rattle.rules_code.specs.steps.Step.{Step, wrong, kept}
use Rattle.rules_code.specs.steps.Steps.{step}
use Rattle.mich_stack.specs.Ends.{gone}
use Rattle.mich_stack.specs.Keys.{IsKeyOnTop}
use Rattle.mich_step.specs.collections.Keys.{SuitsCollections}
use Rattle.mich_step.specs.Ends.{SuitsStack, SuitsNumbers}

-- an address without an entrypoint is a place, and that of a contract is the contract (Michelson reference, "Operations on contracts")
abbrev pub operation_step : OperationRow → List Val → Step
operation_step i.address (bytes b ∷ V) = kept (bytes b ∷ V)
operation_step i.implicit_account (bytes key_hash ∷ V) = kept (bytes (implicit_place key_hash) ∷ V)
operation_step _ _ = wrong

-- no instruction here tries a literal
abbrev pub rule : Environment → (Identity → ℤ) → Straight → List Val → Step
rule e total (on_operations row) V = operation_step row V
rule e total s V = step e total (λ pending. false) s V

-- tickets that are alike are together at most as many as can be minted
abbrev pub SuitsTickets : TicketRow → List Val → Type 0
SuitsTickets (i.ticket a) V = IsKeyOnTop V
SuitsTickets i.join_tickets (both (ticket issuer k content n) (ticket issuer' k' content' n') ∷ V) =
    is_alike (record { issuer = issuer; kind = k; content = content }) (record { issuer = issuer'; kind = k'; content = content' }) ≡ true →
    (n +ℤ n') ≤ℤ most_minted
SuitsTickets _ V = Unit {0}

abbrev pub Suits : Straight → List Val → Type 0
Suits (on_stack row) V = SuitsStack row V
Suits (on_collections row) V = SuitsCollections row V
Suits (on_numbers row) V = SuitsNumbers row V
Suits (on_tickets row) V = SuitsTickets row V
Suits _ V = Unit {0}

abbrev pub tickets_on_top : List Val → List Held
tickets_on_top [] = []
tickets_on_top (v ∷ V) = tickets v

-- the tickets that an instruction on tickets may burn
abbrev pub ticket_stake : TicketRow → List Val → List Held
ticket_stake i.split_ticket V = tickets_on_top V
ticket_stake i.join_tickets V = tickets_on_top V
ticket_stake _ V = []

-- the tickets that an instruction burns or may burn
abbrev pub at_stake : Environment → (Identity → ℤ) → Straight → List Val → List Held
at_stake e total (on_tickets row) V = ticket_stake row V
at_stake e total s V = gone (rule e total s V)

-- an instruction that burns and mints nothing
abbrev pub IsQuiet : Straight → Type 0
IsQuiet (on_stack row) = ⊥
IsQuiet (on_pairs row) = ⊥
IsQuiet (on_collections row) = ⊥
IsQuiet (on_tickets row) = ⊥
IsQuiet s = Unit {0}
