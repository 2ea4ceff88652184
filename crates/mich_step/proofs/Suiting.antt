-- What instructions ask of fitting values besides holds of stacks that show the same alike.
use Rattle.std.proofs.Common.{◌≡◌, ℕ, zero, suc, ◌&&◌, List, [], ◌∷◌, map, refl, sym, ◌∙◌, subst}
use Rattle.std.specs.Prelude.{◌-◌, Option, Some, None, option_map, slice_get, IfSome}
use Rattle.rules_data.specs.values.Val.{Val, number, some, left, right, both, ticket, is_comparable}
use Rattle.rules_data.specs.values.Tickets.{tickets}
use Rattle.rules_code.specs.instructions.Straight.{Straight, StackRow, CollectionRow, NumberRow, TicketRow, on_stack, on_collections, on_numbers, on_tickets}
use Rattle.rules_code.specs.instructions.Straight as i
use Rattle.mich_stack.specs.Keys.{IsKeyOnTop}
use Rattle.mich_step.specs.collections.Keys.{SuitsCollections}
use Rattle.mich_step.specs.Ends.{SuitsStack, SuitsNumbers}
use Rattle.mich_step.specs.Rule.{Suits, SuitsTickets}
use Rattle.mich_step.specs.Shown.{shown}
use Rattle.mich_step.proofs.Showing.{tickets_shown}

-- ---- what is copied

get_shown : (V : List Val) (n : ℕ) → slice_get (map shown V) n ≡ option_map shown (slice_get V n)
get_shown [] n = refl
get_shown (v ∷ V) zero = refl
get_shown (v ∷ V) (suc n) = get_shown V n

abbrev NoTickets : Option Val → Type 0
NoTickets o = IfSome o (λ v. tickets v ≡ [])

none_down : (o : Option Val) → NoTickets o → NoTickets (option_map shown o)
none_down None h = tt
none_down (Some v) h = tickets_shown v ∙ h

none_up : (o : Option Val) → NoTickets (option_map shown o) → NoTickets o
none_up None h = tt
none_up (Some v) h = sym (tickets_shown v) ∙ h

stack_down : (r : StackRow) (V : List Val) → SuitsStack r V → SuitsStack r (map shown V)
stack_down (i.dup n) V h = subst NoTickets (sym (get_shown V (n - 1))) (none_down (slice_get V (n - 1)) h)
stack_down _ V h = tt

stack_up : (r : StackRow) (V : List Val) → SuitsStack r (map shown V) → SuitsStack r V
stack_up (i.dup n) V h = none_up (slice_get V (n - 1)) (subst NoTickets (get_shown V (n - 1)) h)
stack_up _ V h = tt

-- ---- keys

comparable_shown : (v : Val) → is_comparable (shown v) ≡ is_comparable v
comparable_shown (some v) = comparable_shown v
comparable_shown (left v) = comparable_shown v
comparable_shown (right v) = comparable_shown v
comparable_shown (both v w) = (λ i. comparable_shown v i && comparable_shown w i)
comparable_shown _ = refl

key_down : (V : List Val) → IsKeyOnTop V → IsKeyOnTop (map shown V)
key_down [] h = h
key_down (v ∷ V) h = comparable_shown v ∙ h

key_up : (V : List Val) → IsKeyOnTop (map shown V) → IsKeyOnTop V
key_up [] h = h
key_up (v ∷ V) h = sym (comparable_shown v) ∙ h

collections_down : (r : CollectionRow) (V : List Val) → SuitsCollections r V → SuitsCollections r (map shown V)
collections_down i.mem_set V h = key_down V h
collections_down i.mem_map V h = key_down V h
collections_down i.get_map V h = key_down V h
collections_down i.update_set V h = key_down V h
collections_down i.update_map V h = key_down V h
collections_down i.get_and_update_map V h = key_down V h
collections_down _ V h = tt

collections_up : (r : CollectionRow) (V : List Val) → SuitsCollections r (map shown V) → SuitsCollections r V
collections_up i.mem_set V h = key_up V h
collections_up i.mem_map V h = key_up V h
collections_up i.get_map V h = key_up V h
collections_up i.update_set V h = key_up V h
collections_up i.update_map V h = key_up V h
collections_up i.get_and_update_map V h = key_up V h
collections_up _ V h = tt

-- ---- numbers and tickets stay

numbers_down : (r : NumberRow) (V : List Val) → SuitsNumbers r V → SuitsNumbers r (map shown V)
numbers_down i.lsl (number x ∷ number places ∷ V) h = h
numbers_down i.lsr (number x ∷ number places ∷ V) h = h
numbers_down _ _ h = tt

numbers_up : (r : NumberRow) (V : List Val) → SuitsNumbers r (map shown V) → SuitsNumbers r V
numbers_up i.lsl (number x ∷ number places ∷ V) h = h
numbers_up i.lsr (number x ∷ number places ∷ V) h = h
numbers_up _ _ h = tt

tickets_down : (r : TicketRow) (V : List Val) → SuitsTickets r V → SuitsTickets r (map shown V)
tickets_down (i.ticket a) V h = key_down V h
tickets_down i.join_tickets (both (ticket issuer k content n) (ticket issuer' k' content' n') ∷ V) h = h
tickets_down i.join_tickets _ h = tt
tickets_down _ V h = tt

tickets_up : (r : TicketRow) (V : List Val) → SuitsTickets r (map shown V) → SuitsTickets r V
tickets_up (i.ticket a) V h = key_up V h
tickets_up i.join_tickets (both (ticket issuer k content n) (ticket issuer' k' content' n') ∷ V) h = h
tickets_up i.join_tickets _ h = tt
tickets_up _ V h = tt

-- ---- all

suits_down : (s : Straight) (V : List Val) → Suits s V → Suits s (map shown V)
suits_down (on_stack row) V h = stack_down row V h
suits_down (on_collections row) V h = collections_down row V h
suits_down (on_numbers row) V h = numbers_down row V h
suits_down (on_tickets row) V h = tickets_down row V h
suits_down _ V h = tt

suits_up : (s : Straight) (V : List Val) → Suits s (map shown V) → Suits s V
suits_up (on_stack row) V h = stack_up row V h
suits_up (on_collections row) V h = collections_up row V h
suits_up (on_numbers row) V h = numbers_up row V h
suits_up (on_tickets row) V h = tickets_up row V h
suits_up _ V h = tt

pub suits_same : (s : Straight) (V W : List Val) → map shown V ≡ map shown W → Suits s V → Suits s W
suits_same s V W e h = suits_up s W (subst (Suits s) e (suits_down s V h))
