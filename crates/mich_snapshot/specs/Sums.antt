-- How much was found of each ticket that has a total.
use Rattle.std.specs.Prelude.{◌≡◌, ◌+◌, ◌-◌, ◌^◌, min, ℕ, ℤ, pos, Bool, true, false, ◌&&◌, is_some, List, [], ◌∷◌, Option, Some, None, Result, IfOk, fold, unsigned_abs, if◌then◌else◌}
use Rattle.std.specs.List.{list_all}
use Rattle.std.specs.Map.{lookup}
use Rattle.std.specs.Ordering.{int_eq}
use Rattle.rules_code.specs.steps.Changes.{identity_of, is_alike}
use Rattle.rules_code.specs.evaluation.Surroundings.{Contract}
use Rattle.rules_data.specs.values.Tickets.{Held, Identity, tickets}
use Rattle.rules_world.specs.world.World.{Account}
use Rattle.rules_files.specs.snapshots.State.{State}
use Rattle.rules_files.specs.snapshots.Rules.{has_total}
use Rattle.mich_base.specs.declared.memory.Memory.{Memory}
use Rattle.mich_term.specs.declared.ticket.TicketId.{TicketId}
use Rattle.mich_tickets.specs.Lines.{is_of}

abbrev pub Sums : Type 0
Sums = List (TicketId × ℕ)

-- of a ticket that has a total so much was found, counted up to 2^128 - 1
abbrev pub IsFound : Bool → ℕ → Option ℕ → Type 0
IsFound there amount None = there ≡ false
IsFound there amount (Some n) = (there ≡ true) × (n ≡ min amount (2 ^ 128 - 1))

abbrev pub AreFound : State → (Identity → ℕ) → Sums → Type 0
AreFound s found es = (j : Identity) → IsFound (has_total s j) (found j) (lookup (is_of j) es)

-- a test, and what was found where it passes
abbrev pub Finds : State → Bool → (Identity → ℕ) → Sums → Bool → Type 0
Finds s holds found es b = (b ≡ holds) × (b ≡ true → AreFound s found es)

-- each of these tickets has a total
abbrev pub have_totals : State → List Held → Bool
have_totals s ts = list_all (λ t. has_total s (identity_of t)) ts

-- with more of one ticket
abbrev pub more : (Identity → ℕ) → Identity → ℤ → Identity → ℕ
more found id amount j = found j + (if is_alike j id then unsigned_abs amount else 0)

-- with more of several
abbrev pub more_held : (Identity → ℕ) → List (Identity × ℤ) → Identity → ℕ
more_held found [] = found
more_held found (h ∷ hs) = more_held (more found h.0 h.1) hs

abbrev pub more_tickets : (Identity → ℕ) → List Held → Identity → ℕ
more_tickets found [] = found
more_tickets found (t ∷ ts) = more_tickets (more found (identity_of t) t.amount) ts

-- with what an account holds, and with what a contract stores
abbrev pub more_account : (Identity → ℕ) → List ℕ × Account → Identity → ℕ
more_account found a = more_held found a.1.holdings

abbrev pub more_contract : (Identity → ℕ) → List ℕ × Contract → Identity → ℕ
more_contract found c = more_tickets found (tickets c.1.storage)

abbrev pub nothing : Identity → ℕ
nothing j = 0

-- what all accounts hold and all contracts store
abbrev pub found_in : List (List ℕ × Account) → List (List ℕ × Contract) → Identity → ℕ
found_in accounts contracts = fold more_contract (fold more_account nothing accounts) contracts

-- ---- whatever was found before, of the tickets of whatever state

-- the test of the state, and what is found with more where it passes
abbrev pub FindsMore : Sums → Sums → (State → Bool) → ((Identity → ℕ) → Identity → ℕ) → Bool → Type 0
FindsMore old new holds add b = (s : State) (found : Identity → ℕ) → AreFound s found old → Finds s (holds s) (add found) new b

-- so where there is memory
abbrev pub TriesMore : Sums → Sums → (State → Bool) → ((Identity → ℕ) → Identity → ℕ) → Result Bool Memory → Type 0
TriesMore old new holds add r = (s : State) (found : Identity → ℕ) → AreFound s found old → IfOk r (Finds s (holds s) (add found) new)

-- and where something comes of a test that passes
abbrev pub TriesFor : {A : Type 0} → Sums → Sums → (State → Bool) → ((Identity → ℕ) → Identity → ℕ) → Result (Option A) Memory → Type 0
TriesFor old new holds add r = (s : State) (found : Identity → ℕ) → AreFound s found old → IfOk r (λ o. Finds s (holds s) (add found) new (is_some o))

-- more of a ticket that has a total, and of several
abbrev pub FindsTicket : Sums → Sums → Identity → ℤ → Bool → Type 0
FindsTicket old new id amount b = FindsMore old new (λ s. has_total s id) (λ found. more found id amount) b

abbrev pub FindsTickets : Sums → Sums → List Held → Bool → Type 0
FindsTickets old new ts b = FindsMore old new (λ s. have_totals s ts) (λ found. more_tickets found ts) b

-- so much was found of a ticket that has a total
abbrev pub is_found : State → (Identity → ℕ) → Identity → ℤ → Bool
is_found s found id amount = has_total s id && int_eq (pos (found id)) amount
