-- Tickets in the order in which they are printed, with their amounts.
use Rattle.std.specs.Prelude.{◌≡◌, ℕ, ℤ, pos, int_lt, Bool, false, ◌&&◌, if◌then◌else◌, Option, Some, None, List, [], ◌∷◌, unwrap_or}
use Rattle.std.specs.declared.cmp.Ordering.{Ordering}
use Rattle.std.specs.Ordering.{nat_cmp, is_eq}
use Rattle.std.specs.Cmp.Lexicographic.{slice_cmp}
use Rattle.std.specs.BTreeMap.{is_at, insert_entry}
use Rattle.std.specs.Coded.{Coded, coded×, coded_list, coded_ℤ}
use Rattle.std.specs.Map.{lookup}
use Rattle.rules_data.specs.forms.Spelling.{implicit_place}
use Rattle.rules_data.specs.values.Tickets.{Identity}
use Rattle.rules_world.specs.world.World.{identity_order}
use Rattle.mich_forms.specs.declared.places.Place.{Place}
use Rattle.mich_forms.specs.declared.places.Place.TheVariants as place
use Rattle.mich_term.specs.TicketView.{identity}
use Rattle.mich_term.specs.declared.ticket.TicketId.{TicketId}
use Rattle.mich_term.specs.contracts.ticket.TicketId as ticket_id
use Rattle.mich_tickets.specs.Lines.{Lines}
use Rattle.mich_tickets.specs.Owned.{Owned, amount_at}
use Rattle.mich_tickets.specs.declared.line.Line.{Line}

abbrev pub by_print : TicketId → TicketId → Ordering
by_print a b = identity_order (identity a) (identity b)

-- an amount of each ticket
abbrev pub Amounts : Type 0
Amounts = List (TicketId × ℤ)

abbrev pub amounts_code : Coded Amounts
amounts_code = coded_list (coded× ticket_id.the_row.coded coded_ℤ)

-- as they are printed
abbrev pub seen : TicketId × ℤ → Identity × ℤ
seen e = (identity e.0, e.1)

-- whether a key is of a ticket
abbrev pub is_of : Identity → TicketId → Bool
is_of j k = is_eq (identity_order j (identity k))

abbrev pub amount_in : Identity → Amounts → ℤ
amount_in j es = unwrap_or (lookup (is_of j) es) (pos 0)

-- a positive amount of a ticket is written over the one before
abbrev pub with_amount : TicketId → ℤ → Amounts → Amounts
with_amount id n es = if int_lt (pos 0) n then insert_entry by_print es id n else es

-- ---- accounts

-- what each account holds, by the bytes of its key hash
abbrev pub Purses : Type 0
Purses = List (List ℕ × Amounts)

abbrev pub amounts_on : Option Amounts → Amounts
amounts_on (Some es) = es
amounts_on None = []

abbrev pub amounts_of : List ℕ → Purses → Amounts
amounts_of who ps = amounts_on (lookup (is_at (slice_cmp nat_cmp who)) ps)

abbrev pub held_in : Purses → List ℕ → Identity → ℤ
held_in ps who j = amount_in j (amounts_of who ps)

-- ---- what is written line by line

-- a positive amount of a ticket stands for what was there before
abbrev pub written : Identity → TicketId → ℤ → ℤ → ℤ
written j id n before = if is_of j id && int_lt (pos 0) n then n else before

-- so much is written of what an account holds of a ticket
abbrev pub IsWritten : List ℕ → TicketId → ℤ → (before now : Purses) → Type 0
IsWritten who id n before now = (o : List ℕ) (j : Identity)
    → held_in now o j ≡ (if is_at (slice_cmp nat_cmp o) who then written j id n (held_in before o j) else held_in before o j)

-- and of all accounts among the owners of a ticket
abbrev pub AreWritten : TicketId → Owned → (before now : Purses) → Type 0
AreWritten id owners before now = (o : List ℕ) (j : Identity)
    → held_in now o j ≡ written j id (amount_at (implicit_place o) owners) (held_in before o j)

-- an amount of each line, in turn
abbrev pub settled : (Line → ℤ) → Identity → Lines → ℤ → ℤ
settled f j [] n = n
settled f j (e ∷ es) n = settled f j es (written j e.0 (f e.1) n)

-- what an account holds of a line
abbrev pub held_of_line : List ℕ → Line → ℤ
held_of_line who l = amount_at (implicit_place who) l.held

abbrev pub minted_of_line : Line → ℤ
minted_of_line l = l.totals.minted

-- an amount of each owner, in turn
abbrev pub is_account : List ℕ → Place → Bool
is_account who (place.Implicit owner) = is_at (slice_cmp nat_cmp who) owner
is_account who (place.Contract hash) = false

abbrev pub paid : List ℕ → Identity → TicketId → List (Place × ℤ) → ℤ → ℤ
paid who j id [] n = n
paid who j id (e ∷ es) n = paid who j id es (if is_account who e.0 then written j id e.1 n else n)
