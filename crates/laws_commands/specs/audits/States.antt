-- The lines of a world at its end, whose amounts are in their ranges.
use Rattle.std.specs.Prelude.{◌≡◌, ◌++◌, ℕ, ℤ, pos, true, is_some, List, map, Some}
use Rattle.std.specs.List.{AllByRecursion}
use Rattle.rules_data.specs.forms.Spelling.{is_place}
use Rattle.rules_data.specs.values.Canonical.{canonical}
use Rattle.rules_data.specs.values.Forms.{is_ticket_amount}
use Rattle.rules_data.specs.values.Tickets.{Identity, tickets}
use Rattle.rules_code.specs.evaluation.Surroundings.{Contract}
use Rattle.rules_world.specs.world.World.{World, Account}
use Rattle.rules_world.specs.world.Balances.{supply}
use Rattle.rules_world.specs.world.Holdings.{held, minted_ever, burnt_ever, identities}
use Rattle.rules_world.specs.lines.Nodes.{state_nodes}
use Rattle.rules_audit.specs.Fields.{tickets_in}
use Rattle.rules_audit.specs.Lines.{Line, line_of}
use Rattle.laws_commands.specs.audits.Told.{told}
use Rattle.laws_commands.specs.audits.ToldLines.{account_line, contract_line, ticket_line, end_lines}
use Rattle.laws_commands.specs.audits.Receipts.{IsAmount}

abbrev pub IsToldHolding : Identity × ℤ → Type 0
IsToldHolding h = (is_place h.0.issuer ≡ true) × (is_ticket_amount h.1 ≡ true)

abbrev pub IsToldAccount : List ℕ × Account → Type 0
IsToldAccount a = IsAmount a.1.balance × AllByRecursion IsToldHolding a.1.holdings

-- its storage's literal tells the tickets in it
abbrev pub IsToldContract : List ℕ × Contract → Type 0
IsToldContract c = IsAmount c.1.balance × (tickets_in (canonical c.1.storage) ≡ Some (map told (tickets c.1.storage)))

abbrev pub IsCount : ℤ → Type 0
IsCount z = (n : ℕ) × (z ≡ pos n) × IsAmount n

abbrev pub IsToldTicket : World → Identity → Type 0
IsToldTicket w id = (is_place id.issuer ≡ true) × IsCount (minted_ever w id) × IsCount (burnt_ever w id) × IsCount (held w id)

pub record IsToldWorld (w : World) : Type 0 where
  pub accounts : AllByRecursion IsToldAccount w.accounts
  pub contracts : AllByRecursion IsToldContract w.contracts
  pub tickets : AllByRecursion (IsToldTicket w) (identities w.log)
  pub fees : IsAmount w.fees
  pub storage_burn : IsAmount w.storage_burn
  pub supply : IsAmount (supply w)

abbrev pub state_lines : World → List Line
state_lines w = map account_line w.accounts ++ (map (contract_line (is_some w.rate)) w.contracts ++ (map (ticket_line w) (identities w.log) ++ end_lines w))

-- each line of the world is told, in their order
abbrev pub StateLinesAreTold : Type 0
StateLinesAreTold = (w : World) → IsToldWorld w → map line_of (state_nodes w) ≡ map (λ l. Some l) (state_lines w)
