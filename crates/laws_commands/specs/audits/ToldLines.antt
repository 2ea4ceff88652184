-- The lines that are told of a run.
use Rattle.std.specs.Prelude.{◌≡◌, ◌++◌, ◌+◌, ℕ, ℤ, pos, Bool, true, Option, Some, None, is_some, List, [], ◌∷◌, map, unsigned_abs}
use Rattle.rules_data.specs.types.Printing.{node_of}
use Rattle.rules_data.specs.values.Canonical.{canonical}
use Rattle.rules_data.specs.values.Tickets.{Held, tickets}
use Rattle.rules_data.specs.values.Tickets as values
use Rattle.rules_code.specs.steps.Changes.{Change}
use Rattle.rules_code.specs.steps.Changes as changes
use Rattle.rules_code.specs.evaluation.Surroundings.{Contract}
use Rattle.rules_world.specs.world.Receipts.{Receipt}
use Rattle.rules_world.specs.world.World.{World, Account}
use Rattle.rules_world.specs.world.Balances.{supply}
use Rattle.rules_world.specs.world.Holdings.{held, minted_ever, burnt_ever, identities}
use Rattle.rules_audit.specs.Fields.{Identity, identity, Sort, minted, burnt, Part, part}
use Rattle.rules_audit.specs.Fields as fields
use Rattle.rules_audit.specs.Lines.{Line, group, account, contract, fees}
use Rattle.rules_audit.specs.Lines as lines
use Rattle.rules_audit.specs.Verdicts.{all_mutez, supply_agrees}
use Rattle.laws_commands.specs.audits.Told.{told}
use Rattle.laws_commands.specs.audits.Changes.{BurnsAtRate, receipt_changes}

-- ---- parts

abbrev pub identity_of : values.Identity → Identity
identity_of id = identity id.issuer (node_of id.kind) (canonical id.content)

abbrev pub part_of : Sort → Held → Part
part_of sort t = part sort (identity t.issuer (node_of t.kind) (canonical t.content)) (unsigned_abs t.amount)

abbrev pub change_part : Change → Part
change_part (changes.minted t) = part_of minted t
change_part (changes.burnt t) = part_of burnt t

abbrev pub holding_part : values.Identity × ℤ → Part
holding_part h = part fields.held (identity_of h.0) (unsigned_abs h.1)

-- ---- lines

abbrev pub group_lines : ℕ → List Receipt → List Line
group_lines n [] = []
group_lines n (r ∷ rs) = group (pos n) (map change_part (receipt_changes r)) ∷ group_lines (n + 1) rs

abbrev pub account_line : List ℕ × Account → Line
account_line a = account a.1.balance (map holding_part a.1.holdings)

-- which has a fourth argument where there is a rate
abbrev pub contract_line : Bool → List ℕ × Contract → Line
contract_line rated c = contract c.1.balance (map told (tickets c.1.storage)) rated

abbrev pub ticket_line : World → values.Identity → Line
ticket_line w id =
    lines.tickets (identity_of id) (unsigned_abs (minted_ever w id)) (unsigned_abs (burnt_ever w id)) (unsigned_abs (held w id))

abbrev pub burn_lines : Option ℕ → ℕ → List Line
burn_lines (Some rate) burn = lines.storage_burn burn ∷ []
burn_lines None burn = []

abbrev pub end_lines : World → List Line
end_lines w = fees w.fees ∷ (burn_lines w.rate w.storage_burn ++ lines.supply (supply w) ∷ [])

abbrev pub told_lines : List Receipt → World → List Line
told_lines rs w =
    group_lines 1 rs ++ (map account_line w.accounts ++ (map (contract_line (is_some w.rate)) w.contracts ++ (map (ticket_line w) (identities w.log) ++ end_lines w)))

-- the supply that is told is the sum of what is told of accounts, contracts, fees and burns
abbrev pub ToldSupplyAgrees : Type 0
ToldSupplyAgrees = (rs : List Receipt) (w : World) → BurnsAtRate w → (all_mutez (told_lines rs w) ≡ supply w) × (supply_agrees (told_lines rs w) ≡ true)
