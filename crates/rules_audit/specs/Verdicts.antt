-- Whether the numbers of a text agree: the supply, then each ticket in the order of its lines, then that each ticket has
-- a line. Sums have no limit.
use Rattle.std.specs.Prelude.{ℕ, ◌+◌, ◌==◌, ◌&&◌, Bool, true, false, if◌then◌else◌, List, [], ◌∷◌, ◌++◌, Some, None}
use Rattle.std.specs.declared.option.Option.{Option}
use Rattle.std.specs.List.{list_all, list_any}
use Rattle.rules_audit.specs.Fields.{Identity, Sort, minted, burnt, held, Part}
use Rattle.rules_audit.specs.Lines.{Line, group, account, contract, tickets, fees, storage_burn, supply}
use Rattle.rules_audit.specs.Form.{same_identity, is_of}

-- ---- mutez

-- what a line counts towards the supply
abbrev pub mutez_in : Line → ℕ
mutez_in (account b ps) = b
mutez_in (contract b ps fourth) = b
mutez_in (fees n) = n
mutez_in (storage_burn n) = n
mutez_in l = 0

abbrev pub all_mutez : List Line → ℕ
all_mutez [] = 0
all_mutez (l ∷ ls) = mutez_in l + all_mutez ls

-- a line that tells the supply tells this
abbrev pub tells_supply : ℕ → Line → Bool
tells_supply n (supply m) = m == n
tells_supply n l = true

abbrev pub supply_agrees : List Line → Bool
supply_agrees ls = list_all (tells_supply (all_mutez ls)) ls

-- ---- tickets

abbrev pub parts_in : Line → List Part
parts_in (group n ps) = ps
parts_in (account b ps) = ps
parts_in (contract b ps fourth) = ps
parts_in l = []

abbrev pub all_parts : List Line → List Part
all_parts [] = []
all_parts (l ∷ ls) = parts_in l ++ all_parts ls

abbrev pub same_sort : Sort → Sort → Bool
same_sort minted minted = true
same_sort burnt burnt = true
same_sort held held = true
same_sort s t = false

abbrev pub amount_of : Sort → Identity → Part → ℕ
amount_of s id p = if same_sort s p.sort && same_identity id p.identity then p.amount else 0

-- how much the parts tell of a ticket
abbrev pub total : Sort → Identity → List Part → ℕ
total s id [] = 0
total s id (p ∷ ps) = amount_of s id p + total s id ps

-- what was minted is held or was burnt, and all three are the sums of the parts
abbrev pub ticket_agrees : List Part → Identity → ℕ → ℕ → ℕ → Bool
ticket_agrees ps id m b h =
    (m == total minted id ps) && ((b == total burnt id ps) && ((h == total held id ps) && (m == h + b)))

-- the number of the first line of a ticket that doesn't agree; the first of these lines has a number
abbrev pub first_wrong : List Part → ℕ → List Line → Option ℕ
first_wrong ps k [] = None
first_wrong ps k (tickets id m b h ∷ ls) = if ticket_agrees ps id m b h then first_wrong ps (k + 1) ls else Some k
first_wrong ps k (l ∷ ls) = first_wrong ps k ls

abbrev pub has_line : List Line → Part → Bool
has_line ls p = list_any (is_of p.identity) ls

-- ---- verdicts

pub data Verdict : Type 0 where
  agrees : Verdict
  is_bad_form : ℕ → Verdict
  differs_supply : Verdict
  differs_tickets : ℕ → Verdict
  differs_missing : Verdict

abbrev pub unless_missing : List Line → Verdict
unless_missing ls = if list_all (has_line ls) (all_parts ls) then agrees else differs_missing

abbrev pub unless_wrong : Option ℕ → List Line → Verdict
unless_wrong (Some k) ls = differs_tickets k
unless_wrong None ls = unless_missing ls

-- the verdict on lines in their order
abbrev pub verdict : List Line → Verdict
verdict ls = if supply_agrees ls then unless_wrong (first_wrong (all_parts ls) 1 ls) ls else differs_supply
