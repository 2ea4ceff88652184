-- What holds of a world before and after every operation (Michelson reference, "Typing"; Octez "Tickets").
use Rattle.std.specs.Prelude.{◌≡◌, ◌≤◌, ◌<◌, ◌^◌, ◌-◌, ℕ, ◌==◌, true, ℤ, pos, ◌+ℤ◌, ◌-ℤ◌, ◌≤ℤ◌, List, [], ◌∷◌, take}
use Rattle.std.specs.List.{All, list_any}
use Rattle.std.specs.Int.{w64, to_be_bytes}
use Rattle.rules_text.specs.nodes.Limits.{most_mutez}
use Rattle.rules_text.specs.nodes.Tree.{Tree, size}
use Rattle.rules_data.specs.types.Kind.{Kind}
use Rattle.rules_data.specs.types.Attributes.{pushable}
use Rattle.rules_data.specs.values.Val.{Val}
use Rattle.rules_data.specs.values.Tickets.{Identity}
use Rattle.rules_code.specs.instructions.Arguments.{found}
use Rattle.rules_code.specs.typing.Scripts.{Script}
use Rattle.rules_code.specs.typing.Nodes.{script}
use Rattle.rules_data.specs.forms.Spelling.{is_place}
use Rattle.rules_code.specs.typing.Fits.{Known, Fits}
use Rattle.rules_code.specs.steps.Changes.{amount_among, amount_in}
use Rattle.rules_code.specs.evaluation.Surroundings.{Contract}
use Rattle.rules_code.specs.evaluation.Operations.{Operation, transfer, origination, event, Issued, operation_tickets}
use Rattle.rules_code.specs.evaluation.Contracts.{is_contract_of}
use Rattle.rules_world.specs.world.World.{World, contract_at}
use Rattle.rules_world.specs.world.Balances.{supply}
use Rattle.rules_world.specs.world.Holdings.{held, minted_ever, burnt_ever}
use Rattle.rules_world.specs.world.Outcomes.{Waiting, ordered, issued}
use Rattle.rules_world.specs.world.Forms.{IsWorld, IsAction}

-- ---- values

-- an address is one of a contract where the world has such a contract, and an operation was issued where it is one of these
abbrev pub known_with : World → List Issued → Known
known_with w all = record {
  is_contract = λ address a. is_contract_of (contract_at w) a address ≡ true;
  is_issued = λ n. list_any (λ i. i.number == n) all ≡ true;
}

-- a value outside of runs, with no operation in it, has a type
abbrev pub FitsIn : World → Kind → Val → Type 0
FitsIn w a v = Fits (known_with w []) a v

-- ---- contracts and operations

-- a node is a script, and a storage has its type
abbrev pub Stores : World → Tree → Val → Type 0
Stores w t v = (s : Script) × (script t ≡ found s) × (size t < 2 ^ 32) × FitsIn w s.storage v

abbrev pub IsGoodContract : World → List ℕ × Contract → Type 0
IsGoodContract w c = Stores w c.1.script c.1.storage

-- what an operation hands over has its type
abbrev pub IsGoodOperation : World → Operation → Type 0
IsGoodOperation w (transfer argument amount destination) =
    (a : Kind) × (is_contract_of (contract_at w) a destination ≡ true) × FitsIn w a argument × (amount ≤ most_mutez)
IsGoodOperation w (origination delegate amount t storage hash) = Stores w t storage × (amount ≤ most_mutez)
IsGoodOperation w (event tag a v) = (pushable a ≡ true) × FitsIn w a v

abbrev pub IsGoodWaiting : World → Waiting → Type 0
IsGoodWaiting w (ordered action) = IsAction action
IsGoodWaiting w (issued sender op) = (is_place sender ≡ true) × IsGoodOperation w op

-- the amount of tickets of an identity in operations that wait
abbrev pub amount_waiting : Identity → List Waiting → ℤ
amount_waiting id [] = pos 0
amount_waiting id (ordered action ∷ waiting) = amount_waiting id waiting
amount_waiting id (issued sender op ∷ waiting) = amount_among id (operation_tickets op) +ℤ amount_waiting id waiting

-- ---- worlds

pub record IsSound (w : World) : Type 0 where
  pub form : IsWorld w
  -- each script is one, and each storage has its type
  pub contracts : All (IsGoodContract w) w.contracts
  -- minted totals are ints
  pub minted : (id : Identity) → minted_ever w id ≤ℤ pos (2 ^ 127 - 1)
  -- there is no more mutez than an amount may be
  pub mutez : supply w ≤ most_mutez

-- a world in which these operations wait
pub record IsGood (w : World) (waiting : List Waiting) : Type 0 where
  pub sound : IsSound w
  -- what operations hand over has its type
  pub waits : All (IsGoodWaiting w) waiting
  -- what is held and what is under way is what was minted less what was burnt
  pub tickets : (id : Identity) → held w id +ℤ amount_waiting id waiting ≡ minted_ever w id -ℤ burnt_ever w id

-- a world in which a contract may run on an argument, while operations may wait
pub record MayRun (w : World) (argument : Val) : Type 0 where
  pub sound : IsSound w
  -- what is held and what is handed over is no more than is left of what was minted
  pub tickets : (id : Identity) → (held w id +ℤ amount_in id argument) ≤ℤ (minted_ever w id -ℤ burnt_ever w id)

-- no contract of the world was made by the group of this number
abbrev pub IsNewGroup : ℕ → World → Type 0
IsNewGroup number w = All (λ c. ¬ (take 8 c.0 ≡ to_be_bytes w64 number)) w.contracts
