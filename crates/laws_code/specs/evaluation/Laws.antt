-- The laws of evaluation (Michelson reference, "Semantics" and "Typing"; Octez "Tickets").
use Rattle.std.specs.Prelude.{◌≡◌, ◌≤◌, ◌<◌, ◌+◌, ◌^◌, ◌-◌, ℕ, ◌==◌, true, ℤ, pos, neg_ℤ, ◌+ℤ◌, ◌≤ℤ◌, List, [], ◌∷◌, length, Some}
use Rattle.std.specs.List.{All, list_any}
use Rattle.rules_text.specs.nodes.Limits.{type_limit}
use Rattle.rules_text.specs.nodes.Tree.{Tree, size}
use Rattle.rules_data.specs.forms.Spelling.{IsKeyHash, IsPlace}
use Rattle.rules_data.specs.declared.gas.Kind.{Kind as Priced}
use Rattle.rules_data.specs.gas.Prices.{Listed, price_of}
use Rattle.rules_data.specs.types.Kind.{Kind, nodes}
use Rattle.rules_code.specs.instructions.Arguments.{found}
use Rattle.rules_code.specs.instructions.Context.{Context, main, view, lambda}
use Rattle.rules_data.specs.values.Val.{Val}
use Rattle.rules_data.specs.values.Tickets.{Identity}
use Rattle.rules_code.specs.typing.Typing.{Typing, goes, fails, bad}
use Rattle.rules_code.specs.typing.Scripts.{Script}
use Rattle.rules_code.specs.typing.Nodes.{tree_type, script}
use Rattle.rules_code.specs.typing.Fits.{Known, Fits, AllFit}
use Rattle.rules_code.specs.steps.Changes.{amount_among, amount_in, minted_in, burnt_in}
use Rattle.rules_code.specs.steps.Environment.{Environment}
use Rattle.rules_code.specs.evaluation.Surroundings.{Contract, Surroundings}
use Rattle.rules_code.specs.evaluation.Operations.{Issued, Tally, operation_tickets}
use Rattle.rules_code.specs.evaluation.Contracts.{Lookup, is_contract_of}
use Rattle.rules_code.specs.evaluation.Outcome.{Outcome, stack, failed, stuck}
use Rattle.rules_code.specs.evaluation.Evaluation.{Task, task_run, eval_task, eval}
use Rattle.laws_data.specs.types.Laws.{IsWellFormed}

-- ---- gas

-- each kind has a base of at least 1
abbrev pub IsCharged : Listed → Type 0
IsCharged prices = (kind : Priced) → 1 ≤ (price_of prices kind).base

abbrev pub LeftAtMost : ℕ → Outcome → Type 0
LeftAtMost gas (stack A V m) = m.gas ≤ gas
LeftAtMost gas (failed f) = Unit {0}
LeftAtMost gas stuck = Unit {0}

-- The evaluation is what its own step says, with itself for what is left: no level of it shows.
abbrev pub IsItsStep : Type 0
IsItsStep = (t : Task) (e : Surroundings) → IsCharged e.prices → (d : ℕ) (A : List Kind) (V : List Val) (m : Tally) →
    eval_task t e d A V m ≡ task_run eval_task t e d A V m

-- No outcome has more gas than there was.
abbrev pub GasFalls : Type 0
GasFalls = (t : Task) (e : Surroundings) → IsCharged e.prices → (d : ℕ) (A : List Kind) (V : List Val) (m : Tally) →
    LeftAtMost m.gas (eval_task t e d A V m)

-- ---- what is known of a run, and what it must begin with

-- an address is one of a contract where the contract is in the world, and an operation was issued where it is one of these
abbrev pub known : Lookup → List Issued → Known
known contract_at issued = record {
  is_contract = λ address a. is_contract_of contract_at a address ≡ true;
  is_issued = λ n. list_any (λ i. i.number == n) issued ≡ true;
}

-- types as they are read from nodes
abbrev pub IsType : Kind → Type 0
IsType a = IsWellFormed a × (nodes a ≤ type_limit)

-- amounts of mutez, and numbers of tickets (Michelson reference, "mutez"; Octez "Tickets")
abbrev pub most_mutez : ℕ
most_mutez = 2 ^ 63 - 1

abbrev pub most_tickets : ℤ
most_tickets = pos (2 ^ 127 - 1)

-- a contract: its script is one, its storage has its type, and holds no more tickets than were minted
pub record IsGoodContract (e : Surroundings) (c : Contract) : Type 0 where
  pub reading : Script
  pub is_script : script c.script ≡ found reading
  pub small : size c.script < 2 ^ 32
  pub fits : Fits (known e.contract_at []) reading.storage c.storage
  pub balance : c.balance ≤ most_mutez
  pub tickets : (id : Identity) → amount_in id c.storage ≤ℤ e.minted id

-- in the code of a script the entrypoints are those of the contract
abbrev pub IsOwnContext : Context → Contract → Type 0
IsOwnContext (main entries) c = (s : Script) × (script c.script ≡ found s) × (entries ≡ s.entries)
IsOwnContext view c = Unit {0}
IsOwnContext lambda c = Unit {0}

-- what instructions read has the forms and the ranges of its types
pub record IsGoodEnvironment (e : Environment) : Type 0 where
  pub chain : length e.chain ≡ 4
  pub level : e.level < 2 ^ 32
  pub moment : (neg_ℤ (pos (2 ^ 63)) ≤ℤ e.moment) × (e.moment ≤ℤ pos (2 ^ 63 - 1))
  pub source : IsKeyHash e.source
  pub sender : IsPlace e.sender
  pub own : length e.own ≡ 20
  pub amount : e.amount ≤ most_mutez
  pub balance : e.balance ≤ most_mutez

pub record IsGood (e : Surroundings) : Type 0 where
  pub environment : IsGoodEnvironment e.environment
  pub group : e.group < 2 ^ 64
  -- the contract whose code runs is one of the world, all of whose contracts are good
  pub own : (c : Contract) × (e.contract_at e.environment.own ≡ Some c) × IsOwnContext e.context c
  pub contracts : (hash : List ℕ) (c : Contract) → e.contract_at hash ≡ Some c → IsGoodContract e c
  pub minted : (id : Identity) → pos 0 ≤ℤ e.minted id

-- how many operations there may be, and how many originations, of which a group has up to 1,000 of its own; and what was
-- minted so far isn't negative
pub record IsGoodTally (m : Tally) : Type 0 where
  pub operations : m.operations ≤ 65535
  pub originations : m.originations ≤ m.operations + 1000
  pub mints : (id : Identity) → pos 0 ≤ℤ minted_in id m.changes

-- ---- tickets

-- the amount of an identity in the values of a stack, and in operations
abbrev pub amount_on : Identity → List Val → ℤ
amount_on id [] = pos 0
amount_on id (v ∷ V) = amount_in id v +ℤ amount_on id V

abbrev pub amount_issued : Identity → List Issued → ℤ
amount_issued id [] = pos 0
amount_issued id (i ∷ issued) = amount_among id (operation_tickets i.operation) +ℤ amount_issued id issued

-- what was ever minted, before the run and in it
abbrev pub minted_by : Surroundings → Tally → Identity → ℤ
minted_by e m id = e.minted id +ℤ minted_in id m.changes

-- no more was ever minted than there may be, and no more is on the stack
abbrev pub AreTicketsWithin : Surroundings → Tally → List Val → Type 0
AreTicketsWithin e m V = (id : Identity) → (minted_by e m id ≤ℤ most_tickets) × (amount_on id V ≤ℤ minted_by e m id)

-- a stack of values in a run that goes well
pub record Stands (e : Surroundings) (m : Tally) (A : List Kind) (V : List Val) : Type 0 where
  pub good : IsGood e
  pub tally : IsGoodTally m
  pub types : All IsType A
  pub fit : AllFit (known e.contract_at m.issued) A V
  pub tickets : AreTicketsWithin e m V

-- ---- never stuck

-- what a typing promises of an outcome
abbrev pub Keeps : Surroundings → Typing → Outcome → Type 0
Keeps e (goes B) (stack C W m) = (C ≡ B) × AllFit (known e.contract_at m.issued) B W
Keeps e (goes B) (failed f) = Unit {0}
Keeps e (goes B) stuck = ⊥
Keeps e fails (stack C W m) = ⊥
Keeps e fails (failed f) = Unit {0}
Keeps e fails stuck = ⊥
Keeps e (bad l) o = Unit {0}

-- Code that is typed is never stuck; the stack that comes out has the types, and none comes out of code that fails.
abbrev pub NeverStuck : Type 0
NeverStuck = (t : Tree) (e : Surroundings) (d : ℕ) (A : List Kind) (V : List Val) (m : Tally) →
    size t < 2 ^ 32 → Stands e m A V → Keeps e (tree_type t e.context A) (eval t e d A V m)

-- ---- tickets are linear

-- what there is of an identity after it, with what was burnt meanwhile, is what there was and what was minted
abbrev pub IsBalanced : Identity → List Val → Tally → List Val → Tally → Type 0
IsBalanced id V m W n =
    amount_on id W +ℤ amount_issued id n.issued +ℤ burnt_in id n.changes +ℤ minted_in id m.changes
    ≡ amount_on id V +ℤ amount_issued id m.issued +ℤ burnt_in id m.changes +ℤ minted_in id n.changes

abbrev pub AreBalanced : List Val → Tally → Typing → Outcome → Type 0
AreBalanced V m (goes B) (stack C W n) = (id : Identity) → IsBalanced id V m W n
AreBalanced V m typing o = Unit {0}

-- No ticket is made but by minting, and none is lost but by burning: tickets are on the stack, or on their way with operations.
abbrev pub LinearTickets : Type 0
LinearTickets = (t : Tree) (e : Surroundings) (d : ℕ) (A : List Kind) (V : List Val) (m : Tally) →
    size t < 2 ^ 32 → Stands e m A V → AreBalanced V m (tree_type t e.context A) (eval t e d A V m)
