-- The run of a contract's code, and its end (Michelson reference, "Semantics of smart contracts and transactions";
-- Octez "Operations", internal operations).
use Rattle.std.specs.Prelude.{ℕ, ◌==◌, ◌||◌, not, Bool, true, false, List, [], ◌∷◌, ◌++◌, filter, map, Option, option_map, Some, None}
use Rattle.std.specs.List.{list_any, find, flat_map}
use Rattle.rules_data.specs.forms.Spelling.{contract_place}
use Rattle.rules_code.specs.instructions.Context.{main}
use Rattle.rules_data.specs.types.Kind.{Kind}
use Rattle.rules_data.specs.types.Kind as k
use Rattle.rules_data.specs.values.Val.{Val, Vals, no_val, more_vals, both, list, operation}
use Rattle.rules_code.specs.typing.Scripts.{Script}
use Rattle.rules_code.specs.steps.Changes.{Change, burns}
use Rattle.rules_code.specs.steps.Environment.{Environment}
use Rattle.rules_code.specs.steps.Failure.{Failure, operation_replay}
use Rattle.rules_code.specs.evaluation.Surroundings.{Contract, Surroundings}
use Rattle.rules_code.specs.evaluation.Operations.{Issued, Tally, operation_tickets}
use Rattle.rules_code.specs.evaluation.Outcome as code
use Rattle.rules_code.specs.evaluation.Loops.{ending}
use Rattle.rules_code.specs.evaluation.Evaluation.{eval}
use Rattle.rules_world.specs.world.Receipts.{Effect}
use Rattle.rules_world.specs.world.World.{World, contract_at, with_contract}
use Rattle.rules_world.specs.world.Balances.{balance_or_none}
use Rattle.rules_world.specs.world.Holdings.{minted_ever}
use Rattle.rules_world.specs.world.Growth.{growing}
use Rattle.rules_world.specs.world.Outcomes.{Setting, Waiting, issued, Counts, Outcome, applied, failed, stuck}
use Rattle.rules_world.specs.world.Targets.{Target, wrapped}

-- ---- how it begins

-- who calls an entrypoint, with how much mutez, which the contract has already, and with which argument
pub record Call : Type 0 where
  pub target : Target
  pub sender : List ℕ
  pub amount : ℕ
  pub argument : Val

abbrev pub environment_of : Setting → World → Call → Environment
environment_of s w c = record {
  chain = w.chain;
  level = w.level;
  moment = w.moment;
  source = s.source;
  sender = c.sender;
  own = c.target.hash;
  amount = c.amount;
  balance = balance_or_none w (contract_place c.target.hash);
}

-- code sees the world in which its run begins
abbrev pub surroundings_of : Environment → Setting → World → Target → Surroundings
surroundings_of e s w t = record {
  environment = e;
  group = s.group;
  context = main t.script.entries;
  prices = s.prices;
  contract_at = contract_at w;
  minted = minted_ever w;
}

abbrev pub tally_of : ℕ → Counts → Tally
tally_of gas counts =
    record { gas = gas; operations = counts.operations; originations = counts.originations; issued = []; changes = [] }

-- the one value before the code: the argument for the whole parameter, and the storage
abbrev pub type_before : Script → Kind
type_before s = k.pair s.parameter s.storage

abbrev pub value_before : Target → Val → Contract → Val
value_before t argument contract = both (wrapped t.entry.path argument) contract.storage

-- ---- how it ends

-- the one value behind it: operations, and the new storage
abbrev pub type_after : Script → Kind
type_after s = k.pair (k.list k.operation) s.storage

-- the numbers of the operations that were returned, and the new storage
pub record Returned : Type 0 where
  pub numbers : List ℕ
  pub storage : Val

abbrev pub operation_number : Val → Option ℕ
operation_number (operation n) = Some n
operation_number v = None

abbrev pub with_number : Option ℕ → Option (List ℕ) → Option (List ℕ)
with_number (Some n) (Some ns) = Some (n ∷ ns)
with_number n ns = None

abbrev pub numbers_in : Vals → Option (List ℕ)
numbers_in no_val = Some []
numbers_in (more_vals v vs) = with_number (operation_number v) (numbers_in vs)

abbrev pub returned : List Val → Option Returned
returned (both (list vs) storage ∷ []) = option_map (λ ns. record { numbers = ns; storage = storage }) (numbers_in vs)
returned V = None

-- whether a number stands in a list, and whether one stands there twice
abbrev pub stands_in : ℕ → List ℕ → Bool
stands_in n ns = list_any (λ m. m == n) ns

abbrev pub has_twice : List ℕ → Bool
has_twice [] = false
has_twice (n ∷ ns) = stands_in n ns || has_twice ns

-- the operations of these numbers, in the order of the numbers
abbrev pub with_issued : Option Issued → Option (List Issued) → Option (List Issued)
with_issued (Some i) (Some is) = Some (i ∷ is)
with_issued i is = None

abbrev pub issued_with : List Issued → List ℕ → Option (List Issued)
issued_with all [] = Some []
issued_with all (n ∷ ns) = with_issued (find (λ i. i.number == n) all) (issued_with all ns)

-- what was issued and not returned is discarded, in order of issue
abbrev pub unreturned : List ℕ → List Issued → List Issued
unreturned ns all = filter (λ i. not (stands_in i.number ns)) all

abbrev pub discarded : List ℕ → List Issued → List Change
discarded ns all = burns (flat_map (λ i. operation_tickets i.operation) (unreturned ns all))

-- a run that came to its end: the world after it, the operations that it returned, its changes of tickets, and the gas and the
-- counts that are left
pub record Finished : Type 0 where
  pub world : World
  pub returned : List Issued
  pub changes : List Change
  pub gas : ℕ
  pub counts : Counts

-- how a run ends
pub data Ended : Type 0 where
  finished : Finished → Ended
  run_failed : Failure → Ended
  run_stuck : Ended

-- the world with the new storage, and the changes of tickets at the end of the log
abbrev pub kept : World → List ℕ → Contract → Val → List Change → World
kept w hash contract storage changes =
    record (with_contract w hash (record contract { storage = storage })) { log = w.log ++ changes }

abbrev pub finished_with : World → List ℕ → Contract → Val → List Change → Tally → Option (List Issued) → Ended
finished_with w hash contract storage changes m (Some is) = finished (record {
  world = kept w hash contract storage changes;
  returned = is;
  changes = changes;
  gas = m.gas;
  counts = record { operations = m.operations; originations = m.originations };
})
finished_with w hash contract storage changes m None = run_stuck

-- no operation may be returned twice
abbrev pub unless_twice : Bool → World → List ℕ → Contract → Tally → Returned → Ended
unless_twice true w hash contract m r = run_failed operation_replay
unless_twice false w hash contract m r =
    finished_with w hash contract r.storage (m.changes ++ discarded r.numbers m.issued) m (issued_with m.issued r.numbers)

abbrev pub with_returned : World → List ℕ → Contract → Tally → Option Returned → Ended
with_returned w hash contract m (Some r) = unless_twice (has_twice r.numbers) w hash contract m r
with_returned w hash contract m None = run_stuck

abbrev pub behind_code : World → List ℕ → Contract → code.Outcome → Ended
behind_code w hash contract (code.stack A V m) = with_returned w hash contract m (returned V)
behind_code w hash contract (code.failed failure) = run_failed failure
behind_code w hash contract code.stuck = run_stuck

-- ---- the run

-- the code on a stack of one value, which must end with one of the type behind it
abbrev pub outcome_of : Environment → Setting → World → Target → Val → Contract → Tally → code.Outcome
outcome_of e s w t argument contract m =
    ending
    (eval t.script.code (surroundings_of e s w t) 0 (type_before t.script ∷ []) (value_before t argument contract ∷ []) m)
    (type_after t.script ∷ [])
    code.stack

abbrev pub run_of : Option Contract → Environment → Setting → World → Target → Val → ℕ → Counts → Ended
run_of (Some contract) e s w t argument gas counts =
    behind_code w t.hash contract (outcome_of e s w t argument contract (tally_of gas counts))
run_of None e s w t argument gas counts = run_stuck

-- A contract of the world runs in an environment. The world already has the mutez with the contract.
abbrev pub run_in : Environment → Setting → World → Target → Val → ℕ → Counts → Ended
run_in e s w t argument gas counts = run_of (contract_at w t.hash) e s w t argument gas counts

-- what was returned waits for its turn
abbrev pub waiting_of : List ℕ → List Issued → List Waiting
waiting_of sender is = map (λ i. issued sender i.operation) is

-- the changes of a run are told in the effect of its operation
abbrev pub with_effect : List ℕ → (List Change → Effect) → Ended → Outcome
with_effect hash effect (finished f) = applied (record {
  world = f.world;
  emitted = waiting_of (contract_place hash) f.returned;
  effects = effect f.changes ∷ [];
  gas = f.gas;
  counts = f.counts;
})
with_effect hash effect (run_failed failure) = failed failure
with_effect hash effect run_stuck = stuck

-- an operation whose effect is a run, and behind it the growth of the contract
abbrev pub run : Setting → World → Call → ℕ → Counts → (List Change → Effect) → Outcome
run s w c gas counts effect =
    growing s c.target.hash (with_effect c.target.hash effect (run_in (environment_of s w c) s w c.target c.argument gas counts))
