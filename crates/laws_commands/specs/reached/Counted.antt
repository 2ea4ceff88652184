-- Values that are counted: lists with at most so many items, bytes of at most so many, and lambdas of at most so many nodes.
use Rattle.std.specs.Prelude.{◌≡◌, ◌≤◌, ◌<◌, ◌+◌, ◌-◌, ℕ, ℤ, List, length, Some}
use Rattle.std.specs.List.{AllByRecursion}
use Rattle.rules_text.specs.nodes.Limits.{byte_limit}
use Rattle.rules_text.specs.nodes.Tree.{Tree, size}
use Rattle.rules_data.specs.types.Kind.{Kind}
use Rattle.rules_data.specs.values.Val.{Val, Vals, no_val, more_vals, Pairs, no_pair, more_pairs}
use Rattle.rules_data.specs.values.Val as v
use Rattle.rules_data.specs.values.Literals.{Pending, good, read}
use Rattle.rules_data.specs.values.Tickets.{Identity}
use Rattle.rules_code.specs.instructions.Straight.{Straight}
use Rattle.rules_code.specs.steps.Changes.{Change}
use Rattle.rules_code.specs.steps.Environment.{Environment}
use Rattle.rules_code.specs.steps.Packing.{Trial}
use Rattle.rules_code.specs.steps.Step.{done}
use Rattle.rules_code.specs.steps.Steps.{step}
use Rattle.rules_code.specs.evaluation.Surroundings.{Contract, Surroundings}
use Rattle.rules_code.specs.evaluation.Operations.{Operation, transfer, origination, event, Issued, Tally}
use Rattle.rules_code.specs.evaluation.Outcome.{Outcome, stack, failed, stuck}
use Rattle.rules_code.specs.evaluation.Evaluation.{eval}
use Rattle.rules_files.specs.snapshots.Spelling.{count_vals}
use Rattle.laws_code.specs.evaluation.Laws.{IsCharged}

abbrev mutual
  -- no list in a value has more items, no bytes in it are more, and no lambda has more nodes
  pub ListsWithin : ℕ → Val → Type 0
  ListsWithin n (v.some x) = ListsWithin n x
  ListsWithin n (v.left x) = ListsWithin n x
  ListsWithin n (v.right x) = ListsWithin n x
  ListsWithin n (v.both x y) = ListsWithin n x × ListsWithin n y
  ListsWithin n (v.bytes b) = length b ≤ n
  ListsWithin n (v.list xs) = (count_vals xs ≤ n) × AllListsWithin n xs
  ListsWithin n (v.set xs) = AllListsWithin n xs
  ListsWithin n (v.table es) = EntryListsWithin n es
  ListsWithin n (v.big_table es) = EntryListsWithin n es
  ListsWithin n (v.lambda t recursive) = size t ≤ n
  ListsWithin n (v.ticket issuer kind content amount) = (length issuer ≤ n) × ListsWithin n content
  ListsWithin n x = Unit {0}

  pub AllListsWithin : ℕ → Vals → Type 0
  AllListsWithin n no_val = Unit {0}
  AllListsWithin n (more_vals x xs) = ListsWithin n x × AllListsWithin n xs

  pub EntryListsWithin : ℕ → Pairs → Type 0
  EntryListsWithin n no_pair = Unit {0}
  EntryListsWithin n (more_pairs x y es) = ListsWithin n x × ListsWithin n y × EntryListsWithin n es

-- a list in the value of a literal has no more items than the literal has nodes, and a lambda in it no more nodes
abbrev pub LiteralsAreCounted : Type 0
LiteralsAreCounted = (n : ℕ) (a : Kind) (at : ℕ) (t : Tree) (x : Val) (ps : List Pending) → size t ≤ n → byte_limit ≤ n →
    read a at t ≡ good x ps → ListsWithin n x

abbrev pub StackWithin : ℕ → List Val → Type 0
StackWithin n V = AllByRecursion (ListsWithin n) V

-- what instructions read of where the code runs
pub record EnvironmentWithin (n : ℕ) (e : Environment) : Type 0 where
  pub chain : length e.chain ≤ n
  pub source : length e.source < n
  pub sender : length e.sender ≤ n
  pub own : length e.own ≤ 20

-- an instruction without bodies makes lists longer by one item at most
abbrev pub StepsAreCounted : Type 0
StepsAreCounted = (e : Environment) (total : Identity → ℤ) (passes : Trial) (r : Straight) (n : ℕ) (V W : List Val) (cs : List Change) →
    byte_limit ≤ n → EnvironmentWithin n e → StackWithin n V → step e total passes r V ≡ done W cs → StackWithin (n + 1) W

-- ---- runs

-- of what an operation has with it
abbrev pub OperationWithin : ℕ → Operation → Type 0
OperationWithin n (transfer argument amount destination) = ListsWithin n argument
OperationWithin n (origination delegate amount script storage hash) = (size script ≤ n) × ListsWithin n storage
OperationWithin n (event tag kind value) = Unit {0}

abbrev pub IssuedWithin : ℕ → List Issued → Type 0
IssuedWithin n is = AllByRecursion (λ i. OperationWithin n i.operation) is

abbrev pub ContractWithin : ℕ → Contract → Type 0
ContractWithin n c = (size c.script ≤ n) × ListsWithin n c.storage

-- where code begins: each unit of gas makes lists longer by one item at most
pub record Begins (most : ℕ) (e : Surroundings) (V : List Val) (m : Tally) : Type 0 where
  pub charged : IsCharged e.prices
  pub room : byte_limit + m.gas ≤ most
  pub environment : EnvironmentWithin (most - m.gas) e.environment
  pub contracts : (hash : List ℕ) (c : Contract) → e.contract_at hash ≡ Some c → ContractWithin (most - m.gas) c
  pub values : StackWithin (most - m.gas) V
  pub issued : IssuedWithin (most - m.gas) m.issued

-- how it ends, with no more gas than this
abbrev pub Ends : ℕ → ℕ → Outcome → Type 0
Ends most gas (stack A V m) = (m.gas ≤ gas) × StackWithin (most - m.gas) V × IssuedWithin (most - m.gas) m.issued
Ends most gas (failed f) = Unit {0}
Ends most gas stuck = Unit {0}

-- code makes lists longer by one item at most for each unit of gas
abbrev pub RunsAreCounted : Type 0
RunsAreCounted = (most : ℕ) (t : Tree) (e : Surroundings) (d : ℕ) (A : List Kind) (V : List Val) (m : Tally) → Begins most e V m →
    size t ≤ most - m.gas → Ends most m.gas (eval t e d A V m)
