-- Runs of scripts, as rows that are computed tell them.
use Rattle.std.specs.Prelude.{ℕ, ◌-◌, ℤ, pos, List, [], ◌∷◌, ◌++◌, map, codes, replicate, if◌then◌else◌, Option, Some, None}
use Rattle.std.specs.Str.{bytes_eq}
use Rattle.rules_text.specs.nodes.Tree.{Tree, prim, seq, none, more, trees_of}
use Rattle.rules_data.specs.forms.Spelling.{implicit_place}
use Rattle.rules_data.specs.gas.Prices.{nothing_listed}
use Rattle.rules_data.specs.types.Kind.{Kind}
use Rattle.rules_data.specs.types.Kind as k
use Rattle.rules_data.specs.types.Entrypoints.{Entry}
use Rattle.rules_code.specs.instructions.Arguments.{Found, found, fault}
use Rattle.rules_code.specs.instructions.Context.{main}
use Rattle.rules_code.specs.typing.Scripts.{Script}
use Rattle.rules_code.specs.typing.Nodes.{script}
use Rattle.rules_data.specs.values.Val.{Val, Vals, list, both, number}
use Rattle.rules_data.specs.values.Canonical.{canonical}
use Rattle.rules_data.specs.values.Literals.{Literal, good, bad, read}
use Rattle.rules_data.specs.values.Tickets.{Identity}
use Rattle.rules_code.specs.steps.Failure.{Failure}
use Rattle.rules_code.specs.steps.Changes.{Change}
use Rattle.rules_code.specs.evaluation.Surroundings.{Contract, Surroundings}
use Rattle.rules_code.specs.evaluation.Operations.{Issued, Tally, new_contract}
use Rattle.rules_code.specs.evaluation.Outcome.{Outcome, stack, failed, stuck}
use Rattle.rules_code.specs.evaluation.Evaluation.{eval}

-- the key hashes of two accounts, and the contract that the first origination of the first group makes
abbrev pub account : ℕ → List ℕ
account n = replicate 20 0 ++ n ∷ []

abbrev pub first_contract : List ℕ
first_contract = new_contract 1 0

-- a world with this one contract, before whose run nothing was minted
abbrev pub only_contract : Tree → Val → List ℕ → Option Contract
only_contract code storage hash =
    if bytes_eq hash first_contract then Some record { balance = 0; paid = 0; script = code; storage = storage } else None

abbrev pub nothing_minted : Identity → ℤ
nothing_minted id = pos 0

-- the first account calls the contract in the second group
abbrev pub called : Script → Tree → Val → Surroundings
called s code storage = record {
  environment = record {
    chain = 122 ∷ 6 ∷ 167 ∷ 112 ∷ [];
    level = 7;
    moment = pos 9;
    source = account 1;
    sender = implicit_place (account 1);
    own = first_contract;
    amount = 2;
    balance = 5;
  };
  group = 2;
  context = main s.entries;
  prices = nothing_listed;
  contract_at = only_contract code storage;
  minted = nothing_minted;
}

abbrev pub begun : ℕ → Tally
begun gas = record { gas = gas; operations = 0; originations = 0; issued = []; changes = [] }

-- the gas used, the operations issued, those returned, the literal of the new storage, and the changes of tickets; a
-- failure; or a run that ends in another way
pub data Told : Type 0 where
  ended : ℕ → List Issued → Vals → Tree → List Change → Told
  failure : Failure → Told
  other : Told

abbrev pub told : ℕ → Outcome → Told
told gas (stack A (both (list operations) storage ∷ []) m) = ended (gas - m.gas) m.issued operations (canonical storage) m.changes
told gas (stack A V m) = other
told gas (failed f) = failure f
told gas stuck = other

-- the run of a script's code on an argument and a storage, with so many blocks open before it
abbrev pub run_of : Tree → Script → ℕ → Val → Val → ℕ → Told
run_of t s open_blocks argument storage gas =
    told gas (eval s.code (called s t storage) open_blocks (k.pair s.parameter s.storage ∷ []) (both argument storage ∷ []) (begun gas))

abbrev pub on_storage : Tree → Script → ℕ → Val → Literal Val → ℕ → Told
on_storage t s open_blocks argument (good storage ps) gas = run_of t s open_blocks argument storage gas
on_storage t s open_blocks argument (bad l) gas = other

abbrev pub on_argument : Tree → Script → ℕ → Literal Val → Tree → ℕ → Told
on_argument t s open_blocks (good argument ps) storage gas = on_storage t s open_blocks argument (read s.storage 0 storage) gas
on_argument t s open_blocks (bad l) storage gas = other

abbrev pub on_script : Tree → Found Script → ℕ → Tree → Tree → ℕ → Told
on_script t (found s) open_blocks argument storage gas = on_argument t s open_blocks (read s.parameter 0 argument) storage gas
on_script t (fault l) open_blocks argument storage gas = other

-- by the literals of the argument and the storage
abbrev pub ran_under : ℕ → Tree → Tree → Tree → ℕ → Told
ran_under open_blocks t argument storage gas = on_script t (script t) open_blocks argument storage gas

abbrev pub ran : Tree → Tree → Tree → ℕ → Told
ran t argument storage gas = ran_under 0 t argument storage gas

-- ---- single instructions

-- the contract on which they are tried
abbrev pub plain_script : Tree
plain_script = seq (trees_of (
    prim (codes "parameter") [] (more (prim (codes "or") [] (trees_of (prim (codes "int") (codes "%a" ∷ []) none ∷ prim (codes "unit") (codes "%b" ∷ []) none ∷ []))) none) ∷
    prim (codes "storage") [] (more (prim (codes "int") [] none) none) ∷
    prim (codes "code") [] (more (seq (trees_of (prim (codes "CDR") [] none ∷ prim (codes "NIL") [] (more (prim (codes "operation") [] none) none) ∷ prim (codes "PAIR") [] none ∷ []))) none) ∷ []))

abbrev pub entries_of : Found Script → List Entry
entries_of (found s) = s.entries
entries_of (fault l) = []

abbrev pub tried_in : Surroundings
tried_in = record (called (record { parameter = k.operation; entries = []; storage = k.operation; code = plain_script; views = [] }) plain_script (number (pos 1))) { context = main (entries_of (script plain_script)) }

-- the gas used, the literals of the values on the stack, the operations issued, and the changes of tickets; a failure; or
-- an end of another kind
pub data Did : Type 0 where
  gave : ℕ → List Tree → List Issued → List Change → Did
  failed_as : Failure → Did
  no_end : Did

abbrev pub did_of : ℕ → Outcome → Did
did_of gas (stack A V m) = gave (gas - m.gas) (map canonical V) m.issued m.changes
did_of gas (failed f) = failed_as f
did_of gas stuck = no_end

-- an instruction on values of these types
abbrev pub did : Tree → List Kind → List Val → Did
did t A V = did_of 1000 (eval t tried_in 0 A V (begun 1000))
