-- When what was kept of a state is one's.
use Rattle.std.specs.Prelude.{◌≡◌, ℕ, ◌+◌, List, length, Some, Result, Ok, Err}
use Rattle.std.specs.List.{flat_map}
use Rattle.rules_data.specs.types.Kind.{Kind}
use Rattle.rules_code.specs.evaluation.Surroundings.{Contract}
use Rattle.rules_world.specs.world.World.{Account}
use Rattle.rules_files.specs.snapshots.State.{State, Total}
use Rattle.rules_files.specs.snapshots.Reading.{storage_kind}
use Rattle.rules_files.specs.snapshots.Spelling.{account_spelling, contract_spelling, total_spelling}
use Rattle.mich_saved.specs.Parts.{Head, KeptContract, KeptState}
use Rattle.mich_saved.specs.Sound.{Each, EachAt, IsKept, IsSame}
use Rattle.mich_saved.specs.Whole.{state}
use Rattle.mich_saved.specs.declared.errors.LoadError.{LoadError}
use Rattle.mich_saved.specs.declared.errors.LoadError.TheVariants as errors
use Rattle.mich_saved.specs.declared.reading.ReadState.{ReadState}

abbrev pub IsKeptAccount : List ℕ × Account → ℕ × (List ℕ × Account) → Type 0
IsKeptAccount a b = a ≡ b.1

-- the storage is kept, or it isn't one of the type that the script tells
pub record IsKeptContract (c : List ℕ × Contract) (d : List ℕ × KeptContract) : Type 0 where
  pub hash : c.0 ≡ d.0
  pub balance : c.1.balance ≡ d.1.balance
  pub paid : c.1.paid ≡ d.1.paid
  pub script : c.1.script ≡ d.1.script
  pub storage : (a : Kind) × (storage_kind c.1.script ≡ Some a) × IsKept a c.1.storage d.1.storage

abbrev pub IsPlacedContract : List ℕ × Contract → ℕ × (List ℕ × KeptContract) → Type 0
IsPlacedContract c d = IsKeptContract c d.1

abbrev pub IsKeptTotal : Total → ℕ × Total → Type 0
IsKeptTotal t u = t ≡ u.1

abbrev pub head_of : State → Head
head_of s = record {
  chain = s.chain;
  level = s.level;
  moment = s.moment;
  pays = s.pays;
  rate = s.rate;
  groups = s.groups;
  costs_stood = s.costs_stood;
  started = s.started;
}

pub record IsKeptState (s : State) (k : KeptState) : Type 0 where
  pub head : head_of s ≡ k.head
  pub prices : s.prices ≡ k.prices
  pub fees : s.fees ≡ k.fees
  pub storage_burn : s.storage_burn ≡ k.storage_burn
  pub accounts : Each IsKeptAccount s.accounts k.accounts
  pub contracts : Each IsPlacedContract s.contracts k.contracts
  pub tickets : Each IsKeptTotal s.tickets k.tickets

-- no state is read where none is kept, with the fault at one place
abbrev pub AreRead : Result State ℕ → Result KeptState ℕ → Type 0
AreRead (Ok s) (Ok k) = IsKeptState s k
AreRead (Err p) (Err q) = p ≡ q
AreRead (Ok s) (Err q) = ⊥
AreRead (Err p) (Ok k) = ⊥

-- ---- what was read

-- it is kept of the state that bytes spell, or the fault is at the same place; after want of memory nothing is said
abbrev pub IsReadAs : Result State ℕ → Result ReadState LoadError → Type 0
IsReadAs read (Err errors.Memory) = Unit {0}
IsReadAs (Ok s) (Ok x) = IsKeptState s (state x)
IsReadAs (Err p) (Err (errors.BadForm q)) = p ≡ q
IsReadAs read result = ⊥

-- Each part has its place in the bytes: accounts stand behind the head, the costs and the sums, contracts behind these, then tickets, each
-- behind their count.
pub record ArePlaced (s : State) (k : KeptState) : Type 0 where
  pub accounts : EachAt IsSame account_spelling 851 s.accounts k.accounts
  pub contracts : EachAt IsKeptContract contract_spelling (859 + length (flat_map account_spelling s.accounts)) s.contracts k.contracts
  pub tickets : EachAt IsSame total_spelling
      (867 + length (flat_map account_spelling s.accounts) + length (flat_map contract_spelling s.contracts)) s.tickets k.tickets
