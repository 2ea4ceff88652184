-- The state that bytes are loaded as.
use Rattle.std.specs.Prelude.{◌≡◌, List, [], map, Result, Ok, Err}
use Rattle.std.specs.List.{AllByRecursion}
use Rattle.rules_world.specs.world.Good.{IsGood}
use Rattle.rules_files.specs.snapshots.Course.{listed as listed_of, world_of}
use Rattle.rules_files.specs.snapshots.Loading.{LoadFault, BadForm, Unsound}
use Rattle.rules_files.specs.snapshots.Spelt.{IsSpelt}
use Rattle.rules_files.specs.snapshots.State as plain
use Rattle.mich_gas.specs.View.{listed, seen_price}
use Rattle.mich_gas.specs.declared.costs.Price.{Price}
use Rattle.mich_instr.specs.Scripts.{IsTypedScript}
use Rattle.mich_saved.specs.KeptStates.{ArePlaced, IsKeptState}
use Rattle.mich_saved.specs.Shown.{IsAloneContract}
use Rattle.mich_saved.specs.Whole.{state}
use Rattle.mich_saved.specs.declared.errors.LoadError.{LoadError}
use Rattle.mich_saved.specs.declared.errors.LoadError.TheVariants as errors
use Rattle.mich_saved.specs.declared.reading.ReadState.{ReadState}
use Rattle.mich_world.specs.Restoring.{IsRestorable, world_of as restored}
use Rattle.mich_world.specs.Standing.{StandsFor}
use Rattle.mich_world.specs.declared.restoring.Saved.{Saved}
use Rattle.mich_snapshot.specs.declared.state.State.{State}

-- its world stands for that of the state, which is a good one in which nothing waits, with the same prices, groups and marks
pub record IsLoadedAs (p : plain.State) (s : State) : Type 0 where
  pub stands : StandsFor s.world (world_of p)
  pub good : IsGood (world_of p) []
  pub prices : listed s.costs ≡ listed_of p.prices
  pub groups : s.groups ≡ p.groups
  pub costs_stood : s.costs_stood ≡ p.costs_stood
  pub started : s.started ≡ p.started

-- what was read is kept of this state, and has its places
pub record IsReadOf (p : plain.State) (read : ReadState) : Type 0 where
  pub spelt : IsSpelt p
  pub kept : IsKeptState p (state read)
  pub placed : ArePlaced p (state read)

-- it was read of a state, and no big map in it has a base
pub record MayBeTried (read : ReadState) : Type 0 where
  pub plain_state : plain.State
  pub of : IsReadOf plain_state read
  pub alone : AllByRecursion IsAloneContract read.contracts

-- what is to be restored is the world of the state, and may be restored; its scripts are typed
pub record IsSoundState (p : plain.State) (prices : List Price) (saved : Saved) : Type 0 where
  pub world : restored saved ≡ world_of p
  pub costs : map seen_price prices ≡ p.prices
  pub restorable : IsRestorable saved
  pub typed : AllByRecursion (λ c. IsTypedScript c.contract.script) saved.contracts

-- an error is the same one; after want of memory nothing is said
abbrev pub IsLoaded : Result plain.State LoadFault → Result State LoadError → Type 0
IsLoaded (Ok p) (Ok s) = IsLoadedAs p s
IsLoaded (Err (BadForm place)) (Err (errors.BadForm at)) = at ≡ place
IsLoaded (Err (Unsound place)) (Err (errors.Unsound at)) = at ≡ place
IsLoaded loaded (Err errors.Memory) = Unit {0}
IsLoaded loaded r = ⊥
