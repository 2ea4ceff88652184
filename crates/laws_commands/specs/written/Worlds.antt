-- What is printed of worlds and of what is done in them can be written. The ranges of amounts are told elsewhere.
use Rattle.std.specs.Prelude.{Some, ◌≡◌, ◌<◌, ◌≤◌, ◌^◌, ℕ, List}
use Rattle.std.specs.List.{All, AllByRecursion}
use Rattle.rules_text.specs.nodes.Limits.{most_gas, most_level}
use Rattle.rules_code.specs.evaluation.Operations.{new_contract}
use Rattle.rules_code.specs.evaluation.Surroundings.{Contract}
use Rattle.rules_world.specs.world.World.{World, Account as Owner, contract_at}
use Rattle.rules_world.specs.world.Contents.{Action, Originate, Call, Give, Content}
use Rattle.rules_world.specs.world.Outcomes.{Waiting, ordered, issued}
use Rattle.rules_world.specs.world.Receipts.{Effect, Status, Applied, Backtracked, Failed, Skipped, Receipt, Refused, Done}
use Rattle.rules_world.specs.world.Receipts as receipts
use Rattle.rules_files.specs.statements.Statements.{Statement, Chain, Profile, Costs, Account, Block, Group}
use Rattle.mich_text.specs.Written.{IsBytes, IsString, HasTextForm}
use Rattle.laws_commands.specs.written.Written.{HasIssuer, AreBytes, HasForm, IsWrittenIdentity, IsWrittenChange, IsWrittenFailure, IsWrittenContract, IsWrittenOperation}

-- ---- worlds

abbrev pub IsWrittenAccount : List ℕ × Owner → Type 0
IsWrittenAccount a = AreBytes a.0 × All (λ h. IsWrittenIdentity h.0) a.1.holdings

-- the bytes of a contract that a group made
abbrev pub IsMade : List ℕ → Type 0
IsMade hash = (group : ℕ) × (index : ℕ) × (group < 2 ^ 64) × (hash ≡ new_contract group index)

abbrev pub IsWrittenAt : List ℕ × Contract → Type 0
IsWrittenAt c = AreBytes c.0 × IsWrittenContract c.1 × IsMade c.0

-- the bytes of a contract of the world
abbrev pub IsThere : World → List ℕ → Type 0
IsThere w hash = (c : Contract) × (contract_at w hash ≡ Some c)

pub record IsWrittenWorld (w : World) : Type 0 where
  pub chain : AreBytes w.chain
  pub level : w.level ≤ most_level
  pub accounts : All IsWrittenAccount w.accounts
  pub contracts : All IsWrittenAt w.contracts
  pub log : AllByRecursion IsWrittenChange w.log
  pub issuers : AllByRecursion (HasIssuer (IsThere w)) w.log

-- ---- operations

abbrev pub IsWrittenAction : Action → Type 0
IsWrittenAction (Originate balance script storage) = HasForm script × HasForm storage
IsWrittenAction (Call amount destination entrypoint argument) = AreBytes destination × HasForm argument
IsWrittenAction (Give issuer kind content amount destination entrypoint) = AreBytes issuer × HasForm content × AreBytes destination

abbrev pub IsWrittenContent : Content → Type 0
IsWrittenContent c = IsWrittenAction c.action

abbrev pub IsWrittenWaiting : Waiting → Type 0
IsWrittenWaiting (ordered action) = IsWrittenAction action
IsWrittenWaiting (issued sender op) = AreBytes sender × IsWrittenOperation op

-- the bytes of storage are counted up to 2^64 - 1
abbrev pub IsWrittenEffect : Effect → Type 0
IsWrittenEffect (receipts.Transfer sender destination amount argument changes) =
    IsBytes sender × IsBytes destination × HasTextForm argument × AllByRecursion IsWrittenChange changes
IsWrittenEffect (receipts.Give sender destination issuer kind content amount changes) =
    IsBytes sender × IsBytes destination × IsBytes issuer × HasTextForm kind × HasTextForm content × AllByRecursion IsWrittenChange changes
IsWrittenEffect (receipts.Origination sender address amount) = IsBytes sender × IsBytes address
IsWrittenEffect (receipts.Event sender tag kind value) = IsBytes sender × IsString tag × HasTextForm kind × HasTextForm value
IsWrittenEffect (receipts.Storage address bytes burn) = IsBytes address × (bytes < 2 ^ 64)

-- ---- receipts

abbrev pub IsWrittenStatus : Status → Type 0
IsWrittenStatus (Applied gas effects) = (gas ≤ most_gas) × AllByRecursion IsWrittenEffect effects
IsWrittenStatus Backtracked = Unit {0}
IsWrittenStatus (Failed count failure) = (count ≤ most_gas) × IsWrittenFailure failure
IsWrittenStatus Skipped = Unit {0}

abbrev pub IsWrittenReceipt : Receipt → Type 0
IsWrittenReceipt (Refused fault) = Unit {0}
IsWrittenReceipt (Done statuses) = AllByRecursion IsWrittenStatus statuses

-- ---- statements

abbrev pub IsWrittenStatement : Statement → Type 0
IsWrittenStatement (Chain id level moment) = AreBytes id × (level ≤ most_level)
IsWrittenStatement (Profile rate) = Unit {0}
IsWrittenStatement (Costs table) = Unit {0}
IsWrittenStatement (Account who mutez) = AreBytes who
IsWrittenStatement (Block level moment) = level ≤ most_level
IsWrittenStatement (Group source contents) = AreBytes source × AllByRecursion IsWrittenContent contents
