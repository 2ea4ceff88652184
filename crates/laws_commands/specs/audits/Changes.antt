-- The changes of tickets that receipts tell.
use Rattle.std.specs.Prelude.{◌≡◌, ◌++◌, ℕ, List, [], ◌∷◌, Some, None}
use Rattle.rules_data.specs.gas.Prices.{Listed}
use Rattle.rules_code.specs.steps.Changes.{Change}
use Rattle.rules_world.specs.world.Contents.{Content}
use Rattle.rules_world.specs.world.Receipts.{Effect, Transfer, Give, Origination, Event, Storage, Status, Applied, Backtracked, Failed, Skipped, Receipt, Refused, Done}
use Rattle.rules_world.specs.world.World.{World}
use Rattle.rules_world.specs.world.Groups.{Settled, group}

abbrev pub effect_changes : Effect → List Change
effect_changes (Transfer sender destination amount argument changes) = changes
effect_changes (Give sender destination issuer kind content amount changes) = changes
effect_changes (Origination sender address amount) = []
effect_changes (Event sender tag kind value) = []
effect_changes (Storage address bytes burn) = []

abbrev pub effects_changes : List Effect → List Change
effects_changes [] = []
effects_changes (e ∷ es) = effect_changes e ++ effects_changes es

-- those of contents that were applied
abbrev pub status_changes : Status → List Change
status_changes (Applied gas effects) = effects_changes effects
status_changes Backtracked = []
status_changes (Failed count failure) = []
status_changes Skipped = []

abbrev pub statuses_changes : List Status → List Change
statuses_changes [] = []
statuses_changes (s ∷ ss) = status_changes s ++ statuses_changes ss

abbrev pub receipt_changes : Receipt → List Change
receipt_changes (Refused fault) = []
receipt_changes (Done statuses) = statuses_changes statuses

-- the rate stays, and nothing is burnt where there is none
abbrev pub KeepsBurn : World → World → Type 0
KeepsBurn w x = (x.rate ≡ w.rate) × (w.rate ≡ None → x.storage_burn ≡ w.storage_burn)

-- nothing was burnt where there is no rate
abbrev pub BurnsAtRate : World → Type 0
BurnsAtRate w = w.rate ≡ None → w.storage_burn ≡ 0

abbrev pub GroupsKeepBurn : Type 0
GroupsKeepBurn = (prices : Listed) (number : ℕ) (source : List ℕ) (contents : List Content) (w : World) (settled : Settled) →
    group prices number source contents w ≡ Some settled → KeepsBurn w settled.world

-- a group adds to the log what its receipt tells, and nothing else
abbrev pub ReceiptsTellChanges : Type 0
ReceiptsTellChanges = (prices : Listed) (number : ℕ) (source : List ℕ) (contents : List Content) (w : World) (settled : Settled) →
    group prices number source contents w ≡ Some settled → settled.world.log ≡ w.log ++ receipt_changes settled.receipt
