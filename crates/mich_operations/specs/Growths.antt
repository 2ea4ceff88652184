-- The growth of contracts, which the source of a group is charged (Octez "Operations", storage fees and burn).
use Rattle.std.specs.Prelude.{◌≡◌, ℕ, nat_lt, true, false, List, Option, Some, None, Result, Ok, Err}
use Rattle.rules_data.specs.forms.Spelling.{contract_place, implicit_place, is_key_hash}
use Rattle.rules_data.specs.gas.Prices.{Listed}
use Rattle.rules_world.specs.world.Balances.{balance_or_none}
use Rattle.rules_world.specs.world.Forms.{IsWorld}
use Rattle.rules_world.specs.world.Groups.{setting_of}
use Rattle.rules_world.specs.world.Growth.{Burn, burn_of, burnt_from, growing, paid_for}
use Rattle.rules_world.specs.world.Outcomes.{Outcome}
use Rattle.rules_world.specs.world.Receipts.{Storage}
use Rattle.rules_world.specs.world.World.{World as PlainWorld}
use Rattle.mich_state.specs.declared.state.Counts.{Counts}
use Rattle.mich_ops.specs.View.{effect}
use Rattle.mich_ops.specs.declared.failure.Failure.TheVariants as failures
use Rattle.mich_ops.specs.declared.receipt.Effect.{Effect}
use Rattle.mich_world.specs.Holders.{storage_paid}
use Rattle.mich_world.specs.Standing.{StandsFor}
use Rattle.mich_world.specs.World.{World, with_funds}
use Rattle.mich_operations.specs.Going.{EndsAs, IsApplied}
use Rattle.mich_operations.specs.declared.applied.Applied.{Applied}
use Rattle.mich_operations.specs.declared.applied.ApplyError.{ApplyError}
use Rattle.mich_operations.specs.declared.applied.ApplyError.TheVariants.{Failed, Memory}

-- nothing has changed but that a contract may have paid for a size, and a source what was burnt for that
pub record Pays (source hash : List ℕ) (old new : World) : Type 0 where
  pub size : ℕ
  pub burn : Option ℕ
  pub funds : new.funds.present ≡ storage_paid old.funds.present hash size source burn
  pub others : new ≡ with_funds old new.funds

-- what is to be burnt was, or the source has less
abbrev pub IsCharge : Result (Option Effect) ApplyError → Option Burn → PlainWorld → List ℕ → List ℕ → World → Type 0
IsCharge (Ok None) None w source hash v = StandsFor v w
IsCharge (Ok None) (Some b) w source hash v = ⊥
IsCharge (Ok (Some e)) None w source hash v = ⊥
IsCharge (Ok (Some e)) (Some b) w source hash v =
    (nat_lt (balance_or_none w (implicit_place source)) b.mutez ≡ false)
    × (effect e ≡ Storage (contract_place hash) b.bytes b.mutez)
    × StandsFor v (paid_for (burnt_from w (implicit_place source) b.mutez) hash b.bytes)
IsCharge (Err (Failed failures.CannotPayBurn)) None w source hash v = ⊥
IsCharge (Err (Failed failures.CannotPayBurn)) (Some b) w source hash v = nat_lt (balance_or_none w (implicit_place source)) b.mutez ≡ true
IsCharge (Err (Failed why)) b w source hash v = ⊥
IsCharge (Err Memory) b w source hash v = Unit {0}

abbrev pub Charges : List ℕ → List ℕ → World → World → Result (Option Effect) ApplyError → Type 0
Charges source hash old new r =
    (w : PlainWorld) → StandsFor old w → IsWorld w → is_key_hash source ≡ true → IsCharge r (burn_of w hash) w source hash new

-- an operation was applied so, its world has the form of worlds, and there may be such a source
pub record IsGrowing (o : Outcome) (v : World) (source : List ℕ) (gas : ℕ) (old new : Counts) (a : Applied) : Type 0 where
  pub applied : IsApplied o v gas old new a
  pub form : IsWorld applied.world
  pub key : is_key_hash source ≡ true

-- so it ends with the growth of its contract behind it
abbrev pub Grows : World → List ℕ → Applied → World → Result Applied ApplyError → Type 0
Grows v source a new r =
    (prices : Listed) (group : ℕ) (o : Outcome) (gas : ℕ) (old now : Counts) → IsGrowing o v source gas old now a
    → EndsAs (growing (setting_of prices group source) a.by o) new gas old now r
