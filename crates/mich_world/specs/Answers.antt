-- What the calls answer, and what becomes of the holders then.
use Rattle.std.specs.Prelude.{◌≡◌, ◌+◌, ◌<◌, ◌≤◌, ℕ, true, false, is_some, unwrap_or, List, Result, Ok, Err}
use Rattle.rules_text.specs.nodes.Limits.{most_mutez}
use Rattle.mich_forms.specs.declared.places.Place.{Place}
use Rattle.mich_forms.specs.declared.places.Place.TheVariants as place
use Rattle.mich_instr.specs.declared.instr.Script.{Script}
use Rattle.mich_term.specs.declared.value.Value.{Value}
use Rattle.mich_base.specs.undo.History.{History}
use Rattle.mich_world.specs.Holders.{Holders, account_at, contract_at, balance_or_none, may_receive, moved, fee_taken, owed, storage_paid, endowed}
use Rattle.mich_world.specs.Marks.{IsSame}
use Rattle.mich_world.specs.Storages.{Installs}
use Rattle.mich_world.specs.World.{World}
use Rattle.mich_world.specs.declared.errors.MoveError.{MoveError}
use Rattle.mich_world.specs.declared.errors.MoveError.TheVariants as move
use Rattle.mich_world.specs.declared.errors.GrantError.{GrantError}
use Rattle.mich_world.specs.declared.errors.GrantError.TheVariants as grant

-- an account is made
abbrev pub IsGrant : {U : Type 0} → List ℕ → ℕ → History Holders → History Holders → Result U GrantError → Type 0
IsGrant who mutez old new (Ok _) =
    (is_some (account_at old.present who) ≡ false) × (old.present.granted + mutez ≤ most_mutez) × (new.present ≡ endowed old.present who mutez)
IsGrant who mutez old new (Err grant.RepeatedAccount) = (is_some (account_at old.present who) ≡ true) × (new ≡ old)
IsGrant who mutez old new (Err grant.SupplyLimit) =
    (is_some (account_at old.present who) ≡ false) × (most_mutez < old.present.granted + mutez) × (new ≡ old)
IsGrant who mutez old new (Err grant.Memory) = new ≡ old

-- mutez go from one place to another
abbrev pub IsMove : {U : Type 0} → Place → Place → ℕ → History Holders → History Holders → Result U MoveError → Type 0
IsMove from to mutez old new (Ok _) =
    (may_receive old.present to ≡ true) × (mutez ≤ balance_or_none old.present from) × (new.present ≡ moved old.present from to mutez)
IsMove from to mutez old new (Err move.NoContract) = (may_receive old.present to ≡ false) × (new ≡ old)
IsMove from to mutez old new (Err move.BalanceTooLow) =
    (may_receive old.present to ≡ true) × (balance_or_none old.present from < mutez) × (new ≡ old)
IsMove from to mutez old new (Err move.Memory) = new ≡ old

-- a fee goes from an account to the fees
abbrev pub IsFee : {U : Type 0} → List ℕ → ℕ → History Holders → History Holders → Result U MoveError → Type 0
IsFee who fee old new (Ok _) =
    (fee ≤ balance_or_none old.present (place.Implicit who)) × (new.present ≡ fee_taken old.present who fee)
IsFee who fee old new (Err move.BalanceTooLow) = (balance_or_none old.present (place.Implicit who) < fee) × (new ≡ old)
IsFee who fee old new (Err move.NoContract) = ⊥
IsFee who fee old new (Err move.Memory) = new ≡ old

-- a contract of this size pays at a rate for what it grew by
abbrev pub IsPayment : ℕ → List ℕ → ℕ → List ℕ → History Holders → History Holders → Result ℕ MoveError → Type 0
IsPayment rate hash size who old new (Ok burn) =
    (burn ≡ unwrap_or (owed rate size (contract_at old.present hash)) 0) × (burn ≤ balance_or_none old.present (place.Implicit who))
    × (new.present ≡ storage_paid old.present hash size who (owed rate size (contract_at old.present hash)))
IsPayment rate hash size who old new (Err move.BalanceTooLow) =
    (balance_or_none old.present (place.Implicit who) < unwrap_or (owed rate size (contract_at old.present hash)) 0) × (new ≡ old)
IsPayment rate hash size who old new (Err move.NoContract) = ⊥
IsPayment rate hash size who old new (Err move.Memory) = new ≡ old

-- a contract is made
abbrev pub IsInstall : {U : Type 0} → Place → List ℕ → ℕ → Script → Value → World → World → Result U MoveError → Type 0
IsInstall from hash mutez script storage old new (Ok _) =
    (mutez ≤ balance_or_none old.funds.present from) × Installs from hash mutez script storage old new
IsInstall from hash mutez script storage old new (Err move.BalanceTooLow) = (balance_or_none old.funds.present from < mutez) × (new ≡ old)
IsInstall from hash mutez script storage old new (Err move.NoContract) = ⊥
IsInstall from hash mutez script storage old new (Err move.Memory) = IsSame old new
