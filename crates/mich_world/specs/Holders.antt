-- Who holds mutez: accounts and contracts; with the fees that were taken, what was burnt for storage, all that was granted, and the
-- mutez that a byte of storage costs, if it costs any (Octez "Accounts and addresses", "Operations").
use Rattle.std.specs.Prelude.{◌≡◌, ℕ, ◌+◌, ◌-◌, ◌*◌, ◌≤◌, nat_lt, Bool, true, is_some, option_map, unwrap_or, Option, Some, None, List, [], if◌then◌else◌}
use Rattle.std.specs.declared.cmp.Ordering.{Ordering}
use Rattle.std.specs.Ordering.{nat_cmp}
use Rattle.std.specs.Cmp.Lexicographic.{slice_cmp}
use Rattle.std.specs.BTreeMap.{is_at, insert_entry}
use Rattle.std.specs.List.{sum_by}
use Rattle.std.specs.Map.{lookup, values_of}
use Rattle.rules_text.specs.nodes.Limits.{most_mutez}
use Rattle.mich_forms.specs.declared.places.Place.{Place}
use Rattle.mich_forms.specs.declared.places.Place.TheVariants as place
use Rattle.mich_term.specs.declared.value.Value.{Value}
use Rattle.mich_base.specs.undo.Undone.{changed_at}
use Rattle.mich_world.specs.declared.contract.Contract.{Contract}

-- the balances of accounts by the bytes of their key hashes, and the contracts by their 20 bytes
pub record Holders : Type 0 where
  pub accounts : List (List ℕ × ℕ)
  pub contracts : List (List ℕ × Contract)
  pub fees : ℕ
  pub storage_burn : ℕ
  pub granted : ℕ
  pub rate : Option ℕ

abbrev pub no_holders : Holders
no_holders = record { accounts = []; contracts = []; fees = 0; storage_burn = 0; granted = 0; rate = None }

-- neither an account nor a contract is there, and no rate was set
pub record IsNew (h : Holders) : Type 0 where
  pub accounts : h.accounts ≡ []
  pub contracts : h.contracts ≡ []
  pub rate : h.rate ≡ None

abbrev pub by_bytes : List ℕ → List ℕ → Ordering
by_bytes = slice_cmp nat_cmp

-- ---- who is there

abbrev pub account_at : Holders → List ℕ → Option ℕ
account_at h who = lookup (is_at (by_bytes who)) h.accounts

abbrev pub contract_at : Holders → List ℕ → Option Contract
contract_at h hash = lookup (is_at (by_bytes hash)) h.contracts

-- the balance at a place, if an account or contract is there
abbrev pub balance_at : Holders → Place → Option ℕ
balance_at h (place.Implicit who) = account_at h who
balance_at h (place.Contract hash) = option_map (λ c. c.balance) (contract_at h hash)

-- the balance, or 0 where nobody is there
abbrev pub balance_or_none : Holders → Place → ℕ
balance_or_none h p = unwrap_or (balance_at h p) 0

-- mutez may come to any account, and to a contract that is there
abbrev pub may_receive : Holders → Place → Bool
may_receive h (place.Implicit who) = true
may_receive h (place.Contract hash) = is_some (contract_at h hash)

-- the balance of a contract, or 0 where there is none
abbrev pub balance_in : Option Contract → ℕ
balance_in o = unwrap_or (option_map (λ c. c.balance) o) 0

-- ---- all mutez

-- the balances of contracts, added up
abbrev pub all_balances : List (List ℕ × Contract) → ℕ
all_balances cs = sum_by (λ c. c.balance) (values_of cs)

abbrev pub total : Holders → ℕ
total h = sum_by (λ n. n) (values_of h.accounts) + all_balances h.contracts + h.fees + h.storage_burn

-- no more is there than was granted, and that is no more than an amount may be
pub record IsSound (h : Holders) : Type 0 where
  pub within : total h ≤ h.granted
  pub small : h.granted ≤ most_mutez

-- ---- writes

abbrev pub with_account : Holders → List ℕ → ℕ → Holders
with_account h who mutez = record h { accounts = insert_entry by_bytes h.accounts who mutez }

abbrev pub with_contract : Holders → List ℕ → Contract → Holders
with_contract h hash c = record h { contracts = insert_entry by_bytes h.contracts hash c }

abbrev pub rebalanced : ℕ → Contract → Contract
rebalanced mutez c = record c { balance = mutez }

abbrev pub repaid : ℕ → Contract → Contract
repaid bytes c = record c { paid = bytes }

abbrev pub restored : Value → Contract → Contract
restored storage c = record c { storage = storage }

-- with a contract, if it is there, changed
abbrev pub with_change : (Contract → Contract) → Holders → List ℕ → Holders
with_change f h hash = record h { contracts = changed_at (is_at (by_bytes hash)) h.contracts f }

abbrev pub with_fees : Holders → ℕ → Holders
with_fees h mutez = record h { fees = mutez }

abbrev pub with_storage_burn : Holders → ℕ → Holders
with_storage_burn h mutez = record h { storage_burn = mutez }

abbrev pub with_granted : Holders → ℕ → Holders
with_granted h mutez = record h { granted = mutez }

abbrev pub with_rate : Holders → Option ℕ → Holders
with_rate h rate = record h { rate = rate }

-- ---- moves

-- an account is made where it isn't there
abbrev pub with_balance : Holders → Place → ℕ → Holders
with_balance h (place.Implicit who) mutez = with_account h who mutez
with_balance h (place.Contract hash) mutez = with_change (rebalanced mutez) h hash

abbrev pub with_less : Holders → Place → ℕ → Holders
with_less h p mutez = with_balance h p (balance_or_none h p - mutez)

abbrev pub with_more : Holders → Place → ℕ → Holders
with_more h p mutez = with_balance h p (balance_or_none h p + mutez)

-- so much mutez goes from one place to another
abbrev pub moved : Holders → Place → Place → ℕ → Holders
moved h from to mutez = with_more (with_less h from mutez) to mutez

-- a fee goes from an account to the fees
abbrev pub fee_taken : Holders → List ℕ → ℕ → Holders
fee_taken h who fee = with_fees (with_less h (place.Implicit who) fee) (h.fees + fee)

-- mutez go from an account to what was burnt for storage
abbrev pub burnt : Holders → List ℕ → ℕ → Holders
burnt h who mutez = with_storage_burn (with_less h (place.Implicit who) mutez) (h.storage_burn + mutez)

-- what is burnt at a rate for a contract that has this size; nothing where it is no larger than it has paid for
abbrev pub owed : ℕ → ℕ → Option Contract → Option ℕ
owed rate size (Some c) = if nat_lt c.paid size then Some ((size - c.paid) * rate) else None
owed rate size None = None

-- a contract has paid for its size, and an account pays the burn
abbrev pub storage_paid : Holders → List ℕ → ℕ → List ℕ → Option ℕ → Holders
storage_paid h hash size who (Some burn) = with_change (repaid size) (burnt h who burn) hash
storage_paid h hash size who None = h

-- an account is made with this balance
abbrev pub endowed : Holders → List ℕ → ℕ → Holders
endowed h who mutez = with_account (with_granted h (h.granted + mutez)) who mutez

-- a contract is made, and a place pays its balance
abbrev pub founded : Holders → Place → List ℕ → Contract → Holders
founded h from hash c = with_contract (with_less h from c.balance) hash c

-- a contract has a new storage
abbrev pub committed : Holders → List ℕ → Value → Holders
committed h hash storage = with_change (restored storage) h hash
