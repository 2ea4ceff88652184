-- How mutez moves (Octez "Operations", fees and transfers). Owners of mutez are places.
use Rattle.std.specs.Prelude.{ℕ, ◌+◌, ◌-◌, nat_le, List, Option, Some, None, is_some, option_map, unwrap_or, if◌then◌else◌}
use Rattle.std.specs.Map.{values_of}
use Rattle.std.specs.List.{sum_by}
use Rattle.rules_text.specs.nodes.Limits.{most_mutez}
use Rattle.rules_code.specs.evaluation.Surroundings.{Contract}
use Rattle.rules_world.specs.world.World.{World, account_at, contract_at, account_or_none, with_account, with_contract, key_hash_in}
use Rattle.rules_data.specs.forms.Spelling.{is_implicit}
use Rattle.rules_code.specs.evaluation.Contracts.{hash_in}

-- the balance at a place, if an account or contract is there
abbrev pub balance_at : World → List ℕ → Option ℕ
balance_at w place =
    if is_implicit place
    then option_map (λ account. account.balance) (account_at w (key_hash_in place))
    else option_map (λ contract. contract.balance) (contract_at w (hash_in place))

-- the balance, or 0 where nobody is there
abbrev pub balance_or_none : World → List ℕ → ℕ
balance_or_none w place = unwrap_or (balance_at w place) 0

-- ---- moves

-- an account with this balance, which is made where it isn't there
abbrev pub with_account_balance : World → List ℕ → ℕ → World
with_account_balance w who mutez = with_account w who (record (account_or_none w who) { balance = mutez })

-- a contract, if it is there, with this balance
abbrev pub with_contract_balance : World → List ℕ → ℕ → Option Contract → World
with_contract_balance w hash mutez (Some contract) = with_contract w hash (record contract { balance = mutez })
with_contract_balance w hash mutez None = w

abbrev pub with_balance : World → List ℕ → ℕ → World
with_balance w place mutez =
    if is_implicit place
    then with_account_balance w (key_hash_in place) mutez
    else with_contract_balance w (hash_in place) mutez (contract_at w (hash_in place))

abbrev pub with_less : World → List ℕ → ℕ → World
with_less w place mutez = with_balance w place (balance_or_none w place - mutez)

abbrev pub with_more : World → List ℕ → ℕ → World
with_more w place mutez = with_balance w place (balance_or_none w place + mutez)

-- so much mutez goes from one place to another; an account is made where it isn't there
abbrev pub moved : World → List ℕ → List ℕ → ℕ → World
moved w from to mutez = with_more (with_less w from mutez) to mutez

-- a fee goes from a place to the fees
abbrev pub fee_taken : World → List ℕ → ℕ → World
fee_taken w from fee = record (with_less w from fee) { fees = w.fees + fee }

-- ---- all mutez

-- all balances, the fees and what was burnt
abbrev pub supply : World → ℕ
supply w =
    sum_by (λ account. account.balance) (values_of w.accounts)
    + sum_by (λ contract. contract.balance) (values_of w.contracts)
    + w.fees
    + w.storage_burn

-- what a grant comes to: an account is made once, and no more than 2^63 - 1 mutez are granted in all
pub data Grant : Type 0 where
  Granted : World → Grant
  Repeated : Grant
  TooMuch : Grant

-- an account is made with this balance
abbrev pub endowed : World → List ℕ → ℕ → World
endowed w who mutez = record (with_account_balance w who mutez) { granted = w.granted + mutez }

abbrev pub granted_to : World → List ℕ → ℕ → Grant
granted_to w who mutez =
    if is_some (account_at w who) then Repeated
    else if nat_le (w.granted + mutez) most_mutez then Granted (endowed w who mutez)
    else TooMuch
