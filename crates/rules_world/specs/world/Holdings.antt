-- Who has which tickets (Octez "Tickets"). Owners of tickets are places: an account has its holdings, a contract the
-- tickets that it stores.
use Rattle.std.specs.Prelude.{ℕ, ℤ, pos, ◌+ℤ◌, ◌-ℤ◌, int_le, List, [], ◌∷◌, Option, Some, None, unwrap_or, if◌then◌else◌}
use Rattle.std.specs.Ordering.{match_ordering}
use Rattle.std.specs.BTreeMap.{is_at, insert_entry}
use Rattle.std.specs.Map.{lookup, remove_entry}
use Rattle.rules_data.specs.values.Tickets.{Identity, Held}
use Rattle.rules_code.specs.steps.Changes.{Change, minted, burnt, identity_of, minted_in, burnt_in, amount_in}
use Rattle.rules_code.specs.evaluation.Surroundings.{Contract}
use Rattle.rules_world.specs.world.World.{World, Account, identity_order, account_at, contract_at, account_or_none, with_account, key_hash_in}
use Rattle.rules_data.specs.forms.Spelling.{is_implicit}
use Rattle.rules_code.specs.evaluation.Contracts.{hash_in}

-- ---- tickets that an account holds

abbrev pub amount_held : Account → Identity → ℤ
amount_held account id = unwrap_or (lookup (is_at (identity_order id)) account.holdings) (pos 0)

-- with so much of one; nothing is kept of what isn't held
abbrev pub with_amount : Account → Identity → ℤ → Account
with_amount account id amount =
    if int_le amount (pos 0)
    then record account { holdings = remove_entry (is_at (identity_order id)) account.holdings }
    else record account { holdings = insert_entry identity_order account.holdings id amount }

-- a ticket comes to an account, which is made where it isn't there
abbrev pub credited_account : Account → Held → Account
credited_account account t = with_amount account (identity_of t) (amount_held account (identity_of t) +ℤ t.amount)

abbrev pub credited : World → List ℕ → Held → World
credited w who t = with_account w who (credited_account (account_or_none w who) t)

-- a ticket goes from an account
abbrev pub debited_account : Account → Held → Account
debited_account account t = with_amount account (identity_of t) (amount_held account (identity_of t) -ℤ t.amount)

abbrev pub debited : World → List ℕ → Held → World
debited w who t = with_account w who (debited_account (account_or_none w who) t)

-- ---- sums

-- how much of an identity an owner has; nobody has nothing
abbrev pub held_by_account : Option Account → Identity → ℤ
held_by_account (Some account) id = amount_held account id
held_by_account None id = pos 0

abbrev pub held_by_contract : Option Contract → Identity → ℤ
held_by_contract (Some contract) id = amount_in id contract.storage
held_by_contract None id = pos 0

abbrev pub held_by : World → Identity → List ℕ → ℤ
held_by w id owner =
    if is_implicit owner
    then held_by_account (account_at w (key_hash_in owner)) id
    else held_by_contract (contract_at w (hash_in owner)) id

-- all owners together
abbrev pub held_by_accounts : Identity → List (List ℕ × Account) → ℤ
held_by_accounts id [] = pos 0
held_by_accounts id (a ∷ accounts) = amount_held a.1 id +ℤ held_by_accounts id accounts

abbrev pub held_by_contracts : Identity → List (List ℕ × Contract) → ℤ
held_by_contracts id [] = pos 0
held_by_contracts id (c ∷ contracts) = amount_in id c.1.storage +ℤ held_by_contracts id contracts

abbrev pub held : World → Identity → ℤ
held w id = held_by_accounts id w.accounts +ℤ held_by_contracts id w.contracts

-- all that was ever minted, and all that was burnt
abbrev pub minted_ever : World → Identity → ℤ
minted_ever w id = minted_in id w.log

abbrev pub burnt_ever : World → Identity → ℤ
burnt_ever w id = burnt_in id w.log

-- ---- tickets by their order

-- among tickets in order, one more, if it isn't there
abbrev pub with_identity : Identity → List Identity → List Identity
with_identity id [] = id ∷ []
with_identity id (j ∷ js) = match_ordering (identity_order id j) (id ∷ j ∷ js) (j ∷ js) (j ∷ with_identity id js)

-- the tickets that changes mint, each once
abbrev pub identities : List Change → List Identity
identities [] = []
identities (minted t ∷ changes) = with_identity (identity_of t) (identities changes)
identities (burnt t ∷ changes) = identities changes
