-- Accounts and contracts, with their mutez and tickets (Octez "Accounts and addresses", "Tickets").
use Rattle.std.specs.Prelude.{ℕ, ℤ, List, [], drop, Option, None, unwrap_or}
use Rattle.std.specs.declared.cmp.Ordering.{Ordering}
use Rattle.std.specs.Ordering.{nat_cmp, ordering_then}
use Rattle.std.specs.Cmp.Lexicographic.{slice_cmp}
use Rattle.std.specs.BTreeMap.{is_at, insert_entry}
use Rattle.std.specs.Map.{lookup}
use Rattle.rules_text.specs.text.Printed.{printed}
use Rattle.rules_data.specs.types.Kind.{Kind}
use Rattle.rules_data.specs.types.Printing.{node_of}
use Rattle.rules_data.specs.values.Order.{order}
use Rattle.rules_data.specs.values.Tickets.{Identity}
use Rattle.rules_code.specs.steps.Changes.{Change}
use Rattle.rules_code.specs.evaluation.Surroundings.{Contract}

-- ---- the order of tickets

-- types stand by the bytes of their text
abbrev pub kind_order : Kind → Kind → Ordering
kind_order a b = slice_cmp nat_cmp (printed (node_of a)) (printed (node_of b))

-- tickets by the bytes of their issuer, then by type, then by content
abbrev pub identity_order : Identity → Identity → Ordering
identity_order a b =
    ordering_then (slice_cmp nat_cmp a.issuer b.issuer) (ordering_then (kind_order a.kind b.kind) (order a.content b.content))

-- ---- the world

-- an implicit account: its balance in mutez, and a positive amount for each ticket that it holds, in the order of tickets
pub record Account : Type 0 where
  pub balance : ℕ
  pub holdings : List (Identity × ℤ)

-- where and when operations are applied; the accounts by the bytes of their key hashes, and the contracts by their 20 bytes;
-- the fees taken, what was burnt for storage, and all that was granted, each in mutez; the rate, in mutez for a byte of storage,
-- if there is one; and all changes of tickets by operations that were applied
pub record World : Type 0 where
  pub chain : List ℕ
  pub level : ℕ
  pub moment : ℤ
  pub accounts : List (List ℕ × Account)
  pub contracts : List (List ℕ × Contract)
  pub fees : ℕ
  pub storage_burn : ℕ
  pub granted : ℕ
  pub rate : Option ℕ
  pub log : List Change

abbrev pub new_world : List ℕ → ℕ → ℤ → World
new_world chain level moment =
    record { chain = chain; level = level; moment = moment; accounts = []; contracts = []; fees = 0; storage_burn = 0; granted = 0; rate = None; log = [] }

-- ---- who is there

abbrev pub account_at : World → List ℕ → Option Account
account_at w who = lookup (is_at (slice_cmp nat_cmp who)) w.accounts

abbrev pub contract_at : World → List ℕ → Option Contract
contract_at w hash = lookup (is_at (slice_cmp nat_cmp hash)) w.contracts

-- what an account has that isn't there
abbrev pub no_account : Account
no_account = record { balance = 0; holdings = [] }

abbrev pub account_or_none : World → List ℕ → Account
account_or_none w who = unwrap_or (account_at w who) no_account

-- with this account, or contract, in the place of the one before, if there was one
abbrev pub with_account : World → List ℕ → Account → World
with_account w who account = record w { accounts = insert_entry (slice_cmp nat_cmp) w.accounts who account }

abbrev pub with_contract : World → List ℕ → Contract → World
with_contract w hash contract = record w { contracts = insert_entry (slice_cmp nat_cmp) w.contracts hash contract }

-- ---- places

-- the key hash in an account's place; another place is a contract's
abbrev pub key_hash_in : List ℕ → List ℕ
key_hash_in place = drop 1 place
