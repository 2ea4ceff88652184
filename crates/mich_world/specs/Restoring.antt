-- What worlds are restored from, and the worlds of the definitions that they stand for.
use Rattle.std.specs.Prelude.{◌≡◌, ◌+◌, ◌≤◌, ◌≤ℤ◌, ℕ, ℤ, pos, int_lt, List, [], ◌∷◌, map, if◌then◌else◌}
use Rattle.std.specs.declared.cmp.Ordering.{Ordering}
use Rattle.std.specs.BTreeMap.{insert_entry}
use Rattle.std.specs.List.{AllByRecursion, flat_map, sum_by}
use Rattle.rules_code.specs.steps.Changes.{Change, minted, burnt}
use Rattle.rules_code.specs.evaluation.Surroundings.{Contract as PlainContract}
use Rattle.rules_data.specs.forms.Spelling.{implicit_place}
use Rattle.rules_data.specs.values.Tickets.{Identity, Held, tickets}
use Rattle.rules_world.specs.world.Good.{IsGood}
use Rattle.rules_world.specs.world.World.{World as PlainWorld, Account}
use Rattle.mich_bigmap.specs.Layers.{HasBases}
use Rattle.mich_bigmap.specs.Stored.{no_bases}
use Rattle.mich_bigmap.specs.Ticketless.{HoldNoTickets}
use Rattle.mich_instr.specs.View.{script_node}
use Rattle.mich_instr.specs.declared.instr.Script.{Script}
use Rattle.mich_term.specs.Layers.{AreFormed}
use Rattle.mich_term.specs.TicketView.{identity, held}
use Rattle.mich_term.specs.ValueView.{val}
use Rattle.mich_term.specs.declared.ticket.TicketId.{TicketId}
use Rattle.mich_tickets.specs.declared.totals.Totals.{Totals}
use Rattle.mich_world.specs.Gifts.{Gift, MayGive, Gives}
use Rattle.mich_world.specs.Holders.{Holders, by_bytes, total}
use Rattle.mich_world.specs.Standing.{contract_in, StandsFor}
use Rattle.mich_world.specs.Storages.{AreStored, owner_of}
use Rattle.mich_world.specs.World.{World, no_world, with_funds}
use Rattle.mich_world.specs.declared.contract.Contract.{Contract}
use Rattle.mich_world.specs.declared.restoring.Saved.{Saved}
use Rattle.mich_world.specs.declared.restoring.SavedAccount.{SavedAccount}
use Rattle.mich_world.specs.declared.restoring.SavedContract.{SavedContract}

-- ---- parts

abbrev pub holding_of : TicketId × ℤ → Identity × ℤ
holding_of h = (identity h.0, h.1)

abbrev pub account_of : SavedAccount → List ℕ × Account
account_of a = (a.who, record { balance = a.balance; holdings = map holding_of a.held })

-- a contract, whose big maps keep all entries in themselves
abbrev pub contract_of : SavedContract → List ℕ × PlainContract
contract_of c = (
  c.hash,
  record {
    balance = c.contract.balance;
    paid = c.contract.paid;
    script = script_node c.contract.script;
    storage = val c.contract.storage;
  },
)

-- a mint of all that was minted of a ticket, and a burn of what was burnt, if any was
abbrev pub told_of : TicketId × Totals → List Change
told_of t =
    minted (held (record { id = t.0; amount = t.1.minted }))
    ∷ (if int_lt (pos 0) t.1.burnt then burnt (held (record { id = t.0; amount = t.1.burnt })) ∷ [] else [])

-- ---- worlds

-- all mutez
abbrev pub supply_of : Saved → ℕ
supply_of s = sum_by (λ a. a.balance) s.accounts + sum_by (λ c. c.contract.balance) s.contracts + s.fees + s.burned

-- as much is granted as there is
abbrev pub world_of : Saved → PlainWorld
world_of s = record {
  chain = s.chain;
  level = s.level;
  moment = s.moment;
  accounts = map account_of s.accounts;
  contracts = map contract_of s.contracts;
  fees = s.fees;
  storage_burn = s.burned;
  granted = supply_of s;
  rate = s.rate;
  log = flat_map told_of s.totals;
}

-- ---- what may be restored

-- some was minted, and no more was burnt
pub record AreTotals (t : Totals) : Type 0 where
  pub minted : pos 1 ≤ℤ t.minted
  pub burnt : pos 0 ≤ℤ t.burnt
  pub within : t.burnt ≤ℤ t.minted

-- the big maps of a storage have their form, and none has a base
pub record IsAlone (c : SavedContract) : Type 0 where
  pub formed : AreFormed c.contract.storage
  pub alone : HasBases no_bases.bases.present c.contract.storage

-- the world is a good one in which nothing waits
pub record IsRestorable (s : Saved) : Type 0 where
  pub good : IsGood (world_of s) []
  pub totals : AllByRecursion (λ t. AreTotals t.1) s.totals
  pub contracts : AllByRecursion IsAlone s.contracts

-- ---- stages

-- entries that are written one after the other
abbrev pub put_all : {K X : Type 0} → (K → K → Ordering) → List (K × X) → List (K × X) → List (K × X)
put_all order es [] = es
put_all order es (f ∷ fs) = put_all order (insert_entry order es f.0 f.1) fs

-- nobody is there, and all mutez are granted
abbrev pub begun_holders : Saved → Holders
begun_holders s =
    record { accounts = []; contracts = []; fees = s.fees; storage_burn = s.burned; granted = supply_of s; rate = s.rate }

pub record IsBegun (s : Saved) (w : World) : Type 0 where
  pub funds : w.funds.present ≡ begun_holders s
  pub others : w ≡ with_funds (no_world s.chain s.level s.moment) w.funds

-- where and when are the same
pub record SameTime (old new : World) : Type 0 where
  pub chain : new.chain ≡ old.chain
  pub level : new.level ≡ old.level
  pub moment : new.moment ≡ old.moment

-- ---- accounts

abbrev pub ticket_of : TicketId × ℤ → Held
ticket_of h = held (record { id = h.0; amount = h.1 })

-- the balance of an account, and the tickets that it holds
abbrev pub purse_of : SavedAccount → List ℕ × ℕ
purse_of a = (a.who, a.balance)

abbrev pub account_gift : SavedAccount → Gift
account_gift a = (implicit_place a.who, map ticket_of a.held)

pub record MayPutAccounts (accounts : List SavedAccount) (w : World) : Type 0 where
  pub funds : total w.funds.present + sum_by (λ a. a.balance) accounts ≤ w.funds.present.granted
  pub tickets : MayGive (map account_gift accounts) w.ledger.books.present

pub record PutsAccounts (accounts : List SavedAccount) (old new : World) : Type 0 where
  pub time : SameTime old new
  pub store : new.store ≡ old.store
  pub funds : new.funds.present ≡ record old.funds.present { accounts = put_all by_bytes old.funds.present.accounts (map purse_of accounts) }
  pub within : total new.funds.present ≤ total old.funds.present + sum_by (λ a. a.balance) accounts
  pub tickets : Gives (map account_gift accounts) old.ledger.books.present new.ledger.books.present

-- ---- contracts

abbrev pub contract_gift : SavedContract → Gift
contract_gift c = (owner_of c.hash, tickets (val c.contract.storage))

-- the contracts of a world, with their big maps seen in its store; and their scripts
abbrev pub plain_contracts : World → List (List ℕ × PlainContract)
plain_contracts w = map (contract_in w.store.bases.present) w.funds.present.contracts

abbrev pub script_in : List ℕ × Contract → List ℕ × Script
script_in c = (c.0, c.1.script)

abbrev pub script_of : SavedContract → List ℕ × Script
script_of c = (c.hash, c.contract.script)

pub record MayPutContracts (contracts : List SavedContract) (w : World) : Type 0 where
  pub funds : total w.funds.present + sum_by (λ c. c.contract.balance) contracts ≤ w.funds.present.granted
  pub tickets : MayGive (map contract_gift contracts) w.ledger.books.present
  pub alone : AllByRecursion IsAlone contracts
  pub stored : AreStored w

pub record PutsContracts (saved : List SavedContract) (old new : World) : Type 0 where
  pub time : SameTime old new
  pub funds : new.funds.present ≡ record old.funds.present { contracts = new.funds.present.contracts }
  pub within : total new.funds.present ≤ total old.funds.present + sum_by (λ c. c.contract.balance) saved
  pub contracts : plain_contracts new ≡ put_all by_bytes (plain_contracts old) (map contract_of saved)
  pub scripts : map script_in new.funds.present.contracts ≡ put_all by_bytes (map script_in old.funds.present.contracts) (map script_of saved)
  pub tickets : Gives (map contract_gift saved) old.ledger.books.present new.ledger.books.present
  pub stored : AreStored new
  pub ticketless : HoldNoTickets old.store.bases.present → HoldNoTickets new.store.bases.present

-- ---- the whole

pub record IsRestored (s : Saved) (w : World) : Type 0 where
  pub stands : StandsFor w (world_of s)
  pub stored : AreStored w
  pub ticketless : HoldNoTickets w.store.bases.present
  pub scripts : map (λ c. c.1.script) w.funds.present.contracts ≡ map (λ c. c.contract.script) s.contracts

-- what was restored stays so
abbrev pub StaysRestored : World → World → Type 0
StaysRestored old new = (s : Saved) → IsRestored s old → IsRestored s new
