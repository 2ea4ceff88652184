-- Storages of contracts, and what calls make of them (Octez "Tickets"; Michelson reference, "big_map").
use Rattle.std.specs.Prelude.{◌≡◌, ◌+ℤ◌, ◌≤ℤ◌, neg_ℤ, ℕ, Option, Some, None, List, []}
use Rattle.std.specs.List.{AllByRecursion}
use Rattle.rules_data.specs.values.Tickets.{Identity, Held, tickets}
use Rattle.rules_code.specs.steps.Changes.{amount_among}
use Rattle.rules_data.specs.types.Kind.{Kind}
use Rattle.mich_base.specs.TypeView.{kind}
use Rattle.mich_forms.specs.Spelled.{place_bytes}
use Rattle.mich_forms.specs.declared.places.Place.{Place}
use Rattle.mich_forms.specs.declared.places.Place.TheVariants as place
use Rattle.mich_instr.specs.declared.instr.Script.{Script, out-Script}
use Rattle.mich_term.specs.Layers.{AreFormed}
use Rattle.mich_term.specs.ValueView.{val}
use Rattle.mich_term.specs.declared.value.Value.{Value}
use Rattle.mich_tickets.specs.Books.{Books}
use Rattle.mich_tickets.specs.Carrying.{MayLeave, Leaves, Enters}
use Rattle.mich_tickets.specs.Limits.{IsPositive}
use Rattle.mich_tickets.specs.Most.{most}
use Rattle.mich_tickets.specs.Sums.{held_of}
use Rattle.mich_bigmap.specs.Bases.{Bases}
use Rattle.mich_bigmap.specs.Kept.{names}
use Rattle.mich_bigmap.specs.Layers.{HasBases}
use Rattle.mich_bigmap.specs.Settling.{Settles, Lays}
use Rattle.mich_bigmap.specs.Shared.{SettledBy, SharesBy}
use Rattle.mich_bigmap.specs.Standing.{val_in}
use Rattle.mich_world.specs.Holders.{founded, committed, contract_at}
use Rattle.mich_world.specs.World.{World}
use Rattle.mich_world.specs.declared.contract.Contract.{Contract}

-- ---- all storages

-- the type of the storages of a script
abbrev pub storage_kind : Script → Kind
storage_kind s = kind (out-Script s).storage

-- the big maps of a storage have their form, with bases in the store; and those whose values can be duplicated are settled
pub record IsStored (bs : Bases) (c : Contract) : Type 0 where
  pub formed : AreFormed c.storage
  pub based : HasBases bs c.storage
  pub shared : SettledBy (storage_kind c.script) c.storage

abbrev pub AreStored : World → Type 0
AreStored w = AllByRecursion (λ c. IsStored w.store.bases.present c.1) w.funds.present.contracts

-- a storage whose bases were in the store stands for what it stood for, and they are there still
abbrev pub Stands : Bases → Bases → List ℕ × Contract → Type 0
Stands old new c = HasBases old c.1.storage → HasBases new c.1.storage × (val_in new c.1.storage ≡ val_in old c.1.storage)

-- the bases that a storage names
abbrev pub named_in : List ℕ × Contract → List ℕ
named_in c = names c.1.storage

-- ---- their tickets

abbrev pub owner_of : List ℕ → List ℕ
owner_of hash = place_bytes (place.Contract hash)

-- those that lie in the storage of a contract
abbrev pub stored_tickets : Option Contract → List Held
stored_tickets None = []
stored_tickets (Some c) = tickets (val c.storage)

-- An owner holds the tickets of the storage that is replaced, those of the new one have positive amounts, and none comes to more
-- than there may be.
pub record MayReplace (owner : List ℕ) (b : Books) (before after : List Held) : Type 0 where
  pub leave : MayLeave owner b before
  pub positive : AllByRecursion IsPositive after
  pub fits : (j : Identity) → ((held_of b j owner +ℤ neg_ℤ (amount_among j before)) +ℤ amount_among j after) ≤ℤ most

-- tickets went from an owner, and then others came to it
pub record Replaces (owner : List ℕ) (before after : List Held) (old new : Books) : Type 0 where
  pub between : Books
  pub left : Leaves owner before old between
  pub entered : Enters owner after between new

-- ---- calls

-- where and when are the same, and so is the list of changes
pub record SamePlace (old new : World) : Type 0 where
  pub chain : new.chain ≡ old.chain
  pub level : new.level ≡ old.level
  pub moment : new.moment ≡ old.moment
  pub changes : new.ledger.changes ≡ old.ledger.changes

-- a contract is made: a place pays its balance, its storage is settled in the store, and it holds the tickets of the storage
pub record Installs (from : Place) (hash : List ℕ) (mutez : ℕ) (script : Script) (given : Value) (old new : World) : Type 0 where
  pub storage : Value
  pub shares : SharesBy (storage_kind script) given storage
  pub funds : new.funds.present ≡ founded old.funds.present from hash (record { balance = mutez; paid = 0; script = script; storage = storage })
  pub settles : Settles old.store.bases.present new.store.bases.present given storage
  pub lays : Lays old.store new.store
  pub enters : Enters (owner_of hash) (tickets (val given)) old.ledger.books.present new.ledger.books.present
  pub same : SamePlace old new

-- a contract has a new storage, which is settled in the store; it holds its tickets in the place of those of the one before
pub record Commits (hash : List ℕ) (given : Value) (old new : World) : Type 0 where
  pub storage : Value
  pub shares : (c : Contract) → contract_at old.funds.present hash ≡ Some c → SharesBy (storage_kind c.script) given storage
  pub funds : new.funds.present ≡ committed old.funds.present hash storage
  pub settles : Settles old.store.bases.present new.store.bases.present given storage
  pub lays : Lays old.store new.store
  pub replaces : Replaces (owner_of hash) (stored_tickets (contract_at old.funds.present hash)) (tickets (val given)) old.ledger.books.present new.ledger.books.present
  pub same : SamePlace old new
