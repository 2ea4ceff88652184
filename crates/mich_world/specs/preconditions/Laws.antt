-- What the calls on a world ask follows from what holds of the good world that it stands for.
use Rattle.std.specs.Prelude.{◌≡◌, ◌≤◌, ℕ, ◌+ℤ◌, ◌≤ℤ◌, true, false, is_some, List, [], ◌∷◌, Option, length}
use Rattle.rules_text.specs.nodes.Tree.{Tree}
use Rattle.rules_code.specs.evaluation.Contracts.{hash_in}
use Rattle.rules_code.specs.evaluation.Operations.{transfer, origination}
use Rattle.rules_data.specs.forms.Spelling.{implicit_place, is_implicit, is_key_hash}
use Rattle.rules_code.specs.steps.Changes.{identity_of}
use Rattle.rules_data.specs.types.Kind.{Kind}
use Rattle.rules_data.specs.values.Tickets.{Held, tickets}
use Rattle.rules_data.specs.values.Val.{Val}
use Rattle.rules_world.specs.world.Balances.{balance_or_none, moved}
use Rattle.rules_world.specs.world.Forms.{IsTicket}
use Rattle.rules_world.specs.world.Gives.{as_value}
use Rattle.rules_world.specs.world.Good.{IsGood, MayRun, FitsIn}
use Rattle.rules_world.specs.world.Holdings.{held_by, debited}
use Rattle.rules_world.specs.world.Outcomes.{Setting, Counts, Waiting, issued}
use Rattle.rules_world.specs.world.Runs.{Finished}
use Rattle.rules_world.specs.world.Targets.{Target}
use Rattle.rules_world.specs.world.World.{World as PlainWorld, contract_at as plain_contract_at}
use Rattle.laws_world.specs.runs.RunEnds.{IsFinished}
use Rattle.mich_bigmap.specs.Standing.{val_in}
use Rattle.mich_bigmap.specs.Ticketless.{HoldNoTickets}
use Rattle.mich_term.specs.Layers.{AreFormed}
use Rattle.mich_term.specs.ValueView.{val}
use Rattle.mich_term.specs.declared.value.Value.{Value}
use Rattle.mich_tickets.specs.Carrying.{MayEnter}
use Rattle.mich_tickets.specs.Most.{most}
use Rattle.mich_tickets.specs.Sums.{held_of}
use Rattle.mich_world.specs.Holders.{contract_at}
use Rattle.mich_world.specs.Standing.{StandsFor}
use Rattle.mich_world.specs.Storages.{AreStored, MayReplace, owner_of, stored_tickets}
use Rattle.mich_world.specs.World.{World}
use Rattle.mich_world.specs.simulation.Runs.{Runs}

-- ---- values that a world has room for

-- what a transfer that waits hands over
abbrev pub TransfersMayRun : Type 0
TransfersMayRun = (w : PlainWorld) (sender : List ℕ) (argument : Val) (amount : ℕ) (destination : List ℕ) (waiting : List Waiting)
    → IsGood w (issued sender (transfer argument amount destination) ∷ waiting) → MayRun w argument

-- the storage of an origination that waits
abbrev pub OriginationsMayRun : Type 0
OriginationsMayRun = (w : PlainWorld) (sender : List ℕ) (delegate : Option (List ℕ)) (amount : ℕ) (script : Tree) (storage : Val) (hash : List ℕ)
    (waiting : List Waiting) → IsGood w (issued sender (origination delegate amount script storage hash) ∷ waiting) → MayRun w storage

-- a value without tickets
abbrev pub PlainValuesMayRun : Type 0
PlainValuesMayRun = (w : PlainWorld) (waiting : List Waiting) (x : Val) → IsGood w waiting → tickets x ≡ [] → MayRun w x

-- a ticket that was taken from an account
abbrev pub GiftsMayRun : Type 0
GiftsMayRun = (w : PlainWorld) (waiting : List Waiting) (who : List ℕ) (t : Held) → IsGood w waiting → is_key_hash who ≡ true → IsTicket t
    → t.amount ≤ℤ held_by w (identity_of t) (implicit_place who)
    → MayRun (debited w who t) (as_value t)

-- mutez may come to any account, and to a contract that is there
abbrev pub MayReceive : PlainWorld → List ℕ → Type 0
MayReceive w place = is_implicit place ≡ false → is_some (plain_contract_at w (hash_in place)) ≡ true

-- after a move of mutez there is as much room
abbrev pub MovesLeaveRoom : Type 0
MovesLeaveRoom = (w : PlainWorld) (from to : List ℕ) (mutez : ℕ) (x : Val) → MayRun w x → mutez ≤ balance_or_none w from
    → MayReceive w to → MayRun (moved w from to mutez) x

-- ---- what calls ask

-- a ticket may come to an account
abbrev pub CreditsFit : Type 0
CreditsFit = (u : World) (w : PlainWorld) (who : List ℕ) (t : Held) → StandsFor u w → MayRun w (as_value t) → is_key_hash who ≡ true
    → (held_of u.ledger.books.present (identity_of t) (implicit_place who) +ℤ t.amount) ≤ℤ most

-- the tickets in a storage may come to the contract
abbrev pub InstallsFit : Type 0
InstallsFit = (u : World) (w : PlainWorld) (hash : List ℕ) (given : Value) (a : Kind) → StandsFor u w → HoldNoTickets u.store.bases.present
    → AreFormed given → length hash ≡ 20 → FitsIn w a (val_in u.store.bases.present given) → MayRun w (val_in u.store.bases.present given)
    → MayEnter (owner_of hash) u.ledger.books.present (tickets (val given))

-- the storage that a run leaves may be kept
abbrev pub CommitsFit : Type 0
CommitsFit = (u v : World) (w : PlainWorld) (s : Setting) (t : Target) (argument : Val) (counts : Counts) (f : Finished) (given : Value)
    → (is : IsFinished s w t argument counts f) → StandsFor u w → AreStored u → HoldNoTickets u.store.bases.present
    → Runs f.changes u v → HoldNoTickets v.store.bases.present → MayRun w argument
    → AreFormed given → val_in v.store.bases.present given ≡ is.storage
    → MayReplace (owner_of t.hash) v.ledger.books.present (stored_tickets (contract_at v.funds.present t.hash)) (tickets (val given))
