-- The world of the definitions that a world stands for after each of its calls.
use Rattle.std.specs.Prelude.{◌≡◌, ◌||◌, ◌≤◌, ◌-◌, option_map, ℕ, ℤ, neg_ℤ, ◌≤ℤ◌, true, false, is_some, List, [], ◌++◌, length, Option, Some, Result, Ok, Err}
use Rattle.std.specs.List.{All, AllByRecursion}
use Rattle.rules_code.specs.evaluation.Contracts.{hash_in}
use Rattle.rules_code.specs.evaluation.Surroundings.{Contract as PlainContract}
use Rattle.rules_data.specs.forms.Spelling.{implicit_place, is_implicit, is_key_hash, is_place}
use Rattle.rules_code.specs.steps.Changes.{Change, amount_of, identity_of}
use Rattle.rules_data.specs.values.Tickets.{Held}
use Rattle.rules_world.specs.world.Balances as rules
use Rattle.rules_world.specs.world.Forms.{IsWorld, IsChange}
use Rattle.rules_world.specs.world.Growth.{burnt_from, paid_for}
use Rattle.rules_world.specs.world.Holdings.{credited, debited}
use Rattle.rules_world.specs.world.Originations.{founded}
use Rattle.rules_world.specs.world.Runs.{kept}
use Rattle.rules_world.specs.world.World.{World as PlainWorld, new_world, contract_at as plain_contract_at, account_at as plain_account_at, with_contract}
use Rattle.mich_bigmap.specs.Extended.{Extends}
use Rattle.mich_bigmap.specs.Standing.{val_in}
use Rattle.mich_bigmap.specs.Stored.{Stored}
use Rattle.mich_bigmap.specs.Ticketless.{HoldNoTickets}
use Rattle.mich_forms.specs.Spelled.{place_bytes}
use Rattle.mich_forms.specs.declared.places.Place.{Place}
use Rattle.mich_instr.specs.View.{script_node}
use Rattle.mich_instr.specs.declared.instr.Script.{Script}
use Rattle.mich_term.specs.Layers.{AreFormed}
use Rattle.mich_term.specs.declared.value.Value.{Value}
use Rattle.mich_tickets.specs.Books.{State}
use Rattle.mich_tickets.specs.Effects.{Adds, Moves}
use Rattle.mich_tickets.specs.Limits.{IsPositive}
use Rattle.mich_tickets.specs.Sums.{held_of}
use Rattle.mich_base.specs.undo.History.{kept as without_past}
use Rattle.mich_world.specs.Answers.{IsGrant}
use Rattle.mich_world.specs.Holders.{account_at, contract_at, may_receive, moved, fee_taken, endowed, storage_paid, with_rate}
use Rattle.mich_world.specs.Marks.{mark_of, at_mark, KeepsWorld, IsSame}
use Rattle.mich_world.specs.Standing.{plain, StandsFor}
use Rattle.mich_world.specs.Storages.{AreStored, Stands, Installs, Commits}
use Rattle.mich_world.specs.World.{World, no_world, with_clock, with_funds, with_ledger, with_store}
use Rattle.mich_world.specs.declared.contract.Contract.{Contract}
use Rattle.mich_world.specs.declared.errors.GrantError.{GrantError}
use Rattle.mich_world.specs.declared.errors.GrantError.TheVariants as grant
use Rattle.mich_world.specs.simulation.Runs.{Runs}

-- ---- new worlds, the clock, grants

abbrev pub NewWorldsAgree : Type 0
NewWorldsAgree = (chain : List ℕ) (level : ℕ) (moment : ℤ) → StandsFor (no_world chain level moment) (new_world chain level moment)

abbrev pub ClocksAgree : Type 0
ClocksAgree = (v : World) (w : PlainWorld) (level : ℕ) (moment : ℤ) → StandsFor v w
    → StandsFor (with_clock v level moment) (record w { level = level; moment = moment })

-- the rate is set
abbrev pub RatesAgree : Type 0
RatesAgree = (u v : World) (w : PlainWorld) (rate : Option ℕ) → StandsFor u w → v ≡ with_funds u v.funds
    → v.funds.present ≡ with_rate u.funds.present rate → StandsFor v (record w { rate = rate })

-- a call that grants answers what a grant comes to, and one stands for the world after it
abbrev pub Grants : World → rules.Grant → Result (Unit {0}) GrantError → Type 0
Grants v (rules.Granted w) (Ok _) = StandsFor v w
Grants v rules.Repeated (Err grant.RepeatedAccount) = Unit {0}
Grants v rules.TooMuch (Err grant.SupplyLimit) = Unit {0}
Grants v g (Err grant.Memory) = Unit {0}
Grants v g r = ⊥

abbrev pub GrantsAgree : Type 0
GrantsAgree = (u v : World) (w : PlainWorld) (who : List ℕ) (mutez : ℕ) (r : Result (Unit {0}) GrantError) → StandsFor u w
    → is_key_hash who ≡ true → v ≡ with_funds u v.funds → IsGrant who mutez u.funds v.funds r
    → Grants v (rules.granted_to w who mutez) r

-- ---- who is there

-- the contract of these 20 bytes
abbrev pub ContractsAgree : Type 0
ContractsAgree = (v : World) (w : PlainWorld) (hash : List ℕ) → StandsFor v w
    → plain_contract_at w hash ≡ option_map (plain v.store.bases.present) (contract_at v.funds.present hash)

-- the account of a key hash
abbrev pub AccountsAgree : Type 0
AccountsAgree = (v : World) (w : PlainWorld) (who : List ℕ) → StandsFor v w
    → account_at v.funds.present who ≡ option_map (λ a. a.balance) (plain_account_at w who)

-- whether mutez may come to a place
abbrev pub ReceiversAgree : Type 0
ReceiversAgree = (v : World) (w : PlainWorld) (p : Place) → StandsFor v w → is_place (place_bytes p) ≡ true
    → may_receive v.funds.present p ≡ (is_implicit (place_bytes p) || is_some (plain_contract_at w (hash_in (place_bytes p))))

-- ---- contracts

-- a contract is made
abbrev pub InstallsAgree : Type 0
InstallsAgree = (u v : World) (w : PlainWorld) (from : Place) (hash : List ℕ) (mutez : ℕ) (script : Script) (given : Value)
    → StandsFor u w → IsWorld w → AreStored u → HoldNoTickets u.store.bases.present
    → is_place (place_bytes from) ≡ true → may_receive u.funds.present from ≡ true
    → length hash ≡ 20 → is_some (contract_at u.funds.present hash) ≡ false → AreFormed given
    → Installs from hash mutez script given u v
    → StandsFor v (founded w (record {
      sender = place_bytes from;
      hash = hash;
      balance = mutez;
      script = script_node script;
      storage = val_in u.store.bases.present given;
    }))

-- a contract has a new storage
abbrev pub CommitsAgree : Type 0
CommitsAgree = (u v : World) (w : PlainWorld) (hash : List ℕ) (given : Value) (before : PlainContract)
    → StandsFor u w → IsWorld w → AreStored u → HoldNoTickets u.store.bases.present
    → plain_contract_at w hash ≡ Some before → AreFormed given
    → Commits hash given u v
    → StandsFor v (with_contract w hash (record before { storage = val_in u.store.bases.present given }))

-- code adds bases and tells changes
abbrev pub RunsAgree : Type 0
RunsAgree = (u v : World) (w : PlainWorld) (changes : List Change) → StandsFor u w → AreStored u → Runs changes u v
    → StandsFor v (record w { log = w.log ++ changes })

-- it begins with nothing done, and goes on part by part: the ledger is told changes, and bases are added
abbrev pub RunsBegin : Type 0
RunsBegin = (u : World) → Runs [] u u

abbrev pub RunsGoOn : Type 0
RunsGoOn = (u v w : World) (cs ds : List Change) → Runs cs u v → Runs ds v w → Runs (cs ++ ds) u w

abbrev pub LedgersRun : Type 0
LedgersRun = (u : World) (l : State) (changes : List Change) → Adds changes u.ledger.books.present l.books.present → Runs changes u (with_ledger u l)

abbrev pub StoresRun : Type 0
StoresRun = (u : World) (s : Stored) → Extends u.store.bases.present s.bases.present → Runs [] u (with_store u s)

-- both: the run of a contract comes to its end, and its new storage is kept
abbrev pub RunEndsAgree : Type 0
RunEndsAgree = (u v z : World) (w : PlainWorld) (changes : List Change) (hash : List ℕ) (given : Value) (before : PlainContract)
    → StandsFor u w → IsWorld w → AreStored u → HoldNoTickets v.store.bases.present
    → All IsChange changes → Runs changes u v → plain_contract_at w hash ≡ Some before → AreFormed given
    → Commits hash given v z
    → StandsFor z (kept w hash before (val_in v.store.bases.present given) changes)

-- ---- storage that is paid for

-- a contract that is there pays for its size, and an account pays what is burnt for that
abbrev pub PaymentsAgree : Type 0
PaymentsAgree = (u v : World) (w : PlainWorld) (hash who : List ℕ) (size burn : ℕ) (c : Contract) → StandsFor u w → IsWorld w
    → is_key_hash who ≡ true → contract_at u.funds.present hash ≡ Some c → c.paid ≤ size → v ≡ with_funds u v.funds
    → v.funds.present ≡ storage_paid u.funds.present hash size who (Some burn)
    → StandsFor v (paid_for (burnt_from w (implicit_place who) burn) hash (size - c.paid))

-- ---- tickets of accounts

-- a ticket comes to an account
abbrev pub CreditsAgree : Type 0
CreditsAgree = (u : World) (w : PlainWorld) (l : State) (who : List ℕ) (t : Held) → StandsFor u w → IsWorld w
    → is_key_hash who ≡ true → is_some (account_at u.funds.present who) ≡ true → IsPositive t
    → Moves (implicit_place who) (λ j. amount_of j t) u.ledger.books.present l.books.present
    → StandsFor (with_ledger u l) (credited w who t)

-- a ticket goes from an account
abbrev pub DebitsAgree : Type 0
DebitsAgree = (u : World) (w : PlainWorld) (l : State) (who : List ℕ) (t : Held) → StandsFor u w → IsWorld w
    → is_key_hash who ≡ true → IsPositive t → t.amount ≤ℤ held_of u.ledger.books.present (identity_of t) (implicit_place who)
    → Moves (implicit_place who) (λ j. neg_ℤ (amount_of j t)) u.ledger.books.present l.books.present
    → StandsFor (with_ledger u l) (debited w who t)

-- a move of no mutez makes the account, to which a ticket comes as if it had not been made before
abbrev pub CreditsMakeAccounts : Type 0
CreditsMakeAccounts = (w : PlainWorld) (from who : List ℕ) (t : Held) → IsWorld w → is_key_hash from ≡ true → is_key_hash who ≡ true
    → is_some (plain_account_at w from) ≡ true
    → credited (rules.moved w (implicit_place from) (implicit_place who) 0) who t ≡ credited w who t

-- ---- marks

-- a world that is the same stands for the same
abbrev pub SameWorldsAgree : Type 0
SameWorldsAgree = (u v : World) (w : PlainWorld) → StandsFor u w → IsSame u v → StandsFor v w

-- whatever came since, a world that is taken back to a mark stands for what it stood for there
abbrev pub MarksAgree : Type 0
MarksAgree = (u v z : World) (w : PlainWorld) → StandsFor u w → KeepsWorld u v → IsSame (at_mark v (mark_of u)) z → StandsFor z w

-- the end of all marks changes nothing
abbrev pub KeepingAgrees : Type 0
KeepingAgrees = (u v : World) (w : PlainWorld) → StandsFor u w → AreStored u
    → v.chain ≡ u.chain → v.level ≡ u.level → v.moment ≡ u.moment
    → v.funds ≡ without_past u.funds → v.ledger.books ≡ without_past u.ledger.books
    → AllByRecursion (Stands u.store.bases.present v.store.bases.present) u.funds.present.contracts
    → StandsFor v w

-- ---- storages stay settled

abbrev pub MovesKeepStored : Type 0
MovesKeepStored = (u v : World) (from to : Place) (mutez : ℕ) → AreStored u → v ≡ with_funds u v.funds
    → v.funds.present ≡ moved u.funds.present from to mutez → AreStored v

abbrev pub FeesKeepStored : Type 0
FeesKeepStored = (u v : World) (who : List ℕ) (fee : ℕ) → AreStored u → v ≡ with_funds u v.funds
    → v.funds.present ≡ fee_taken u.funds.present who fee → AreStored v

abbrev pub GrantsKeepStored : Type 0
GrantsKeepStored = (u v : World) (who : List ℕ) (mutez : ℕ) → AreStored u → v ≡ with_funds u v.funds
    → v.funds.present ≡ endowed u.funds.present who mutez → AreStored v

abbrev pub PaymentsKeepStored : Type 0
PaymentsKeepStored = (u v : World) (hash who : List ℕ) (size : ℕ) (burn : Option ℕ) → AreStored u → v ≡ with_funds u v.funds
    → v.funds.present ≡ storage_paid u.funds.present hash size who burn → AreStored v

abbrev pub RunsKeepStored : Type 0
RunsKeepStored = (u v : World) (changes : List Change) → AreStored u → Runs changes u v → AreStored v
