-- What is put of the parts of a state.
use Rattle.std.specs.Prelude.{◌≡◌, ℕ, ℤ, List, [], ◌∷◌, ◌++◌, Option, Some, None, is_some, unwrap_or, Result, OnOk, map}
use Rattle.std.specs.Int.{w64}
use Rattle.std.specs.List.{flat_map, list_any}
use Rattle.rules_text.specs.nodes.Tree.{Tree}
use Rattle.rules_data.specs.values.Tickets.{Identity}
use Rattle.rules_code.specs.evaluation.Surroundings.{Contract as PlainContract}
use Rattle.rules_world.specs.world.Holdings.{identities}
use Rattle.rules_world.specs.world.World.{World as PlainWorld, account_or_none}
use Rattle.rules_files.specs.snapshots.Course.{total_of}
use Rattle.rules_files.specs.snapshots.Loading.{bodies, is_long, nodes_in}
use Rattle.rules_files.specs.snapshots.Spelling.{account_spelling, contract_spelling, costs_spelling, counted, eight, four, head_spelling, holding_spelling, magic, mark, profile, signed, state_spelling, sums_spelling, total_spelling}
use Rattle.rules_files.specs.snapshots.State as plain
use Rattle.rules_files.specs.snapshots.State.{Total}
use Rattle.laws_world.specs.lines.Laws.{AreInOrder}
use Rattle.mich_base.specs.declared.memory.Memory.{Memory}
use Rattle.mich_tickets.specs.Books.{Books}
use Rattle.mich_tickets.specs.Sums.{burnt_of, minted_of}
use Rattle.mich_world.specs.Holders.{account_at, contract_at}
use Rattle.mich_world.specs.Standing.{plain}
use Rattle.mich_world.specs.World.{World}
use Rattle.mich_report.specs.Amounts.{Purses}
use Rattle.mich_report.specs.State.{GathersOf, Holds, IsAtRest}
use Rattle.mich_snapshot.specs.Puts.{IsPut}
use Rattle.mich_snapshot.specs.Snapshots.{snapshot_of}
use Rattle.mich_snapshot.specs.declared.errors.SaveError.{SaveError}
use Rattle.mich_snapshot.specs.declared.state.State.{State}

-- ---- the head

abbrev pub moment_text : World → List ℕ
moment_text v = magic ++ (v.chain ++ (four v.level ++ signed w64 v.moment))

abbrev pub rate_text : Option ℕ → List ℕ
rate_text rate = profile (is_some rate) ++ eight (unwrap_or rate 0)

abbrev pub marks_text : State → List ℕ
marks_text s = eight s.groups ++ (mark s.costs_stood ++ mark s.started)

abbrev pub head_text : State → List ℕ
head_text s = moment_text s.world ++ (rate_text s.world.funds.present.rate ++ marks_text s)

-- ---- accounts

-- whatever tickets an account holds, they are put
abbrev pub PutsHoldings : Purses → List ℕ → List ℕ → List ℕ → Result (Unit {0}) Memory → Type 0
PutsHoldings ps who old new r =
    (holdings : List (Identity × ℤ)) → AreInOrder holdings → Holds ps who holdings → OnOk r (new ≡ old ++ counted holding_spelling holdings)

abbrev pub account_text : List ℕ → ℕ → List (Identity × ℤ) → List ℕ
account_text who balance holdings = account_spelling (who, record { balance = balance; holdings = holdings })

-- and the account
abbrev pub PutsAccount : Purses → List ℕ → ℕ → List ℕ → List ℕ → Result (Unit {0}) Memory → Type 0
PutsAccount ps who balance old new r =
    (holdings : List (Identity × ℤ)) → AreInOrder holdings → Holds ps who holdings → OnOk r (new ≡ old ++ account_text who balance holdings)

-- what stands for what is found
abbrev pub on_list : {X A : Type 0} → (X → List A) → Option X → List A
on_list f None = []
on_list f (Some x) = f x

-- an account that is there, with what it holds
abbrev pub account_seen : PlainWorld → List ℕ → ℕ → List ℕ
account_seen w who balance = account_text who balance (account_or_none w who).holdings

abbrev pub account_text_at : World → PlainWorld → List ℕ → List ℕ
account_text_at v w who = on_list (account_seen w who) (account_at v.funds.present who)

abbrev pub PutsAccountOf : World → Purses → List ℕ → List ℕ → List ℕ → Result (Unit {0}) Memory → Type 0
PutsAccountOf v ps who old new r = (w : PlainWorld) → IsAtRest v w → GathersOf v ps → OnOk r (new ≡ old ++ account_text_at v w who)

-- and all accounts
abbrev pub PutsAccounts : World → Purses → List ℕ → List ℕ → Result (Unit {0}) Memory → Type 0
PutsAccounts v ps old new r = (w : PlainWorld) → IsAtRest v w → GathersOf v ps → OnOk r (new ≡ old ++ counted account_spelling w.accounts)

-- ---- contracts

-- a script, and the bodies of the lambdas in a storage
abbrev pub nodes_of : PlainContract → List Tree
nodes_of c = c.script ∷ bodies c.storage

abbrev pub PutsContract : List ℕ → List ℕ → List ℕ × PlainContract → Result (Unit {0}) SaveError → Type 0
PutsContract old new c r = IsPut old new (contract_spelling c) (list_any is_long (nodes_of c.1)) r

abbrev pub contract_text_at : World → List ℕ → List ℕ
contract_text_at v hash = on_list (λ c. contract_spelling (hash, plain v.store.bases.present c)) (contract_at v.funds.present hash)

abbrev pub contract_nodes_at : World → List ℕ → List Tree
contract_nodes_at v hash = on_list (λ c. nodes_of (plain v.store.bases.present c)) (contract_at v.funds.present hash)

abbrev pub PutsContracts : World → List ℕ → List ℕ → Result (Unit {0}) SaveError → Type 0
PutsContracts v old new r =
    (w : PlainWorld) → IsAtRest v w → IsPut old new (counted contract_spelling w.contracts) (list_any is_long (flat_map (λ c. nodes_of c.1) w.contracts)) r

-- ---- tickets

abbrev pub total_in : Books → Identity → Total
total_in b id = record { identity = id; minted = minted_of b id; burnt = burnt_of b id }

abbrev pub PutsTickets : World → List ℕ → List ℕ → Result (Unit {0}) Memory → Type 0
PutsTickets v old new r = (w : PlainWorld) → IsAtRest v w → OnOk r (new ≡ old ++ counted total_spelling (map (total_of w) (identities w.log)))

-- ---- all parts

-- those before the contracts
abbrev pub front_spelling : plain.State → List ℕ
front_spelling p = head_spelling p ++ (costs_spelling p ++ (sums_spelling p ++ counted account_spelling p.accounts))

abbrev pub PutsFront : State → List ℕ → List ℕ → Result (Unit {0}) Memory → Type 0
PutsFront s old new r = (w : PlainWorld) → IsAtRest s.world w → OnOk r (new ≡ old ++ front_spelling (snapshot_of s w))

abbrev pub PutsState : State → List ℕ → List ℕ → Result (Unit {0}) SaveError → Type 0
PutsState s old new r =
    (w : PlainWorld) → IsAtRest s.world w → IsPut old new (state_spelling (snapshot_of s w)) (list_any is_long (nodes_in (snapshot_of s w))) r
