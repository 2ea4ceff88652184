-- What comes of trying the rules of an account, of a contract and of a ticket.
use Rattle.std.specs.Prelude.{◌≡◌, ℕ, ℤ, pos, ◌-ℤ◌, int_le, Bool, ◌&&◌, List, [], ◌∷◌, ◌++◌, Option, Some, None, Result, Ok, Err, fold, map, true, is_some, IfOk, int_lt}
use Rattle.std.specs.BTreeMap.{is_at}
use Rattle.std.specs.Cmp.Lexicographic.{slice_cmp}
use Rattle.std.specs.List.{All, AllByRecursion, list_any}
use Rattle.std.specs.Ordering.{int_eq, nat_cmp}
use Rattle.std.specs.Str.{bytes_eq}
use Rattle.rules_code.specs.evaluation.Contracts.{hash_in}
use Rattle.rules_code.specs.evaluation.Surroundings.{Contract}
use Rattle.rules_code.specs.instructions.Arguments.{fault}
use Rattle.rules_code.specs.typing.Nodes.{script}
use Rattle.rules_data.specs.values.Forms.{is_ticket_amount}
use Rattle.rules_data.specs.values.Tickets.{Held, Identity, tickets}
use Rattle.rules_data.specs.types.Kind.{Kind}
use Rattle.rules_data.specs.values.Val.{Val}
use Rattle.rules_text.specs.nodes.Tree.{Tree}
use Rattle.rules_world.specs.world.World.{Account}
use Rattle.rules_files.specs.snapshots.State.{State, Total}
use Rattle.rules_files.specs.snapshots.Rules.{amount_there, are_holdings, has_total, is_account, is_contract, is_content, is_holding, is_paid, is_stored, is_total, parts_of}
use Rattle.rules_files.specs.snapshots.Spelling.{account_spelling, contract_spelling, total_spelling}
use Rattle.rules_files.specs.snapshots.Spelt.{IsIssuer, IsSpeltContract, IsSpeltTotal}
use Rattle.mich_base.specs.declared.memory.Memory.{Memory}
use Rattle.mich_instr.specs.Scripts.{IsTypedScript}
use Rattle.mich_instr.specs.View.{script_node}
use Rattle.mich_instr.specs.declared.instr.Script.{Script}
use Rattle.mich_saved.specs.KeptStates.{IsKeptContract}
use Rattle.mich_saved.specs.Parts.{KeptContract}
use Rattle.mich_saved.specs.Shown.{contract}
use Rattle.mich_saved.specs.Sound.{EachAt, IsSame}
use Rattle.mich_saved.specs.declared.errors.LoadError.{LoadError}
use Rattle.mich_saved.specs.declared.parts.ReadContract.{ReadContract}
use Rattle.mich_saved.specs.declared.reading.Head.{Head}
use Rattle.mich_term.specs.TicketView.{identity}
use Rattle.mich_term.specs.declared.ticket.TicketId.{TicketId}
use Rattle.mich_tickets.specs.declared.totals.Totals.{Totals}
use Rattle.mich_world.specs.Restoring.{account_of, contract_of}
use Rattle.mich_world.specs.declared.restoring.SavedAccount.{SavedAccount}
use Rattle.mich_world.specs.declared.restoring.SavedContract.{SavedContract}
use Rattle.mich_snapshot.specs.Heads.{HasHead}
use Rattle.mich_snapshot.specs.Sums.{AreFound, Finds, Sums, TriesFor, TriesMore, have_totals, more, more_account, more_contract, more_held, more_tickets}
use Rattle.mich_snapshot.specs.Tried.{Tries, TriesPart}

-- the rules of an account hold, and what it holds was found; or they don't, and the place is its own
abbrev pub TriesAccount : State → (Identity → ℕ) → Option (List ℕ) → ℕ → List ℕ × Account → Sums → Result SavedAccount LoadError → Type 0
TriesAccount s found former place a sums =
    TriesPart (is_account s former a) place (λ saved. (account_of saved ≡ a) × AreFound s (more_account found a) sums)

-- so of a contract, and of the tickets that it stores
abbrev pub TriesContract : State → (Identity → ℕ) → Option (List ℕ) → ℕ → List ℕ × Contract → Sums → Result SavedContract LoadError → Type 0
TriesContract s found former place c sums =
    TriesPart (is_contract s former c) place (λ saved. (contract_of saved ≡ c) × AreFound s (more_contract found c) sums)

-- accounts that are sound are saved as they are, and what they hold was found
abbrev pub AreAccounts : State → (Identity → ℕ) → List (List ℕ × Account) → Sums → Result (List SavedAccount) LoadError → Type 0
AreAccounts s found accounts sums (Ok saved) = (map account_of saved ≡ accounts) × AreFound s (fold more_account found accounts) sums
AreAccounts s found accounts sums (Err e) = Unit {0}

-- so of contracts
abbrev pub AreContracts : State → (Identity → ℕ) → List (List ℕ × Contract) → Sums → Result (List SavedContract) LoadError → Type 0
AreContracts s found cs sums (Ok saved) = (map contract_of saved ≡ cs) × AreFound s (fold more_contract found cs) sums
AreContracts s found cs sums (Err e) = Unit {0}

-- a typed script of this node
abbrev pub IsScriptOf : Tree → Script → Type 0
IsScriptOf t x = (script_node x ≡ t) × IsTypedScript x

-- the typed script of a node, or the node is ill typed
abbrev pub TypedAs : Tree → Option Script → Type 0
TypedAs t (Some x) = IsScriptOf t x
TypedAs t None = (l : ℕ) × (script t ≡ fault l)

-- a contract that paid for so much has this script and this storage
abbrev pub IsPaying : ℕ → Tree → Val → Contract → Type 0
IsPaying paid t x c = (c.paid ≡ paid) × (c.script ≡ t) × (c.storage ≡ x)

-- the rules of the storage of a contract, which is one of a type
abbrev pub storage_rules : State → Bool → Kind → Contract → Bool
storage_rules s pays a c = is_stored a c.storage && is_paid pays c && have_totals s (tickets c.storage)

-- it is kept of a contract that has a spelling
abbrev pub IsOfSpelt : List ℕ × KeptContract → Type 0
IsOfSpelt d = (c : List ℕ × Contract) × IsSpeltContract c × IsKeptContract c d

abbrev pub AreOfSpelt : List ReadContract → Type 0
AreOfSpelt cs = AllByRecursion (λ c. IsOfSpelt (contract c).1) cs

-- ---- tickets

-- a ticket with its totals
abbrev pub total_of : TicketId × Totals → Total
total_of t = record { identity = identity t.0; minted = t.1.minted; burnt = t.1.burnt }

-- one that stands for this total was put behind the others
abbrev pub IsPushed : List (TicketId × Totals) → List (TicketId × Totals) → Total → Type 0
IsPushed old new t = (z : TicketId × Totals) × (new ≡ old ++ z ∷ []) × (total_of z ≡ t)

-- as much was found of each as there is
abbrev pub IsReckoned : State → (Identity → ℕ) → Type 0
IsReckoned s found = (j : Identity) → pos (found j) ≡ amount_there s j

-- so it is in these sums, and these are the contracts
pub record AreReady (s : State) (es : Sums) (cs : List (List ℕ × Contract)) : Type 0 where
  pub found : Identity → ℕ
  pub reckoned : IsReckoned s found
  pub sums : AreFound s found es
  pub contracts : cs ≡ s.contracts
  pub spelt : All IsSpeltTotal s.tickets

-- keys are found where they are the 20 bytes of a contract
abbrev pub AreHashes : List (List ℕ × Contract) → List (List ℕ) → Type 0
AreHashes cs keys = (hash : List ℕ) → list_any (is_at (slice_cmp nat_cmp hash)) keys ≡ list_any (λ c. bytes_eq c.0 hash) cs

abbrev pub is_issued : List (List ℕ × Contract) → List ℕ → Bool
is_issued cs issuer = list_any (λ c. bytes_eq c.0 (hash_in issuer)) cs

-- some was minted, and as much was found as was minted less what was burnt
abbrev pub is_left : ℕ → Total → Bool
is_left found t = is_ticket_amount t.minted && int_le (pos 0) t.burnt && int_eq (pos found) (t.minted -ℤ t.burnt)

abbrev pub is_whole_total : List (List ℕ × Contract) → ℕ → Total → Bool
is_whole_total cs found t = is_issued cs t.identity.issuer && is_left found t && is_content t.identity

-- ---- what is said of holdings and accounts

-- a holding is positive, of a ticket that has a total and whose content is one of its type
abbrev pub holding_stands : State → Identity → ℤ → Bool
holding_stands s id amount = int_lt (pos 0) amount && is_content id && has_total s id

abbrev pub TriesHolding : Sums → Sums → Identity → ℤ → Result Bool Memory → Type 0
TriesHolding old new id amount r = TriesMore old new (λ s. holding_stands s id amount) (λ found. more found id amount) r

-- it also stands above the one before
abbrev pub TriesNextHolding : Sums → Sums → Option Identity → Identity → ℤ → Result Bool Memory → Type 0
TriesNextHolding old new former id amount r = TriesMore old new (λ s. is_holding s former (id, amount)) (λ found. more found id amount) r

abbrev pub TriesForHolding : {A : Type 0} → Sums → Sums → Option Identity → Identity → ℤ → Result (Option A) Memory → Type 0
TriesForHolding old new former id amount r = TriesFor old new (λ s. is_holding s former (id, amount)) (λ found. more found id amount) r

abbrev pub TriesHoldings : Sums → Sums → List (Identity × ℤ) → Result Bool Memory → Type 0
TriesHoldings old new holdings r = TriesMore old new (λ s. are_holdings s None holdings) (λ found. more_held found holdings) r

abbrev pub TriesHolder : Sums → Sums → Option (List ℕ) → List ℕ × Account → Result Bool Memory → Type 0
TriesHolder old new former a r = TriesMore old new (λ s. is_account s former a) (λ found. more_account found a) r

-- an account that was read at a place
abbrev pub SavesAccount : Sums → Sums → Option (List ℕ) → ℕ × (List ℕ × Account) → Result SavedAccount LoadError → Type 0
SavesAccount old new former a r = (s : State) (found : Identity → ℕ) → AreFound s found old → TriesAccount s found former a.0 a.1 new r

-- all accounts of a state, which were read at their places
abbrev pub TriesAccounts : Sums → List (ℕ × (List ℕ × Account)) → Result (List SavedAccount) LoadError → Type 0
TriesAccounts old accounts r =
    (s : State) (found : Identity → ℕ) (place : ℕ) → AreFound s found old → EachAt IsSame account_spelling place s.accounts accounts
    → Tries place (parts_of account_spelling (is_account s) (λ a. a.0) None s.accounts) r

abbrev pub SavesAccounts : Sums → Sums → List (ℕ × (List ℕ × Account)) → Result (List SavedAccount) LoadError → Type 0
SavesAccounts old new accounts r =
    (s : State) (found : Identity → ℕ) (place : ℕ) → AreFound s found old → EachAt IsSame account_spelling place s.accounts accounts → AreAccounts s found s.accounts new r

-- ---- what is said of contracts

abbrev pub TriesTickets : Sums → Sums → List Held → Result Bool Memory → Type 0
TriesTickets old new ts r = TriesMore old new (λ s. have_totals s ts) (λ found. more_tickets found ts) r

-- the storage of a contract that is this one
abbrev pub TriesStorage : Sums → Sums → Bool → Kind → (Contract → Type 0) → Result Bool Memory → Type 0
TriesStorage old new pays a IsThis r =
    (s : State) (found : Identity → ℕ) (c : Contract) → AreFound s found old → IsThis c → IfOk r (Finds s (storage_rules s pays a c) (more_tickets found (tickets c.storage)) new)

-- a contract of which this was kept
abbrev pub TriesForContract : {A : Type 0} → Head → Sums → Sums → Option (List ℕ) → List ℕ × KeptContract → Result (Option A) Memory → Type 0
TriesForContract head old new former kept r =
    (s : State) (found : Identity → ℕ) (c : List ℕ × Contract) → HasHead s head → AreFound s found old → IsKeptContract c kept
    → IfOk r (λ o. Finds s (is_contract s former c) (more_contract found c) new (is_some o))

-- it was read at a place
abbrev pub SavesContract : Head → Sums → Sums → Option (List ℕ) → ℕ × (List ℕ × KeptContract) → Result SavedContract LoadError → Type 0
SavesContract head old new former kept r =
    (s : State) (found : Identity → ℕ) (c : List ℕ × Contract) → HasHead s head → AreFound s found old → IsKeptContract c kept.1
    → TriesContract s found former kept.0 c new r

-- all contracts of a state, which were read at their places
abbrev pub TriesContracts : Head → Sums → List (ℕ × (List ℕ × KeptContract)) → Result (List SavedContract) LoadError → Type 0
TriesContracts head old contracts r =
    (s : State) (found : Identity → ℕ) (place : ℕ) → HasHead s head → AreFound s found old → EachAt IsKeptContract contract_spelling place s.contracts contracts
    → Tries place (parts_of contract_spelling (is_contract s) (λ c. c.0) None s.contracts) r

abbrev pub SavesContracts : Head → Sums → Sums → List (ℕ × (List ℕ × KeptContract)) → Result (List SavedContract) LoadError → Type 0
SavesContracts head old new contracts r =
    (s : State) (found : Identity → ℕ) (place : ℕ) → HasHead s head → AreFound s found old → EachAt IsKeptContract contract_spelling place s.contracts contracts
    → AreContracts s found s.contracts new r

-- ---- what is said of the totals of tickets

abbrev pub TellsLeft : Sums → Total → Bool → Type 0
TellsLeft es t b = (s : State) (found : Identity → ℕ) → AreFound s found es → has_total s t.identity ≡ true → b ≡ is_left (found t.identity) t

abbrev pub TriesTotal : Sums → List (List ℕ) → Total → Result Bool Memory → Type 0
TriesTotal es keys t r =
    (s : State) (found : Identity → ℕ) (cs : List (List ℕ × Contract)) → AreFound s found es → AreHashes cs keys
    → has_total s t.identity ≡ true → IsIssuer t.identity.issuer → IfOk r (λ b. b ≡ is_whole_total cs (found t.identity) t)

-- so of each state in which as much was found of each ticket as there is
abbrev pub ForTotal : Sums → List (List ℕ) → Total → (State → Type 0) → Type 0
ForTotal es keys t P =
    (s : State) (found : Identity → ℕ) → IsReckoned s found → AreFound s found es → AreHashes s.contracts keys
    → has_total s t.identity ≡ true → IsIssuer t.identity.issuer → P s

abbrev pub TriesNextTotal : Sums → List (List ℕ) → Option Identity → Total → Result Bool Memory → Type 0
TriesNextTotal es keys former t r = ForTotal es keys t (λ s. IfOk r (λ b. b ≡ is_total s former t))

-- a total that was read at a place, and what is made of it
abbrev pub SavesTotal : {A : Type 0} → Sums → List (List ℕ) → Option Identity → ℕ × Total → (A → Type 0) → Result A LoadError → Type 0
SavesTotal es keys former t P r = ForTotal es keys t.1 (λ s. TriesPart (is_total s former t.1) t.0 P r)

-- all totals of a state, which were read at their places
abbrev pub TriesTotals : {A : Type 0} → ℕ → State → List (ℕ × Total) → Result A LoadError → Type 0
TriesTotals place s totals r =
    EachAt IsSame total_spelling place s.tickets totals → Tries place (parts_of total_spelling (is_total s) (λ t. t.identity) None s.tickets) r
