-- The parts of a state one behind the other, and what their rules say together.
use Rattle.std.proofs.Common.{◌≡◌, ℕ, ◌+◌, Bool, true, false, cond, ◌&&◌, List, [], ◌∷◌, ◌++◌, length, Option, Some, None, refl, sym, ap, ◌∙◌, arith}
use Rattle.std.specs.Prelude.{Result, Ok, Err}
use Rattle.std.specs.List.{flat_map, list_all}
use Rattle.std.proofs.lemmas.List.{length-append}
use Rattle.rules_code.specs.evaluation.Surroundings.{Contract}
use Rattle.rules_world.specs.world.Good.{known_with}
use Rattle.rules_files.specs.snapshots.Course.{world_of}
use Rattle.rules_files.specs.snapshots.Rules.{Part, counted_parts, first_fault, is_account, is_contract, is_sound, is_total, part, parts, parts_of}
use Rattle.rules_files.specs.snapshots.Spelling.{account_spelling, contract_spelling, eight, total_spelling}
use Rattle.rules_files.specs.snapshots.Spelt.{IsSpelt, IsSpeltAccount, IsSpeltContract}
use Rattle.rules_files.specs.snapshots.State.{State}
use Rattle.laws_code.proofs.stacks.ForCallers.{tickets_good}
use Rattle.mich_snapshot.specs.Heads.{front_parts}
use Rattle.mich_snapshot.specs.Holders.{IsReckoned}
use Rattle.mich_snapshot.specs.Sums.{found_in}
use Rattle.mich_snapshot.specs.Tried.{Tries}
use Rattle.mich_saved.specs.declared.errors.LoadError.{LoadError}
use Rattle.mich_saved.specs.declared.errors.LoadError.TheVariants as errors
use Rattle.mich_snapshot.proofs.Faults.{first_told, next_told, text_of, told_alike}
use Rattle.mich_snapshot.proofs.Found.{HoldsWell, StoresWell, all_found}
use Rattle.mich_snapshot.proofs.KeptHeads.{front_length}
use Rattle.mich_snapshot.proofs.SoundParts.{Hold, account_holdings, each_holds}
use Rattle.mich_snapshot.proofs.Worlds.{stores}

abbrev pub accounts_of : State → List Part
accounts_of s = parts_of account_spelling (is_account s) (λ a. a.0) None s.accounts

abbrev pub contracts_of : State → List Part
contracts_of s = parts_of contract_spelling (is_contract s) (λ c. c.0) None s.contracts

abbrev pub tickets_of : State → List Part
tickets_of s = parts_of total_spelling (is_total s) (λ t. t.identity) None s.tickets

-- with their counts
abbrev account_parts : State → List Part
account_parts s = counted_parts account_spelling (is_account s) (λ a. a.0) s.accounts

abbrev contract_parts : State → List Part
contract_parts s = counted_parts contract_spelling (is_contract s) (λ c. c.0) s.contracts

abbrev ticket_parts : State → List Part
ticket_parts s = counted_parts total_spelling (is_total s) (λ t. t.identity) s.tickets

-- ---- their places

texts : {A K : Type 0} (text : A → List ℕ) (rules : Option K → A → Bool) (key : A → K) (former : Option K) (xs : List A)
    → text_of (parts_of text rules key former xs) ≡ flat_map text xs
texts text rules key former [] = refl
texts text rules key former (x ∷ xs) = ap (λ (l : List ℕ). text x ++ l) (texts text rules key (Some (key x)) xs)

counted_length : (n : ℕ) (ps : List Part) (b : List ℕ) → text_of ps ≡ b → length (text_of (part (eight n) true ∷ ps)) ≡ 8 + length b
counted_length n ps b e = let count : length (eight n) ≡ 8 = refl in omega (arith, count, length-append (eight n) (text_of ps), ap length e)

accounts_length : (s : State) → length (text_of (account_parts s)) ≡ 8 + length (flat_map account_spelling s.accounts)
accounts_length s = counted_length (length s.accounts) (accounts_of s) (flat_map account_spelling s.accounts)
    (texts account_spelling (is_account s) (λ a. a.0) None s.accounts)

contracts_length : (s : State) → length (text_of (contract_parts s)) ≡ 8 + length (flat_map contract_spelling s.contracts)
contracts_length s = counted_length (length s.contracts) (contracts_of s) (flat_map contract_spelling s.contracts)
    (texts contract_spelling (is_contract s) (λ c. c.0) None s.contracts)

-- a count always holds
behind_count : {X : Type 0} (place at n : ℕ) (ps : List Part) (r : Result X LoadError) → at ≡ place + 8 → Tries at ps r
    → Tries place (part (eight n) true ∷ ps) r
behind_count place at n ps (Ok x) e h = ap (λ (m : ℕ). first_fault m ps) (sym e) ∙ h
behind_count place at n ps (Err (errors.Unsound p)) e h = ap (λ (m : ℕ). first_fault m ps) (sym e) ∙ h
behind_count place at n ps (Err errors.Memory) e h = tt
behind_count place at n ps (Err (errors.BadForm p)) e h = h

-- ---- what is told of all

pub front_told : (X Y : Type 0) (s : State) (e : LoadError) → Tries {A = X} 0 (front_parts s) (Err e) → Tries {A = Y} 0 (parts s) (Err e)
front_told X Y s e h = first_told X Y 0 (front_parts s) (account_parts s ++ (contract_parts s ++ ticket_parts s)) e h

-- the parts behind the front, where it holds
behind_front : {X : Type 0} (s : State) (r : Result X LoadError) → IsSpelt s → first_fault 0 (front_parts s) ≡ None
    → Tries 843 (account_parts s ++ (contract_parts s ++ ticket_parts s)) r → Tries 0 (parts s) r
behind_front s r spelt front h =
    let at : 0 + length (text_of (front_parts s)) ≡ 843 = omega (arith, front_length s spelt) in
    next_told {A = ℕ} 0 843 (front_parts s) (account_parts s ++ (contract_parts s ++ ticket_parts s)) 0 r at front h

pub accounts_told : (X Y : Type 0) (s : State) (e : LoadError) → IsSpelt s → first_fault 0 (front_parts s) ≡ None → Tries {A = X} 851 (accounts_of s) (Err e)
    → Tries {A = Y} 0 (parts s) (Err e)
accounts_told X Y s e spelt front h =
    let A = account_parts s in
    let B = contract_parts s ++ ticket_parts s in
    behind_front {X = Y} s (Err e) spelt front (first_told X Y 843 A B e (behind_count {X = X} 843 851 (length s.accounts) (accounts_of s) (Err e) refl h))

behind_accounts : {X : Type 0} (s : State) (r : Result X LoadError) → first_fault 851 (accounts_of s) ≡ None
    → Tries (851 + length (flat_map account_spelling s.accounts)) (contract_parts s ++ ticket_parts s) r
    → Tries 843 (account_parts s ++ (contract_parts s ++ ticket_parts s)) r
behind_accounts s r accounts h =
    let A = account_parts s in
    let at : 843 + length (text_of A) ≡ 851 + length (flat_map account_spelling s.accounts) = omega (arith, accounts_length s) in
    next_told {A = ℕ} 843 (851 + length (flat_map account_spelling s.accounts)) A (contract_parts s ++ ticket_parts s) 0 r at accounts h

pub contracts_told : (X Y : Type 0) (s : State) (e : LoadError) → IsSpelt s → first_fault 0 (front_parts s) ≡ None → first_fault 851 (accounts_of s) ≡ None
    → Tries {A = X} (859 + length (flat_map account_spelling s.accounts)) (contracts_of s) (Err e) → Tries {A = Y} 0 (parts s) (Err e)
contracts_told X Y s e spelt front accounts h =
    let C = contract_parts s in
    let T = ticket_parts s in
    let n = length (flat_map account_spelling s.accounts) in
    let at : 859 + n ≡ 851 + n + 8 = omega arith in
    behind_front {X = Y} s (Err e) spelt front (behind_accounts {X = Y} s (Err e) accounts
    (first_told X Y (851 + n) C T e (behind_count {X = X} (851 + n) (859 + n) (length s.contracts) (contracts_of s) (Err e) at h)))

tickets_told : {X : Type 0} (s : State) (r : Result X LoadError) → IsSpelt s → first_fault 0 (front_parts s) ≡ None → first_fault 851 (accounts_of s) ≡ None
    → first_fault (859 + length (flat_map account_spelling s.accounts)) (contracts_of s) ≡ None
    → Tries (867 + length (flat_map account_spelling s.accounts) + length (flat_map contract_spelling s.contracts)) (tickets_of s) r → Tries 0 (parts s) r
tickets_told s r spelt front accounts contracts h =
    let C = contract_parts s in
    let T = ticket_parts s in
    let n = length (flat_map account_spelling s.accounts) in
    let m = length (flat_map contract_spelling s.contracts) in
    let at : 859 + n ≡ 851 + n + 8 = omega arith in
    let later : 867 + n + m ≡ 859 + n + m + 8 = omega arith in
    let place : 851 + n + length (text_of C) ≡ 859 + n + m = omega (arith, contracts_length s) in
    behind_front s r spelt front (behind_accounts s r accounts
    (next_told {A = ℕ} (851 + n) (859 + n + m) C T 0 r place (behind_count {X = ℕ} (851 + n) (859 + n) (length s.contracts) (contracts_of s)
    (Ok 0) at contracts)
    (behind_count (859 + n + m) (867 + n + m) (length s.tickets) (tickets_of s) r later h)))

pub tickets_fail : (X Y : Type 0) (s : State) (e : LoadError) → IsSpelt s → first_fault 0 (front_parts s) ≡ None → first_fault 851 (accounts_of s) ≡ None
    → first_fault (859 + length (flat_map account_spelling s.accounts)) (contracts_of s) ≡ None
    → Tries {A = X} (867 + length (flat_map account_spelling s.accounts) + length (flat_map contract_spelling s.contracts)) (tickets_of s) (Err e)
    → Tries {A = Y} 0 (parts s) (Err e)
tickets_fail X Y s e spelt front accounts contracts h =
    told_alike X Y 0 (parts s) e (tickets_told {X = X} s (Err e) spelt front accounts contracts h)

pub all_stand : (s : State) → IsSpelt s → first_fault 0 (front_parts s) ≡ None → first_fault 851 (accounts_of s) ≡ None
    → first_fault (859 + length (flat_map account_spelling s.accounts)) (contracts_of s) ≡ None
    → first_fault (867 + length (flat_map account_spelling s.accounts) + length (flat_map contract_spelling s.contracts)) (tickets_of s) ≡ None
    → first_fault 0 (parts s) ≡ None
all_stand s spelt front accounts contracts h = tickets_told {X = ℕ} s (Ok 0) spelt front accounts contracts h

-- ---- where there is no fault

pub all_hold : (place : ℕ) (ps : List Part) → first_fault place ps ≡ None → Hold ps
all_hold place [] h = refl
all_hold place (p ∷ ps) h = by p.holds h (λ g. all_hold (place + length p.text) ps g)
  where
    by : (b : Bool) → cond b (first_fault (place + length p.text) ps) (Some place) ≡ None → (first_fault (place + length p.text) ps ≡ None → Hold ps)
        → b && list_all (λ (p : Part). p.holds) ps ≡ true
    by true e later = later e
    by false e later = absurd cc

pub no_fault : (s : State) → first_fault 0 (parts s) ≡ None → is_sound s ≡ true
no_fault s h = all_hold 0 (parts s) h

stores_well : (s : State) (former : Option (List ℕ)) (c : List ℕ × Contract) → IsSpeltContract c → is_contract s former c ≡ true → StoresWell c
stores_well s former c spelt h = let good = stores s former c spelt h in tickets_good (known_with (world_of s) []) good.0.storage c.1.storage good.3

-- where the rules of accounts and of contracts hold, as much is found of each ticket as there is
pub reckoned : (s : State) (at behind : ℕ) → IsSpelt s → first_fault at (accounts_of s) ≡ None → first_fault behind (contracts_of s) ≡ None
    → IsReckoned s (found_in s.accounts s.contracts)
reckoned s at behind spelt accounts contracts =
    all_found s
    (each_holds account_spelling (is_account s) (λ a. a.0) IsSpeltAccount (HoldsWell s)
    (λ former a _ h. account_holdings s former a h) None s.accounts spelt.accounts.1 (all_hold at (accounts_of s) accounts))
    (each_holds contract_spelling (is_contract s) (λ c. c.0) IsSpeltContract StoresWell (stores_well s) None s.contracts spelt.contracts.1
    (all_hold behind (contracts_of s) contracts))
