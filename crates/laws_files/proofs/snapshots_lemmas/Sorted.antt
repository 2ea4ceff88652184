-- The parts of a sound state are in order.
use Rattle.std.proofs.Common.{◌≡◌, ℕ, Bool, true, false, ◌&&◌, List, [], ◌∷◌, ◌++◌, map, Option, Some, None, refl}
use Rattle.std.specs.List.{list_all, AllByRecursion}
use Rattle.std.specs.List.Sorted.{IsStrictlySortedBy}
use Rattle.std.specs.Cmp.{IsTotalOrder}
use Rattle.std.specs.Ordering.{is_lt}
use Rattle.std.specs.declared.cmp.Ordering.{Ordering}
use Rattle.std.specs.declared.cmp.Ordering.TheVariants.{Less, Equal, Greater}
use Rattle.std.proofs.lemmas.Cmp.{nat_list_cmp_total}
use Rattle.laws_world.proofs.accounts.ForCallers.{identity_total}
use Rattle.rules_world.specs.world.World.{identity_order}
use Rattle.rules_files.specs.snapshots.State.{State}
use Rattle.rules_files.specs.snapshots.Spelling.{account_spelling, contract_spelling, total_spelling}
use Rattle.std.specs.Prelude.{pos, ◌-ℤ◌, int_le}
use Rattle.std.specs.List.{list_any}
use Rattle.std.specs.Ordering.{int_eq}
use Rattle.std.specs.Str.{bytes_eq}
use Rattle.rules_code.specs.evaluation.Contracts.{hash_in}
use Rattle.rules_code.specs.evaluation.Surroundings.{Contract}
use Rattle.rules_code.specs.steps.Changes.{identity_of}
use Rattle.rules_code.specs.typing.Nodes.{script}
use Rattle.rules_data.specs.values.Forms.{is_ticket_amount}
use Rattle.rules_data.specs.values.Tickets.{Identity, tickets}
use Rattle.rules_world.specs.world.World.{Account}
use Rattle.rules_files.specs.snapshots.State.{Total}
use Rattle.rules_files.specs.snapshots.Rules.{Part, is_above, byte_order, is_head, are_costs, are_sums, are_holdings, is_hash, has_storage, is_paid, has_total, is_content, amount_there, is_account, is_contract, is_total, parts_of, counted_parts}
use Rattle.laws_files.specs.snapshots.Laws.{SoundAreInOrder}

and_first : (a b : Bool) → a && b ≡ true → a ≡ true
and_first true b e = refl
and_first false b e = e

and_second : (a b : Bool) → a && b ≡ true → b ≡ true
and_second true b e = e
and_second false b e = absurd cc

less : (o : Ordering) → is_lt o ≡ true → o ≡ Less
less Less e = refl
less Equal e = absurd cc
less Greater e = absurd cc

abbrev Hold : List Part → Bool
Hold ps = list_all (λ (p : Part). p.holds) ps

-- all that stands behind is above
abbrev AreBelow : {K : Type 0} → (K → K → Ordering) → Option K → List K → Type 0
AreBelow c None ks = Unit {0}
AreBelow c (Some f) ks = AllByRecursion (λ y. c f y ≡ Less) ks

above_all : {K : Type 0} (c : K → K → Ordering) → IsTotalOrder c → (f x : K) (ks : List K) → c f x ≡ Less → AllByRecursion (λ y. c x y ≡ Less) ks → AllByRecursion (λ y. c f y ≡ Less) ks
above_all c total f x [] h all = tt
above_all c total f x (y ∷ ks) h all = (total.trans f x y h all.0, above_all c total f x ks h all.1)

below : {K : Type 0} (c : K → K → Ordering) → IsTotalOrder c → (former : Option K) (x : K) (ks : List K) → is_above c former x ≡ true → AllByRecursion (λ y. c x y ≡ Less) ks
    → AreBelow c former (x ∷ ks)
below c total None x ks h all = tt
below c total (Some f) x ks h all = let first = less (c f x) h in (first, above_all c total f x ks first all)

sorted : {A K : Type 0} (c : K → K → Ordering) → IsTotalOrder c → (text : A → List ℕ) (rules : Option K → A → Bool) (key : A → K)
    → ((former : Option K) (x : A) → rules former x ≡ true → is_above c former (key x) ≡ true)
    → (former : Option K) (xs : List A) → Hold (parts_of text rules key former xs) ≡ true → AreBelow c former (map key xs) × IsStrictlySortedBy c (map key xs)
unfolding IsStrictlySortedBy
sorted c total text rules key above None [] h = (tt, tt)
sorted c total text rules key above (Some f) [] h = (tt, tt)
sorted c total text rules key above former (x ∷ xs) h =
    let behind = sorted c total text rules key above (Some (key x)) xs (and_second (rules former x) _ h) in
    (below c total former (key x) (map key xs) (above former x (and_first (rules former x) _ h)) behind.0, (behind.0, behind.1))

-- ---- lists of parts, one behind the other

hold_first : (ps qs : List Part) → Hold (ps ++ qs) ≡ true → Hold ps ≡ true
hold_first [] qs h = refl
hold_first (p ∷ ps) qs h = both p.holds (Hold ps) (and_first p.holds _ h) (hold_first ps qs (and_second p.holds _ h))
  where
    both : (a b : Bool) → a ≡ true → b ≡ true → a && b ≡ true
    both true b ha hb = hb
    both false b ha hb = absurd cc

hold_second : (ps qs : List Part) → Hold (ps ++ qs) ≡ true → Hold qs ≡ true
hold_second [] qs h = h
hold_second (p ∷ ps) qs h = hold_second ps qs (and_second p.holds _ h)

first_of_five : (a b c d e : Bool) → a && b && c && d && e ≡ true → a ≡ true
first_of_five true b c d e h = refl
first_of_five false b c d e h = h

first_of_six : (a b c d e f : Bool) → a && b && c && d && e && f ≡ true → a ≡ true
first_of_six true b c d e f h = refl
first_of_six false b c d e f h = h

account_above : (s : State) (former : Option (List ℕ)) (a : List ℕ × Account) → is_account s former a ≡ true → is_above byte_order former a.0 ≡ true
account_above s former a h = and_first (is_above byte_order former a.0) (are_holdings s None a.1.holdings) h

contract_above : (s : State) (former : Option (List ℕ)) (c : List ℕ × Contract) → is_contract s former c ≡ true → is_above byte_order former c.0 ≡ true
contract_above s former c h =
    first_of_five (is_above byte_order former c.0) (is_hash s c.0) (has_storage (script c.1.script) c.1.storage) (is_paid s.pays c.1)
    (list_all (λ t. has_total s (identity_of t)) (tickets c.1.storage)) h

total_above : (s : State) (former : Option Identity) (t : Total) → is_total s former t ≡ true → is_above identity_order former t.identity ≡ true
total_above s former t h =
    first_of_six (is_above identity_order former t.identity) (is_content t.identity) (list_any (λ c. bytes_eq c.0 (hash_in t.identity.issuer)) s.contracts)
    (is_ticket_amount t.minted) (int_le (pos 0) t.burnt) (int_eq (amount_there s t.identity) (t.minted -ℤ t.burnt)) h

pub sound_are_in_order : SoundAreInOrder
sound_are_in_order s h =
    let A = counted_parts account_spelling (is_account s) (λ a. a.0) s.accounts in
    let C = counted_parts contract_spelling (is_contract s) (λ c. c.0) s.contracts in
    let T = counted_parts total_spelling (is_total s) (λ t. t.identity) s.tickets in
    let all : Hold (A ++ (C ++ T)) ≡ true =
    and_second (are_sums s) (Hold (A ++ (C ++ T))) (and_second (are_costs s) (are_sums s && Hold (A ++ (C ++ T))) (and_second (is_head s) (are_costs s && (are_sums s && Hold (A ++ (C ++ T)))) h)) in
    let rest = hold_second A (C ++ T) all in (
      (sorted byte_order nat_list_cmp_total account_spelling (is_account s) (λ a. a.0) (account_above s) None s.accounts (hold_first A (C ++ T) all)).1,
      (sorted byte_order nat_list_cmp_total contract_spelling (is_contract s) (λ c. c.0) (contract_above s) None s.contracts (hold_first C T rest)).1,
      (sorted identity_order identity_total total_spelling (is_total s) (λ t. t.identity) (total_above s) None s.tickets (hold_second C T rest)).1,
    )
