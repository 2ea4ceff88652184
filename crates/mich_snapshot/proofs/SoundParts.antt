-- What the rules of accounts, contracts and tickets say of a sound state.
use Rattle.std.proofs.Common.{◌≡◌, ℕ, Bool, true, ◌&&◌, List, [], ◌∷◌, ◌++◌, Option, Some, None, refl, ap, ◌∙◌}
use Rattle.std.specs.Prelude.{ℤ, pos, ◌-ℤ◌, ◌<ℤ◌, ◌≤ℤ◌, int_le, int_lt}
use Rattle.std.proofs.Common.{arith}
use Rattle.std.specs.List.{All, AllByRecursion, list_all, list_any}
use Rattle.std.specs.List.Sorted.{IsStrictlySortedBy}
use Rattle.std.specs.Map.{keys_of}
use Rattle.std.specs.Ordering.{is_lt, int_eq}
use Rattle.std.specs.declared.cmp.Ordering.{Ordering}
use Rattle.std.specs.declared.cmp.Ordering.TheVariants.{Less, Equal, Greater}
use Rattle.std.specs.Str.{bytes_eq}
use Rattle.std.proofs.lemmas.Bool.{and_parts}
use Rattle.std.proofs.lemmas.Bool.Decides.{Decides-int_eq}
use Rattle.std.proofs.lemmas.Int.{ints}
use Rattle.std.proofs.lemmas.List.Elements.{All-nil, All-cons, All-head, All-tail}
use Rattle.rules_code.specs.evaluation.Contracts.{hash_in}
use Rattle.rules_code.specs.evaluation.Surroundings.{Contract}
use Rattle.rules_code.specs.steps.Changes.{identity_of}
use Rattle.rules_code.specs.typing.Nodes.{script}
use Rattle.rules_data.specs.values.Forms.{is_ticket_amount}
use Rattle.rules_data.specs.values.Tickets.{Identity, tickets}
use Rattle.rules_world.specs.world.World.{Account, identity_order}
use Rattle.rules_files.specs.snapshots.Spelling.{account_spelling, contract_spelling, total_spelling}
use Rattle.rules_files.specs.snapshots.State.{State, Total}
use Rattle.rules_files.specs.snapshots.Rules.{Part, is_above, byte_order, is_head, are_costs, are_sums, is_holding, are_holdings, is_hash, has_storage, is_paid, has_total, is_content, amount_there, is_account, is_contract, is_total, parts_of, counted_parts, is_sound}
use Rattle.laws_world.proofs.accounts.ForCallers.{identity_total}

abbrev pub Hold : List Part → Type 0
Hold ps = list_all (λ (p : Part). p.holds) ps ≡ true

-- ---- the kinds of parts

front_holds : (ps qs : List Part) → Hold (ps ++ qs) → Hold ps
front_holds [] qs h = refl
front_holds (p ∷ ps) qs h =
    let parts = and_parts p.holds (list_all (λ (p : Part). p.holds) (ps ++ qs)) h in
    ap (λ b. b && list_all (λ (p : Part). p.holds) ps) parts.0 ∙ front_holds ps qs parts.1

back_holds : (ps qs : List Part) → Hold (ps ++ qs) → Hold qs
back_holds [] qs h = h
back_holds (p ∷ ps) qs h = back_holds ps qs (and_parts p.holds (list_all (λ (p : Part). p.holds) (ps ++ qs)) h).1

pub record AreSoundParts (s : State) : Type 0 where
  pub head : is_head s ≡ true
  pub costs : are_costs s ≡ true
  pub sums : are_sums s ≡ true
  pub accounts : Hold (parts_of account_spelling (is_account s) (λ a. a.0) None s.accounts)
  pub contracts : Hold (parts_of contract_spelling (is_contract s) (λ c. c.0) None s.contracts)
  pub tickets : Hold (parts_of total_spelling (is_total s) (λ t. t.identity) None s.tickets)

pub sound_parts : (s : State) → is_sound s ≡ true → AreSoundParts s
sound_parts s h =
    let A = counted_parts account_spelling (is_account s) (λ a. a.0) s.accounts in
    let C = counted_parts contract_spelling (is_contract s) (λ c. c.0) s.contracts in
    let T = counted_parts total_spelling (is_total s) (λ t. t.identity) s.tickets in
    let rest = list_all (λ (p : Part). p.holds) (A ++ (C ++ T)) in
    let head = and_parts (is_head s) (are_costs s && (are_sums s && rest)) h in
    let costs = and_parts (are_costs s) (are_sums s && rest) head.1 in
    let sums = and_parts (are_sums s) rest costs.1 in
    let behind : Hold (C ++ T) = back_holds A (C ++ T) sums.1 in
    record {
      head = head.0;
      costs = costs.0;
      sums = sums.0;
      accounts = front_holds A (C ++ T) sums.1;
      contracts = front_holds C T behind;
      tickets = back_holds C T behind;
    }

-- what the rules of a part say, and its spelling
pub each_holds : {A K : Type 0} (text : A → List ℕ) (rules : Option K → A → Bool) (key : A → K) (Q P : A → Type 0)
    → ((former : Option K) (x : A) → Q x → rules former x ≡ true → P x) → (former : Option K) (xs : List A) → All Q xs → Hold (parts_of text rules key former xs) → All P xs
each_holds text rules key Q P each former [] all h = All-nil P
each_holds text rules key Q P each former (x ∷ xs) all h =
    let parts = and_parts (rules former x) (list_all (λ (p : Part). p.holds) (parts_of text rules key (Some (key x)) xs)) h in
    All-cons P x xs (each former x (All-head Q x xs all) parts.0) (each_holds text rules key Q P each (Some (key x)) xs (All-tail Q x xs all) parts.1)

-- ---- holdings

less : (o : Ordering) → is_lt o ≡ true → o ≡ Less
less Less e = refl
less Equal e = absurd cc
less Greater e = absurd cc

abbrev AreBelow : Option Identity → List Identity → Type 0
AreBelow None ks = Unit {0}
AreBelow (Some f) ks = AllByRecursion (λ y. identity_order f y ≡ Less) ks

above_all : (f x : Identity) (ks : List Identity) → identity_order f x ≡ Less → AllByRecursion (λ y. identity_order x y ≡ Less) ks → AllByRecursion (λ y. identity_order f y ≡ Less) ks
above_all f x [] h all = tt
above_all f x (y ∷ ks) h all = (identity_total.trans f x y h all.0, above_all f x ks h all.1)

below : (former : Option Identity) (x : Identity) (ks : List Identity) → is_above identity_order former x ≡ true → AllByRecursion (λ y. identity_order x y ≡ Less) ks
    → AreBelow former (x ∷ ks)
below None x ks h all = tt
below (Some f) x ks h all = let first = less (identity_order f x) h in (first, above_all f x ks first all)

-- the rules of a holding
abbrev HoldingParts : State → Option Identity → Identity × ℤ → Type 0
HoldingParts s former h = (int_lt (pos 0) h.1 ≡ true) × (is_content h.0 ≡ true) × (has_total s h.0 ≡ true) × (is_above identity_order former h.0 ≡ true)

holding_parts : (s : State) (former : Option Identity) (h : Identity × ℤ) → is_holding s former h ≡ true → HoldingParts s former h
holding_parts s former h e =
    let d = and_parts (int_lt (pos 0) h.1 && is_content h.0 && has_total s h.0) (is_above identity_order former h.0) e in
    let c = and_parts (int_lt (pos 0) h.1 && is_content h.0) (has_total s h.0) d.0 in
    let b = and_parts (int_lt (pos 0) h.1) (is_content h.0) c.0 in
    (b.0, b.1, c.1, d.1)

abbrev IsOfTotal : State → Identity × ℤ → Type 0
IsOfTotal s h = has_total s h.0 ≡ true

abbrev IsPositive : Identity × ℤ → Type 0
IsPositive h = pos 0 <ℤ h.1

pub record AreSoundHoldings (s : State) (hs : List (Identity × ℤ)) : Type 0 where
  pub positive : All (λ h. pos 0 <ℤ h.1) hs
  pub totals : All (λ h. has_total s h.0 ≡ true) hs
  pub order : IsStrictlySortedBy identity_order (keys_of hs)

holdings_sound : (s : State) (former : Option Identity) (hs : List (Identity × ℤ)) → are_holdings s former hs ≡ true → AreBelow former (keys_of hs) × AreSoundHoldings s hs
unfolding IsStrictlySortedBy
holdings_sound s None [] e = (tt, record { positive = All-nil IsPositive; totals = All-nil (IsOfTotal s); order = tt })
holdings_sound s (Some f) [] e = (tt, record { positive = All-nil IsPositive; totals = All-nil (IsOfTotal s); order = tt })
holdings_sound s former (h ∷ hs) e =
    let parts = and_parts (is_holding s former h) (are_holdings s (Some h.0) hs) e in
    let here = holding_parts s former h parts.0 in
    let rest = holdings_sound s (Some h.0) hs parts.1 in
    let positive : pos 0 <ℤ h.1 = (let least : int_lt (pos 0) h.1 ≡ true = here.0 in omega (arith, ints)) in (
      below former h.0 (keys_of hs) here.3 rest.0,
      record {
        positive = All-cons IsPositive h hs positive rest.1.positive;
        totals = All-cons (IsOfTotal s) h hs here.2 rest.1.totals;
        order = (rest.0, rest.1.order);
      },
    )

pub account_holdings : (s : State) (former : Option (List ℕ)) (a : List ℕ × Account) → is_account s former a ≡ true → AreSoundHoldings s a.1.holdings
account_holdings s former a e =
    let parts = and_parts (is_above byte_order former a.0) (are_holdings s None a.1.holdings) e in
    (holdings_sound s None a.1.holdings parts.1).1

-- ---- contracts and tickets

pub record IsSoundContract (s : State) (former : Option (List ℕ)) (c : List ℕ × Contract) : Type 0 where
  pub above : is_above byte_order former c.0 ≡ true
  pub hash : is_hash s c.0 ≡ true
  pub storage : has_storage (script c.1.script) c.1.storage ≡ true
  pub paid : is_paid s.pays c.1 ≡ true
  pub totals : list_all (λ t. has_total s (identity_of t)) (tickets c.1.storage) ≡ true

pub contract_parts : (s : State) (former : Option (List ℕ)) (c : List ℕ × Contract) → is_contract s former c ≡ true → IsSoundContract s former c
contract_parts s former c h =
    let i = is_above byte_order former c.0 in
    let j = is_hash s c.0 in
    let k = has_storage (script c.1.script) c.1.storage in
    let l = is_paid s.pays c.1 in
    let e = and_parts (i && j && k && l) (list_all (λ t. has_total s (identity_of t)) (tickets c.1.storage)) h in
    let d = and_parts (i && j && k) l e.0 in
    let b = and_parts (i && j) k d.0 in
    let a = and_parts i j b.0 in
    record { above = a.0; hash = a.1; storage = b.1; paid = d.1; totals = e.1 }

pub record IsSoundTotal (s : State) (t : Total) : Type 0 where
  pub minted : is_ticket_amount t.minted ≡ true
  pub burnt : pos 0 ≤ℤ t.burnt
  pub there : amount_there s t.identity ≡ t.minted -ℤ t.burnt

pub total_parts : (s : State) (former : Option Identity) (t : Total) → is_total s former t ≡ true → IsSoundTotal s t
total_parts s former t h =
    let i = is_above identity_order former t.identity in
    let j = is_content t.identity in
    let k = list_any (λ c. bytes_eq c.0 (hash_in t.identity.issuer)) s.contracts in
    let l = is_ticket_amount t.minted in
    let m = int_le (pos 0) t.burnt in
    let e = and_parts (i && j && k && l && m) (int_eq (amount_there s t.identity) (t.minted -ℤ t.burnt)) h in
    let d = and_parts (i && j && k && l) m e.0 in
    let b = and_parts (i && j && k) l d.0 in
    let burnt : pos 0 ≤ℤ t.burnt = (let least : int_le (pos 0) t.burnt ≡ true = d.1 in omega (arith, ints)) in
    record { minted = b.1; burnt = burnt; there = (Decides-int_eq (amount_there s t.identity) (t.minted -ℤ t.burnt)).0 e.1 }
