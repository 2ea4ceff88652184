-- What is found of a ticket, account by account and contract by contract, is what there is of it.
use Rattle.std.proofs.Common.{◌≡◌, ℕ, ◌+◌, Bool, true, false, cond, List, [], ◌∷◌, Some, refl, ap, ◌∙◌, arith}
use Rattle.std.specs.Prelude.{ℤ, pos, negsuc, ◌+ℤ◌, ◌<ℤ◌, ◌≤ℤ◌, fold, unsigned_abs, unwrap_or, if◌then◌else◌}
use Rattle.std.specs.List.{All, AllByRecursion}
use Rattle.std.specs.List.Sorted.{IsStrictlySortedBy}
use Rattle.std.specs.Map.{keys_of, lookup}
use Rattle.std.specs.BTreeMap.{is_at}
use Rattle.std.specs.Ordering.{is_eq}
use Rattle.std.specs.declared.cmp.Ordering.TheVariants.{Less}
use Rattle.std.proofs.lemmas.Int.{ints}
use Rattle.std.proofs.lemmas.List.Elements.{All-head, All-tail}
use Rattle.rules_code.specs.evaluation.Surroundings.{Contract}
use Rattle.rules_code.specs.steps.Changes.{identity_of, is_alike, amount_among}
use Rattle.rules_data.specs.values.Tickets.{Held, Identity, tickets}
use Rattle.rules_world.specs.world.Forms.{IsTicket}
use Rattle.rules_world.specs.world.Holdings.{held_by_accounts, held_by_contracts}
use Rattle.rules_world.specs.world.World.{Account, identity_order}
use Rattle.rules_files.specs.snapshots.Rules.{amount_there}
use Rattle.rules_files.specs.snapshots.State.{State}
use Rattle.laws_world.proofs.accounts.ForCallers.{alike_equal, ticket_positive}
use Rattle.mich_snapshot.specs.Sums.{found_in, more, more_account, more_contract, more_held, more_tickets, nothing}
use Rattle.mich_snapshot.proofs.Alikes.{alike_at}
use Rattle.mich_snapshot.proofs.SoundParts.{AreSoundHoldings}

sum_of : (n : ℕ) (a : ℤ) → pos 0 ≤ℤ a → pos (n + unsigned_abs a) ≡ pos n +ℤ a
sum_of n (pos m) h = omega (arith, ints)
sum_of n (negsuc m) h = absurd (omega (arith, ints))

more_is : (f : Identity → ℕ) (id : Identity) (a : ℤ) (j : Identity) → pos 0 ≤ℤ a → pos (more f id a j) ≡ pos (f j) +ℤ (if is_alike j id then a else pos 0)
more_is f id a j h = by (is_alike j id)
  where
    by : (b : Bool) → pos (f j + (if b then unsigned_abs a else 0)) ≡ pos (f j) +ℤ (if b then a else pos 0)
    by true = sum_of (f j) a h
    by false = omega (arith, ints)

joined : (x y z a b : ℤ) → x ≡ y +ℤ a → z ≡ x +ℤ b → z ≡ y +ℤ (a +ℤ b)
joined x y z a b e h = omega (arith, ints)

none_more : (x : ℤ) → x ≡ x +ℤ pos 0
none_more x = omega (arith, ints)

tickets_found : (f : Identity → ℕ) (ts : List Held) (j : Identity) → All IsTicket ts → pos (more_tickets f ts j) ≡ pos (f j) +ℤ amount_among j ts
tickets_found f [] j all = none_more (pos (f j))
tickets_found f (t ∷ ts) j all =
    let positive : pos 0 <ℤ t.amount = ticket_positive t (All-head IsTicket t ts all).1 in
    joined (pos (more f (identity_of t) t.amount j)) (pos (f j)) (pos (more_tickets (more f (identity_of t) t.amount) ts j)) _ (amount_among j ts)
    (more_is f (identity_of t) t.amount j (omega (arith, ints)))
    (tickets_found (more f (identity_of t) t.amount) ts j (All-tail IsTicket t ts all))

-- ---- holdings

abbrev held_among : Identity → List (Identity × ℤ) → ℤ
held_among j [] = pos 0
held_among j (h ∷ hs) = (if is_alike j h.0 then h.1 else pos 0) +ℤ held_among j hs

abbrev IsPositive : Identity × ℤ → Type 0
IsPositive h = pos 0 <ℤ h.1

holdings_found : (f : Identity → ℕ) (hs : List (Identity × ℤ)) (j : Identity) → All (λ h. pos 0 <ℤ h.1) hs → pos (more_held f hs j) ≡ pos (f j) +ℤ held_among j hs
holdings_found f [] j all = none_more (pos (f j))
holdings_found f (h ∷ hs) j all =
    let positive : pos 0 <ℤ h.1 = All-head IsPositive h hs all in
    joined (pos (more f h.0 h.1 j)) (pos (f j)) (pos (more_held (more f h.0 h.1) hs j)) _ (held_among j hs)
    (more_is f h.0 h.1 j (omega (arith, ints)))
    (holdings_found (more f h.0 h.1) hs j (All-tail IsPositive h hs all))

and_none : (n m : ℤ) → m ≡ pos 0 → n +ℤ m ≡ n
and_none n m h = omega (arith, ints)

nothing_first : (n : ℤ) → pos 0 +ℤ n ≡ n
nothing_first n = omega (arith, ints)

none_above : (j x : Identity) → is_alike j x ≡ true → (hs : List (Identity × ℤ)) → AllByRecursion (λ y. identity_order x y ≡ Less) (keys_of hs) → held_among j hs ≡ pos 0
none_above j x h [] all = refl
none_above j x h (e ∷ hs) all =
    let other : is_alike j e.0 ≡ false = alike_at j x h e.0 ∙ alike_equal x e.0 ∙ ap is_eq all.0 in
    let rest = none_above j x h hs all.1 in
    λ k. (if other k then e.1 else pos 0) +ℤ rest k

held_once : (j : Identity) (hs : List (Identity × ℤ)) → IsStrictlySortedBy identity_order (keys_of hs) → held_among j hs ≡ unwrap_or (lookup (is_at (identity_order j)) hs) (pos 0)
unfolding IsStrictlySortedBy
held_once j [] sorted = refl
held_once j (h ∷ hs) sorted = by (is_alike j h.0) refl (is_eq (identity_order j h.0)) (alike_equal j h.0) sorted.0 (held_once j hs sorted.1)
  where
    by : (b : Bool) → is_alike j h.0 ≡ b → (c : Bool) → b ≡ c → AllByRecursion (λ y. identity_order h.0 y ≡ Less) (keys_of hs)
        → held_among j hs ≡ unwrap_or (lookup (is_at (identity_order j)) hs) (pos 0)
        → (if b then h.1 else pos 0) +ℤ held_among j hs ≡ unwrap_or (cond c (Some h.1) (lookup (is_at (identity_order j)) hs)) (pos 0)
    by true e true same above rest = and_none h.1 (held_among j hs) (none_above j h.0 e hs above)
    by false e false same above rest = nothing_first (held_among j hs) ∙ rest
    by true e false same above rest = absurd cc
    by false e true same above rest = absurd cc

-- ---- accounts and contracts

abbrev pub HoldsWell : State → List ℕ × Account → Type 0
HoldsWell s a = AreSoundHoldings s a.1.holdings

abbrev pub StoresWell : List ℕ × Contract → Type 0
StoresWell c = All IsTicket (tickets c.1.storage)

accounts_found : (s : State) (f : Identity → ℕ) (xs : List (List ℕ × Account)) (j : Identity) → All (HoldsWell s) xs → pos (fold more_account f xs j) ≡ pos (f j) +ℤ held_by_accounts j xs
accounts_found s f [] j all = none_more (pos (f j))
accounts_found s f (x ∷ xs) j all =
    let here = All-head (HoldsWell s) x xs all in
    joined (pos (more_account f x j)) (pos (f j)) (pos (fold more_account (more_account f x) xs j)) _ (held_by_accounts j xs)
    (holdings_found f x.1.holdings j here.positive ∙ ap (λ n. pos (f j) +ℤ n) (held_once j x.1.holdings here.order))
    (accounts_found s (more_account f x) xs j (All-tail (HoldsWell s) x xs all))

contracts_found : (f : Identity → ℕ) (xs : List (List ℕ × Contract)) (j : Identity) → All StoresWell xs → pos (fold more_contract f xs j) ≡ pos (f j) +ℤ held_by_contracts j xs
contracts_found f [] j all = none_more (pos (f j))
contracts_found f (x ∷ xs) j all =
    joined (pos (more_contract f x j)) (pos (f j)) (pos (fold more_contract (more_contract f x) xs j)) _ (held_by_contracts j xs)
    (tickets_found f (tickets x.1.storage) j (All-head StoresWell x xs all))
    (contracts_found (more_contract f x) xs j (All-tail StoresWell x xs all))

both_found : (x y a b : ℤ) → x ≡ pos 0 +ℤ a → y ≡ x +ℤ b → y ≡ a +ℤ b
both_found x y a b e h = omega (arith, ints)

pub all_found : (s : State) → All (HoldsWell s) s.accounts → All StoresWell s.contracts → (j : Identity) → pos (found_in s.accounts s.contracts j) ≡ amount_there s j
all_found s accounts contracts j =
    both_found (pos (fold more_account nothing s.accounts j)) (pos (found_in s.accounts s.contracts j)) (held_by_accounts j s.accounts) (held_by_contracts j s.contracts)
    (accounts_found s nothing s.accounts j accounts)
    (contracts_found (fold more_account nothing s.accounts) s.contracts j contracts)
