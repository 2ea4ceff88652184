-- Amounts of tickets that are alike, and of those without a total.
use Rattle.std.proofs.Common.{◌≡◌, ℕ, Bool, true, false, cond, List, [], ◌∷◌, Some, refl, sym, ap, ◌∙◌}
use Rattle.std.specs.Prelude.{ℤ, pos, ◌+ℤ◌, ◌||◌, unwrap_or, if◌then◌else◌}
use Rattle.std.specs.List.{All, list_all, list_any}
use Rattle.std.specs.declared.cmp.Ordering.{Ordering}
use Rattle.std.specs.declared.cmp.Ordering.TheVariants.{Less, Equal, Greater}
use Rattle.std.specs.Ordering.{is_eq, ordering_reverse}
use Rattle.std.specs.BTreeMap.{is_at}
use Rattle.std.specs.Map.{lookup}
use Rattle.std.proofs.lemmas.Bool.{and_parts}
use Rattle.std.proofs.lemmas.List.Elements.{All-head, All-tail}
use Rattle.rules_code.specs.evaluation.Surroundings.{Contract}
use Rattle.rules_code.specs.steps.Changes.{identity_of, is_alike, amount_among, amount_in}
use Rattle.rules_data.specs.values.Tickets.{Identity, Held, tickets}
use Rattle.rules_world.specs.world.World.{Account, identity_order}
use Rattle.rules_world.specs.world.Holdings.{amount_held, held_by_accounts, held_by_contracts}
use Rattle.rules_files.specs.snapshots.State.{State, Total}
use Rattle.rules_files.specs.snapshots.Rules.{has_total, amount_there}
use Rattle.laws_world.proofs.accounts.ForCallers.{alike_equal, equal_of, identity_total}

pub alike_at : (i j : Identity) → is_alike i j ≡ true → (x : Identity) → is_alike i x ≡ is_alike j x
alike_at i j h x =
    alike_equal i x ∙ ap is_eq (identity_total.congr i j x (equal_of (identity_order i j) (sym (alike_equal i j) ∙ h))) ∙ sym (alike_equal j x)

reversed : (o : Ordering) → is_eq (ordering_reverse o) ≡ is_eq o
reversed Less = refl
reversed Equal = refl
reversed Greater = refl

pub alike_back : (i j : Identity) → is_alike i j ≡ is_alike j i
alike_back i j = alike_equal i j ∙ ap is_eq (identity_total.antisymm i j) ∙ reversed (identity_order j i) ∙ sym (alike_equal j i)

-- ---- what there is

held_alike : (i j : Identity) → is_alike i j ≡ true → (hs : List (Identity × ℤ)) → lookup (is_at (identity_order i)) hs ≡ lookup (is_at (identity_order j)) hs
held_alike i j h [] = refl
held_alike i j h (x ∷ xs) =
    let here : is_eq (identity_order i x.0) ≡ is_eq (identity_order j x.0) = sym (alike_equal i x.0) ∙ alike_at i j h x.0 ∙ alike_equal j x.0 in
    λ k. cond (here k) (Some x.1) (held_alike i j h xs k)

among_alike : (i j : Identity) → is_alike i j ≡ true → (ts : List Held) → amount_among i ts ≡ amount_among j ts
among_alike i j h [] = refl
among_alike i j h (t ∷ ts) =
    let here = alike_at i j h (identity_of t) in
    λ k. (if here k then t.amount else pos 0) +ℤ among_alike i j h ts k

accounts_alike : (i j : Identity) → is_alike i j ≡ true → (xs : List (List ℕ × Account)) → held_by_accounts i xs ≡ held_by_accounts j xs
accounts_alike i j h [] = refl
accounts_alike i j h (x ∷ xs) =
    let here : amount_held x.1 i ≡ amount_held x.1 j = ap (λ o. unwrap_or o (pos 0)) (held_alike i j h x.1.holdings) in
    λ k. here k +ℤ accounts_alike i j h xs k

contracts_alike : (i j : Identity) → is_alike i j ≡ true → (xs : List (List ℕ × Contract)) → held_by_contracts i xs ≡ held_by_contracts j xs
contracts_alike i j h [] = refl
contracts_alike i j h (x ∷ xs) =
    let here = among_alike i j h (tickets x.1.storage) in
    λ k. here k +ℤ contracts_alike i j h xs k

pub there_alike : (s : State) (i j : Identity) → is_alike i j ≡ true → amount_there s i ≡ amount_there s j
there_alike s i j h =
    let accounts = accounts_alike i j h s.accounts in
    let contracts = contracts_alike i j h s.contracts in
    λ k. accounts k +ℤ contracts k

-- ---- what has no total

any_alike : (i j : Identity) → is_alike i j ≡ true → (ts : List Total) → list_any (λ t. is_alike t.identity i) ts ≡ list_any (λ t. is_alike t.identity j) ts
any_alike i j h [] = refl
any_alike i j h (t ∷ ts) =
    let here = alike_back t.identity i ∙ alike_at i j h t.identity ∙ alike_back j t.identity in
    λ k. here k || any_alike i j h ts k

pub total_alike : (s : State) (i j : Identity) → is_alike i j ≡ true → has_total s i ≡ has_total s j
total_alike s i j h = any_alike i j h s.tickets

apart : (s : State) (i j : Identity) → has_total s i ≡ false → has_total s j ≡ true → is_alike i j ≡ true → ⊥
apart s i j lacks has h = let same : false ≡ true = sym lacks ∙ total_alike s i j h ∙ has in cc

none_held : (s : State) (i : Identity) → has_total s i ≡ false → (hs : List (Identity × ℤ)) → All (λ h. has_total s h.0 ≡ true) hs
    → unwrap_or (lookup (is_at (identity_order i)) hs) (pos 0) ≡ pos 0
none_held s i lacks [] all = refl
none_held s i lacks (h ∷ hs) all = by (is_eq (identity_order i h.0)) refl (none_held s i lacks hs (All-tail (λ h. has_total s h.0 ≡ true) h hs all))
  where
    by : (b : Bool) → is_eq (identity_order i h.0) ≡ b → unwrap_or (lookup (is_at (identity_order i)) hs) (pos 0) ≡ pos 0
        → unwrap_or (cond b (Some h.1) (lookup (is_at (identity_order i)) hs)) (pos 0) ≡ pos 0
    by true e rest = absurd (apart s i h.0 lacks (All-head (λ h. has_total s h.0 ≡ true) h hs all) (alike_equal i h.0 ∙ e))
    by false e rest = rest

none_among : (s : State) (i : Identity) → has_total s i ≡ false → (ts : List Held) → list_all (λ t. has_total s (identity_of t)) ts ≡ true → amount_among i ts ≡ pos 0
none_among s i lacks [] all = refl
none_among s i lacks (t ∷ ts) all =
    let parts = and_parts (has_total s (identity_of t)) (list_all (λ t. has_total s (identity_of t)) ts) all in
    by (is_alike i (identity_of t)) refl parts.0 (none_among s i lacks ts parts.1)
  where
    by : (b : Bool) → is_alike i (identity_of t) ≡ b → has_total s (identity_of t) ≡ true → amount_among i ts ≡ pos 0 → (if b then t.amount else pos 0) +ℤ amount_among i ts ≡ pos 0
    by true e has rest = absurd (apart s i (identity_of t) lacks has e)
    by false e has rest = ap (λ n. pos 0 +ℤ n) rest

none_by_accounts : (s : State) (i : Identity) → has_total s i ≡ false → (xs : List (List ℕ × Account)) → All (λ a. All (λ h. has_total s h.0 ≡ true) a.1.holdings) xs
    → held_by_accounts i xs ≡ pos 0
none_by_accounts s i lacks [] all = refl
none_by_accounts s i lacks (x ∷ xs) all =
    let here : amount_held x.1 i ≡ pos 0 = none_held s i lacks x.1.holdings (All-head (λ a. All (λ h. has_total s h.0 ≡ true) a.1.holdings) x xs all) in
    let rest : held_by_accounts i xs ≡ pos 0 = none_by_accounts s i lacks xs (All-tail (λ a. All (λ h. has_total s h.0 ≡ true) a.1.holdings) x xs all) in
    λ k. here k +ℤ rest k

none_by_contracts : (s : State) (i : Identity) → has_total s i ≡ false → (xs : List (List ℕ × Contract))
    → All (λ c. list_all (λ t. has_total s (identity_of t)) (tickets c.1.storage) ≡ true) xs → held_by_contracts i xs ≡ pos 0
none_by_contracts s i lacks [] all = refl
none_by_contracts s i lacks (x ∷ xs) all =
    let here : amount_in i x.1.storage ≡ pos 0 =
    none_among s i lacks (tickets x.1.storage) (All-head (λ c. list_all (λ t. has_total s (identity_of t)) (tickets c.1.storage) ≡ true) x xs all) in
    let rest : held_by_contracts i xs ≡ pos 0 =
    none_by_contracts s i lacks xs (All-tail (λ c. list_all (λ t. has_total s (identity_of t)) (tickets c.1.storage) ≡ true) x xs all) in
    λ k. here k +ℤ rest k

pub none_there : (s : State) (i : Identity) → has_total s i ≡ false → All (λ a. All (λ h. has_total s h.0 ≡ true) a.1.holdings) s.accounts
    → All (λ c. list_all (λ t. has_total s (identity_of t)) (tickets c.1.storage) ≡ true) s.contracts → amount_there s i ≡ pos 0
none_there s i lacks accounts contracts =
    let first = none_by_accounts s i lacks s.accounts accounts in
    let second = none_by_contracts s i lacks s.contracts contracts in
    λ k. first k +ℤ second k
