-- What the log of a state's world mints and burns of a ticket is what its total tells, as totals stand once.
use Rattle.std.proofs.Common.{◌≡◌, Bool, true, false, List, [], ◌∷◌, map, Option, Some, None, refl, sym, ap, ◌∙◌, arith}
use Rattle.std.specs.Prelude.{ℤ, pos, ◌+ℤ◌, ◌≤ℤ◌, ◌||◌, int_lt, if◌then◌else◌}
use Rattle.std.specs.List.{All, AllByRecursion, flat_map, list_any}
use Rattle.std.specs.List.Sorted.{IsStrictlySortedBy}
use Rattle.std.specs.declared.cmp.Ordering.TheVariants.{Less}
use Rattle.std.specs.Ordering.{is_eq}
use Rattle.std.proofs.lemmas.Int.{ints}
use Rattle.std.proofs.lemmas.List.Elements.{All-head, All-tail}
use Rattle.rules_code.specs.steps.Changes.{burnt, is_alike, minted_in, burnt_in}
use Rattle.rules_data.specs.values.Tickets.{Identity}
use Rattle.rules_world.specs.world.World.{identity_order}
use Rattle.rules_files.specs.snapshots.Course.{changes_of, ticket_of}
use Rattle.rules_files.specs.snapshots.State.{Total}
use Rattle.laws_world.proofs.accounts.ForCallers.{alike_equal, burnt_append, minted_append}
use Rattle.mich_snapshot.proofs.Alikes.{alike_at, alike_back}

abbrev pub of_total : Identity → (Total → ℤ) → Total → ℤ
of_total id f t = if is_alike id t.identity then f t else pos 0

abbrev pub of_totals : Identity → (Total → ℤ) → List Total → ℤ
of_totals id f [] = pos 0
of_totals id f (t ∷ ts) = of_total id f t +ℤ of_totals id f ts

-- ---- the log

and_none : (n m : ℤ) → m ≡ pos 0 → n +ℤ m ≡ n
and_none n m h = omega (arith, ints)

no_mint : (id : Identity) (t : Total) (b : Bool) → minted_in id (if b then burnt (ticket_of t.identity t.burnt) ∷ [] else []) ≡ pos 0
no_mint id t true = refl
no_mint id t false = refl

pub minted_is : (id : Identity) (ts : List Total) → minted_in id (flat_map changes_of ts) ≡ of_totals id (λ t. t.minted) ts
minted_is id [] = refl
minted_is id (t ∷ ts) =
    let here : minted_in id (changes_of t) ≡ of_total id (λ t. t.minted) t =
    and_none (of_total id (λ t. t.minted) t) (minted_in id (if int_lt (pos 0) t.burnt then burnt (ticket_of t.identity t.burnt) ∷ [] else [])) (no_mint id t (int_lt (pos 0) t.burnt)) in
    minted_append id (changes_of t) (flat_map changes_of ts) ∙ (λ k. here k +ℤ minted_is id ts k)

burnt_here : (id : Identity) (t : Total) → pos 0 ≤ℤ t.burnt → (b : Bool) → int_lt (pos 0) t.burnt ≡ b
    → burnt_in id (if b then burnt (ticket_of t.identity t.burnt) ∷ [] else []) ≡ of_total id (λ t. t.burnt) t
burnt_here id t positive true e = and_none (of_total id (λ t. t.burnt) t) (pos 0) refl
burnt_here id t positive false e = let none : t.burnt ≡ pos 0 = omega (arith, ints) in by (is_alike id t.identity) none
  where
    by : (b : Bool) → t.burnt ≡ pos 0 → pos 0 ≡ (if b then t.burnt else pos 0)
    by true none = sym none
    by false none = refl

pub burnt_is : (id : Identity) (ts : List Total) → All (λ t. pos 0 ≤ℤ t.burnt) ts → burnt_in id (flat_map changes_of ts) ≡ of_totals id (λ t. t.burnt) ts
burnt_is id [] all = refl
burnt_is id (t ∷ ts) all =
    let here = burnt_here id t (All-head (λ t. pos 0 ≤ℤ t.burnt) t ts all) (int_lt (pos 0) t.burnt) refl in
    let rest = burnt_is id ts (All-tail (λ t. pos 0 ≤ℤ t.burnt) t ts all) in
    burnt_append id (changes_of t) (flat_map changes_of ts) ∙ (λ k. here k +ℤ rest k)

-- ---- the total of a ticket

abbrev pub first_alike : Identity → List Total → Option Total
first_alike id [] = None
first_alike id (t ∷ ts) = if is_alike id t.identity then Some t else first_alike id ts

abbrev pub amount_or : (Total → ℤ) → Option Total → ℤ
amount_or f None = pos 0
amount_or f (Some t) = f t

none_above : (id x : Identity) → is_alike id x ≡ true → (f : Total → ℤ) (ts : List Total) → AllByRecursion (λ y. identity_order x y ≡ Less) (map (λ t. t.identity) ts)
    → of_totals id f ts ≡ pos 0
none_above id x h f [] all = refl
none_above id x h f (t ∷ ts) all =
    let other : is_alike id t.identity ≡ false = alike_at id x h t.identity ∙ alike_equal x t.identity ∙ ap is_eq all.0 in
    let rest = none_above id x h f ts all.1 in
    λ k. (if other k then f t else pos 0) +ℤ rest k

nothing_more : (n : ℤ) → pos 0 +ℤ n ≡ n
nothing_more n = omega (arith, ints)

pub total_is : (id : Identity) (f : Total → ℤ) (ts : List Total) → IsStrictlySortedBy identity_order (map (λ t. t.identity) ts)
    → of_totals id f ts ≡ amount_or f (first_alike id ts)
unfolding IsStrictlySortedBy
total_is id f [] sorted = refl
total_is id f (t ∷ ts) sorted = by (is_alike id t.identity) refl sorted.0 (total_is id f ts sorted.1)
  where
    by : (b : Bool) → is_alike id t.identity ≡ b → AllByRecursion (λ y. identity_order t.identity y ≡ Less) (map (λ t. t.identity) ts)
        → of_totals id f ts ≡ amount_or f (first_alike id ts) → (if b then f t else pos 0) +ℤ of_totals id f ts ≡ amount_or f (if b then Some t else first_alike id ts)
    by true e above rest = and_none (f t) (of_totals id f ts) (none_above id t.identity e f ts above)
    by false e above rest = nothing_more (of_totals id f ts) ∙ rest

pub first_holds : (id : Identity) (P : Total → Type 0) (ts : List Total) → All P ts → (t : Total) → first_alike id ts ≡ Some t → P t × (is_alike id t.identity ≡ true)
first_holds id P [] all t e = absurd cc
first_holds id P (u ∷ us) all t e = by (is_alike id u.identity) refl e (λ g. first_holds id P us (All-tail P u us all) t g)
  where
    by : (b : Bool) → is_alike id u.identity ≡ b → (if b then Some u else first_alike id us) ≡ Some t → (first_alike id us ≡ Some t → P t × (is_alike id t.identity ≡ true))
        → P t × (is_alike id t.identity ≡ true)
    by true h e later = let same : u ≡ t = cc in (rw (sym same) (All-head P u us all), ap (λ (x : Total). is_alike id x.identity) (sym same) ∙ h)
    by false h e later = later e

pub no_total : (id : Identity) (ts : List Total) → first_alike id ts ≡ None → list_any (λ t. is_alike t.identity id) ts ≡ false
no_total id [] e = refl
no_total id (t ∷ ts) e = by (is_alike id t.identity) refl e (λ g. no_total id ts g)
  where
    by : (b : Bool) → is_alike id t.identity ≡ b → (if b then Some t else first_alike id ts) ≡ None → (first_alike id ts ≡ None → list_any (λ t. is_alike t.identity id) ts ≡ false)
        → is_alike t.identity id || list_any (λ t. is_alike t.identity id) ts ≡ false
    by true h e later = absurd cc
    by false h e later = ap (λ b. b || list_any (λ t. is_alike t.identity id) ts) (alike_back t.identity id ∙ h) ∙ later e
