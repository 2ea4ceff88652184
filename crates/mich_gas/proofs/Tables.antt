-- A table with a price for one more kind.
use Rattle.std.proofs.Common.{arith, ◌≡◌, ℕ, ◌<◌, ◌≤◌, ◌+◌, List, length, map, set, get_or, slice_get, ap, sym, ◌∙◌, inl, inr, subst, eq-eqb, get_or-set_same, get_or-set_other}
use Rattle.std.proofs.lemmas.List.{get_or_past, length-set}
use Rattle.std.proofs.lemmas.Option.{slice_get-get_or, slice_get-map, slice_get_past}
use Rattle.std.specs.Prelude.{Option, Some, None, option_map, ◌==◌, if◌then◌else◌, ◌≢◌}
use Rattle.std.proofs.lemmas.Bool.{cases_eq, cases_lt, eqb-true, false_from_ne_true}
use Rattle.mich_gas.specs.declared.costs.Price.{Price}
use Rattle.mich_gas.specs.View.{seen_price}

set_at : (prices : List (Option Price)) (i j : ℕ) (price : Price) → i < length prices → option_map seen_price (get_or (set prices i (Some price)) j None) ≡ (if j == i then Some (seen_price price) else option_map seen_price (get_or prices j None))
set_at prices i j price within =
    elim (cases_eq j i) [ inl same ↦ at_place same | inr other ↦ elsewhere other ]
  where
    put : List (Option Price)
    put = set prices i (Some price)

    at_place : j ≡ i → option_map seen_price (get_or put j None) ≡ (if j == i then Some (seen_price price) else option_map seen_price (get_or prices j None))
    at_place same = rw (eq-eqb j i same) (ap (λ k. option_map seen_price (get_or put k None)) same ∙ ap (option_map seen_price) (get_or-set_same prices i (Some price) None within))

    elsewhere : j ≢ i → option_map seen_price (get_or put j None) ≡ (if j == i then Some (seen_price price) else option_map seen_price (get_or prices j None))
    elsewhere other = rw (false_from_ne_true (j == i) (λ e. other (eqb-true j i e))) (ap (option_map seen_price) (get_or-set_other prices i j (Some price) None other))

pub set_listed : (prices : List (Option Price)) (i k j : ℕ) (price : Price) → i ≡ k → i < length prices → option_map seen_price (get_or (set prices i (Some price)) j None) ≡ (if j == k then Some (seen_price price) else option_map seen_price (get_or prices j None))
set_listed prices i k j price e within =
    ap (λ n. option_map seen_price (get_or (set prices n (Some price)) j None)) e ∙ set_at prices k j price (subst (λ n. n < length prices) e within)

-- ---- a table that lists all prices

-- the prices before a place are listed, and the one at it comes in
pub put_next : (listed : List (Option Price)) (prices : List Price) (i : ℕ) (d : Price) → length listed ≡ length prices → i < length prices → ((j : ℕ) → j < i → get_or listed j None ≡ slice_get prices j) → (length (set listed i (Some (get_or prices i d))) ≡ length prices) × ((j : ℕ) → j < i + 1 → get_or (set listed i (Some (get_or prices i d))) j None ≡ slice_get prices j)
put_next listed prices i d long within known =
    (length-set listed i (Some (get_or prices i d)) ∙ long, λ j below. elim (cases_eq j i) [ inl same ↦ here j same | inr other ↦ before j below other ])
  where
    here : (j : ℕ) → j ≡ i → get_or (set listed i (Some (get_or prices i d))) j None ≡ slice_get prices j
    here j same =
        ap (λ k. get_or (set listed i (Some (get_or prices i d))) k None) same ∙ get_or-set_same listed i (Some (get_or prices i d)) None (subst (λ n. i < n) (sym long) within) ∙ sym (slice_get-get_or prices i d within) ∙ ap (slice_get prices) (sym same)

    before : (j : ℕ) → j < i + 1 → j ≢ i → get_or (set listed i (Some (get_or prices i d))) j None ≡ slice_get prices j
    before j below other = get_or-set_other listed i j (Some (get_or prices i d)) None other ∙ known j (omega arith)

-- at the end all are listed
pub all_listed : (listed : List (Option Price)) (prices : List Price) (end j : ℕ) → length listed ≡ length prices → length prices ≤ end → ((k : ℕ) → k < end → get_or listed k None ≡ slice_get prices k) → option_map seen_price (get_or listed j None) ≡ slice_get (map seen_price prices) j
all_listed listed prices end j long past known =
    ap (option_map seen_price) (elim (cases_lt j (length prices)) [ inl within ↦ known j (omega arith) | inr beyond ↦ get_or_past listed j None (subst (λ n. n ≤ j) (sym long) beyond) ∙ sym (slice_get_past prices j beyond) ]) ∙ sym (slice_get-map seen_price prices j)
