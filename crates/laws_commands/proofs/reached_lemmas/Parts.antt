-- Parts that stand in their order hold where the rest of their rules does.
use Rattle.std.proofs.Common.{◌≡◌, ℕ, Bool, true, false, ◌&&◌, List, [], ◌∷◌, ◌++◌, map, Option, Some, None, refl, ap}
use Rattle.std.specs.Prelude.{ℤ}
use Rattle.std.specs.List.{AllByRecursion, list_all}
use Rattle.std.specs.List.Sorted.{IsStrictlySortedBy}
use Rattle.std.specs.Map.{keys_of}
use Rattle.std.specs.Ordering.{is_lt}
use Rattle.std.specs.declared.cmp.Ordering.{Ordering}
use Rattle.std.specs.declared.cmp.Ordering.TheVariants.{Less}
use Rattle.std.proofs.lemmas.Bool.{and_from}
use Rattle.rules_data.specs.values.Tickets.{Identity}
use Rattle.rules_world.specs.world.World.{identity_order}
use Rattle.rules_files.specs.snapshots.State.{State}
use Rattle.rules_files.specs.snapshots.Rules.{Part, is_above, parts_of, has_total, is_content, is_holding, are_holdings}
use Rattle.std.specs.Prelude.{pos, int_lt}

-- what stands before is below all
abbrev AreAbove : {K : Type 0} → (K → K → Ordering) → Option K → List K → Type 0
AreAbove order None ks = Unit {0}
AreAbove order (Some f) ks = AllByRecursion (λ y. order f y ≡ Less) ks

first_above : {K : Type 0} (order : K → K → Ordering) (former : Option K) (x : K) (ks : List K) → AreAbove order former (x ∷ ks) →
    is_above order former x ≡ true
first_above order None x ks h = refl
first_above order (Some f) x ks h = ap is_lt h.0

module _ {A K : Type 0} (order : K → K → Ordering) (text : A → List ℕ) (rules : Option K → A → Bool) (key : A → K) where
  -- all rules hold where an element is above the one before
  abbrev pub HoldsAbove : A → Type 0
  HoldsAbove x = (former : Option K) → is_above order former (key x) ≡ true → rules former x ≡ true

  held_from : (former : Option K) (xs : List A) → AreAbove order former (map key xs) → IsStrictlySortedBy order (map key xs) →
      AllByRecursion HoldsAbove xs → list_all (λ (p : Part). p.holds) (parts_of text rules key former xs) ≡ true
  unfolding IsStrictlySortedBy
  held_from former [] a s h = refl
  held_from former (x ∷ xs) a s h =
      and_from (rules former x) (list_all (λ (p : Part). p.holds) (parts_of text rules key (Some (key x)) xs))
      (h.0 former (first_above order former (key x) (map key xs) a)) (held_from (Some (key x)) xs s.0 s.1 h.1)

  pub parts_hold : (xs : List A) → IsStrictlySortedBy order (map key xs) → AllByRecursion HoldsAbove xs →
      list_all (λ (p : Part). p.holds) (parts_of text rules key None xs) ≡ true
  parts_hold xs s h = held_from None xs tt s h

pub hold_both : (ps qs : List Part) → list_all (λ (p : Part). p.holds) ps ≡ true → list_all (λ (p : Part). p.holds) qs ≡ true →
    list_all (λ (p : Part). p.holds) (ps ++ qs) ≡ true
hold_both [] qs h g = g
hold_both (p ∷ ps) qs h g = by p.holds h (λ i. hold_both ps qs i g)
  where
    by : (b : Bool) → (b && list_all (λ (p : Part). p.holds) ps) ≡ true →
        (list_all (λ (p : Part). p.holds) ps ≡ true → list_all (λ (p : Part). p.holds) (ps ++ qs) ≡ true) →
        (b && list_all (λ (p : Part). p.holds) (ps ++ qs)) ≡ true
    by true i again = again i
    by false i again = absurd cc

-- ---- holdings

pub four : (a b c d : Bool) → a ≡ true → b ≡ true → c ≡ true → d ≡ true → a && b && c && d ≡ true
four a b c d p q r s = and_from (a && b && c) d (and_from (a && b) c (and_from a b p q) r) s

abbrev pub IsHeldWell : State → Identity × ℤ → Type 0
IsHeldWell s h = (int_lt (pos 0) h.1 ≡ true) × (is_content h.0 ≡ true) × (has_total s h.0 ≡ true)

holdings_from : (s : State) (former : Option Identity) (hs : List (Identity × ℤ)) → AreAbove identity_order former (keys_of hs) →
    IsStrictlySortedBy identity_order (keys_of hs) → AllByRecursion (IsHeldWell s) hs → are_holdings s former hs ≡ true
unfolding IsStrictlySortedBy
holdings_from s former [] a o h = refl
holdings_from s former (x ∷ hs) a o h =
    and_from (is_holding s former x) (are_holdings s (Some x.0) hs)
    (four (int_lt (pos 0) x.1) (is_content x.0) (has_total s x.0) (is_above identity_order former x.0) h.0.0 h.0.1 h.0.2
    (first_above identity_order former x.0 (keys_of hs) a)) (holdings_from s (Some x.0) hs o.0 o.1 h.1)

pub holdings_hold : (s : State) (hs : List (Identity × ℤ)) → IsStrictlySortedBy identity_order (keys_of hs) → AllByRecursion (IsHeldWell s) hs →
    are_holdings s None hs ≡ true
holdings_hold s hs o h = holdings_from s None hs tt o h
