-- Tickets that come to owners one after the other.
use Rattle.std.proofs.Common.{◌≡◌, ℕ, ℤ, pos, ◌+ℤ◌, ◌≤ℤ◌, List, [], ◌∷◌, Bool, true, false, refl, ap, ◌∙◌, arith}
use Rattle.std.specs.Prelude.{if◌then◌else◌}
use Rattle.std.proofs.lemmas.Int.{ints}
use Rattle.std.specs.Str.{bytes_eq}
use Rattle.std.proofs.lemmas.Slice.Eq.{bytes_eq-Decides}
use Rattle.laws_code.proofs.stacks.ForCallers.{alike_itself}
use Rattle.rules_code.specs.steps.Changes.{identity_of, amount_of, amount_among}
use Rattle.rules_data.specs.values.Tickets.{Identity, Held}
use Rattle.mich_tickets.specs.Books.{Books}
use Rattle.mich_tickets.specs.Carrying.{MayEnter, Enters}
use Rattle.mich_tickets.specs.Effects.{Moves}
use Rattle.mich_tickets.specs.Most.{most}
use Rattle.mich_tickets.specs.Sums.{held_of}
use Rattle.mich_world.specs.Gifts.{Gift, given, MayGive, Gives}
use Rattle.mich_world.proofs.restoring_lemmas.Bounds.{among_least, given_least}

-- ---- one owner's tickets

self_of : (t : Held) → amount_of (identity_of t) t ≡ t.amount
self_of t = ap (λ (b : Bool). if b then t.amount else pos 0) (alike_itself (identity_of t))

room_first : (h a n x l : ℤ) → a ≡ n → pos 0 ≤ℤ x → (h +ℤ (a +ℤ x)) ≤ℤ l → (h +ℤ n) ≤ℤ l
room_first h a n x l e p f = omega (arith, ints, e, p, f)

room_next : (h k a x l : ℤ) → k ≡ h +ℤ a → (h +ℤ (a +ℤ x)) ≤ℤ l → (k +ℤ x) ≤ℤ l
room_next h k a x l e f = omega (arith, ints, e, f)

no_more : (b : Bool) (x : ℤ) → x ≡ x +ℤ (if b then pos 0 else pos 0)
no_more true x = omega (arith, ints)
no_more false x = omega (arith, ints)

two_more : (c : Bool) (x y z f g : ℤ) → y ≡ x +ℤ (if c then f else pos 0) → z ≡ y +ℤ (if c then g else pos 0) → z ≡ x +ℤ (if c then (f +ℤ g) else pos 0)
two_more true x y z f g p q = omega (arith, ints, p, q)
two_more false x y z f g p q = omega (arith, ints, p, q)

own : (owner : List ℕ) (n : ℤ) → (if bytes_eq owner owner then n else pos 0) ≡ n
own owner n = ap (λ (c : Bool). if c then n else pos 0) ((bytes_eq-Decides owner owner).1 refl)

module _ (owner : List ℕ) where
  pub enter_first : (t : Held) (ts : List Held) (b : Books) → MayEnter owner b (t ∷ ts) → (held_of b (identity_of t) owner +ℤ t.amount) ≤ℤ most
  enter_first t ts b m =
      room_first (held_of b (identity_of t) owner) (amount_of (identity_of t) t) t.amount (amount_among (identity_of t) ts) most
      (self_of t) (among_least (identity_of t) ts m.positive.1) (m.fits (identity_of t))

  pub enter_next : (t : Held) (ts : List Held) (a b : Books) → MayEnter owner a (t ∷ ts) → Moves owner (λ j. amount_of j t) a b → MayEnter owner b ts
  enter_next t ts a b m p = record {
    positive = m.positive.1;
    fits = λ j. room_next (held_of a j owner) (held_of b j owner) (amount_of j t) (amount_among j ts) most
        (p.held j owner ∙ ap (λ (n : ℤ). held_of a j owner +ℤ n) (own owner (amount_of j t))) (m.fits j);
  }

  pub enters_none : (b : Books) → Enters owner [] b b
  enters_none b = record { held = λ j o. no_more (bytes_eq o owner) (held_of b j o); totals = λ j. refl; listed = refl }

  pub enters_then : (t : Held) (ts : List Held) (a b c : Books) → Moves owner (λ j. amount_of j t) a b → Enters owner ts b c → Enters owner (t ∷ ts) a c
  enters_then t ts a b c p q = record {
    held = λ j o. two_more (bytes_eq o owner) (held_of a j o) (held_of b j o) (held_of c j o) (amount_of j t) (amount_among j ts) (p.held j o) (q.held j o);
    totals = λ j. q.totals j ∙ p.totals j;
    listed = q.listed ∙ p.listed;
  }

-- ---- all owners

nothing_more : (x : ℤ) → x ≡ x +ℤ pos 0
nothing_more x = omega (arith, ints)

both_more : (x y z f g : ℤ) → y ≡ x +ℤ (f +ℤ pos 0) → z ≡ y +ℤ g → z ≡ x +ℤ (f +ℤ g)
both_more x y z f g p q = omega (arith, ints, p, q)

all_more : (x y z f g : ℤ) → y ≡ x +ℤ f → z ≡ y +ℤ g → z ≡ x +ℤ (f +ℤ g)
all_more x y z f g p q = omega (arith, ints, p, q)

one_more : (x y f : ℤ) → y ≡ x +ℤ f → y ≡ x +ℤ (f +ℤ pos 0)
one_more x y f p = omega (arith, ints, p)

first_room : (h f g l : ℤ) → pos 0 ≤ℤ g → (h +ℤ (f +ℤ g)) ≤ℤ l → (h +ℤ (f +ℤ pos 0)) ≤ℤ l
first_room h f g l p q = omega (arith, ints, p, q)

next_room : (h k f g l : ℤ) → k ≡ h +ℤ (f +ℤ pos 0) → (h +ℤ (f +ℤ g)) ≤ℤ l → (k +ℤ g) ≤ℤ l
next_room h k f g l e q = omega (arith, ints, e, q)

own_room : (h x n l : ℤ) → x ≡ n → (h +ℤ (x +ℤ pos 0)) ≤ℤ l → (h +ℤ n) ≤ℤ l
own_room h x n l e q = omega (arith, ints, e, q)

abbrev part : Identity → List ℕ → Gift → ℤ
part j o g = if bytes_eq o g.0 then amount_among j g.1 else pos 0

pub gives_none : (b : Books) → Gives [] b b
gives_none b = record { held = λ j o. nothing_more (held_of b j o); totals = λ j. refl; listed = refl }

pub gives_one : (owner : List ℕ) (ts : List Held) (a b : Books) → Enters owner ts a b → Gives ((owner, ts) ∷ []) a b
gives_one owner ts a b p = record {
  held = λ j o. one_more (held_of a j o) (held_of b j o) (part j o (owner, ts)) (p.held j o);
  totals = p.totals;
  listed = p.listed;
}

pub gives_then : (g : Gift) (gs : List Gift) (a b c : Books) → Gives (g ∷ []) a b → Gives gs b c → Gives (g ∷ gs) a c
gives_then g gs a b c p q = record {
  held = λ j o. both_more (held_of a j o) (held_of b j o) (held_of c j o) (part j o g) (given j o gs) (p.held j o) (q.held j o);
  totals = λ j. q.totals j ∙ p.totals j;
  listed = q.listed ∙ p.listed;
}

pub may_first : (g : Gift) (gs : List Gift) (b : Books) → MayGive (g ∷ gs) b → MayGive (g ∷ []) b
may_first g gs b m = record {
  positive = (m.positive.0, tt);
  fits = λ j o. first_room (held_of b j o) (part j o g) (given j o gs) most (given_least j o gs m.positive.1) (m.fits j o);
}

pub may_next : (g : Gift) (gs : List Gift) (a b : Books) → MayGive (g ∷ gs) a → Gives (g ∷ []) a b → MayGive gs b
may_next g gs a b m p = record {
  positive = m.positive.1;
  fits = λ j o. next_room (held_of a j o) (held_of b j o) (part j o g) (given j o gs) most (p.held j o) (m.fits j o);
}

pub may_enter : (owner : List ℕ) (ts : List Held) (b : Books) → MayGive ((owner, ts) ∷ []) b → MayEnter owner b ts
may_enter owner ts b m = record {
  positive = m.positive.0;
  fits = λ j. own_room (held_of b j owner) (part j owner (owner, ts)) (amount_among j ts) most (own owner (amount_among j ts)) (m.fits j owner);
}
