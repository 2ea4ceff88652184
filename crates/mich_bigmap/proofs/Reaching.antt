-- What is kept is what is reached.
use Rattle.std.specs.Prelude.{if◌then◌else◌, ◌⊎◌}
use Rattle.std.proofs.Common.{◌≡◌, ◌==◌, ◌||◌, ◌↔◌, ℕ, Bool, true, false, is_some, List, [], ◌∷◌, None, Some, refl, sym, ap, ◌∙◌, subst, inl, inr}
use Rattle.std.specs.declared.option.Option.{Option}
use Rattle.std.proofs.lemmas.Bool.{eqb-true}
use Rattle.std.proofs.lemmas.Bool.Decides.{Decides-eqb}
use Rattle.mich_bigmap.specs.Bases.{Base, Bases, base_at}
use Rattle.mich_bigmap.specs.Formed.{is_there}
use Rattle.mich_bigmap.specs.Kept.{has, with_over, kept_of}
use Rattle.mich_bigmap.specs.Laws.{KeptAreReached}
use Rattle.mich_bigmap.specs.Reached.{Reached, named, over, AreDistinct}

itself : (n : ℕ) → (n == n) ≡ true
itself n = (Decides-eqb n n).1 refl

-- what is found below a base is there
found_there : (bs : Bases) (k : ℕ) (b : Base) (below : Bases) → base_at bs k ≡ Some (b, below) → is_there bs (Some k) ≡ true
found_there bs k b below e = ap is_some e

-- a number that stands below another base isn't that base's
module _ (b : Base) (bs : Bases) (new : is_there bs (Some b.number) ≡ false) where
  apart : (k : ℕ) → is_there bs (Some k) ≡ true → (b.number == k) ≡ false
  apart k there = by (b.number == k) refl
    where
      by : (t : Bool) → (b.number == k) ≡ t → t ≡ false
      by true e =
          let same : b.number ≡ k = eqb-true b.number k e in
          let x : true ≡ false = sym there ∙ ap (λ (n : ℕ). is_there bs (Some n)) (sym same) ∙ new in
          absurd cc
      by false e = refl

  at_below : (k : ℕ) → is_there bs (Some k) ≡ true → base_at (b ∷ bs) k ≡ base_at bs k
  at_below k there = ap (λ (t : Bool). if t then Some (b, bs) else base_at bs k) (apart k there)

  there_below : (k : ℕ) → is_there bs (Some k) ≡ true → is_there (b ∷ bs) (Some k) ≡ true
  there_below k there = ap is_some (at_below k there) ∙ there

  -- what is reached among the bases below is reached
  reached_up : (ns ms : List ℕ) → ((k : ℕ) → has k ms ≡ true → is_there bs (Some k) ≡ true → Reached ns (b ∷ bs) k)
      → (k : ℕ) → is_there bs (Some k) ≡ true → Reached ms bs k → Reached ns (b ∷ bs) k
  reached_up ns ms first _ there (named k h) = first k h there
  reached_up ns ms first _ there (over j k c below r e o t) =
      let at : is_there bs (Some j) ≡ true = found_there bs j c below e in
      over j k c below (reached_up ns ms first j at r) (at_below j at ∙ e) o t

-- what stands below a base that is found stands below the first one
below_there : (bs : Bases) (j k : ℕ) (c : Base) (below : Bases) → AreDistinct bs → base_at bs j ≡ Some (c, below) → is_there below (Some k) ≡ true
    → is_there bs (Some k) ≡ true
below_there [] j k c below d e t = absurd cc
below_there (b ∷ bs) j k c below d e t = by (b.number == j) e (below_there bs j k c below d.1)
  where
    by : (x : Bool) → (if x then Some (b, bs) else base_at bs j) ≡ Some (c, below)
        → (base_at bs j ≡ Some (c, below) → is_there below (Some k) ≡ true → is_there bs (Some k) ≡ true) → is_there (b ∷ bs) (Some k) ≡ true
    by true f rest =
        let p : (b, bs) ≡ (c, below) = cc in
        let same : bs ≡ below = ap (λ (x : Base × Bases). x.1) p in
        there_below b bs d.0 k (subst (λ (xs : Bases). is_there xs (Some k) ≡ true) (sym same) t)
    by false f rest = there_below b bs d.0 k (rest f t)

-- the first base is reached by its number alone
first_named : (ns : List ℕ) (b : Base) (bs : Bases) → AreDistinct (b ∷ bs) → (k : ℕ) → k ≡ b.number → Reached ns (b ∷ bs) k → has b.number ns ≡ true
first_named ns b bs d _ same (named k h) = ap (λ (n : ℕ). has n ns) (sym same) ∙ h
first_named ns b bs d _ same (over j k c below r e o t) = by (b.number == j) e
  where
    no : is_there bs (Some k) ≡ true → has b.number ns ≡ true
    no there =
        let x : true ≡ false = sym there ∙ ap (λ (n : ℕ). is_there bs (Some n)) same ∙ d.0 in
        absurd cc

    by : (x : Bool) → (if x then Some (b, bs) else base_at bs j) ≡ Some (c, below) → has b.number ns ≡ true
    by true f =
        let p : (b, bs) ≡ (c, below) = cc in
        let s : below ≡ bs = sym (ap (λ (x : Base × Bases). x.1) p) in
        no (subst (λ (xs : Bases). is_there xs (Some k) ≡ true) s t)
    by false f = no (below_there bs j k c below d.1 f t)

has_over : (o : Option ℕ) (ns : List ℕ) (k : ℕ) → has k ns ≡ true → has k (with_over o ns) ≡ true
has_over None ns k h = h
has_over (Some n) ns k h = by (n == k)
  where
    by : (t : Bool) → (t || has k ns) ≡ true
    by true = refl
    by false = h

is_over : (o : Option ℕ) (ns : List ℕ) (k : ℕ) → o ≡ Some k → has k (with_over o ns) ≡ true
is_over o ns k e = ap (λ (x : Option ℕ). has k (with_over x ns)) e ∙ ap (λ (t : Bool). t || has k ns) (itself k)

-- what is named among the numbers, or is what the first base is over
named_or : (o : Option ℕ) (ns : List ℕ) (k : ℕ) → has k (with_over o ns) ≡ true → (o ≡ Some k) ⊎ (has k ns ≡ true)
named_or None ns k h = inr h
named_or (Some m) ns k h = by (m == k) refl h
  where
    by : (t : Bool) → (m == k) ≡ t → (t || has k ns) ≡ true → (Some m ≡ Some k) ⊎ (has k ns ≡ true)
    by true e g = inl (ap Some (eqb-true m k e))
    by false e g = inr g

abbrev later : List ℕ → Base → List ℕ
later ns b = if has b.number ns then with_over b.over ns else ns

-- what is reached below the first base is reached from the numbers that are left
reached_down : (ns : List ℕ) (b : Base) (bs : Bases) → AreDistinct (b ∷ bs) → (k : ℕ) → Reached ns (b ∷ bs) k → is_there bs (Some k) ≡ true
    → Reached (later ns b) bs k
reached_down ns b bs d _ (named k h) there = named k (by (has b.number ns))
  where
    by : (t : Bool) → has k (if t then with_over b.over ns else ns) ≡ true
    by true = has_over b.over ns k h
    by false = h
reached_down ns b bs d _ (over j k c below r e o t) there = by (b.number == j) refl e (reached_down ns b bs d j r)
  where
    by : (x : Bool) → (b.number == j) ≡ x → (if x then Some (b, bs) else base_at bs j) ≡ Some (c, below)
        → (is_there bs (Some j) ≡ true → Reached (later ns b) bs j) → Reached (later ns b) bs k
    by true q f rest =
        let same : j ≡ b.number = sym (eqb-true b.number j q) in
        let noted : has b.number ns ≡ true = first_named ns b bs d j same r in
        let p : (b, bs) ≡ (c, below) = cc in
        let s : c ≡ b = sym (ap (λ (x : Base × Bases). x.0) p) in
        named k (subst (λ (x : Bool). has k (if x then with_over b.over ns else ns) ≡ true) (sym noted)
        (is_over b.over ns k (ap (λ (y : Base). y.over) (sym s) ∙ o)))
    by false q f rest = over j k c below (rest (found_there bs j c below f)) f o t

abbrev Right : List ℕ → Bases → ℕ → Type 0
Right ns bs k = (is_there (kept_of ns bs) (Some k) ≡ true) ↔ ((is_there bs (Some k) ≡ true) × Reached ns bs k)

module _ (ns : List ℕ) (b : Base) (bs : Bases) (k : ℕ) (d : AreDistinct (b ∷ bs)) (rest : (ms : List ℕ) → Right ms bs k) where
  among : (ms : List ℕ) → ((i : ℕ) → has i ms ≡ true → is_there bs (Some i) ≡ true → Reached ns (b ∷ bs) i)
      → is_there (kept_of ms bs) (Some k) ≡ true → (is_there (b ∷ bs) (Some k) ≡ true) × Reached ns (b ∷ bs) k
  among ms first e =
      let h = (rest ms).0 e in
      (there_below b bs d.0 k h.0, reached_up b bs d.0 ns ms first k h.0 h.1)

  under : (t : Bool) → has b.number ns ≡ t → (i : ℕ) → has i (if t then with_over b.over ns else ns) ≡ true → is_there bs (Some i) ≡ true → Reached ns (b ∷ bs) i
  under true q i h there = by (named_or b.over ns i h)
    where
      by : (b.over ≡ Some i) ⊎ (has i ns ≡ true) → Reached ns (b ∷ bs) i
      by (inl o) = over b.number i b bs (named b.number q) (ap (λ (t : Bool). if t then Some (b, bs) else base_at bs b.number) (itself b.number)) o there
      by (inr g) = named i g
  under false q i h there = named i h

  back : (t : Bool) → has b.number ns ≡ t → is_there bs (Some k) ≡ true → Reached ns (b ∷ bs) k
      → is_there (kept_of (if t then with_over b.over ns else ns) bs) (Some k) ≡ true
  back t q there r =
      (rest (if t then with_over b.over ns else ns)).1
      (there, subst (λ (x : Bool). Reached (if x then with_over b.over ns else ns) bs k) q (reached_down ns b bs d k r there))

  -- below the first base
  is_below : (b.number == k) ≡ false → is_there (b ∷ bs) (Some k) ≡ true → is_there bs (Some k) ≡ true
  is_below e there = sym (ap (λ (t : Bool). is_some (if t then Some (b, bs) else base_at bs k)) e) ∙ there

  abbrev kept : Bases
  kept = kept_of (with_over b.over ns) bs

  noted_right : has b.number ns ≡ true → (is_there (b ∷ kept) (Some k) ≡ true) ↔ ((is_there (b ∷ bs) (Some k) ≡ true) × Reached ns (b ∷ bs) k)
  noted_right q = (λ e. first (b.number == k) refl e, λ h. second (b.number == k) refl h.0 h.1)
    where
      first : (x : Bool) → (b.number == k) ≡ x → is_some (if x then Some (b, kept) else base_at kept k) ≡ true
          → (is_there (b ∷ bs) (Some k) ≡ true) × Reached ns (b ∷ bs) k
      first true e h = (
        ap (λ (t : Bool). is_some (if t then Some (b, bs) else base_at bs k)) e,
        subst (λ (n : ℕ). Reached ns (b ∷ bs) n) (eqb-true b.number k e) (named b.number q),
      )
      first false e h = among (with_over b.over ns) (under true q) h

      second : (x : Bool) → (b.number == k) ≡ x → is_there (b ∷ bs) (Some k) ≡ true → Reached ns (b ∷ bs) k → is_there (b ∷ kept) (Some k) ≡ true
      second true e there r = ap (λ (t : Bool). is_some (if t then Some (b, kept) else base_at kept k)) e
      second false e there r = ap (λ (t : Bool). is_some (if t then Some (b, kept) else base_at kept k)) e ∙ back true q (is_below e there) r

  other_right : has b.number ns ≡ false → (is_there (kept_of ns bs) (Some k) ≡ true) ↔ ((is_there (b ∷ bs) (Some k) ≡ true) × Reached ns (b ∷ bs) k)
  other_right q = (among ns (under false q), λ h. second (b.number == k) refl h.0 h.1)
    where
      second : (x : Bool) → (b.number == k) ≡ x → is_there (b ∷ bs) (Some k) ≡ true → Reached ns (b ∷ bs) k → is_there (kept_of ns bs) (Some k) ≡ true
      second true e there r =
          let x : true ≡ false = sym (first_named ns b bs d k (sym (eqb-true b.number k e)) r) ∙ q in absurd cc
      second false e there r = back false q (is_below e there) r

  right_by : (t : Bool) → has b.number ns ≡ t
      → (is_there (if t then b ∷ kept else kept_of ns bs) (Some k) ≡ true) ↔ ((is_there (b ∷ bs) (Some k) ≡ true) × Reached ns (b ∷ bs) k)
  right_by true q = noted_right q
  right_by false q = other_right q

pub kept_are_reached : KeptAreReached
kept_are_reached ns [] k d = (λ e. absurd cc, λ h. absurd (let x : false ≡ true = h.0 in cc))
kept_are_reached ns (b ∷ bs) k d = right_by ns b bs k d (λ ms. kept_are_reached ms bs k d.1) (has b.number ns) refl
