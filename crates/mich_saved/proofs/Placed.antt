-- Each part has its place: the first one's, and then behind what the parts before it take.
use Rattle.std.proofs.Common.{◌≡◌, ℕ, zero, suc, ◌+◌, List, ◌∷◌, length, Result, Ok, Err, refl, subst}
use Rattle.rules_text.specs.binary.Reading.{Spot}
use Rattle.rules_files.specs.snapshots.Reading.{Reader, ◌>>=◌, parts_at}
use Rattle.mich_saved.specs.Sound.{Agree, EachAt}
use Rattle.mich_saved.specs.Parts.{placed}

-- Fits: what holds of the bytes at each spot that reading comes to
module _ {A B : Type 0} (R : A → B → Type 0) (spell : A → List ℕ) (Fits : Spot → Type 0) (part : Reader A) (kept : Reader B) (agrees : (s : Spot) → Agree R (part s) (kept s))
    (moves : (s after : Spot) (x : A) → Fits s → part s ≡ Ok (x, after) → (after.place ≡ s.place + length (spell x)) × Fits after) where
  abbrev Rest : ℕ → A × Spot → Result (List A × Spot) ℕ
  Rest n x = parts_at part n x.1 >>= λ (xs : List A × Spot). Ok (x.0 ∷ xs.0, xs.1)

  abbrev KeptRest : ℕ → (ℕ × B) × Spot → Result (List (ℕ × B) × Spot) ℕ
  KeptRest n y = parts_at (placed kept) n y.1 >>= λ (ys : List (ℕ × B) × Spot). Ok (y.0 ∷ ys.0, ys.1)

  behind : (place : ℕ) (x : A) (y : B) (xs : Result (List A × Spot) ℕ) (ys : Result (List (ℕ × B) × Spot) ℕ) → R x y → Agree (EachAt R spell (place + length (spell x))) xs ys
      → Agree (EachAt R spell place) (xs >>= λ (l : List A × Spot). Ok (x ∷ l.0, l.1)) (ys >>= λ (l : List (ℕ × B) × Spot). Ok ((place, y) ∷ l.0, l.1))
  behind place x y (Ok xs) (Ok ys) r h = (h.0, (refl, r, h.1))
  behind place x y (Err p) (Err q) r h = h
  behind place x y (Ok xs) (Err q) r h = absurd h
  behind place x y (Err p) (Ok ys) r h = absurd h

  one_more : (n : ℕ) (s : Spot) → Fits s → ((t : Spot) → Fits t → Agree (EachAt R spell t.place) (parts_at part n t) (parts_at (placed kept) n t))
      → (x : Result (A × Spot) ℕ) (y : Result (B × Spot) ℕ) → part s ≡ x → Agree R x y
      → Agree (EachAt R spell s.place) (x >>= Rest n) ((y >>= λ (b : B × Spot). let p : (ℕ × B) × Spot = ((s.place, b.0), b.1) in Ok p) >>= KeptRest n)
  one_more n s fits next (Ok x) (Ok y) is h =
      let moved = moves s x.1 x.0 fits is in
      let rest : Agree (EachAt R spell x.1.place) (parts_at part n x.1) (parts_at (placed kept) n x.1) = next x.1 moved.1 in
      let at : Agree (EachAt R spell (s.place + length (spell x.0))) (parts_at part n x.1) (parts_at (placed kept) n x.1) =
      subst (λ (p : ℕ). Agree (EachAt R spell p) (parts_at part n x.1) (parts_at (placed kept) n x.1)) moved.0 rest in
      subst
      (λ (t : Spot). Agree (EachAt R spell s.place) (Rest n x) (parts_at (placed kept) n t >>= λ (l : List (ℕ × B) × Spot). Ok ((s.place, y.0) ∷ l.0, l.1)))
      h.0
      (behind s.place x.0 y.0 (parts_at part n x.1) (parts_at (placed kept) n x.1) h.1 at)
  one_more n s fits next (Err p) (Err q) is h = h
  one_more n s fits next (Ok x) (Err q) is h = absurd h
  one_more n s fits next (Err p) (Ok y) is h = absurd h

  pub are_placed : (n : ℕ) (s : Spot) → Fits s → Agree (EachAt R spell s.place) (parts_at part n s) (parts_at (placed kept) n s)
  are_placed zero s fits = (refl, tt)
  are_placed (suc n) s fits = one_more n s fits (λ t f. are_placed n t f) (part s) (kept s) refl (agrees s)
