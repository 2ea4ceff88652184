-- The numbers of operations in order of issue rise.
use Rattle.std.proofs.Common.{◌≡◌, ◌<◌, ◌≤◌, ℕ, suc, List, [], ◌∷◌, map, arith}
use Rattle.std.specs.List.{AllByRecursion}
use Rattle.rules_code.specs.evaluation.Operations as rules
use Rattle.laws_world.specs.operations.NewOperations.{AreInTurn}
use Rattle.mich_ops.specs.declared.issued.Issued.{Issued}
use Rattle.mich_machine.specs.Returned.{number_of, AreRising}

module _ (f : Issued → rules.Issued) (same : (x : Issued) → (f x).number ≡ number_of x) where
  lifted : (a b : ℕ) (xs : List Issued) → a ≤ b → AllByRecursion (λ y. b ≤ number_of y) xs → AllByRecursion (λ y. a ≤ number_of y) xs
  lifted a b [] le h = tt
  lifted a b (x ∷ xs) le h = (let k = h.0 in omega (arith, le, k), lifted a b xs le h.1)

  least : (g a i m j : ℕ) (xs : List Issued) → AreInTurn g a i m j (map f xs) → AllByRecursion (λ y. a ≤ number_of y) xs
  least g a i m j [] h = tt
  least g a i m j (x ∷ xs) h =
      let here = h.0 in
      let e = same x in
      (omega (arith, here, e), lifted a (suc (f x).number) xs (omega (arith, here)) (least g (suc (f x).number) h.1.0 m j xs h.1.2))

  above : (n k : ℕ) (xs : List Issued) → k ≡ n → AllByRecursion (λ y. suc k ≤ number_of y) xs → AllByRecursion (λ y. n < number_of y) xs
  above n k [] e h = tt
  above n k (x ∷ xs) e h = (let l = h.0 in omega (arith, l, e), above n k xs e h.1)

  pub rising_of : (g a i m j : ℕ) (xs : List Issued) → AreInTurn g a i m j (map f xs) → AreRising xs
  rising_of g a i m j [] h = tt
  rising_of g a i m j (x ∷ xs) h =
      (above (number_of x) (f x).number xs (same x) (least g (suc (f x).number) h.1.0 m j xs h.1.2), rising_of g (suc (f x).number) h.1.0 m j xs h.1.2)
