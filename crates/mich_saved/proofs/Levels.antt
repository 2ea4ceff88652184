-- A type of one more level.
use Rattle.std.proofs.Common.{◌≡◌, ℕ, zero, suc, ◌-◌, ◌≤◌, List, [], ◌∷◌, length, get_or, take, drop, refl, ap, sym, ◌∙◌, arith}
use Rattle.std.proofs.lemmas.List.{take_all}
use Rattle.rules_text.specs.nodes.Primitives.{primitive_of_code}
use Rattle.rules_data.specs.types.Reading.{former_of}
use Rattle.rules_files.specs.snapshots.Reading.{kind_within}
use Rattle.mich_saved.specs.Types.{IsShape, shaped}
use Rattle.mich_saved.specs.declared.types.Shape.{Shape}

pub level_is : (levels : ℕ) (bytes : List ℕ) (shape : Shape) → (levels ≡ 0 → ⊥) → 1 ≤ length bytes → IsShape (former_of (primitive_of_code (get_or bytes 0 0))) shape
    → kind_within levels bytes ≡ shaped shape (kind_within (levels - 1)) (take (length bytes - 1) (drop 1 bytes))
level_is zero bytes shape some long is = absurd (some refl)
level_is (suc n) [] shape some long is = absurd (omega arith)
level_is (suc n) (b ∷ bs) shape some long is =
    let less : n ≡ suc n - 1 = omega arith in
    let rest : bs ≡ take (length (b ∷ bs) - 1) bs = sym (take_all (length (b ∷ bs) - 1) bs (omega arith)) in
    is (kind_within n) bs ∙ (ap (λ (m : ℕ). shaped shape (kind_within m) bs) less ∙ ap (λ (r : List ℕ). shaped shape (kind_within (suc n - 1)) r) rest)
