-- The tests of instructions with a count, where the count is not 0.
use Rattle.std.proofs.Common.{◌≡◌, ◌≢◌, ℕ, zero, suc, ◌-◌, false, ◌&&◌, List, [], ◌∷◌, refl, sym, ap, ◌∙◌, arith}
use Rattle.rules_data.specs.types.Kind.{Kind, pair}
use Rattle.rules_code.specs.instructions.Same.{same_kind}
use Rattle.mich_cert.specs.Counted.{drops, is_copied, is_with, IsNoPair, is_comb, is_part, is_updated, dips}

pub drops_more : (n : ℕ) (a : Kind) (A B : List Kind) → n ≢ 0 → drops n (a ∷ A) B ≡ drops (n - 1) A B
drops_more zero a A B h = absurd (h refl)
drops_more (suc n) a A B h = let e : n ≡ suc n - 1 = omega arith in ap (λ m. drops m A B) e

pub drops_none : (n : ℕ) (B : List Kind) → n ≢ 0 → drops n [] B ≡ false
drops_none zero B h = absurd (h refl)
drops_none (suc n) B h = refl

pub copied_more : (n : ℕ) (a : Kind) (A : List Kind) (t : Kind) → n ≢ 0 → is_copied n (a ∷ A) t ≡ is_copied (n - 1) A t
copied_more zero a A t h = absurd (h refl)
copied_more (suc n) a A t h = let e : n ≡ suc n - 1 = omega arith in ap (λ m. is_copied m A t) e

pub with_more : (n : ℕ) (t a b : Kind) (A B : List Kind) → n ≢ 0 → is_with n t (a ∷ A) (b ∷ B) ≡ (same_kind a b && is_with (n - 1) t A B)
with_more zero t a b A B h = absurd (h refl)
with_more (suc n) t a b A B h = let e : n ≡ suc n - 1 = omega arith in ap (λ m. same_kind a b && is_with m t A B) e

pub with_short : (n : ℕ) (t a : Kind) (A : List Kind) → n ≢ 0 → is_with n t (a ∷ A) [] ≡ false
with_short zero t a A h = absurd (h refl)
with_short (suc n) t a A h = refl

comb_more : (n : ℕ) (a b d : Kind) (A B : List Kind) → n ≢ 0 → (same_kind a b && is_comb (n - 1) A d B) ≡ is_comb n (a ∷ A) (pair b d) B
comb_more zero a b d A B h = absurd (h refl)
comb_more (suc n) a b d A B h = let e : suc n - 1 ≡ n = omega arith in ap (λ m. same_kind a b && is_comb m A d B) e

pub comb_step : (n : ℕ) (a c b d : Kind) (A B : List Kind) → n ≢ 0 → c ≡ pair b d → is_comb n (a ∷ A) c B ≡ (same_kind a b && is_comb (n - 1) A d B)
comb_step n a c b d A B h e = ap (λ x. is_comb n (a ∷ A) x B) e ∙ sym (comb_more n a b d A B h)

pub comb_of_other : (n : ℕ) (a c : Kind) (A B : List Kind) → n ≢ 0 → IsNoPair c → is_comb n (a ∷ A) c B ≡ false
comb_of_other zero a c A B h p = absurd (h refl)
comb_of_other (suc n) a (pair b d) A B h p = absurd p
comb_of_other (suc n) a c A B h p = refl

pub first_step : (n : ℕ) (c a b x : Kind) → n ≡ 1 → c ≡ pair a b → is_part n c x ≡ same_kind a x
first_step n c a b x h e = ap (λ m. is_part m c x) h ∙ ap (λ d. is_part 1 d x) e

part_more : (n : ℕ) (a b x : Kind) → n ≢ 0 → n ≢ 1 → is_part n (pair a b) x ≡ is_part (n - 2) b x
part_more zero a b x h l = absurd (h refl)
part_more (suc zero) a b x h l = absurd (l refl)
part_more (suc (suc n)) a b x h l = let e : n ≡ suc (suc n) - 2 = omega arith in ap (λ m. is_part m b x) e

pub part_step : (n : ℕ) (c a b x : Kind) → n ≢ 0 → n ≢ 1 → c ≡ pair a b → is_part n c x ≡ is_part (n - 2) b x
part_step n c a b x h l e = ap (λ d. is_part n d x) e ∙ part_more n a b x h l

pub part_of_other : (n : ℕ) (a x : Kind) → n ≢ 0 → IsNoPair a → is_part n a x ≡ false
part_of_other zero a x h p = absurd (h refl)
part_of_other (suc zero) (pair a b) x h p = absurd p
part_of_other (suc zero) a x h p = refl
part_of_other (suc (suc n)) (pair a b) x h p = absurd p
part_of_other (suc (suc n)) a x h p = refl

pub first_updated : (n : ℕ) (x c d a b e f : Kind) → n ≡ 1 → c ≡ pair a b → d ≡ pair e f → is_updated n x c d ≡ (same_kind x e && same_kind b f)
first_updated n x c d a b e f h p q = ap (λ m. is_updated m x c d) h ∙ ap (λ z. is_updated 1 x z d) p ∙ ap (λ z. is_updated 1 x (pair a b) z) q

updated_more : (n : ℕ) (x a b e f : Kind) → n ≢ 0 → n ≢ 1 → is_updated n x (pair a b) (pair e f) ≡ (same_kind a e && is_updated (n - 2) x b f)
updated_more zero x a b e f h l = absurd (h refl)
updated_more (suc zero) x a b e f h l = absurd (l refl)
updated_more (suc (suc n)) x a b e f h l = let m : n ≡ suc (suc n) - 2 = omega arith in ap (λ z. same_kind a e && is_updated z x b f) m

pub updated_step : (n : ℕ) (x c d a b e f : Kind) → n ≢ 0 → n ≢ 1 → c ≡ pair a b → d ≡ pair e f →
    is_updated n x c d ≡ (same_kind a e && is_updated (n - 2) x b f)
updated_step n x c d a b e f h l p q = ap (λ z. is_updated n x z d) p ∙ ap (λ z. is_updated n x (pair a b) z) q ∙ updated_more n x a b e f h l

pub updated_of_other : (n : ℕ) (x a b : Kind) → n ≢ 0 → IsNoPair a → is_updated n x a b ≡ false
updated_of_other zero x a b h p = absurd (h refl)
updated_of_other (suc zero) x (pair a c) b h p = absurd p
updated_of_other (suc zero) x a b h p = refl
updated_of_other (suc (suc n)) x (pair a c) b h p = absurd p
updated_of_other (suc (suc n)) x a b h p = refl

to_other : (n : ℕ) (x a c b : Kind) → n ≢ 0 → IsNoPair b → is_updated n x (pair a c) b ≡ false
to_other zero x a c b h p = absurd (h refl)
to_other (suc zero) x a c (pair b d) h p = absurd p
to_other (suc zero) x a c b h p = refl
to_other (suc (suc n)) x a c (pair b d) h p = absurd p
to_other (suc (suc n)) x a c b h p = refl

pub updated_to_other : (n : ℕ) (x e a c b : Kind) → n ≢ 0 → e ≡ pair a c → IsNoPair b → is_updated n x e b ≡ false
updated_to_other n x e a c b h q p = ap (λ z. is_updated n x z b) q ∙ to_other n x a c b h p

pub dips_more : (n : ℕ) (a d : Kind) (A B C D : List Kind) → n ≢ 0 → dips n (a ∷ A) B C (d ∷ D) ≡ (same_kind a d && dips (n - 1) A B C D)
dips_more zero a d A B C D h = absurd (h refl)
dips_more (suc n) a d A B C D h = let e : n ≡ suc n - 1 = omega arith in ap (λ m. same_kind a d && dips m A B C D) e

pub dips_none : (n : ℕ) (B C D : List Kind) → n ≢ 0 → dips n [] B C D ≡ false
dips_none zero B C D h = absurd (h refl)
dips_none (suc n) B C D h = refl

pub dips_short : (n : ℕ) (a : Kind) (A B C : List Kind) → n ≢ 0 → dips n (a ∷ A) B C [] ≡ false
dips_short zero a A B C h = absurd (h refl)
dips_short (suc n) a A B C h = refl
