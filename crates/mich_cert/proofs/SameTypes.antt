-- The tests of two types and of two stacks.
use Rattle.std.proofs.Common.{◌≡◌, ℕ, suc, ◌+◌, ◌<◌, ◌≤◌, Bool, true, false, ◌&&◌, List, [], ◌∷◌, length, drop, get_or, refl, sym, ap, subst, ◌∙◌, drop-cons, add-one}
use Rattle.std.proofs.lemmas.List.{drop_all}
use Rattle.std.specs.Prelude.{IsTrue, ◌↔◌}
use Rattle.rules_data.specs.types.Kind.{Kind}
use Rattle.rules_code.specs.instructions.Same.{same_kind, same_kinds}
use Rattle.laws_data.proofs.types_lemmas.ForCallers.{same_kind_refl, same_kind_true}
use Rattle.mich_base.specs.TypeView.{kind}
use Rattle.mich_base.specs.declared.ty.Ty.{Ty}
use Rattle.mich_base.proofs.ForCallers.{kind_faithful}
use Rattle.mich_cert.specs.View.{kinds}

-- a test that is true just where two types are equal
pub same_is : (r : Bool) (a b : Ty) → (IsTrue r ↔ a ≡ b) → r ≡ same_kind (kind a) (kind b)
same_is true a b h = sym (subst (λ x. same_kind (kind a) (kind x) ≡ true) (h.0 refl) (same_kind_refl (kind a)))
same_is false a b h = by (same_kind (kind a) (kind b)) refl
  where
    by : (s : Bool) → same_kind (kind a) (kind b) ≡ s → false ≡ s
    by true e = h.1 (kind_faithful a b (same_kind_true (kind a) (kind b) e))
    by false e = refl

-- the tests don't ask which comes first
pub same_kind_symm : (a b : Kind) → same_kind a b ≡ same_kind b a
same_kind_symm a b = by (same_kind a b) (same_kind b a) refl refl
  where
    by : (q r : Bool) → same_kind a b ≡ q → same_kind b a ≡ r → same_kind a b ≡ same_kind b a
    by true r e f = e ∙ sym (subst (λ c. same_kind c a ≡ true) (same_kind_true a b e) (same_kind_refl a))
    by false true e f = subst (λ c. same_kind c b ≡ true) (same_kind_true b a f) (same_kind_refl b) ∙ sym f
    by false false e f = e ∙ sym f

pub same_kinds_symm : (A B : List Kind) → same_kinds A B ≡ same_kinds B A
same_kinds_symm [] [] = refl
same_kinds_symm [] (b ∷ B) = refl
same_kinds_symm (a ∷ A) [] = refl
same_kinds_symm (a ∷ A) (b ∷ B) = λ i. same_kind_symm a b i && same_kinds_symm A B i

-- what is left of a stack
pub types_at : (ts : List Ty) (i : ℕ) (t : Ty) → i < length ts → t ≡ get_or ts i t → kinds (drop i ts) ≡ kind t ∷ kinds (drop (i + 1) ts)
types_at ts i t h e =
    ap kinds (drop-cons ts i t h) ∙ ap (λ x. kind x ∷ kinds (drop (suc i) ts)) (sym e) ∙ ap (λ k. kind t ∷ kinds (drop k ts)) (sym (add-one i))

pub types_end : (ts : List Ty) (i : ℕ) → length ts ≤ i → kinds (drop i ts) ≡ []
types_end ts i h = ap kinds (drop_all i ts h)
