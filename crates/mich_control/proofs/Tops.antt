-- Stacks of types, whose last is the top.
use Rattle.std.proofs.Common.{◌≡◌, ℕ, zero, suc, ◌+◌, ◌-◌, ◌<◌, ◌≤◌, Bool, true, false, List, [], ◌∷◌, ◌++◌, length, take, drop, map, reverse, Some, refl, sym, ap, ◌∙◌, subst, arith, add-one}
use Rattle.std.specs.Prelude.{IsTrue, ◌↔◌, slice_get, nat_le, if◌then◌else◌}
use Rattle.std.proofs.lemmas.Bool.{le-leb, lt-leb}
use Rattle.std.proofs.lemmas.List.{reverse-append, reverse-reverse, map-append, length-drop, take-append-drop}
use Rattle.std.proofs.Math.Seq.{take-append_seam}
use Rattle.rules_data.specs.types.Kind.{Kind, nodes}
use Rattle.rules_code.specs.instructions.Same.{same_kind, same_kinds}
use Rattle.rules_code.specs.typing.Typing.{goes, bad, shift, made}
use Rattle.laws_data.proofs.types_lemmas.ForCallers.{same_kind_refl, same_kind_true, same_kinds_refl, same_kinds_true}
use Rattle.mich_base.specs.declared.ty.Ty.{Ty}
use Rattle.mich_base.specs.TypeView.{kind}
use Rattle.mich_overload.specs.View.{kinds}
use Rattle.mich_overload.proofs.ForCallers.{kinds_below, length_kinds}
use Rattle.mich_base.proofs.ForCallers.{kind_faithful}

reverse_push : (ts : List Ty) (t : Ty) → reverse (ts ++ t ∷ []) ≡ t ∷ reverse ts
reverse_push ts t = reverse-append ts (t ∷ [])

pub pushed : (ts us : List Ty) (t : Ty) → us ≡ ts ++ t ∷ [] → kinds us ≡ kind t ∷ kinds ts
pushed ts us t e = ap kinds e ∙ ap (map kind) (reverse_push ts t)

-- a test that is true just where two types are equal
pub same_is : (r : Bool) (a b : Ty) → (IsTrue r ↔ a ≡ b) → r ≡ same_kind (kind a) (kind b)
same_is true a b h = sym (subst (λ x. same_kind (kind a) (kind x) ≡ true) (h.0 refl) (same_kind_refl (kind a)))
same_is false a b h = by (same_kind (kind a) (kind b)) refl
  where
    by : (s : Bool) → same_kind (kind a) (kind b) ≡ s → false ≡ s
    by true e = h.1 (kind_faithful a b (same_kind_true (kind a) (kind b) e))
    by false e = refl

-- ---- two lists, place by place

alike_next : (ts us : List Ty) (i : ℕ) (a b : Ty) → take i ts ≡ take i us → slice_get ts i ≡ Some a → slice_get us i ≡ Some b → a ≡ b →
    take (suc i) ts ≡ take (suc i) us
alike_next [] us i a b e f g h = absurd cc
alike_next (x ∷ ts) [] i a b e f g h = absurd cc
alike_next (x ∷ ts) (y ∷ us) zero a b e f g h = cc
alike_next (x ∷ ts) (y ∷ us) (suc i) a b e f g h =
    let k : take (suc i) ts ≡ take (suc i) us = alike_next ts us i a b (cc) f g h in
    let l : x ≡ y = cc in
    cc

pub alike_more : (ts us : List Ty) (i : ℕ) (a b : Ty) → take i ts ≡ take i us → slice_get ts i ≡ Some a → slice_get us i ≡ Some b → a ≡ b →
    take (i + 1) ts ≡ take (i + 1) us
alike_more ts us i a b e f g h =
    ap (λ n. take n ts) (add-one i) ∙ alike_next ts us i a b e f g h ∙ sym (ap (λ n. take n us) (add-one i))

pub alike_all : (ts us : List Ty) (i : ℕ) → length ts ≡ length us → length ts ≤ i → take i ts ≡ take i us → ts ≡ us
alike_all [] [] i e le h = refl
alike_all [] (y ∷ us) i e le h = absurd cc
alike_all (x ∷ ts) [] i e le h = absurd cc
alike_all (x ∷ ts) (y ∷ us) zero e le h = absurd (omega arith)
alike_all (x ∷ ts) (y ∷ us) (suc i) e le h =
    let k : ts ≡ us = alike_all ts us i (omega arith) (omega arith) (cc) in
    let l : x ≡ y = cc in
    cc

pub differ : (ts us : List Ty) (i : ℕ) (a b : Ty) → slice_get ts i ≡ Some a → slice_get us i ≡ Some b → (a ≡ b → ⊥) → ts ≡ us → ⊥
differ ts us i a b f g n e = n (cc)

map_faithful : (ts us : List Ty) → map kind ts ≡ map kind us → ts ≡ us
map_faithful [] [] e = refl
map_faithful [] (y ∷ us) e = absurd cc
map_faithful (x ∷ ts) [] e = absurd cc
map_faithful (x ∷ ts) (y ∷ us) e =
    let k : ts ≡ us = map_faithful ts us (cc) in
    let l : x ≡ y = kind_faithful x y (cc) in
    cc

kinds_faithful : (ts us : List Ty) → kinds ts ≡ kinds us → ts ≡ us
kinds_faithful ts us e =
    let f : reverse ts ≡ reverse us = map_faithful (reverse ts) (reverse us) e in
    sym (reverse-reverse ts) ∙ ap reverse f ∙ reverse-reverse us

pub same_lists : (r : Bool) (ts us : List Ty) → (IsTrue r ↔ ts ≡ us) → r ≡ same_kinds (kinds ts) (kinds us)
same_lists true ts us h = sym (subst (λ x. same_kinds (kinds ts) (kinds x) ≡ true) (h.0 refl) (same_kinds_refl (kinds ts)))
same_lists false ts us h = by (same_kinds (kinds ts) (kinds us)) refl
  where
    by : (s : Bool) → same_kinds (kinds ts) (kinds us) ≡ s → false ≡ s
    by true e = h.1 (kinds_faithful ts us (same_kinds_true (kinds ts) (kinds us) e))
    by false e = refl

-- ---- a new type on top

pub made_well : (at : ℕ) (a : Kind) (A S : List Kind) (b : Bool) → b ≡ nat_le (nodes a) 2000 → b ≡ true → S ≡ a ∷ A → shift at (made a A) ≡ goes S
made_well at a A S b e f g = ap (λ x. shift at (if x then goes (a ∷ A) else bad 0)) (sym e ∙ f) ∙ ap goes (sym g)

pub made_badly : (at : ℕ) (a : Kind) (A : List Kind) (b : Bool) → b ≡ nat_le (nodes a) 2000 → b ≡ false → shift at (made a A) ≡ bad at
made_badly at a A b e f =
    let z : at + 0 ≡ at = omega arith in
    ap (λ x. shift at (if x then goes (a ∷ A) else bad 0)) (sym e ∙ f) ∙ ap bad z

-- ---- so many types on top

pub kinds_append : (ts us : List Ty) → kinds (ts ++ us) ≡ kinds us ++ kinds ts
kinds_append ts us = ap (map kind) (reverse-append ts us) ∙ map-append kind (reverse us) (reverse ts)

pub kinds_lower : (ts : List Ty) (n m : ℕ) → m ≡ length ts - n → kinds (take m ts) ≡ drop n (kinds ts)
kinds_lower ts n m e = ap (λ k. kinds (take k ts)) e ∙ kinds_below ts n

pub kinds_upper : (ts : List Ty) (n m : ℕ) → n ≤ length ts → m ≡ length ts - n → kinds (drop m ts) ≡ take n (kinds ts)
kinds_upper ts n m le e =
    let parts : kinds ts ≡ kinds (drop m ts) ++ kinds (take m ts) = ap kinds (sym (take-append-drop m ts)) ∙ kinds_append (take m ts) (drop m ts) in
    let l : length (kinds (drop m ts)) ≡ n = length_kinds (drop m ts) ∙ length-drop m ts ∙ (omega (arith, le, e)) in
    sym (ap (take n) parts ∙ ap (λ k. take k (kinds (drop m ts) ++ kinds (take m ts))) (sym l) ∙ take-append_seam (kinds (drop m ts)) (kinds (take m ts)))

pub enough : (ts : List Ty) (n : ℕ) → n ≤ length ts → nat_le n (length (kinds ts)) ≡ true
enough ts n h = ap (nat_le n) (length_kinds ts) ∙ le-leb n (length ts) h

pub too_few : (ts : List Ty) (n : ℕ) → length ts < n → nat_le n (length (kinds ts)) ≡ false
too_few ts n h = ap (nat_le n) (length_kinds ts) ∙ lt-leb n (length ts) h

pub below_two : (S : List Kind) (a b : Kind) (A : List Kind) → S ≡ a ∷ b ∷ A → drop 2 S ≡ A
below_two S a b A e = ap (drop 2) e
