-- Stacks of types, whose last element is on top.
use Rattle.std.proofs.Common.{◌≡◌, ℕ, zero, suc, ◌-◌, ◌<◌, ◌≤◌, Bool, ◌&&◌, nat_le, true, false, List, [], ◌∷◌, ◌++◌, length, take, drop, map, reverse, Some, None, get_or, refl, sym, ap, ◌∙◌, arith}
use Rattle.std.specs.Prelude.{insert, remove, slice_get}
use Rattle.std.specs.List.{list_all}
use Rattle.std.proofs.Math.Seq.{drop-cons}
use Rattle.std.proofs.lemmas.List.Folds.{list_all-append, list_all-map}
use Rattle.std.proofs.lemmas.List.{reverse-append, length-drop, map-append, take-append-drop, take_all, take_at, append_assoc}
use Rattle.rules_text.specs.nodes.Limits.{type_limit}
use Rattle.rules_data.specs.types.Kind.{Kind, nodes}
use Rattle.mich_base.specs.declared.ty.Ty.{Ty}
use Rattle.mich_base.specs.TypeView.{kind}
use Rattle.mich_overload.specs.View.{kinds}
use Rattle.mich_overload.proofs.ForCallers.{kinds_below, length_kinds}
use Rattle.mich_stackrules.specs.Effects.{are_within_limit, fits, lowered, raised}

pub appended : (ts us : List Ty) → kinds (ts ++ us) ≡ kinds us ++ kinds ts
appended ts us = ap (map kind) (reverse-append ts us) ∙ map-append kind (reverse us) (reverse ts)

pub pushed : (ts : List Ty) (t : Ty) → kinds (ts ++ t ∷ []) ≡ kind t ∷ kinds ts
pushed ts t = appended ts (t ∷ [])

-- ---- within the limit of types, in any order

and_comm : (a b : Bool) → a && b ≡ b && a
and_comm true true = refl
and_comm true false = refl
and_comm false true = refl
and_comm false false = refl

all_reversed : (p : Ty → Bool) (ts : List Ty) → list_all p (reverse ts) ≡ list_all p ts
all_reversed p [] = refl
all_reversed p (t ∷ ts) =
    ap (list_all p) (reverse-append (t ∷ []) ts) ∙ list_all-append p (reverse ts) (t ∷ []) ∙ ap (λ b. b && list_all p (t ∷ [])) (all_reversed p ts)
    ∙ and_comm (list_all p ts) (list_all p (t ∷ [])) ∙ sym (list_all-append p (t ∷ []) ts)

pub within_reversed : (ts : List Ty) → are_within_limit (kinds ts) ≡ list_all fits ts
within_reversed ts = list_all-map (λ a. nat_le (nodes a) type_limit) kind (reverse ts) ∙ all_reversed fits ts

-- ---- a type is put on top

get_at : (Q P : List Kind) (a : Kind) → slice_get (Q ++ a ∷ P) (length Q) ≡ Some a
get_at [] P a = refl
get_at (b ∷ Q) P a = get_at Q P a

remove_at : (Q P : List Kind) (a : Kind) → remove (Q ++ a ∷ P) (length Q) ≡ Q ++ P
remove_at [] P a = refl
remove_at (b ∷ Q) P a = ap (λ l. b ∷ l) (remove_at Q P a)

raised_at : (Q P : List Kind) (a : Kind) → raised (slice_get (Q ++ a ∷ P) (length Q)) (length Q) (Q ++ a ∷ P) ≡ a ∷ (Q ++ P)
raised_at Q P a = ap (λ g. raised g (length Q) (Q ++ a ∷ P)) (get_at Q P a) ∙ ap (λ l. a ∷ l) (remove_at Q P a)

around : (p q : List Ty) (t : Ty) → kinds (p ++ t ∷ q) ≡ kinds q ++ kind t ∷ kinds p
around p q t =
    ap kinds (sym (append_assoc p (t ∷ []) q)) ∙ appended (p ++ t ∷ []) q ∙ ap (λ A. kinds q ++ A) (pushed p t)

dig_parts : (p q : List Ty) (t : Ty) (n : ℕ) → length q ≡ n →
    kinds ((p ++ q) ++ t ∷ []) ≡ raised (slice_get (kinds (p ++ t ∷ q)) n) n (kinds (p ++ t ∷ q))
dig_parts p q t n e =
    let l : length (kinds q) ≡ n = length_kinds q ∙ e in
    let whole : raised (slice_get (kinds (p ++ t ∷ q)) n) n (kinds (p ++ t ∷ q)) ≡ kind t ∷ (kinds q ++ kinds p) =
    ap (λ A. raised (slice_get A n) n A) (around p q t) ∙ ap (λ m. raised (slice_get (kinds q ++ kind t ∷ kinds p) m) m (kinds q ++ kind t ∷ kinds p)) (sym l) ∙ raised_at (kinds q) (kinds p) (kind t) in
    pushed (p ++ q) t ∙ ap (λ A. kind t ∷ A) (appended p q) ∙ sym whole

pub dig_is : (ts : List Ty) (n i : ℕ) (t : Ty) → n < length ts → i ≡ length ts - 1 - n → t ≡ get_or ts i t →
    kinds (remove ts i ++ t ∷ []) ≡ raised (slice_get (kinds ts) n) n (kinds ts)
dig_is ts n i t h e same =
    let split : take i ts ++ t ∷ drop (suc i) ts ≡ ts =
    ap (λ x. take i ts ++ x ∷ drop (suc i) ts) same ∙ ap (λ l. take i ts ++ l) (sym (drop-cons ts i t (omega arith))) ∙ take-append-drop i ts in
    let behind : length (drop (suc i) ts) ≡ n = omega (arith, length-drop (suc i) ts) in
    dig_parts (take i ts) (drop (suc i) ts) t n behind ∙ ap (λ us. raised (slice_get (kinds us) n) n (kinds us)) split

get_past : (A : List Kind) (n : ℕ) → length A ≤ n → slice_get A n ≡ None
get_past [] n h = refl
get_past (a ∷ A) zero h = absurd (omega arith)
get_past (a ∷ A) (suc n) h = get_past A n (omega arith)

pub dig_past : (ts : List Ty) (n : ℕ) → length ts ≤ n → kinds ts ≡ raised (slice_get (kinds ts) n) n (kinds ts)
dig_past ts n h = ap (λ g. raised g n (kinds ts)) (sym (get_past (kinds ts) n (omega (arith, length_kinds ts))))

-- ---- the type on top is put lower

pub kinds_above : (ts : List Ty) (n : ℕ) → kinds (drop (length ts - n) ts) ≡ take n (kinds ts)
kinds_above ts n = by (length ts - n) refl
  where
    by : (m : ℕ) → length ts - n ≡ m → kinds (drop m ts) ≡ take n (kinds ts)
    by zero e = sym (take_all n (kinds ts) (omega (arith, length_kinds ts)))
    by (suc m) e =
        let l : length (kinds (drop (suc m) ts)) ≡ n = omega (arith, length_kinds (drop (suc m) ts), length-drop (suc m) ts) in
        sym (ap (take n) (ap kinds (sym (take-append-drop (suc m) ts)) ∙ appended (take (suc m) ts) (drop (suc m) ts))
        ∙ take_at (kinds (drop (suc m) ts)) (kinds (take (suc m) ts)) n l)

dug_parts : (ts : List Ty) (t : Ty) (n : ℕ) → kinds (insert ts (length ts - n) t) ≡ insert (kinds ts) n (kind t)
dug_parts ts t n =
    around (take (length ts - n) ts) (drop (length ts - n) ts) t ∙ ap (λ A. A ++ kind t ∷ kinds (take (length ts - n) ts)) (kinds_above ts n)
    ∙ ap (λ A. take n (kinds ts) ++ kind t ∷ A) (kinds_below ts n)

pub dug_is : (ts us : List Ty) (t : Ty) (n j : ℕ) → us ≡ ts ++ t ∷ [] → j ≡ length ts - n → kinds (insert ts j t) ≡ lowered n (kinds us)
dug_is ts us t n j e f = ap (λ m. kinds (insert ts m t)) f ∙ dug_parts ts t n ∙ ap (lowered n) (sym (ap kinds e ∙ pushed ts t))

-- ---- the type at a place

pub place_is : (A : List Kind) (n : ℕ) → slice_get A n ≡ slice_get (drop n A) 0
place_is [] zero = refl
place_is [] (suc n) = refl
place_is (a ∷ A) zero = refl
place_is (a ∷ A) (suc n) = place_is A n
