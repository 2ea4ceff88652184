-- A write that is taken back leaves the entries as they were.
use Rattle.std.proofs.Common.{◌≡◌, List, [], ◌∷◌, Bool, true, false, cond, None, Some, refl, sym, ap, ◌∙◌}
use Rattle.std.specs.declared.option.Option.{Option}
use Rattle.std.specs.declared.cmp.Ordering.{Ordering}
use Rattle.std.specs.declared.cmp.Ordering.TheVariants.{Less, Equal, Greater}
use Rattle.std.specs.Ordering.{is_eq}
use Rattle.std.specs.Cmp.{IsTotalOrder, eq_by_cmp_equiv}
use Rattle.std.specs.BTreeMap.{insert_entry, is_at}
use Rattle.std.specs.Map.{lookup, remove_entry, set_value, keys_of}
use Rattle.std.specs.List.Sorted.{IsStrictlySortedBy}
use Rattle.std.proofs.lemmas.Map.{lookup-none}
use Rattle.std.proofs.lemmas.Map.Keys.{sorted_tail}
use Rattle.std.proofs.lemmas.Map.Entries.{none_below_head}
use Rattle.mich_base.specs.undo.Undone.{undone, changed_at}

-- where no key passes, nothing is written
pub set_value_none : {K X : Type 0} (test : K → Bool) (es : List (K × X)) (w : X) → lookup test es ≡ None → set_value test es w ≡ es
set_value_none test [] w h = refl
set_value_none test (e ∷ es) w h =
    (elim (test e.0) as (λ b. cond b (Some e.1) (lookup test es) ≡ None → cond b ((e.0, w) ∷ es) (e ∷ set_value test es w) ≡ e ∷ es)
    [ true ↦ λ q. cc | false ↦ λ q. ap (λ t. e ∷ t) (set_value_none test es w q) ]) h

module _ {K X : Type 0} {R : K → K → Ordering} (total : IsTotalOrder R) (k : K) (v : X) where
  same : is_eq (R k k) ≡ true
  same = (eq_by_cmp_equiv total).refl k

  -- a new key
  pub back_none : (es : List (K × X)) → lookup (is_at (R k)) es ≡ None → remove_entry (is_at (R k)) (insert_entry R es k v) ≡ es
  back_none [] h = simp same
  back_none (e ∷ es) h =
      (elim (R k e.0) as (λ o. R k e.0 ≡ o → remove_entry (is_at (R k)) (insert_entry R (e ∷ es) k v) ≡ e ∷ es) [
        | Less ↦ λ q. simp (q, same)
        | Equal ↦ λ q. let no = simp q at h in cc
        | Greater ↦ λ q. let rest = simp q at h in simp q (ap (λ t. e ∷ t) (back_none es rest))
      ]) refl

  -- a key that was there
  back_some : (es : List (K × X)) (w : X) → IsStrictlySortedBy R (keys_of es) → lookup (is_at (R k)) es ≡ Some w → set_value (is_at (R k)) (insert_entry R es k v) w ≡ es
  back_some [] w s h = cc
  back_some (e ∷ es) w s h =
      (elim (R k e.0) as (λ o. R k e.0 ≡ o → set_value (is_at (R k)) (insert_entry R (e ∷ es) k v) w ≡ e ∷ es) [
        | Less ↦ λ q. let none = lookup-none (is_at (R k)) (e ∷ es) (none_below_head total k e es s q) in cc
        | Equal ↦ λ q. let here = simp q at h in let p : e.1 ≡ w = cc in simp q (ap (λ x. (e.0, x) ∷ es) (sym p))
        | Greater ↦ λ q. let rest = simp q at h in simp q (ap (λ t. e ∷ t) (back_some es w (sorted_tail R e.0 (keys_of es) s) rest))
      ]) refl

  pub back : (es : List (K × X)) (old : Option X) → IsStrictlySortedBy R (keys_of es) → old ≡ lookup (is_at (R k)) es → undone R (insert_entry R es k v) k old ≡ es
  back es None s h = back_none es (sym h)
  back es (Some w) s h = back_some es w s (sym h)

-- ---- a change in place
-- it is a write of the changed value, where there is one
pub changed_is_set : {K X : Type 0} (test : K → Bool) (es : List (K × X)) (f : X → X) (v : X) → lookup test es ≡ Some v → set_value test es (f v) ≡ changed_at test es f
changed_is_set test [] f v h = cc
changed_is_set test (e ∷ es) f v h =
    (elim (test e.0) as (λ b. cond b (Some e.1) (lookup test es) ≡ Some v → cond b ((e.0, f v) ∷ es) (e ∷ set_value test es (f v)) ≡ cond b ((e.0, f e.1) ∷ es) (e ∷ changed_at test es f))
    [ true ↦ λ q. let p : v ≡ e.1 = cc in ap (λ x. (e.0, f x) ∷ es) p | false ↦ λ q. ap (λ t. e ∷ t) (changed_is_set test es f v q) ]) h

-- where there is none, nothing is changed
pub changed_none : {K X : Type 0} (test : K → Bool) (es : List (K × X)) (f : X → X) → lookup test es ≡ None → changed_at test es f ≡ es
changed_none test [] f h = refl
changed_none test (e ∷ es) f h =
    (elim (test e.0) as (λ b. cond b (Some e.1) (lookup test es) ≡ None → cond b ((e.0, f e.1) ∷ es) (e ∷ changed_at test es f) ≡ e ∷ es)
    [ true ↦ λ q. cc | false ↦ λ q. ap (λ t. e ∷ t) (changed_none test es f q) ]) h

-- a second change that undoes the first
pub changed_back : {K X : Type 0} (test : K → Bool) (es : List (K × X)) (f g : X → X) (v : X) → lookup test es ≡ Some v → g (f v) ≡ v → changed_at test (changed_at test es f) g ≡ es
changed_back test [] f g v h e = cc
changed_back test (x ∷ es) f g v h e =
    (elim (test x.0) as (λ b. test x.0 ≡ b → changed_at test (changed_at test (x ∷ es) f) g ≡ x ∷ es) [
      | true ↦ λ q. let here = simp q at h in let p : v ≡ x.1 = cc in simp q (ap (λ t. (x.0, t) ∷ es) (ap (λ t. g (f t)) (sym p) ∙ e ∙ p))
      | false ↦ λ q. let rest = simp q at h in simp q (ap (λ t. x ∷ t) (changed_back test es f g v rest e))
    ]) refl
