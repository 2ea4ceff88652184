-- Entries whose values are seen as others.
use Rattle.std.proofs.Common.{◌≡◌, ◌+◌, ℕ, List, [], ◌∷◌, map, Bool, true, false, cond, option_map, Some, refl, sym, ap, ◌∙◌}
use Rattle.std.specs.declared.cmp.Ordering.{Ordering}
use Rattle.std.specs.declared.cmp.Ordering.TheVariants.{Less, Equal, Greater}
use Rattle.std.specs.Ordering.{match_ordering}
use Rattle.std.specs.Cmp.{IsTotalOrder}
use Rattle.std.specs.BTreeMap.{is_at, insert_entry}
use Rattle.std.specs.List.{sum_by}
use Rattle.std.specs.List.Sorted.{IsStrictlySortedBy}
use Rattle.std.specs.Map.{lookup, values_of, keys_of}
use Rattle.std.proofs.lemmas.List.Sums.{sum_by-cons}
use Rattle.std.proofs.lemmas.Map.{lookup-none}
use Rattle.std.proofs.lemmas.Map.Keys.{sorted_tail}
use Rattle.std.proofs.lemmas.Map.Entries.{none_below_head}
use Rattle.mich_base.specs.undo.Undone.{changed_at}

module _ {K X Y : Type 0} (f : X → Y) where
  abbrev pub seen : K × X → K × Y
  seen e = (e.0, f e.1)

  pub seen_lookup : (t : K → Bool) (es : List (K × X)) → lookup t (map seen es) ≡ option_map f (lookup t es)
  seen_lookup t [] = refl
  seen_lookup t (e ∷ es) =
      elim (t e.0) as (λ b. cond b (Some (f e.1)) (lookup t (map seen es)) ≡ option_map f (cond b (Some e.1) (lookup t es)))
      [ true ↦ refl | false ↦ seen_lookup t es ]

  pub seen_insert : (R : K → K → Ordering) (es : List (K × X)) (k : K) (v : X) → map seen (insert_entry R es k v) ≡ insert_entry R (map seen es) k (f v)
  seen_insert R [] k v = refl
  seen_insert R (e ∷ es) k v =
      elim (R k e.0) as (λ o. map seen (match_ordering o ((k, v) ∷ e ∷ es) ((e.0, v) ∷ es) (e ∷ insert_entry R es k v))
      ≡ match_ordering o ((k, f v) ∷ seen e ∷ map seen es) ((e.0, f v) ∷ map seen es) (seen e ∷ insert_entry R (map seen es) k (f v)))
      [ Less ↦ refl | Equal ↦ refl | Greater ↦ ap (λ t. seen e ∷ t) (seen_insert R es k v) ]

  pub seen_sum : (g : Y → ℕ) (es : List (K × X)) → sum_by g (values_of (map seen es)) ≡ sum_by (λ x. g (f x)) (values_of es)
  seen_sum g [] = refl
  seen_sum g (e ∷ es) =
      sum_by-cons g (f e.1) (values_of (map seen es)) ∙ ap (λ n. g (f e.1) + n) (seen_sum g es)
      ∙ sym (sum_by-cons (λ x. g (f x)) e.1 (values_of es))

  pub seen_changed : (t : K → Bool) (g : X → X) (h : Y → Y) → ((x : X) → f (g x) ≡ h (f x)) → (es : List (K × X))
      → map seen (changed_at t es g) ≡ changed_at t (map seen es) h
  seen_changed t g h same [] = refl
  seen_changed t g h same (e ∷ es) =
      elim (t e.0) as (λ b. map seen (cond b ((e.0, g e.1) ∷ es) (e ∷ changed_at t es g)) ≡ cond b ((e.0, h (f e.1)) ∷ map seen es) (seen e ∷ changed_at t (map seen es) h))
      [ true ↦ ap (λ y. (e.0, y) ∷ map seen es) (same e.1) | false ↦ ap (λ r. seen e ∷ r) (seen_changed t g h same es) ]

-- a value that is written over another is a change in place
pub written_over : {K X : Type 0} {R : K → K → Ordering} (total : IsTotalOrder R) (k : K) (h : X → X) (es : List (K × X)) (v : X)
    → IsStrictlySortedBy R (keys_of es) → lookup (is_at (R k)) es ≡ Some v → insert_entry R es k (h v) ≡ changed_at (is_at (R k)) es h
written_over total k h [] v s l = absurd cc
written_over {R = R} total k h (e ∷ es) v s l =
    (elim (R k e.0) as (λ o. R k e.0 ≡ o → insert_entry R (e ∷ es) k (h v) ≡ changed_at (is_at (R k)) (e ∷ es) h) [
      | Less ↦ λ q. let none = lookup-none (is_at (R k)) (e ∷ es) (none_below_head total k e es s q) in absurd cc
      | Equal ↦ λ q. let here = simp q at l in let p : v ≡ e.1 = cc in simp q (ap (λ x. (e.0, h x) ∷ es) p)
      | Greater ↦ λ q. let rest = simp q at l in simp q (ap (λ t. e ∷ t) (written_over total k h es v (sorted_tail R e.0 (keys_of es) s) rest))
    ]) refl
