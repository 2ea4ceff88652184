-- Sums over entries, when one is written.
use Rattle.std.proofs.Common.{◌≡◌, ◌≤◌, ℕ, ◌+◌, List, [], ◌∷◌, Bool, true, false, cond, option_map, unwrap_or, None, Some, refl, sym, ap, ◌∙◌, arith}
use Rattle.std.proofs.lemmas.List.Sums.{sum_by-cons}
use Rattle.std.specs.declared.option.Option.{Option}
use Rattle.std.specs.List.{sum_by}
use Rattle.std.specs.Map.{lookup, values_of}
use Rattle.std.specs.BTreeMap.{is_at, insert_entry}
use Rattle.std.specs.Map.{keys_of}
use Rattle.std.specs.List.Sorted.{IsStrictlySortedBy}
use Rattle.std.proofs.lemmas.Cmp.{nat_list_cmp_total}
use Rattle.std.proofs.lemmas.Map.Entries.{sum_by-insert_entry, sum_by-set_value}
use Rattle.mich_base.specs.undo.Undone.{changed_at}
use Rattle.mich_base.proofs.undo_lemmas.ForCallers.{changed_is_set}
use Rattle.mich_world.specs.Holders.{by_bytes}

module _ {K X : Type 0} (f : X → ℕ) (test : K → Bool) where
  one_of : (b : Bool) (x : X) (k : ℕ) (o : Option X) → unwrap_or (option_map f o) 0 ≤ k → unwrap_or (option_map f (cond b (Some x) o)) 0 ≤ f x + k
  one_of true x k o h = omega arith
  one_of false x k o h = omega arith

  -- no part is more than all together
  pub part_least : (es : List (K × X)) → unwrap_or (option_map f (lookup test es)) 0 ≤ sum_by f (values_of es)
  part_least [] = omega arith
  part_least (e ∷ es) = rw (sum_by-cons f e.1 (values_of es)) (one_of (test e.0) e.1 (sum_by f (values_of es)) (lookup test es) (part_least es))

  -- a change that leaves what is summed
  pub sum_same : (g : X → X) → ((x : X) → f (g x) ≡ f x) → (es : List (K × X)) → sum_by f (values_of (changed_at test es g)) ≡ sum_by f (values_of es)
  sum_same g same [] = refl
  sum_same g same (e ∷ es) =
      (elim (test e.0) as (λ b. sum_by f (values_of (cond b ((e.0, g e.1) ∷ es) (e ∷ changed_at test es g))) ≡ sum_by f (values_of (e ∷ es))) [
        | true ↦ sum_by-cons f (g e.1) (values_of es) ∙ ap (λ n. n + sum_by f (values_of es)) (same e.1) ∙ sym (sum_by-cons f e.1 (values_of es))
        | false ↦ sum_by-cons f e.1 (values_of (changed_at test es g)) ∙ ap (λ n. f e.1 + n) (sum_same g same es) ∙ sym (sum_by-cons f e.1 (values_of es))
      ])

  -- a change of one entry
  pub sum_changed : (g : X → X) (es : List (K × X)) (v : X) → lookup test es ≡ Some v → sum_by f (values_of (changed_at test es g)) + f v ≡ sum_by f (values_of es) + f (g v)
  sum_changed g es v h = rw (← changed_is_set test es g v h) (sum_by-set_value f test es v (g v) h)

-- the same of numbers
same : (o : Option ℕ) → unwrap_or (option_map (λ n. n) o) 0 ≡ unwrap_or o 0
same None = refl
same (Some n) = refl

pub number_least : {K : Type 0} (test : K → Bool) (es : List (K × ℕ)) → unwrap_or (lookup test es) 0 ≤ sum_by (λ n. n) (values_of es)
number_least test es = let e = same (lookup test es) in let l = part_least (λ (n : ℕ). n) test es in omega (arith, e, l)

pub number_inserted : (es : List (List ℕ × ℕ)) (k : List ℕ) (n : ℕ) (old : Option ℕ) → IsStrictlySortedBy by_bytes (keys_of es) → old ≡ lookup (is_at (by_bytes k)) es
    → sum_by (λ n. n) (values_of (insert_entry by_bytes es k n)) + unwrap_or old 0 ≡ sum_by (λ n. n) (values_of es) + n
number_inserted es k n old sorted is =
    ap (λ (o : Option ℕ). sum_by (λ n. n) (values_of (insert_entry by_bytes es k n)) + unwrap_or o 0) is
    ∙ ap (λ (m : ℕ). sum_by (λ n. n) (values_of (insert_entry by_bytes es k n)) + m) (sym (same (lookup (is_at (by_bytes k)) es)))
    ∙ sum_by-insert_entry (λ n. n) nat_list_cmp_total es k n sorted

-- and of anything that is weighed
pub inserted : {X : Type 0} (f : X → ℕ) (es : List (List ℕ × X)) (k : List ℕ) (v : X) (old : Option X) → IsStrictlySortedBy by_bytes (keys_of es) → old ≡ lookup (is_at (by_bytes k)) es
    → sum_by f (values_of (insert_entry by_bytes es k v)) + unwrap_or (option_map f old) 0 ≡ sum_by f (values_of es) + f v
inserted f es k v old sorted is =
    ap (λ o. sum_by f (values_of (insert_entry by_bytes es k v)) + unwrap_or (option_map f o) 0) is
    ∙ sum_by-insert_entry f nat_list_cmp_total es k v sorted
