-- Entries in order that are written one after the other.
use Rattle.std.proofs.Common.{◌≡◌, List, [], ◌∷◌, ◌++◌, refl, sym, ap, ◌∙◌, append_assoc}
use Rattle.std.specs.declared.cmp.Ordering.{Ordering}
use Rattle.std.specs.declared.cmp.Ordering.TheVariants.{Less, Greater}
use Rattle.std.specs.Ordering.{match_ordering, ordering_reverse}
use Rattle.std.specs.BTreeMap.{insert_entry}
use Rattle.std.specs.Cmp.{IsTotalOrder}
use Rattle.std.specs.List.{AllByRecursion}
use Rattle.std.specs.List.Sorted.{IsStrictlySortedBy}
use Rattle.std.specs.Map.{keys_of}
use Rattle.std.proofs.lemmas.Map.Keys.{sorted_head, sorted_tail}
use Rattle.mich_world.specs.Restoring.{put_all}

module _ {K X : Type 0} (R : K → K → Ordering) (o : IsTotalOrder R) where
  -- a key stands above all of these
  abbrev Above : K → List (K × X) → Type 0
  Above k es = AllByRecursion (λ (e : K × X). R k e.0 ≡ Greater) es

  last : (es : List (K × X)) (k : K) (x : X) → Above k es → insert_entry R es k x ≡ es ++ (k, x) ∷ []
  last [] k x h = refl
  last (e ∷ es) k x h =
      ap (λ r. match_ordering r ((k, x) ∷ e ∷ es) ((e.0, x) ∷ es) (e ∷ insert_entry R es k x)) h.0 ∙ ap (λ t. e ∷ t) (last es k x h.1)

  above_more : (k j : K) (x : X) (es : List (K × X)) → Above k es → R k j ≡ Greater → Above k (es ++ (j, x) ∷ [])
  above_more k j x [] h g = (g, tt)
  above_more k j x (e ∷ es) h g = (h.0, above_more k j x es h.1 g)

  -- all of these keys do
  abbrev AllAbove : List (K × X) → List (K × X) → Type 0
  AllAbove es fs = AllByRecursion (λ (f : K × X). Above f.0 es) fs

  all_more : (j : K) (x : X) (es fs : List (K × X)) → AllAbove es fs → AllByRecursion (λ k. R j k ≡ Less) (keys_of fs) → AllAbove (es ++ (j, x) ∷ []) fs
  all_more j x es [] h l = tt
  all_more j x es (f ∷ fs) h l = (above_more f.0 j x es h.0 (o.antisymm f.0 j ∙ ap ordering_reverse l.0), all_more j x es fs h.1 l.1)

  put_behind : (es fs : List (K × X)) → AllAbove es fs → IsStrictlySortedBy R (keys_of fs) → put_all R es fs ≡ es ++ fs
  put_behind es [] h s = sym (none_behind es)
    where
      none_behind : (xs : List (K × X)) → xs ++ [] ≡ xs
      none_behind [] = refl
      none_behind (x ∷ xs) = ap (λ t. x ∷ t) (none_behind xs)
  put_behind es (f ∷ fs) h s =
      ap (λ t. put_all R t fs) (last es f.0 f.1 h.0)
      ∙ put_behind (es ++ f ∷ []) fs (all_more f.0 f.1 es fs h.1 (sorted_head R f.0 (keys_of fs) s)) (sorted_tail R f.0 (keys_of fs) s)
      ∙ append_assoc es (f ∷ []) fs

  none_above : (fs : List (K × X)) → AllAbove [] fs
  none_above [] = tt
  none_above (f ∷ fs) = (tt, none_above fs)

  pub put_sorted : (fs : List (K × X)) → IsStrictlySortedBy R (keys_of fs) → put_all R [] fs ≡ fs
  put_sorted fs s = put_behind [] fs (none_above fs) s
