-- What is found at a key, as a sum over all entries.
use Rattle.std.proofs.Common.{◌≡◌, ℤ, pos, ◌+ℤ◌, List, [], ◌∷◌, Bool, true, false, cond, None, Some, refl, sym, ap, ◌∙◌, arith}
use Rattle.std.specs.Prelude.{if◌then◌else◌}
use Rattle.std.specs.declared.option.Option.{Option}
use Rattle.std.specs.declared.cmp.Ordering.{Ordering}
use Rattle.std.specs.declared.cmp.Ordering.TheVariants.{Less}
use Rattle.std.specs.Ordering.{is_eq}
use Rattle.std.specs.BTreeMap.{is_at}
use Rattle.std.specs.Cmp.{IsTotalOrder}
use Rattle.std.specs.List.{AllByRecursion}
use Rattle.std.specs.List.Sorted.{IsStrictlySortedBy}
use Rattle.std.specs.Map.{keys_of, lookup}
use Rattle.std.proofs.lemmas.Int.{ints}
use Rattle.std.proofs.lemmas.Map.Keys.{sorted_head, sorted_tail}
use Rattle.laws_world.proofs.accounts.ForCallers.{equal_of}

nothing_first : (x : ℤ) → pos 0 +ℤ x ≡ x
nothing_first x = omega (arith, ints)

nothing_last : (x y : ℤ) → y ≡ pos 0 → x ≡ x +ℤ y
nothing_last x y e = omega (arith, ints, e)

module _ {X : Type 0} (f : X → ℤ) where
  abbrev pub found : Option X → ℤ
  found None = pos 0
  found (Some x) = f x

module _ {K X : Type 0} (f : X → ℤ) where
  abbrev pub sum_at : (K → Bool) → List (K × X) → ℤ
  sum_at t [] = pos 0
  sum_at t (e ∷ es) = (if t e.0 then f e.1 else pos 0) +ℤ sum_at t es

  none_at : (t : K → Bool) (es : List (K × X)) → AllByRecursion (λ k. t k ≡ false) (keys_of es) → sum_at t es ≡ pos 0
  none_at t [] h = refl
  none_at t (e ∷ es) h = ap (λ (b : Bool). (if b then f e.1 else pos 0) +ℤ sum_at t es) h.0 ∙ nothing_first (sum_at t es) ∙ none_at t es h.1

  module _ (R : K → K → Ordering) (o : IsTotalOrder R) where
    apart : (q k : K) (ks : List K) → is_at (R q) k ≡ true → AllByRecursion (λ y. R k y ≡ Less) ks → AllByRecursion (λ y. is_at (R q) y ≡ false) ks
    apart q k [] h l = tt
    apart q k (y ∷ ks) h l = (ap is_eq (o.congr q k y (equal_of (R q k) h) ∙ l.0), apart q k ks h l.1)

    pub found_sum : (q : K) (es : List (K × X)) → IsStrictlySortedBy R (keys_of es) → found f (lookup (is_at (R q)) es) ≡ sum_at (is_at (R q)) es
    found_sum q [] s = refl
    found_sum q (e ∷ es) s = by (is_at (R q) e.0) refl (found_sum q es (sorted_tail R e.0 (keys_of es) s))
      where
        by : (b : Bool) → is_at (R q) e.0 ≡ b → found f (lookup (is_at (R q)) es) ≡ sum_at (is_at (R q)) es
            → found f (cond b (Some e.1) (lookup (is_at (R q)) es)) ≡ (if b then f e.1 else pos 0) +ℤ sum_at (is_at (R q)) es
        by true h rest = nothing_last (f e.1) (sum_at (is_at (R q)) es) (none_at (is_at (R q)) es (apart q e.0 (keys_of es) h (sorted_head R e.0 (keys_of es) s)))
        by false h rest = rest ∙ sym (nothing_first (sum_at (is_at (R q)) es))
