-- A map that is built of entries in the order of their keys has just these entries.
use Rattle.std.proofs.Common.{◌≡◌, Bool, true, false, cond, ◌&&◌, List, [], ◌∷◌, refl, sym, ap, ◌∙◌, subst}
use Rattle.std.specs.Prelude.{T}
use Rattle.std.specs.declared.cmp.Ordering.{Ordering}
use Rattle.std.specs.declared.cmp.Ordering.TheVariants.{Less, Equal}
use Rattle.std.specs.declared.option.Option.TheVariants.{Some}
use Rattle.std.specs.Ordering.{is_eq, is_lt, eq_by_cmp}
use Rattle.std.specs.Cmp.{IsTotalOrder}
use Rattle.std.specs.List.{AllByRecursion}
use Rattle.std.specs.List.Sorted.{IsStrictlySortedBy}
use Rattle.std.specs.Map.{keys_of, lookup}
use Rattle.std.specs.BTreeMap.{BTreeMap, IsFromIterResult, is_at}
use Rattle.std.specs.FinMap.Entries.{find, below_all, is_sorted, same_entries}
use Rattle.std.proofs.lemmas.Cmp.{eq_by_cmp_equiv}
use Rattle.std.proofs.lemmas.Map.Keys.{sorted_head, sorted_tail, IsDistinct-from_sorted}
use Rattle.std.proofs.lemmas.Map.Made.{update_all_none}
use Rattle.mich_term.specs.declared.datum.Datum.{Datum}
use Rattle.mich_term.specs.View.{datum}
use Rattle.mich_term.specs.Keyed.{by, IsIncreasing}
use Rattle.mich_term.proofs.Comparable.{datum_comparable}
use Rattle.mich_term.proofs.Ends.{by_lawful}
use Rattle.mich_term.proofs.Faithful.{datum_faithful}
use Rattle.mich_term.proofs.OrderLaws.{equal}

both_hold : (a b : Bool) → T a → T b → T (a && b)
both_hold true b p q = q
both_hold false b p q = p

module _ {K X : Type 0} {R : K → K → Ordering} (o : IsTotalOrder R) where
  looked : (q : K) (es : List (K × X)) → find R q es ≡ lookup (is_at (R q)) es
  looked q [] = refl
  looked q (e ∷ es) = ap (cond (is_eq (R q e.0)) (Some e.1)) (looked q es)

  below : (x : K) (es : List (K × X)) → AllByRecursion (λ y. R x y ≡ Less) (keys_of es) → T (below_all R x es)
  below x [] a = tt
  below x (e ∷ es) a = both_hold _ _ (subst (λ r. T (is_lt r)) (sym a.0) tt) (below x es a.1)

  sorted : (es : List (K × X)) → IsStrictlySortedBy R (keys_of es) → T (is_sorted R es)
  sorted [] s = tt
  sorted (e ∷ es) s = both_hold _ _ (below e.0 es (sorted_head R e.0 _ s)) (sorted es (sorted_tail R e.0 _ s))

  -- of keys that are equal where the order ties them
  pub built : ((x y : K) → R x y ≡ Equal → x ≡ y) → (es : List (K × X)) (m : BTreeMap K X) → IsStrictlySortedBy R (keys_of es) → IsFromIterResult R es m → m.entries ≡ es
  built same es m s made =
      same_entries R o same m.entries es (sorted m.entries made.1) (sorted es s)
      (λ q. looked q m.entries ∙ made.0 q ∙ update_all_none (eq_by_cmp_equiv o) (eq_by_cmp R) (λ x y. refl) es q (IsDistinct-from_sorted R (keys_of es) s) ∙ sym (looked q es))

tied : (a b : Datum) → by a b ≡ Equal → a ≡ b
tied a b e = datum_faithful a b (equal (datum a) (datum b) (datum_comparable a) (datum_comparable b) e)

-- so with comparable values as keys
pub table_built : {X : Type 0} (es : List (Datum × X)) (m : BTreeMap Datum X) → IsIncreasing (keys_of es) → IsFromIterResult by es m → m.entries ≡ es
table_built = built by_lawful tied
