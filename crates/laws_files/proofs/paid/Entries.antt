-- An entry that is set twice.
use Rattle.std.proofs.Common.{◌≡◌, List, [], ◌∷◌, refl, ap}
use Rattle.std.specs.declared.cmp.Ordering.{Ordering}
use Rattle.std.specs.declared.cmp.Ordering.TheVariants.{Less, Equal, Greater}
use Rattle.std.specs.Ordering.{match_ordering}
use Rattle.std.specs.BTreeMap.{insert_entry}

module _ {K X : Type 0} (R : K → K → Ordering) (k : K) (here : R k k ≡ Equal) (v u : X) where
  pub insert_again : (es : List (K × X)) → insert_entry R (insert_entry R es k v) k u ≡ insert_entry R es k u
  insert_again [] = rw here refl
  insert_again (e ∷ es) = by (R k e.0) refl (insert_again es)
    where
      by : (r : Ordering) → R k e.0 ≡ r → insert_entry R (insert_entry R es k v) k u ≡ insert_entry R es k u →
          insert_entry R (match_ordering r ((k, v) ∷ e ∷ es) ((e.0, v) ∷ es) (e ∷ insert_entry R es k v)) k u
          ≡ match_ordering r ((k, u) ∷ e ∷ es) ((e.0, u) ∷ es) (e ∷ insert_entry R es k u)
      by Less r h = rw here refl
      by Equal r h = rw r refl
      by Greater r h = rw r (ap (λ z. e ∷ z) h)
