-- Flat values, part by part.
use Rattle.std.proofs.Common.{◌≡◌, true, List, [], ◌∷◌, refl}
use Rattle.std.specs.declared.cmp.Ordering.TheVariants.{Less, Equal, Greater}
use Rattle.std.specs.Ordering.{match_ordering}
use Rattle.std.proofs.lemmas.Bool.{and_parts, and_from}
use Rattle.mich_term.specs.Keyed.{by, with}
use Rattle.mich_term.specs.declared.datum.Datum.{Datum}
use Rattle.mich_term.specs.declared.value.Value.{Value}
use Rattle.mich_bigmap.specs.Flat.{is_flat, entries_flat}

-- with an entry at its key
pub flat_with : (k : Datum) (x : Value) (es : List (Datum × Value)) → is_flat x ≡ true → entries_flat es ≡ true → entries_flat (with k x es) ≡ true
flat_with k x [] f h = and_from _ _ f refl
flat_with k x (e ∷ es) f h =
    let p = and_parts (is_flat e.1) (entries_flat es) h in
    let more = flat_with k x es f p.1 in
    elim (by k e.0) as (λ r. entries_flat (match_ordering r ((k, x) ∷ e ∷ es) ((e.0, x) ∷ es) (e ∷ with k x es)) ≡ true)
    [ Less ↦ and_from _ _ f h | Equal ↦ and_from _ _ f p.1 | Greater ↦ and_from _ _ p.0 more ]
