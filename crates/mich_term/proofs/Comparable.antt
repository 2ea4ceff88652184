-- Each comparable value of the code stands for one of the rules.
use Rattle.std.proofs.Common.{◌≡◌, true, ap, ◌∙◌, subst}
use Rattle.std.proofs.lemmas.Bool.{and_from}
use Rattle.rules_data.specs.values.Val.{Val, is_comparable}
use Rattle.mich_term.specs.View.{datum, datum_step}
use Rattle.mich_term.specs.declared.datum.Datum.{Datum, ind-Datum, fold-roll-Datum, roll-Datum, map-Datum}
use Rattle.mich_term.specs.declared.datum.Datum.TheOpen.{Datum-F}

abbrev IsComparable : Datum → Type 0
IsComparable d = is_comparable (datum d) ≡ true

abbrev Comparable : Type 0
Comparable = (d : Datum) × IsComparable d

level : (y : Datum-F Comparable) → IsComparable (roll-Datum (map-Datum Comparable Datum (λ e. e.0) y))
level Datum-F.Unit = ap is_comparable (fold-roll-Datum Val datum_step Datum-F.Unit)
level (Datum-F.Bool b) = ap is_comparable (fold-roll-Datum Val datum_step (Datum-F.Bool b))
level (Datum-F.Number n) = ap is_comparable (fold-roll-Datum Val datum_step (Datum-F.Number n))
level (Datum-F.Text s) = ap is_comparable (fold-roll-Datum Val datum_step (Datum-F.Text s))
level (Datum-F.Bytes s) = ap is_comparable (fold-roll-Datum Val datum_step (Datum-F.Bytes s))
level Datum-F.None = ap is_comparable (fold-roll-Datum Val datum_step Datum-F.None)
level (Datum-F.Some e) = ap is_comparable (fold-roll-Datum Val datum_step (Datum-F.Some e.0)) ∙ e.1
level (Datum-F.Left e) = ap is_comparable (fold-roll-Datum Val datum_step (Datum-F.Left e.0)) ∙ e.1
level (Datum-F.Right e) = ap is_comparable (fold-roll-Datum Val datum_step (Datum-F.Right e.0)) ∙ e.1
level (Datum-F.Pair e f) =
    ap is_comparable (fold-roll-Datum Val datum_step (Datum-F.Pair e.0 f.0)) ∙ and_from (is_comparable (datum e.0)) (is_comparable (datum f.0)) e.1 f.1

pub datum_comparable : (d : Datum) → is_comparable (datum d) ≡ true
datum_comparable = ind-Datum IsComparable (λ x y is. subst (λ z. IsComparable (roll-Datum z)) is (level y))
