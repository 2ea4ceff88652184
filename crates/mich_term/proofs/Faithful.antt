-- Two comparable values that are seen as one are equal.
use Rattle.std.proofs.Common.{◌≡◌, sym, ap, ◌∙◌, subst}
use Rattle.rules_data.specs.values.Val.{Val, truth, number, text, bytes, nothing, some, left, right, both}
use Rattle.mich_term.specs.View.{datum, datum_step}
use Rattle.mich_term.specs.declared.datum.Datum.{Datum, ind-Datum, fold-roll-Datum, roll-Datum, map-Datum}
use Rattle.mich_term.specs.declared.datum.Datum.TheOpen.{Datum-F}

-- the comparable value that stands for a value, and unit for those that none stands for
abbrev datum_of : Val → Datum
datum_of (truth b) = roll-Datum (Datum-F.Bool b)
datum_of (number n) = roll-Datum (Datum-F.Number n)
datum_of (text s) = roll-Datum (Datum-F.Text s)
datum_of (bytes s) = roll-Datum (Datum-F.Bytes s)
datum_of nothing = roll-Datum Datum-F.None
datum_of (some v) = roll-Datum (Datum-F.Some (datum_of v))
datum_of (left v) = roll-Datum (Datum-F.Left (datum_of v))
datum_of (right v) = roll-Datum (Datum-F.Right (datum_of v))
datum_of (both v w) = roll-Datum (Datum-F.Pair (datum_of v) (datum_of w))
datum_of _ = roll-Datum Datum-F.Unit

abbrev DatumBack : Datum → Type 0
DatumBack d = datum_of (datum d) ≡ d

abbrev DatumWithBack : Type 0
DatumWithBack = (d : Datum) × DatumBack d

datum_level : (y : Datum-F DatumWithBack) → DatumBack (roll-Datum (map-Datum DatumWithBack Datum (λ e. e.0) y))
datum_level Datum-F.Unit = ap datum_of (fold-roll-Datum Val datum_step Datum-F.Unit)
datum_level Datum-F.None = ap datum_of (fold-roll-Datum Val datum_step Datum-F.None)
datum_level (Datum-F.Bool x) = ap datum_of (fold-roll-Datum Val datum_step (Datum-F.Bool x))
datum_level (Datum-F.Number x) = ap datum_of (fold-roll-Datum Val datum_step (Datum-F.Number x))
datum_level (Datum-F.Text x) = ap datum_of (fold-roll-Datum Val datum_step (Datum-F.Text x))
datum_level (Datum-F.Bytes x) = ap datum_of (fold-roll-Datum Val datum_step (Datum-F.Bytes x))
datum_level (Datum-F.Some e) = ap datum_of (fold-roll-Datum Val datum_step (Datum-F.Some e.0)) ∙ ap (λ d. roll-Datum (Datum-F.Some d)) e.1
datum_level (Datum-F.Left e) = ap datum_of (fold-roll-Datum Val datum_step (Datum-F.Left e.0)) ∙ ap (λ d. roll-Datum (Datum-F.Left d)) e.1
datum_level (Datum-F.Right e) = ap datum_of (fold-roll-Datum Val datum_step (Datum-F.Right e.0)) ∙ ap (λ d. roll-Datum (Datum-F.Right d)) e.1
datum_level (Datum-F.Pair e f) = ap datum_of (fold-roll-Datum Val datum_step (Datum-F.Pair e.0 f.0)) ∙ (λ i. roll-Datum (Datum-F.Pair (e.1 i) (f.1 i)))

datum_back : (d : Datum) → DatumBack d
datum_back = ind-Datum DatumBack (λ x y is. subst (λ z. DatumBack (roll-Datum z)) is (datum_level y))

pub datum_faithful : (a b : Datum) → datum a ≡ datum b → a ≡ b
datum_faithful a b e = sym (datum_back a) ∙ ap datum_of e ∙ datum_back b
