-- Each key and content is comparable.
use Rattle.std.proofs.Common.{◌≡◌, ap, ◌∙◌}
use Rattle.rules_data.specs.values.Val.{is_comparable}
use Rattle.mich_term.specs.View.{datum}
use Rattle.mich_term.specs.ValueView.{val}
use Rattle.mich_term.specs.declared.datum.Datum.{Datum}
use Rattle.mich_term.specs.declared.value.Value.{Value}
use Rattle.mich_term.proofs.ForCallers.{datum_comparable}
use Rattle.mich_stack.specs.Views.{Sight, seen}
use Rattle.mich_stack.proofs.Comparable.{comparable_seen}

-- a value that is a key or a content is one however big maps are seen
pub content_seen : (big : Sight) (v : Value) (d : Datum) → val v ≡ datum d → seen big v ≡ datum d
content_seen big v d e = comparable_seen big v (ap is_comparable e ∙ datum_comparable d) ∙ e
