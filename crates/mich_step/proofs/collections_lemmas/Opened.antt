-- Maps, however big maps in them are seen.
use Rattle.std.proofs.Common.{◌≡◌, List, sym, ap, ◌∙◌}
use Rattle.rules_data.specs.values.Val.{Val, Pairs, table}
use Rattle.mich_term.specs.ValueView.{value_step}
use Rattle.mich_term.specs.declared.datum.Datum.{Datum}
use Rattle.mich_term.specs.declared.value.Value.{Value, fold-roll-Value}
use Rattle.mich_term.specs.declared.value.Value.TheOpen.{Value-F}
use Rattle.mich_term.specs.declared.value.Value.TheVariants as value
use Rattle.mich_term.specs.declared.value.Value.TheVariants.{rolls-Map}
use Rattle.mich_stack.specs.Views.{Sight, seen}
use Rattle.mich_step.specs.collections.Seen.{pairs_by}

pub map_seen : (big : Sight) (es : List (Datum × Value)) → seen big (value.Map es) ≡ table (pairs_by big es)
map_seen big es = ap (seen big) (sym (rolls-Map es)) ∙ fold-roll-Value Val Pairs value_step big (Value-F.Map es)
