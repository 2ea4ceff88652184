-- Pairs, however big maps are seen.
use Rattle.std.proofs.Common.{◌≡◌, sym, ap, ◌∙◌}
use Rattle.rules_data.specs.values.Val.{Val, Pairs, both}
use Rattle.mich_term.specs.ValueView.{value_step}
use Rattle.mich_term.specs.declared.value.Value.{Value, fold-roll-Value}
use Rattle.mich_term.specs.declared.value.Value.TheOpen.{Value-F}
use Rattle.mich_term.specs.declared.value.Value.TheVariants as value
use Rattle.mich_term.specs.declared.value.Value.TheVariants.{rolls-Pair}
use Rattle.mich_stack.specs.Views.{Sight, seen}

pub pair_seen : (big : Sight) (v w : Value) → seen big (value.Pair v w) ≡ both (seen big v) (seen big w)
pair_seen big v w = ap (seen big) (sym (rolls-Pair v w)) ∙ fold-roll-Value Val Pairs value_step big (Value-F.Pair v w)

-- of values that are equal to these
pub pair_of : (big : Sight) (x y v w : Value) → x ≡ v → y ≡ w → both (seen big v) (seen big w) ≡ seen big (value.Pair x y)
pair_of big x y v w e f = (λ i. both (seen big (sym e i)) (seen big (sym f i))) ∙ sym (pair_seen big x y)
