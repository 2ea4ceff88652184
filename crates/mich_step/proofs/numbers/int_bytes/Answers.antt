use Rattle.std.proofs.Common.{◌≡◌, ℕ, List, sym, ap, ◌∙◌}
use Rattle.std.specs.Int.{w128}
use Rattle.std.proofs.lemmas.Int.{to_z-of_z}
use Rattle.rules_data.specs.numbers.Bytes.{integer_bytes}
use Rattle.rules_data.specs.values.Val.{Val, Pairs, bytes}
use Rattle.mich_term.specs.ValueView.{value_step}
use Rattle.mich_term.specs.declared.value.Value.{fold-roll-Value}
use Rattle.mich_term.specs.declared.value.Value.TheOpen.{Value-F}
use Rattle.mich_term.specs.declared.value.Value.TheVariants as value
use Rattle.mich_term.specs.declared.value.Value.TheVariants.{rolls-Bytes}
use Rattle.mich_stack.specs.Views.{Sight, seen}
use Rattle.mich_step.proofs.numbers.int_bytes.Goals as goal

bytes_seen : (big : Sight) (b : List ℕ) → seen big (value.Bytes b) ≡ bytes b
bytes_seen big b = ap (seen big) (sym (rolls-Bytes b)) ∙ fold-roll-Value Val Pairs value_step big (Value-F.Bytes b)

pub returns : goal.returns
returns c =
    let spelled : c.in_ok-from_slice.field-0 ≡ integer_bytes c.args.x =
    rw (to_z-of_z w128 c.args.x c.ranges.x) at (c.in_ok-from_slice.ensures ∙ c.to_bytes-word.ensures.exact) in
    λ big. bytes_seen big c.in_ok-from_slice.field-0 ∙ ap bytes spelled
