use Rattle.std.proofs.Common.{refl, sym, ap, ◌∙◌}
use Rattle.rules_code.specs.instructions.Straight as i
use Rattle.mich_term.specs.ValueView.{big_step}
use Rattle.mich_stack.specs.Views.{seen, values}
use Rattle.mich_stack.proofs.ForCallers.{holds_of_two, number_seen}
use Rattle.mich_step.proofs.collections_lemmas.ForCallers.{map_seen}
use Rattle.mich_step.specs.prices.Operands.{HasKey}
use Rattle.tests_base.proofs.instructions.prices.tests.get_weight.Goals as goal

pub weigh-requires-clause-operands : goal.weigh-requires-clause-operands
weigh-requires-clause-operands c =
    let x = c.in-Some-Number-Map-default in (
      big_step,
      holds_of_two (HasKey i.get_map) _ _ _ _ _ _ (ap (values big_step) (sym c.as_slice.ensures) ∙ x.ensures big_step)
          (ap (seen big_step) x.field-0-0-is ∙ number_seen big_step _) (ap (seen big_step) x.field-0-1-is ∙ map_seen big_step _) refl,
    )
