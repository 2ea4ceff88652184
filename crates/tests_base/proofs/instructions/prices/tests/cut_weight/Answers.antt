use Rattle.std.proofs.Common.{rules, sym, ap, ◌∙◌}
use Rattle.std.specs.Prelude.{◌≤ℤ◌, pos}
use Rattle.rules_code.specs.instructions.Straight as i
use Rattle.mich_term.specs.ValueView.{big_step}
use Rattle.mich_stack.specs.Views.{seen, values}
use Rattle.mich_stack.proofs.ForCallers.{holds_of_three, number_seen, text_seen}
use Rattle.mich_step.specs.prices.Operands.{HasText}
use Rattle.tests_base.proofs.instructions.prices.tests.cut_weight.Goals as goal

pub weigh-requires-clause-operands : goal.weigh-requires-clause-operands
weigh-requires-clause-operands c =
    let x = c.in-Some-Number-Number-Text-default in
    let offset : pos 0 ≤ℤ x.offset = search rules in
    let count : pos 0 ≤ℤ x.count = search rules in (
      big_step,
      holds_of_three (HasText i.slice_string) _ _ _ _ _ _ _ _ (ap (values big_step) (sym c.as_slice.ensures) ∙ x.ensures big_step)
          (ap (seen big_step) x.field-0-0-is ∙ number_seen big_step _) (ap (seen big_step) x.field-0-1-is ∙ number_seen big_step _) (ap (seen big_step) x.field-0-2-is ∙ text_seen big_step _) (offset, count),
    )
