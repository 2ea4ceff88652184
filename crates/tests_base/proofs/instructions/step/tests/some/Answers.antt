use Rattle.std.proofs.Common.{sym, ap, ◌∙◌}
use Rattle.rules_code.specs.instructions.Straight as i
use Rattle.rules_code.specs.steps.Stack.{union_step}
use Rattle.mich_term.specs.ValueView.{big_step}
use Rattle.mich_stack.specs.Ends.{IsFitting}
use Rattle.mich_stack.specs.Views.{seen, values}
use Rattle.mich_stack.proofs.ForCallers.{holds_of_two, number_seen}
use Rattle.tests_base.proofs.instructions.step.tests.some.Goals as goal

pub union_step-requires : goal.union_step-requires
union_step-requires c = (
  big_step,
  holds_of_two (λ V. IsFitting (union_step i.some V)) _ _ _ _ _ _ (ap (values big_step) (sym c.as_slice.ensures) ∙ c.in-Some-Number-Number-default.ensures big_step)
      (ap (seen big_step) c.in-Some-Number-Number-default.field-0-0-is ∙ number_seen big_step _) (ap (seen big_step) c.in-Some-Number-Number-default.field-0-1-is ∙ number_seen big_step _) tt,
)
