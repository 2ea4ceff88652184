use Rattle.std.proofs.Common.{ℤ, List, Result, Ok, Err, sym, ap, ◌∙◌}
use Rattle.rules_code.specs.instructions.Straight as i
use Rattle.rules_data.specs.numbers.Limits.{Limit}
use Rattle.rules_data.specs.values.Val.{Val}
use Rattle.rules_code.specs.steps.Numbers.{number_step, give_number}
use Rattle.rules_code.specs.steps.Step.{within_limit}
use Rattle.mich_term.specs.ValueView.{big_step}
use Rattle.mich_stack.specs.Ends.{IsFitting}
use Rattle.mich_stack.specs.Views.{seen, values}
use Rattle.mich_stack.proofs.ForCallers.{holds_of_two, number_seen}
use Rattle.tests_base.proofs.instructions.step.tests.subtract.Goals as goal

in_limit : (r : Result ℤ Limit) (V : List Val) → IsFitting (within_limit r (give_number V))
in_limit (Ok x) V = tt
in_limit (Err l) V = tt

pub number_step-requires-clause-fits : goal.number_step-requires-clause-fits
number_step-requires-clause-fits c = (
  big_step,
  holds_of_two (λ V. IsFitting (number_step i.sub V)) _ _ _ _ _ _ (ap (values big_step) (sym c.as_slice.ensures) ∙ c.in-Some-Number-Number-default.ensures big_step)
      (ap (seen big_step) c.in-Some-Number-Number-default.field-0-0-is ∙ number_seen big_step _) (ap (seen big_step) c.in-Some-Number-Number-default.field-0-1-is ∙ number_seen big_step _) (in_limit _ _),
)
