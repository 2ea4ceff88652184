use Rattle.std.proofs.Common.{refl, sym, ap, ◌∙◌}
use Rattle.rules_code.specs.instructions.Straight as i
use Rattle.rules_code.specs.steps.Collections.{collection_step}
use Rattle.mich_term.specs.ValueView.{big_step}
use Rattle.mich_stack.specs.Ends.{IsFitting}
use Rattle.mich_stack.specs.Keys.{IsKeyOnTop}
use Rattle.mich_stack.specs.Views.{seen, values}
use Rattle.mich_stack.proofs.ForCallers.{holds_of_three, bool_seen, number_seen, set_seen}
use Rattle.tests_base.proofs.instructions.collections.tests.update_set.Goals as goal

pub collection_step-requires-clause-fits : goal.collection_step-requires-clause-fits
collection_step-requires-clause-fits c = (
  big_step,
  holds_of_three (λ V. IsFitting (collection_step i.update_set V)) _ _ _ _ _ _ _ _ (ap (values big_step) (sym c.as_slice.ensures) ∙ c.in-Some-Number-Bool-Set-default.ensures big_step)
      (ap (seen big_step) c.in-Some-Number-Bool-Set-default.field-0-0-is ∙ number_seen big_step _) (ap (seen big_step) c.in-Some-Number-Bool-Set-default.field-0-1-is ∙ bool_seen big_step _) (ap (seen big_step) c.in-Some-Number-Bool-Set-default.field-0-2-is ∙ set_seen big_step _) tt,
)

pub collection_step-requires-clause-suits : goal.collection_step-requires-clause-suits
collection_step-requires-clause-suits c = holds_of_three IsKeyOnTop _ _ _ _ _ _ _ _ (ap (values big_step) (sym c.as_slice.ensures) ∙ c.in-Some-Number-Bool-Set-default.ensures big_step)
    (ap (seen big_step) c.in-Some-Number-Bool-Set-default.field-0-0-is ∙ number_seen big_step _) (ap (seen big_step) c.in-Some-Number-Bool-Set-default.field-0-1-is ∙ bool_seen big_step _) (ap (seen big_step) c.in-Some-Number-Bool-Set-default.field-0-2-is ∙ set_seen big_step _) refl
