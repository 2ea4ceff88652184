use Rattle.std.proofs.Common.{Bool, List, true, false, sym, ap, ◌∙◌}
use Rattle.std.specs.Prelude.{if◌then◌else◌}
use Rattle.rules_code.specs.instructions.Straight as i
use Rattle.rules_data.specs.values.Val.{Val}
use Rattle.rules_code.specs.steps.Failure as f
use Rattle.rules_code.specs.steps.Step.{kept, fails}
use Rattle.rules_code.specs.steps.Texts.{text_step}
use Rattle.mich_term.specs.ValueView.{big_step}
use Rattle.mich_stack.specs.Ends.{IsFitting}
use Rattle.mich_stack.specs.Views.{seen, values}
use Rattle.mich_stack.proofs.ForCallers.{holds_of_two, text_seen}
use Rattle.tests_base.proofs.instructions.collections.tests.concat.Goals as goal

in_size : (b : Bool) (V : List Val) → IsFitting (if b then kept V else fails f.size_limit)
in_size true V = tt
in_size false V = tt

pub text_step-requires : goal.text_step-requires
text_step-requires c = (
  big_step,
  holds_of_two (λ V. IsFitting (text_step i.concat_strings V)) _ _ _ _ _ _ (ap (values big_step) (sym c.as_slice.ensures) ∙ c.in-Some-Text-Text-default.ensures big_step)
      (ap (seen big_step) c.in-Some-Text-Text-default.field-0-0-is ∙ text_seen big_step _) (ap (seen big_step) c.in-Some-Text-Text-default.field-0-1-is ∙ text_seen big_step _) (in_size _ _),
)
