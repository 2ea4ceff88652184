use Rattle.std.proofs.Common.{sym, ap, ◌∙◌}
use Rattle.rules_code.specs.instructions.Straight as i
use Rattle.mich_term.specs.ValueView.{big_step}
use Rattle.mich_stack.specs.Views.{seen, values}
use Rattle.mich_store_steps.specs.hashes.Operands.{HasOperand}
use Rattle.mich_store_steps.proofs.hashes_lemmas.ForCallers.{bytes_seen, with_top}
use Rattle.tests_base.proofs.instructions.hashes.tests.sha256.Goals as goal

pub hash_step-requires-clause-operand : goal.hash_step-requires-clause-operand
hash_step-requires-clause-operand c = (
  big_step,
  with_top (HasOperand i.sha256) _ _ _ _ (ap (values big_step) (sym c.as_slice.ensures) ∙ c.in-Some-Bytes-default.ensures big_step) (ap (seen big_step) c.in-Some-Bytes-default.field-0-0-is ∙ bytes_seen big_step _) tt,
)
