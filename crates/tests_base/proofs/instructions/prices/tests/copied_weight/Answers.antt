use Rattle.mich_term.specs.ValueView.{big_step}
use Rattle.tests_base.proofs.instructions.prices.tests.copied_weight.Goals as goal

pub weigh-requires-clause-operands : goal.weigh-requires-clause-operands
weigh-requires-clause-operands c = (big_step, tt)
