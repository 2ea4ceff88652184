use Rattle.std.proofs.Common.{arith}
use Rattle.mich_term.specs.ValueView.{big_step}
use Rattle.mich_stack.proofs.ForCallers.{length_values}
use Rattle.tests_base.proofs.instructions.stack.tests.insert_below.Goals as goal

pub insert_at-requires : goal.insert_at-requires
insert_at-requires c = (big_step, omega (arith, length_values big_step c.args.stack.now, c.len.ensures, c.if-len-lt1.false))
