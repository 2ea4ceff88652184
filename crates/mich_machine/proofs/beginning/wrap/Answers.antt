use Rattle.std.proofs.Common.{◌-◌, arith}
use Rattle.mich_stack.specs.Views.{seen}
use Rattle.mich_machine.proofs.Wrapping.{wrap_on}
use Rattle.mich_machine.proofs.beginning.wrap.Goals as goal

pub steps-preserved : goal.steps-preserved
steps-preserved c = record {
  within = omega (arith, c.steps.invariant.within);
  so_far = λ big. wrap_on c.args.path.now c.steps.at (c.steps.at - 1) c.at.result.now (seen big c.args.argument) (seen big c.steps.whole)
      (seen big c.in_ok-whole.whole) (omega (arith, c.steps-test.true)) c.at.ensures (c.steps.invariant.so_far big) (c.in_ok-whole.ensures big);
}
