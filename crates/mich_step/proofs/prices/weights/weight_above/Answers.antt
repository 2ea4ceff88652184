use Rattle.std.proofs.Common.{arith}
use Rattle.mich_stack.specs.Views.{values}
use Rattle.mich_step.proofs.prices_lemmas.Sums.{sum_more}
use Rattle.mich_step.proofs.prices.weights.weight_above.Goals as goal

pub loop-depth-preserved : goal.loop-depth-preserved
loop-depth-preserved c = λ big.
    let more = sum_more c.loop-depth.depth (values big c.args.stack.now) in
    let here = c.weight_at.ensures big in
    let before = c.loop-depth.invariant big in
    grind (arith, more, here, before)
