use Rattle.std.proofs.Common.{◌<◌, length, arith, pos, sym, ◌∙◌}
use Rattle.std.specs.Prelude.{◌<ℤ◌}
use Rattle.std.proofs.lemmas.Int.{ints}
use Rattle.rules_text.specs.nodes.Limits.{most_gas}
use Rattle.mich_group.proofs.Turns.{over_here, under_here}
use Rattle.mich_group.proofs.refusal.is_over.Goals as goal

pub returns-then-content-gt-MOST_GAS : goal.returns-then-content-gt-MOST_GAS
returns-then-content-gt-MOST_GAS c =
    let lt : c.loop-content.content-index < length c.args.contents.now = omega arith in
    let more : pos most_gas <ℤ c.content-item.result.gas = omega (arith, ints) in
    sym (over_here c.args.contents.now c.loop-content.content-index c.content-item.result lt c.content-item.is more) ∙ c.loop-content.invariant

pub loop-content-preserved : goal.loop-content-preserved
loop-content-preserved c =
    let lt : c.loop-content.content-index < length c.args.contents.now = omega arith in
    let within : ¬ (pos most_gas <ℤ c.content-item.result.gas) = λ h. absurd (omega (arith, ints)) in
    sym (under_here c.args.contents.now c.loop-content.content-index c.content-item.result lt c.content-item.is within) ∙ c.loop-content.invariant
