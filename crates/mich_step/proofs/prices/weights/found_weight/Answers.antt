use Rattle.std.proofs.Common.{◌∙◌}
use Rattle.mich_step.proofs.prices_lemmas.Weighed.{found_weighs}
use Rattle.mich_step.proofs.prices.weights.found_weight.Goals as goal

pub returns-in-Some : goal.returns-in-Some
returns-in-Some c = λ big. rw c.in-Some.is (c.weight.ensures ∙ found_weighs big c.in-Some.value.now)
