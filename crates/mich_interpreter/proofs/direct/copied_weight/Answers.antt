use Rattle.std.proofs.Common.{ℕ, Option, slice_get, ap, ◌∙◌}
use Rattle.rules_code.specs.steps.Costs.{weight_found}
use Rattle.rules_data.specs.values.Val.{Val}
use Rattle.mich_stack.specs.Views.{values}
use Rattle.mich_step.proofs.prices_lemmas.ForCallers.{found_weighs}
use Rattle.mich_term.specs.Weights.{capped}
use Rattle.mich_interpreter.proofs.direct.copied_weight.Goals as goal

pub returns-in-Some : goal.returns-in-Some
returns-in-Some c = λ big.
    c.weight.ensures ∙ found_weighs big c.in-Some.value.now
    ∙ ap (λ (o : Option Val). capped (weight_found o)) (c.in-Some.ensures big ∙ ap (λ (n : ℕ). slice_get (values big c.args.stack.now) n) c.saturating_sub.ensures)
