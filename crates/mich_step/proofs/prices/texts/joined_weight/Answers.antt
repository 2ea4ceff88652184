use Rattle.std.proofs.Common.{List, ◌∷◌, sym, ap, ◌∙◌}
use Rattle.rules_code.specs.instructions.Straight as i
use Rattle.rules_code.specs.steps.Costs.{text_weight}
use Rattle.mich_stack.specs.Views.{seen, values}
use Rattle.mich_term.specs.Weights.{capped}
use Rattle.mich_term.specs.declared.value.Value.{Value}
use Rattle.mich_step.proofs.prices_lemmas.Joining.{joined_weight, list_seen}
use Rattle.mich_step.proofs.prices.texts.joined_weight.Goals as goal

pub returns-clause-strings : goal.returns-clause-strings
returns-clause-strings c = λ big.
    let x = c.in-Some-List-default in
    c.list_weight.ensures big ∙ ap (λ (vs : List Value). capped (joined_weight big vs)) x.list-is
    ∙ ap capped (sym (ap (text_weight i.concat_string_list) (ap (values big) (sym c.as_slice.ensures) ∙ x.ensures big
    ∙ (λ j. (ap (seen big) x.field-0-0-is ∙ list_seen big x.list) j ∷ values big x.field-0-1.now))))

pub returns-clause-bytes : goal.returns-clause-bytes
returns-clause-bytes c = λ big.
    let x = c.in-Some-List-default in
    c.list_weight.ensures big ∙ ap (λ (vs : List Value). capped (joined_weight big vs)) x.list-is
    ∙ ap capped (sym (ap (text_weight i.concat_bytes_list) (ap (values big) (sym c.as_slice.ensures) ∙ x.ensures big
    ∙ (λ j. (ap (seen big) x.field-0-0-is ∙ list_seen big x.list) j ∷ values big x.field-0-1.now))))
