use Rattle.std.proofs.Common.{◌≡◌, List, reverse, take, ap, ◌∙◌}
use Rattle.std.proofs.lemmas.List.{take_all, reverse-reverse}
use Rattle.mich_term.specs.ValueView.{vals}
use Rattle.mich_term.specs.declared.value.Value.{Value}
use Rattle.mich_data.specs.Written.{element_trees}
use Rattle.mich_data.proofs.Written.{list_written}
use Rattle.mich_data.proofs.writing.+write.Goals as goal

pub list_node-returns : goal.list_node-returns
list_node-returns t c =
    let items = c.as_reversed_slice-value-items.result.now in
    let whole : reverse (take c.loop-value.value-index items) ≡ c.args.values.now =
    ap reverse (take_all _ items c.loop-value-test.false ∙ c.as_reversed_slice-value-items.ensures) ∙ reverse-reverse c.args.values.now in
    c.sequence.ensures ∙ list_written c.loop-value.nodes _ (vals c.args.values.now) (c.in_ok-written.ensures ∙ c.from_vec-rows.ensures ∙ c.into_vec.ensures)
    (c.loop-value.invariant ∙ ap (λ (vs : List Value). element_trees (vals vs)) whole)
