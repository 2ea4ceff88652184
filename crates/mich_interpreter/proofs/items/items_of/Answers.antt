use Rattle.std.proofs.Common.{map, reverse, sym, ap, ◌∙◌}
use Rattle.std.proofs.lemmas.List.{reverse-reverse}
use Rattle.mich_frames.specs.Shapes.{items_in}
use Rattle.mich_term.specs.View.{datum}
use Rattle.mich_stack.specs.Views.{seen}
use Rattle.mich_interpreter.specs.Items.{entry_pair}
use Rattle.mich_interpreter.proofs.Listed.{elements_are, val_list}
use Rattle.mich_interpreter.proofs.Mapped.{seen_set, seen_table, elements_are_data, entries_are}
use Rattle.mich_interpreter.proofs.items.items_of.Goals as goal

pub returns-in_ok-list-in-List : goal.returns-in_ok-list-in-List
returns-in_ok-list-in-List c = λ big.
    ap (λ vs. map (seen big) (reverse vs)) c.values_of.ensures ∙ ap (map (seen big)) (reverse-reverse c.in_ok-list-in-List.list ∙ c.in_ok-list-in-List.ensures)
    ∙ sym (ap (λ v. items_in (seen big v)) c.in-List.is ∙ ap items_in (val_list big c.in-List.list) ∙ elements_are (map (seen big) c.in-List.list))

pub returns-in_ok-elements-in-Set : goal.returns-in_ok-elements-in-Set
returns-in_ok-elements-in-Set c = λ big.
    ap (λ vs. map (seen big) (reverse vs)) c.values_of-in-Set.ensures ∙ ap (map (seen big)) (reverse-reverse c.from_rows.result ∙ c.from_rows.ensures) ∙ c.in_ok-elements-in-Set.ensures big
    ∙ ap (map datum) c.get.ensures
    ∙ sym (ap (λ v. items_in (seen big v)) c.in-Set.is ∙ ap items_in (seen_set big c.in-Set.set) ∙ elements_are_data c.in-Set.set)

pub returns-in_ok-entries-in-Map : goal.returns-in_ok-entries-in-Map
returns-in_ok-entries-in-Map c = λ big.
    ap (λ es. map (entry_pair big) (reverse es)) c.backwards.ensures ∙ ap (map (entry_pair big)) (reverse-reverse c.in_ok-entries-in-Map.entries ∙ c.in_ok-entries-in-Map.ensures ∙ c.in_ok-table-in-Map.ensures)
    ∙ sym (ap (λ v. items_in (seen big v)) c.in-Map.is ∙ ap items_in (seen_table big c.in-Map.table) ∙ entries_are big c.in-Map.table)
