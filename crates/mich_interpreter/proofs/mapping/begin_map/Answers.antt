use Rattle.std.proofs.Common.{reverse, ap, ◌∙◌}
use Rattle.mich_interpreter.proofs.Results.{list_begins, table_begins, part_begins, none_ends}
use Rattle.mich_interpreter.proofs.mapping.begin_map.Goals as goal

pub next_value-requires : goal.next_value-requires
next_value-requires c =
    let r = c.requires.waits in
    (r.0, r.1, r.2, r.3, r.4, rw c.in_ok-body-in-List.ensures (list_begins r.0.sight c.args.over c.in-List.list (record { left = c.values_of-left.result; made = c.new-made.result }) c.in-List.is (c.values_of-left.ensures ∙ ap reverse c.in_ok-list-in-List.ensures) c.new-made.ensures r.5))

pub returns-in_ok-next_value-in-List-clause-acts : goal.returns-in_ok-next_value-in-List-clause-acts
returns-in_ok-next_value-in-List-clause-acts c = λ x fs d Z o h.
    c.in_ok-next_value-in-List.ensures.acts x fs d Z o
    (rw c.in_ok-body-in-List.ensures (list_begins x.sight c.args.over c.in-List.list (record { left = c.values_of-left.result; made = c.new-made.result }) c.in-List.is (c.values_of-left.ensures ∙ ap reverse c.in_ok-list-in-List.ensures) c.new-made.ensures h))

pub next_entry-requires : goal.next_entry-requires
next_entry-requires c =
    let r = c.requires.waits in
    let left = c.backwards-left.ensures ∙ ap reverse (c.in_ok-entries_of-in-Map.ensures ∙ c.in_ok-table-in-Map.ensures) in
    (r.0, r.1, r.2, r.3, r.4, rw c.in_ok-body-in-Map.ensures (table_begins r.0.sight c.args.over c.in-Map.table (record { left = c.backwards-left.result; made = c.new-made-in-Map.result }) c.in-Map.is left c.new-made-in-Map.ensures r.5))

pub returns-in_ok-next_entry-in-Map-clause-acts : goal.returns-in_ok-next_entry-in-Map-clause-acts
returns-in_ok-next_entry-in-Map-clause-acts c = λ x fs d Z o h.
    let left = c.backwards-left.ensures ∙ ap reverse (c.in_ok-entries_of-in-Map.ensures ∙ c.in_ok-table-in-Map.ensures) in
    c.in_ok-next_entry-in-Map.ensures.acts x fs d Z o
    (rw c.in_ok-body-in-Map.ensures (table_begins x.sight c.args.over c.in-Map.table (record { left = c.backwards-left.result; made = c.new-made-in-Map.result }) c.in-Map.is left c.new-made-in-Map.ensures h))

pub next_part-requires : goal.next_part-requires
next_part-requires c =
    let r = c.requires.waits in
    (r.0, r.1, r.2, r.3, r.4, rw c.in_ok-into_value-in-Some.ensures (part_begins r.0.sight c.args.over c.in-Some.part c.in-Some.is r.5))

pub returns-in_ok-next_part-in-Some-clause-acts : goal.returns-in_ok-next_part-in-Some-clause-acts
returns-in_ok-next_part-in-Some-clause-acts c = λ x fs d Z o h.
    c.in_ok-next_part-in-Some.ensures.acts x fs d Z o (rw c.in_ok-into_value-in-Some.ensures (part_begins x.sight c.args.over c.in-Some.part c.in-Some.is h))

pub returns-in_ok-push-in-None-clause-acts : goal.returns-in_ok-push-in-None-clause-acts
returns-in_ok-push-in-None-clause-acts c = λ x fs d Z o h.
    rw (c.in_ok-push-in-None.ensures x.sight) (none_ends x.sight c.args.over c.in-None.is h)
