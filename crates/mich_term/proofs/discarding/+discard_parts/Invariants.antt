use Rattle.std.proofs.Common.{◌≡◌, List, ◌++◌}
use Rattle.std.specs.Vec.Iter.{into_iter_items}
use Rattle.rules_data.specs.values.Tickets.{Held, all_tickets, pair_tickets}
use Rattle.mich_term.specs.ValueView.{vals, pairs, put_pairs, big_pairs}
use Rattle.mich_term.specs.declared.value.BigMap.{out-BigMap}
use Rattle.mich_term.proofs.discarding.+discard_parts.Given as goal

abbrev pub invariant-discard_all-loop-value : goal.invariant-discard_all-loop-value
invariant-discard_all-loop-value g l =
    let left = all_tickets (vals (into_iter_items l.value-iterator)) in
    record {
      told : g.B.Burner.told l.burner ++ left ≡ g.B.Burner.told l.fn.burner ++ all_tickets (vals l.fn.values);
      ready : g.B.Burner.ready l.burner left;
      stays : (m : List Held) → g.B.Burner.ready l.fn.burner (all_tickets (vals l.fn.values) ++ m) → g.B.Burner.ready l.burner (left ++ m);
      place : l.yielded ++ into_iter_items l.value-iterator ≡ l.fn.values;
    }

abbrev pub invariant-discard_table-loop-value : goal.invariant-discard_table-loop-value
invariant-discard_table-loop-value g l =
    let left = pair_tickets (pairs l.value-iterator) in
    record {
      told : g.B.Burner.told l.burner ++ left ≡ g.B.Burner.told l.fn.burner ++ pair_tickets (pairs l.fn.table);
      ready : g.B.Burner.ready l.burner left;
      stays : (m : List Held) → g.B.Burner.ready l.fn.burner (pair_tickets (pairs l.fn.table) ++ m) → g.B.Burner.ready l.burner (left ++ m);
      place : l.yielded ++ l.value-iterator ≡ l.fn.table;
    }

abbrev pub invariant-discard_big-loop-key : goal.invariant-discard_big-loop-key
invariant-discard_big-loop-key g l =
    let left = pair_tickets (put_pairs l.key-iterator) in
    record {
      told : g.B.Burner.told l.burner ++ left ≡ g.B.Burner.told l.fn.burner ++ pair_tickets (big_pairs l.fn.big);
      ready : g.B.Burner.ready l.burner left;
      stays : (m : List Held) → g.B.Burner.ready l.fn.burner (pair_tickets (big_pairs l.fn.big) ++ m) → g.B.Burner.ready l.burner (left ++ m);
      place : l.yielded ++ l.key-iterator ≡ (out-BigMap l.fn.big).overlay;
    }
