use Rattle.std.proofs.Common.{◌≡◌, ◌++◌, map, reverse, take}
use Rattle.std.specs.Map.Iter.{deref_pair}
use Rattle.mich_base.specs.View.{tree}
use Rattle.mich_term.specs.ValueView.{vals, pairs, put_pairs, big_pairs}
use Rattle.mich_term.specs.declared.value.BigMap.{out-BigMap}
use Rattle.mich_data.specs.Written.{element_trees, entry_trees}
use Rattle.mich_data.proofs.writing.+write.Given as goal

abbrev pub invariant-list_node-loop-value : goal.invariant-list_node-loop-value
invariant-list_node-loop-value l = map tree l.nodes ≡ element_trees (vals (reverse (take l.value-index l.value-items)))

abbrev pub invariant-table_node-loop-key : goal.invariant-table_node-loop-key
invariant-table_node-loop-key l = record {
  written : map tree l.nodes ++ entry_trees (pairs l.key-iterator) ≡ entry_trees (pairs l.table);
  place : map deref_pair l.yielded ++ l.key-iterator ≡ l.table;
}

abbrev pub invariant-big_node-loop-key : goal.invariant-big_node-loop-key
invariant-big_node-loop-key l = record {
  written : map tree l.nodes ++ entry_trees (put_pairs l.key-iterator) ≡ entry_trees (big_pairs l.big);
  place : map deref_pair l.yielded ++ l.key-iterator ≡ (out-BigMap l.big).overlay;
}
