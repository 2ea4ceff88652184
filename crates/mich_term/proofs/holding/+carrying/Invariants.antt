use Rattle.std.proofs.Common.{◌≡◌, ◌++◌, reverse, take, map}
use Rattle.std.specs.Prelude.{◌||◌}
use Rattle.std.specs.Map.Iter.{deref_pair}
use Rattle.mich_term.specs.Holding.{any_carries, any_entry_carries}
use Rattle.mich_term.specs.declared.value.BigMap.{out-BigMap}
use Rattle.mich_term.specs.ValueView.{vals, pairs, put_pairs, big_pairs}
use Rattle.mich_term.proofs.holding.+carrying.Given as goal

abbrev pub invariant-list_carries-loop-value : goal.invariant-list_carries-loop-value
invariant-list_carries-loop-value l = l.found ≡ any_carries (vals (reverse (take l.value-index l.value-items)))

abbrev pub invariant-table_carries-loop-key : goal.invariant-table_carries-loop-key
invariant-table_carries-loop-key l = record {
  same : (l.found || any_entry_carries (pairs l.key-iterator)) ≡ any_entry_carries (pairs l.table);
  place : map deref_pair l.yielded ++ l.key-iterator ≡ l.table;
}

abbrev pub invariant-puts_ticket-loop-key : goal.invariant-puts_ticket-loop-key
invariant-puts_ticket-loop-key l = record {
  same : (l.found || any_entry_carries (put_pairs l.key-iterator)) ≡ any_entry_carries (big_pairs l.big);
  place : map deref_pair l.yielded ++ l.key-iterator ≡ (out-BigMap l.big).overlay;
}
