use Rattle.std.proofs.Common.{◌≡◌, ◌≤◌, ◌+◌, ◌-◌, ◌^◌, ◌++◌, reverse, take, map}
use Rattle.std.specs.Map.Iter.{deref_pair}
use Rattle.rules_world.specs.world.Growth.{all_as_pairs, entries_as_pairs}
use Rattle.mich_term.specs.Weights.{capped}
use Rattle.mich_term.specs.ValueView.{vals, pairs, put_pairs, big_pairs}
use Rattle.mich_term.specs.declared.value.BigMap.{out-BigMap}
use Rattle.mich_pack.specs.Lengths.{values_length, entries_length}
use Rattle.mich_pack.proofs.stored_length.+kept.Given as goal

abbrev pub invariant-kept_list_len-loop-value : goal.invariant-kept_list_len-loop-value
invariant-kept_list_len-loop-value l = record {
  behind : l.total ≡ capped (values_length (all_as_pairs (vals (reverse (take l.value-index l.value-items)))));
  small : l.total ≤ 2 ^ 64 - 1;
}

abbrev pub invariant-kept_table_len-loop-key : goal.invariant-kept_table_len-loop-key
invariant-kept_table_len-loop-key l = record {
  same : capped (l.total + entries_length (entries_as_pairs (pairs l.key-iterator))) ≡ capped (entries_length (entries_as_pairs (pairs l.table)));
  small : l.total ≤ 2 ^ 64 - 1;
  place : map deref_pair l.yielded ++ l.key-iterator ≡ l.table;
}

abbrev pub invariant-kept_big_len-loop-key : goal.invariant-kept_big_len-loop-key
invariant-kept_big_len-loop-key l = record {
  same : capped (l.total + entries_length (entries_as_pairs (put_pairs l.key-iterator))) ≡ capped (entries_length (entries_as_pairs (big_pairs l.big)));
  small : l.total ≤ 2 ^ 64 - 1;
  place : map deref_pair l.yielded ++ l.key-iterator ≡ (out-BigMap l.big).overlay;
}
