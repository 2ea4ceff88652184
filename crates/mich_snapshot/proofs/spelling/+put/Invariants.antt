use Rattle.std.proofs.Common.{◌≡◌, ◌≤◌, ◌++◌, length, map, reverse, take}
use Rattle.std.specs.Map.Iter.{deref_pair}
use Rattle.rules_files.specs.snapshots.Loading.{all_bodies, entry_bodies}
use Rattle.rules_files.specs.snapshots.Spelling.{count_pairs, count_vals, eight, entry_spellings, value_spellings}
use Rattle.mich_term.specs.ValueView.{big_pairs, pairs, put_pairs, vals}
use Rattle.mich_term.specs.declared.value.BigMap.{out-BigMap}
use Rattle.mich_snapshot.proofs.Putting.{any_long}
use Rattle.mich_snapshot.proofs.spelling.+put.Given as goal

-- what was put, and the values or entries that are left
abbrev pub invariant-put_list-loop-left : goal.invariant-put_list-loop-left
invariant-put_list-loop-left l =
    let rest = vals (reverse (take l.left l.reversed)) in record {
      within : l.left ≤ length l.reversed;
      text : l.out.items ++ value_spellings rest ≡ l.fn.out.items ++ (eight (count_vals (vals l.values)) ++ value_spellings (vals l.values));
      long : any_long (all_bodies rest) ≡ any_long (all_bodies (vals l.values));
    }

abbrev pub decreases-put_list-loop-left : goal.decreases-put_list-loop-left
decreases-put_list-loop-left l = l.left

abbrev pub invariant-put_table-loop-key : goal.invariant-put_table-loop-key
invariant-put_table-loop-key l = record {
  text : l.out.items ++ entry_spellings (pairs l.key-iterator) ≡ l.fn.out.items ++ (eight (count_pairs (pairs l.entries)) ++ entry_spellings (pairs l.entries));
  long : any_long (entry_bodies (pairs l.key-iterator)) ≡ any_long (entry_bodies (pairs l.entries));
  place : map deref_pair l.yielded ++ l.key-iterator ≡ l.entries;
}

abbrev pub invariant-put_big-loop-key : goal.invariant-put_big-loop-key
invariant-put_big-loop-key l = record {
  text : l.out.items ++ entry_spellings (put_pairs l.key-iterator)
      ≡ l.fn.out.items ++ (eight (count_pairs (big_pairs l.big)) ++ entry_spellings (big_pairs l.big));
  long : any_long (entry_bodies (put_pairs l.key-iterator)) ≡ any_long (entry_bodies (big_pairs l.big));
  place : map deref_pair l.yielded ++ l.key-iterator ≡ (out-BigMap l.big).overlay;
}
