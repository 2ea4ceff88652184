use Rattle.std.proofs.Common.{◌≡◌, ◌≤◌, ◌+◌, length}
use Rattle.rules_files.specs.snapshots.Spelling.{count_pairs}
use Rattle.mich_term.specs.ValueView.{big_pairs, put_pairs}
use Rattle.mich_term.specs.declared.value.BigMap.{out-BigMap}
use Rattle.mich_snapshot.proofs.spelling.count_of.Given as goal

-- what was counted, and the entries that are left, of which there are no more than changes
abbrev pub invariant-loop-change : goal.invariant-loop-change
invariant-loop-change l = record {
  count : l.count + count_pairs (put_pairs l.change-iterator) ≡ count_pairs (big_pairs l.big);
  most : count_pairs (big_pairs l.big) ≤ length (out-BigMap l.big).overlay;
}
