use Rattle.std.proofs.Common.{◌≡◌, ◌+◌, ◌-◌, ◌*◌, max}
use Rattle.rules_files.specs.snapshots.Reading.{value_at}
use Rattle.mich_base.specs.TypeView.{kind}
use Rattle.mich_base.specs.declared.ty.Ty.{size-Ty}
use Rattle.std.specs.Prelude.{IfSome}
use Rattle.std.specs.List.{AllByRecursion}
use Rattle.mich_saved.specs.Formed.{AreWholeEntries, IsWhole}
use Rattle.mich_saved.specs.Kept.{items_kept_at, kept_at, pairs_kept_at}
use Rattle.mich_saved.specs.Results.{spot}
use Rattle.mich_saved.proofs.Fronts.{seen, seen_entries, with_entries, with_front}
use Rattle.mich_saved.proofs.values.+value.Given as goal

abbrev pub decreases-value_at : goal.decreases-value_at
decreases-value_at l = 3 * size-Ty l.ty.now

abbrev pub decreases-option_at : goal.decreases-option_at
decreases-option_at l = 3 * size-Ty l.part.now + 2

abbrev pub decreases-or_at : goal.decreases-or_at
decreases-or_at l = 3 * max (size-Ty l.left.now) (size-Ty l.right.now) + 2

abbrev pub decreases-pair_at : goal.decreases-pair_at
decreases-pair_at l = 3 * max (size-Ty l.first.now) (size-Ty l.second.now) + 2

abbrev pub decreases-list_at : goal.decreases-list_at
decreases-list_at l = 3 * size-Ty l.part.now + 2

abbrev pub decreases-values_at : goal.decreases-values_at
decreases-values_at l = 3 * size-Ty l.part.now + 1

abbrev pub decreases-map_at : goal.decreases-map_at
decreases-map_at l = 3 * size-Ty l.value.now + 2

abbrev pub decreases-big_map_at : goal.decreases-big_map_at
decreases-big_map_at l = 3 * size-Ty l.value.now + 2

abbrev pub decreases-entries_at : goal.decreases-entries_at
decreases-entries_at l = 3 * size-Ty l.value.now + 1

abbrev pub invariant-values_at-loop : goal.invariant-values_at-loop
invariant-values_at-loop l = record {
  read : with_front (seen l.kept) (items_kept_at (kept_at (kind l.part)) (l.count - l.counter) (spot l.here)) ≡ items_kept_at (kept_at (kind l.part)) l.count (spot l.cursor);
  whole : IfSome l.kept (AllByRecursion (IsWhole (kind l.part)));
}

abbrev pub invariant-entries_at-loop : goal.invariant-entries_at-loop
invariant-entries_at-loop l = record {
  read : with_entries (seen_entries l.kept) (pairs_kept_at (value_at (kind l.key)) (kept_at (kind l.value)) (l.count - l.counter) (spot l.here))
      ≡ pairs_kept_at (value_at (kind l.key)) (kept_at (kind l.value)) l.count (spot l.cursor);
  whole : IfSome l.kept (AreWholeEntries (kind l.value));
}
