use Rattle.std.proofs.Common.{◌≡◌, ◌+◌, ◌*◌, true, max, reverse, take}
use Rattle.rules_data.specs.values.Forms.{AllEntriesHave}
use Rattle.rules_files.specs.snapshots.Rules.{all_entries, all_values, is_stored}
use Rattle.rules_files.specs.snapshots.Spelt.{HasSpelling}
use Rattle.mich_base.specs.TypeView.{kind}
use Rattle.mich_base.specs.declared.ty.Ty.{size-Ty}
use Rattle.mich_term.specs.ValueView.{big_pairs, pairs, put_pairs, vals}
use Rattle.mich_snapshot.proofs.stored.+fits.Given as goal

abbrev pub decreases-value_fits : goal.decreases-value_fits
decreases-value_fits l = 3 * size-Ty l.ty.now

abbrev pub decreases-both_fit : goal.decreases-both_fit
decreases-both_fit l = 3 * max (size-Ty l.left.now) (size-Ty l.right.now) + 1

abbrev pub decreases-list_fits : goal.decreases-list_fits
decreases-list_fits l = 3 * size-Ty l.part.now + 1

abbrev pub decreases-entry_fits : goal.decreases-entry_fits
decreases-entry_fits l = 3 * size-Ty l.part.now + 1

abbrev pub decreases-table_fits : goal.decreases-table_fits
decreases-table_fits l = 3 * size-Ty l.part.now + 2

abbrev pub decreases-big_fits : goal.decreases-big_fits
decreases-big_fits l = 3 * size-Ty l.part.now + 2

abbrev pub invariant-list_fits-loop-value : goal.invariant-list_fits-loop-value
invariant-list_fits-loop-value l = all_values (is_stored (kind l.part)) (vals (reverse (take l.value-index l.value-items))) ≡ true

abbrev pub invariant-table_fits-loop-datum : goal.invariant-table_fits-loop-datum
invariant-table_fits-loop-datum l =
    let test = all_entries (is_stored (kind l.key)) (is_stored (kind l.part)) in record {
      same : test (pairs l.datum-iterator) ≡ test (pairs l.entries);
      spelt : AllEntriesHave (HasSpelling (kind l.key)) (HasSpelling (kind l.part)) (pairs l.datum-iterator);
    }

abbrev pub invariant-big_fits-loop-datum : goal.invariant-big_fits-loop-datum
invariant-big_fits-loop-datum l =
    let test = all_entries (is_stored (kind l.key)) (is_stored (kind l.part)) in record {
      same : test (put_pairs l.datum-iterator) ≡ test (big_pairs l.big);
      spelt : AllEntriesHave (HasSpelling (kind l.key)) (HasSpelling (kind l.part)) (put_pairs l.datum-iterator);
    }
