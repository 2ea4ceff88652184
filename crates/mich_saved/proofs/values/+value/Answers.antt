use Rattle.rules_data.specs.types.Kind as k
use Rattle.rules_data.specs.values.Val.{big_table, table}
use Rattle.rules_files.specs.snapshots.Reading.{value_at}
use Rattle.mich_base.specs.TypeView.{kind}
use Rattle.mich_saved.specs.Kept.{items_kept_at, kept_at, pairs_kept_at}
use Rattle.mich_saved.specs.Results.{spot}
use Rattle.mich_saved.proofs.Fronts.{entries_are_done, entries_go_on, goes_on, is_done}
use Rattle.mich_saved.proofs.Nothings.{alike_entries_told}
use Rattle.mich_saved.proofs.Wholes.{entries_whole, none_whole, unit_whole, values_whole}
use Rattle.mich_saved.proofs.values.+value.Goals as goal

pub map_at-returns-then-takes_nothing-2-clause-kept : goal.map_at-returns-then-takes_nothing-2-clause-kept
map_at-returns-then-takes_nothing-2-clause-kept t c =
    alike_entries_told table (kind c.args.key.now) (kind c.args.value.now) (spot c.args.cursor) (spot c.in_ok-count.after) c.in_ok-count.count
    c.takes_nothing.result c.takes_nothing-then-takes_nothing.result c.takes_nothing.ensures c.if-takes_nothing.true
    c.takes_nothing-then-takes_nothing.ensures c.if-takes_nothing-2.true c.if-count-gt1.true c.in_ok-count.ensures

pub big_map_at-returns-then-takes_nothing-2-clause-kept : goal.big_map_at-returns-then-takes_nothing-2-clause-kept
big_map_at-returns-then-takes_nothing-2-clause-kept t c =
    alike_entries_told big_table (kind c.args.key.now) (kind c.args.value.now) (spot c.args.cursor) (spot c.in_ok-count.after) c.in_ok-count.count
    c.takes_nothing.result c.takes_nothing-then-takes_nothing.result c.takes_nothing.ensures c.if-takes_nothing.true
    c.takes_nothing-then-takes_nothing.ensures c.if-takes_nothing-2.true c.if-count-gt1.true c.in_ok-count.ensures

pub entries_at-loop-preserved : goal.entries_at-loop-preserved
entries_at-loop-preserved t c = record {
  read = entries_go_on (value_at (kind c.args.key.now)) (kept_at (kind c.args.value.now)) c.loop.kept c.in_ok-kept.kept c.in_ok-datum.datum c.in_ok-part.part
      c.args.count c.loop.counter (spot c.loop.here) (spot c.in_ok-datum.after) (spot c.in_ok-part.after)
      (pairs_kept_at (value_at (kind c.args.key.now)) (kept_at (kind c.args.value.now)) c.args.count (spot c.args.cursor))
      c.loop-test.true c.in_ok-datum.ensures c.in_ok-part.ensures.kept c.in_ok-kept.ensures c.loop.invariant.read;
  whole = entries_whole (kind c.args.value.now) c.loop.kept c.in_ok-kept.kept c.in_ok-datum.datum c.in_ok-part.part c.in_ok-kept.ensures
      c.loop.invariant.whole c.in_ok-part.ensures.whole;
}

pub entries_at-returns-clause-kept : goal.entries_at-returns-clause-kept
entries_at-returns-clause-kept t c =
    entries_are_done (value_at (kind c.args.key.now)) (kept_at (kind c.args.value.now)) c.loop.kept c.args.count c.loop.counter (spot c.loop.here)
    (pairs_kept_at (value_at (kind c.args.key.now)) (kept_at (kind c.args.value.now)) c.args.count (spot c.args.cursor)) c.loop-test.false c.loop.invariant.read

pub value_at-returns-in-Unit-clause-whole : goal.value_at-returns-in-Unit-clause-whole
value_at-returns-in-Unit-clause-whole t c = unit_whole (kind c.args.ty.now)

pub option_at-returns-then-not-some-clause-whole : goal.option_at-returns-then-not-some-clause-whole
option_at-returns-then-not-some-clause-whole t c = none_whole (k.option (kind c.args.part.now))

pub values_at-loop-preserved : goal.values_at-loop-preserved
values_at-loop-preserved t c = record {
  read = goes_on (kept_at (kind c.args.part.now)) c.loop.kept c.in_ok-kept.kept c.in_ok-value.value c.args.count c.loop.counter (spot c.loop.here) (spot c.in_ok-value.after)
      (items_kept_at (kept_at (kind c.args.part.now)) c.args.count (spot c.args.cursor)) c.loop-test.true c.in_ok-value.ensures.kept c.in_ok-kept.ensures c.loop.invariant.read;
  whole = values_whole (kind c.args.part.now) c.loop.kept c.in_ok-kept.kept c.in_ok-value.value c.in_ok-kept.ensures c.loop.invariant.whole c.in_ok-value.ensures.whole;
}

pub values_at-returns-clause-kept : goal.values_at-returns-clause-kept
values_at-returns-clause-kept t c =
    is_done (kept_at (kind c.args.part.now)) c.loop.kept c.args.count c.loop.counter (spot c.loop.here)
    (items_kept_at (kept_at (kind c.args.part.now)) c.args.count (spot c.args.cursor)) c.loop-test.false c.loop.invariant.read
