use Rattle.std.proofs.Common.{None, subst, arith}
use Rattle.mich_replay.specs.Generating.{Counted}
use Rattle.mich_replay.specs.declared.generating.Counting.{Counting}
use Rattle.mich_replay.proofs.Generated.{few_receipts}
use Rattle.mich_replay.proofs.generating.count_groups.Goals as goal

pub next-requires : goal.next-requires
next-requires c =
    let q = c.requires in
    let k = c.groups.invariant q.0 q.1 in
    (None, q.0, k.receipts, k.came)

pub count-requires : goal.count-requires
count-requires c =
    let q = c.requires in
    let k = c.groups.invariant q.0 q.1 in
    (k.receipts, k.counted, few_receipts q.0 c.groups.session.reader c.groups.session.progress k.receipts k.came)

pub groups-smaller : goal.groups-smaller
groups-smaller c =
    let q = c.requires in
    let k = c.groups.invariant q.0 q.1 in
    let s = c.next.new.self in
    let place = c.groups.session.reader.place in
    let x = subst (λ (y : Counting). Counted q.0 place s.reader s.progress y) c.in-On.is
    (c.in_ok-counting.ensures q.0 k.receipts place s.reader s.progress k.counted (c.in_ok-event.ensures None q.0 k.receipts k.came)) in
    omega (arith, x.1, x.0.came.reads.short)

pub groups-preserved : goal.groups-preserved
groups-preserved c = λ fed h.
    let k = c.groups.invariant fed h in
    let s = c.next.new.self in
    let place = c.groups.session.reader.place in
    (subst (λ (y : Counting). Counted fed place s.reader s.progress y) c.in-On.is
    (c.in_ok-counting.ensures fed k.receipts place s.reader s.progress k.counted (c.in_ok-event.ensures None fed k.receipts k.came))).0

pub returns-in-Ended : goal.returns-in-Ended
returns-in-Ended c = λ fed h.
    let k = c.groups.invariant fed h in
    let s = c.next.new.self in
    let place = c.groups.session.reader.place in
    subst (λ (y : Counting). Counted fed place s.reader s.progress y) c.in-Ended.is
    (c.in_ok-counting.ensures fed k.receipts place s.reader s.progress k.counted (c.in_ok-event.ensures None fed k.receipts k.came))
