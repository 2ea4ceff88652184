use Rattle.std.proofs.Common.{subst, arith}
use Rattle.std.specs.declared.option.Option.{Option}
use Rattle.mich_replay.specs.Reaching.{Passes}
use Rattle.mich_replay.specs.declared.replaying.Pause.{Pause}
use Rattle.mich_replay.proofs.snapshotting.pass_groups.Goals as goal

pub passed-init : goal.passed-init
passed-init c = λ from fed receipts h. (receipts, h)

pub next-requires : goal.next-requires
next-requires c =
    let q = c.requires in
    let k = c.passed.invariant q.0 q.1 q.2 q.3 in
    (q.0, q.1, k.0, k.1)

pub returns-in-Some : goal.returns-in-Some
returns-in-Some c = λ from fed receipts h.
    let k = c.passed.invariant from fed receipts h in
    let s = c.next.new.self in
    let place = c.passed.session.reader.place in
    subst (λ (o : Option Pause). Passes from fed c.args.last place s.reader s.progress o) c.in-Some.is
    (c.pause_of.ensures from fed c.args.last k.0 place s.reader s.progress (c.in_ok-event.ensures from fed k.0 k.1))

pub passed-preserved : goal.passed-preserved
passed-preserved c = λ from fed receipts h.
    let k = c.passed.invariant from fed receipts h in
    let s = c.next.new.self in
    let place = c.passed.session.reader.place in
    (subst (λ (o : Option Pause). Passes from fed c.args.last place s.reader s.progress o) c.in-None.is
    (c.pause_of.ensures from fed c.args.last k.0 place s.reader s.progress (c.in_ok-event.ensures from fed k.0 k.1))).0

pub passed-smaller : goal.passed-smaller
passed-smaller c =
    let q = c.requires in
    let k = c.passed.invariant q.0 q.1 q.2 q.3 in
    let s = c.next.new.self in
    let place = c.passed.session.reader.place in
    let x = subst (λ (o : Option Pause). Passes q.0 q.1 c.args.last place s.reader s.progress o) c.in-None.is
    (c.pause_of.ensures q.0 q.1 c.args.last k.0 place s.reader s.progress (c.in_ok-event.ensures q.0 q.1 k.0 k.1)) in
    omega (arith, x.1, x.0.1.reads.short)

pub passed-preserved-in-None : goal.passed-preserved-in-None
passed-preserved-in-None c = λ from fed receipts h.
    let k = c.passed.invariant from fed receipts h in
    let s = c.next.new.self in
    let place = c.passed.session.reader.place in
    (subst (λ (o : Option Pause). Passes from fed c.args.last place s.reader s.progress o) c.in-None.is
    (c.pause_of.ensures from fed c.args.last k.0 place s.reader s.progress (c.in_ok-event.ensures from fed k.0 k.1))).0

pub passed-smaller-in-None : goal.passed-smaller-in-None
passed-smaller-in-None c =
    let q = c.requires in
    let k = c.passed.invariant q.0 q.1 q.2 q.3 in
    let s = c.next.new.self in
    let place = c.passed.session.reader.place in
    let x = subst (λ (o : Option Pause). Passes q.0 q.1 c.args.last place s.reader s.progress o) c.in-None.is
    (c.pause_of.ensures q.0 q.1 c.args.last k.0 place s.reader s.progress (c.in_ok-event.ensures q.0 q.1 k.0 k.1)) in
    omega (arith, x.1, x.0.1.reads.short)

pub passed-preserved-in-None-2 : goal.passed-preserved-in-None-2
passed-preserved-in-None-2 c = λ from fed receipts h.
    let k = c.passed.invariant from fed receipts h in
    let s = c.next.new.self in
    let place = c.passed.session.reader.place in
    (subst (λ (o : Option Pause). Passes from fed c.args.last place s.reader s.progress o) c.in-None.is
    (c.pause_of.ensures from fed c.args.last k.0 place s.reader s.progress (c.in_ok-event.ensures from fed k.0 k.1))).0

pub passed-smaller-in-None-2 : goal.passed-smaller-in-None-2
passed-smaller-in-None-2 c =
    let q = c.requires in
    let k = c.passed.invariant q.0 q.1 q.2 q.3 in
    let s = c.next.new.self in
    let place = c.passed.session.reader.place in
    let x = subst (λ (o : Option Pause). Passes q.0 q.1 c.args.last place s.reader s.progress o) c.in-None.is
    (c.pause_of.ensures q.0 q.1 c.args.last k.0 place s.reader s.progress (c.in_ok-event.ensures q.0 q.1 k.0 k.1)) in
    omega (arith, x.1, x.0.1.reads.short)
