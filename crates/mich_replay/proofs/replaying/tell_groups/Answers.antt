use Rattle.std.proofs.Common.{Ok, subst, arith}
use Rattle.std.specs.declared.option.Option.{Option}
use Rattle.std.proofs.lemmas.Result.{err_from_is_err_and}
use Rattle.mich_replay.specs.Coming.{Turns}
use Rattle.mich_replay.specs.Output.{output}
use Rattle.mich_replay.specs.declared.replaying.Pause.{Pause}
use Rattle.mich_replay.proofs.Happening.{told_cut}
use Rattle.mich_replay.proofs.Pace.{grows_nothing, grows_trans}
use Rattle.mich_replay.proofs.replaying.tell_groups.Goals as goal

pub told-init : goal.told-init
told-init g c = record { later = omega arith; told = λ from fed before h. h; grows = grows_nothing _ }

pub next-requires : goal.next-requires
next-requires g c =
    let q = c.requires in
    let t = c.told.invariant.told q.0 q.1 q.2 q.3 in
    (q.0, q.1, t.receipts, t.came)

pub returns-in_err-event-clause-told : goal.returns-in_err-event-clause-told
returns-in_err-event-clause-told g c = λ from fed before h.
    let p = err_from_is_err_and c.from_residual.result c.from_residual.ensures.1 in
    rw p.1 (told_cut from fed c.args.last before _ c.told.session.reader c.told.session.progress (c.told.invariant.told from fed before h))

pub returns-in_err-turn-clause-told : goal.returns-in_err-turn-clause-told
returns-in_err-turn-clause-told g c = λ from fed before h.
    let t = c.told.invariant.told from fed before h in
    let p = err_from_is_err_and c.from_residual-in_err-turn.result c.from_residual-in_err-turn.ensures.1 in
    rw p.1 (c.in_err-turn.ensures.told from fed c.args.last t.receipts c.told.session.reader.place c.next.new.self.reader before (c.in_ok-event.ensures from fed t.receipts t.came) t.lines)

pub returns-in_err-event-clause-grows : goal.returns-in_err-event-clause-grows
returns-in_err-event-clause-grows g c = c.told.invariant.grows

pub returns-in_err-turn-clause-grows : goal.returns-in_err-turn-clause-grows
returns-in_err-turn-clause-grows g c = grows_trans _ _ _ c.told.invariant.grows c.tell.ensures.grows

pub returns-in-Some-clause-grows : goal.returns-in-Some-clause-grows
returns-in-Some-clause-grows g c = grows_trans _ _ _ c.told.invariant.grows c.tell.ensures.grows

pub returns-in-Some-clause-told : goal.returns-in-Some-clause-told
returns-in-Some-clause-told g c = λ from fed before h.
    let t = c.told.invariant.told from fed before h in
    let s = c.next.new.self in
    subst (λ (o : Option Pause). Turns from fed c.args.last before (output (g.K.Sink.written c.tell.new.out) (g.K.Sink.handed c.tell.new.out)) c.told.session.reader.place s.reader s.progress (Ok o)) c.in-Some.is
    (c.in_ok-turn.ensures.told from fed c.args.last t.receipts c.told.session.reader.place s.reader before (c.in_ok-event.ensures from fed t.receipts t.came) t.lines)

pub told-preserved : goal.told-preserved
told-preserved g c = record {
  later = omega (arith, c.told.invariant.later, c.in_ok-turn.ensures.cause.later);
  told = λ from fed before h.
      let t = c.told.invariant.told from fed before h in
      let s = c.next.new.self in
      (subst (λ (o : Option Pause). Turns from fed c.args.last before (output (g.K.Sink.written c.tell.new.out) (g.K.Sink.handed c.tell.new.out)) c.told.session.reader.place s.reader s.progress (Ok o)) c.in-None.is
      (c.in_ok-turn.ensures.told from fed c.args.last t.receipts c.told.session.reader.place s.reader before (c.in_ok-event.ensures from fed t.receipts t.came) t.lines)).0;
  grows = grows_trans _ _ _ c.told.invariant.grows c.tell.ensures.grows;
}

pub told-smaller : goal.told-smaller
told-smaller g c =
    let q = c.requires in
    let t = c.told.invariant.told q.0 q.1 q.2 q.3 in
    let s = c.next.new.self in
    let x = subst (λ (o : Option Pause). Turns q.0 q.1 c.args.last q.2 (output (g.K.Sink.written c.tell.new.out) (g.K.Sink.handed c.tell.new.out)) c.told.session.reader.place s.reader s.progress (Ok o)) c.in-None.is
    (c.in_ok-turn.ensures.told q.0 q.1 c.args.last t.receipts c.told.session.reader.place s.reader q.2 (c.in_ok-event.ensures q.0 q.1 t.receipts t.came) t.lines) in
    omega (arith, x.1, x.0.came.reads.short)
