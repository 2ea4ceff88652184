use Rattle.std.proofs.Common.{List, [], ◌∷◌, length, ap, subst, sym, ◌∙◌, arith}
use Rattle.std.proofs.lemmas.List.{length-append}
use Rattle.mich_interpreter.specs.Callers.{caller_of, home}
use Rattle.mich_interpreter.specs.declared.callers.Caller.{Caller}
use Rattle.mich_interpreter.specs.declared.machine.Machine.{Machine}
use Rattle.mich_state.specs.declared.state.State.{State}
use Rattle.mich_interpreter.specs.Ends.{KeepsPast}
use Rattle.mich_interpreter.proofs.Turned.{Kept, done_ends, done_gives, done_keeps, failed_in, failed_past, in_block, kept_back, kept_first, kept_paid, kept_view, view_fails, view_past}
use Rattle.mich_interpreter.proofs.machine.work.Goals as goal

pub settle-requires : goal.settle-requires
settle-requires c = in_block c.args.world.now c.args.costs.now _ c.paid.m c.paid.callers c.paid.invariant

pub paid-init : goal.paid-init
paid-init c =
    subst (λ (cs : List Caller). Kept c.args.world.now c.args.costs.now c.args.m c.args.m cs) (sym c.new-callers.ensures)
    (kept_first c.args.world.now c.args.costs.now c.args.m c.requires)

pub paid-preserved-in-Paid : goal.paid-preserved-in-Paid
paid-preserved-in-Paid c =
    kept_paid c.args.world.now c.args.costs.now c.args.m c.paid.m c.paid.callers c.paid.invariant c.settle.new.m
    (λ x gs Z o h s. rw c.in-Paid.is at c.in_ok-settle.ensures.stays x gs Z o h s) (rw c.in-Paid.is at c.in_ok-settle.ensures.keeps)

pub paid-smaller-in-Paid : goal.paid-smaller-in-Paid
paid-smaller-in-Paid c = let less = rw c.in-Paid.is at c.in_ok-settle.ensures.less in omega (arith, less)

pub paid-preserved-else-not-entered : goal.paid-preserved-else-not-entered
paid-preserved-else-not-entered c =
    kept_view c.args.world.now c.args.costs.now c.args.m c.paid.m c.paid.callers c.paid.invariant c.in-View.view c.settle.new.m
    (λ x gs Z o h s. rw c.in-View.is at c.in_ok-settle.ensures.stays x gs Z o h s) (rw c.in-View.is at c.in_ok-settle.ensures.keeps)
    c.enter.new.m c.enter.new.callers (rw c.if-not-entered.false at c.in_ok-entered-in-View.ensures)

pub paid-smaller-else-not-entered : goal.paid-smaller-else-not-entered
paid-smaller-else-not-entered c =
    let less = rw c.in-View.is at c.in_ok-settle.ensures.less in
    let h = rw c.if-not-entered.false at c.in_ok-entered-in-View.ensures in
    let gas = ap (λ (m : Machine). m.state.meter) h.machine in
    let more = ap (λ (cs : List Caller). length cs) h.callers in
    omega (arith, less, gas, more, length-append c.paid.callers (caller_of c.settle.new.m ∷ []))

pub go_back-requires : goal.go_back-requires
go_back-requires c =
    done_gives c.args.world.now c.args.costs.now c.args.m c.paid.m c.paid.callers c.paid.invariant c.settle.new.m
    (λ x gs Z o h s. rw c.in-Done.is at c.in_ok-settle.ensures.stays x gs Z o h s) (rw c.in-Done.is at c.in_ok-settle.ensures.keeps)
    c.pop.new.self c.in-Some.caller c.in-Some.ensures

pub paid-preserved : goal.paid-preserved
paid-preserved c =
    kept_back c.args.world.now c.args.costs.now c.args.m c.paid.m c.paid.callers c.paid.invariant c.settle.new.m
    (λ x gs Z o h s. rw c.in-Done.is at c.in_ok-settle.ensures.stays x gs Z o h s) (rw c.in-Done.is at c.in_ok-settle.ensures.keeps)
    c.pop.new.self c.in-Some.caller c.in-Some.ensures c.go_back.new.m c.in_ok-go_back-in-Some.ensures

pub paid-smaller : goal.paid-smaller
paid-smaller c =
    let same = rw c.in-Done.is at c.in_ok-settle.ensures.less in
    let gas = ap (λ (m : Machine). m.state.meter) c.in_ok-go_back-in-Some.ensures.machine in
    let fewer = ap (λ (cs : List Caller). length cs) c.in-Some.ensures in
    omega (arith, same, gas, fewer, length-append c.pop.new.self (c.in-Some.caller ∷ []))

pub returns-in-Failed-clause-ends : goal.returns-in-Failed-clause-ends
returns-in-Failed-clause-ends c = λ x Z o h s.
    failed_in c.args.world.now c.args.costs.now c.args.m c.paid.m c.paid.callers c.paid.invariant c.in-Failed.why c.settle.new.m
    (λ x gs Z o h s. rw c.in-Failed.is at c.in_ok-settle.ensures.stays x gs Z o h s) x Z o h s

pub returns-then-not-entered-clause-ends : goal.returns-then-not-entered-clause-ends
returns-then-not-entered-clause-ends c = λ x Z o h s.
    view_fails c.args.world.now c.args.costs.now c.args.m c.paid.m c.paid.callers c.paid.invariant c.in-View.view c.settle.new.m
    (λ x gs Z o h s. rw c.in-View.is at c.in_ok-settle.ensures.stays x gs Z o h s) (rw c.in-View.is at c.in_ok-settle.ensures.keeps)
    (rw c.if-not-entered.true at c.in_ok-entered-in-View.ensures).0 x Z o h s

pub returns-in-None-clause-ends : goal.returns-in-None-clause-ends
returns-in-None-clause-ends c = λ x Z o h s.
    done_ends c.args.world.now c.args.costs.now c.args.m c.paid.m c.paid.callers c.paid.invariant c.settle.new.m
    (λ x gs Z o h s. rw c.in-Done.is at c.in_ok-settle.ensures.stays x gs Z o h s) (rw c.in-Done.is at c.in_ok-settle.ensures.keeps)
    c.in-None.ensures.0 x Z o h s

pub returns-in-None-clause-keeps : goal.returns-in-None-clause-keeps
returns-in-None-clause-keeps c =
    done_keeps c.args.world.now c.args.costs.now c.args.m c.paid.m c.paid.callers c.paid.invariant c.settle.new.m
    (λ x gs Z o h s. rw c.in-Done.is at c.in_ok-settle.ensures.stays x gs Z o h s) (rw c.in-Done.is at c.in_ok-settle.ensures.keeps)
    c.in-None.ensures.0

pub returns-in-Failed-clause-keeps : goal.returns-in-Failed-clause-keeps
returns-in-Failed-clause-keeps c =
    subst (λ (m : State). KeepsPast c.args.m.state m) (sym c.go_home-in-Failed.ensures)
    (failed_past c.args.world.now c.args.costs.now c.args.m c.paid.m c.paid.callers c.paid.invariant c.in-Failed.why c.settle.new.m
    (λ x gs Z o h s. rw c.in-Failed.is at c.in_ok-settle.ensures.stays x gs Z o h s) (rw c.in-Failed.is at c.in_ok-settle.ensures.keeps))

pub returns-then-not-entered-clause-keeps : goal.returns-then-not-entered-clause-keeps
returns-then-not-entered-clause-keeps c =
    let r = rw c.if-not-entered.true at c.in_ok-entered-in-View.ensures in
    subst (λ (m : State). KeepsPast c.args.m.state m)
    (sym (c.go_home.ensures ∙ ap (λ (ds : List Caller). home ds c.enter.new.m.state) r.2 ∙ ap (λ (m : Machine). home c.paid.callers m.state) r.1))
    (view_past c.args.world.now c.args.costs.now c.args.m c.paid.m c.paid.callers c.paid.invariant c.in-View.view c.settle.new.m
    (λ x gs Z o h s. rw c.in-View.is at c.in_ok-settle.ensures.stays x gs Z o h s) (rw c.in-View.is at c.in_ok-settle.ensures.keeps))
