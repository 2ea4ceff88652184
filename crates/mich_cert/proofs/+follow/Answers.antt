use Rattle.std.proofs.Common.{sym, ap, ◌∙◌, arith, ◌≡◌, ◌+◌}
use Rattle.std.specs.Prelude.{IfOk, IfSome, Option, Some, None, Result, Ok, Err}
use Rattle.rules_text.specs.nodes.Tree.{sizes}
use Rattle.rules_data.specs.types.Reading.{type_at}
use Rattle.mich_base.specs.TypeView.{kind}
use Rattle.mich_base.specs.View.{tree, trees}
use Rattle.mich_cert.specs.Arguments.{a_kind}
use Rattle.mich_cert.specs.Entries.{all_entries, context}
use Rattle.mich_cert.specs.View.{kinds}
use Rattle.mich_data.specs.View.{all_pending}
use Rattle.mich_data.proofs.ForCallers.{left_at, left_end, sizes_at}
use Rattle.mich_outline.specs.View.{outline_of}
use Rattle.mich_cert.proofs.Creates.{in_view, no_create, of_none}
use Rattle.mich_check.proofs.PushTyping.{items_room, items_size}
use Rattle.mich_cert.proofs.Items.{read_within, items_failed, items_step, items_end}
use Rattle.mich_cert.proofs.Outlines.{outline_within}
use Rattle.mich_cert.proofs.Pushes.{no_push_type, push_type_fault}
use Rattle.mich_cert.proofs.Rests.{rest_unowned, rest_stopped, rest_step, rest_end}
use Rattle.mich_cert.proofs.Steps.{sequence_is, bodiless_is, branch_is, turn_is, dip_is, count_is, map_is, lambda_is, push_is, create_is}
use Rattle.mich_cert.proofs.Views.{views_room, views_size, views_failed, views_step, views_end}
use Rattle.mich_cert.proofs.Ways.{argument_fault, result_fault}
use Rattle.mich_cert.proofs.+follow.Goals as goal

some_or_none : {A P : Type 0} (o : Option A) → P → IfSome o (λ _. P)
some_or_none (Some x) p = p
some_or_none None p = tt

-- what holds whatever a result is, where it is an option
whatever : {A E P : Type 0} (r : Result (Option A) E) → P → IfOk r (λ o. IfSome o (λ _. P))
whatever (Ok o) p = some_or_none o p
whatever (Err e) p = tt

pub nodes::rest-returns-in_default-clause-walked : goal.nodes::rest-returns-in_default-clause-walked
nodes::rest-returns-in_default-clause-walked t c =
    rest_unowned _ _ _ c.loop-node-test.true c.node-item.is _ _ _ _ _ _ c.loop-node.invariant.same c.if-fails.false c.in_default.ensures

pub nodes::rest-instruction-requires : goal.nodes::rest-instruction-requires
nodes::rest-instruction-requires t c =
    let v = c.loop-node.invariant in
    let s = ap sizes (left_at _ _ _ c.loop-node-test.true c.node-item.is) in
    (omega (arith, s, v.room, v.forward, c.decreases, c.requires), omega (arith, s, v.room, v.forward, c.requires))

pub nodes::rest-returns-in_default-2-clause-walked : goal.nodes::rest-returns-in_default-2-clause-walked
nodes::rest-returns-in_default-2-clause-walked t c =
    let s = rw c.in_default-2.is at c.in_ok-past.ensures.walked in
    rest_stopped _ _ _ c.loop-node-test.true c.node-item.is _ _ _ _ _ _ c.loop-node.invariant.same c.if-fails.false _ _ c.in-Some.ensures s

pub nodes::rest-loop-node-preserved : goal.nodes::rest-loop-node-preserved
nodes::rest-loop-node-preserved t c =
    let v = c.loop-node.invariant in
    let s = rw c.in-Some-2.is at c.in_ok-past.ensures.walked in
    let e = rw c.in-Some-2.is at c.in_ok-past.ensures.ends in
    record {
      same = rest_step _ _ _ c.loop-node-test.true c.node-item.is _ _ _ _ _ _ v.same c.if-fails.false _ _ c.in-Some.ensures _ _ _ s c.tells_none-fails.ensures e;
      forward = omega (arith, v.forward, e);
      room = sizes_at _ _ _ _ _ _ c.loop-node-test.true c.node-item.is v.room e;
    }

pub nodes::rest-returns-clause-walked : goal.nodes::rest-returns-clause-walked
nodes::rest-returns-clause-walked t c = rest_end _ _ c.loop-node-test.false _ _ _ _ _ _ _ c.loop-node.invariant.same c.last_entry.ensures

pub nodes::rest-returns-clause-ends : goal.nodes::rest-returns-clause-ends
nodes::rest-returns-clause-ends t c =
    let z : c.loop-node.next ≡ c.args.at + (sizes (trees c.args.nodes.now) + 1) = let e = ap sizes (left_end _ _ c.loop-node-test.false) in let r = c.loop-node.invariant.room in omega (arith, e, r) in
    some_or_none c.last_entry.result z

pub nodes::instruction-returns-in-Seq-clause-walked : goal.nodes::instruction-returns-in-Seq-clause-walked
nodes::instruction-returns-in-Seq-clause-walked t c = sequence_is _ _ _ _ _ _ _ c.in-Seq.is c.sequence.ensures.walked

pub nodes::application-returns-in-Bodiless-clause-walked : goal.nodes::application-returns-in-Bodiless-clause-walked
nodes::application-returns-in-Bodiless-clause-walked t c =
    bodiless_is _ _ _ _ (trees c.args.app.now.args) c.args.at (context c.args.place) (kinds c.args.before.now) c.args.entries.now c.in-Some.ensures c.in-Bodiless.ensures c.bodiless.ensures

pub nodes::application-returns-in-Push-clause-ends : goal.nodes::application-returns-in-Push-clause-ends
nodes::application-returns-in-Push-clause-ends t c =
    let z : c.behind_all.result ≡ c.args.at + (sizes (trees c.args.app.now.args) + 1) = let e = c.behind_all.ensures in omega (arith, e) in
    whatever c.pushes.result z

pub nodes::application-returns-in-Create-clause-ends : goal.nodes::application-returns-in-Create-clause-ends
nodes::application-returns-in-Create-clause-ends t c =
    let z : c.behind_all-in-Create.result ≡ c.args.at + (sizes (trees c.args.app.now.args) + 1) = let e = c.behind_all-in-Create.ensures in omega (arith, e) in
    whatever c.creates.result z

pub nodes::application-returns-in-Bodiless-clause-ends : goal.nodes::application-returns-in-Bodiless-clause-ends
nodes::application-returns-in-Bodiless-clause-ends t c =
    let z : c.behind_all-in-Bodiless.result ≡ c.args.at + (sizes (trees c.args.app.now.args) + 1) = let e = c.behind_all-in-Bodiless.ensures in omega (arith, e) in
    whatever c.bodiless.result z

pub nodes::branches-returns-clause-walked : goal.nodes::branches-returns-clause-walked
nodes::branches-returns-clause-walked t c =
    branch_is _ c.args.primitive c.args.app.now.annots c.args.app.now.args c.args.at (context c.args.place) (kinds c.args.before.now) c.args.entries.now
    c.requires.way _ _ c.in-Some.ensures c.branch-alloc.ensures.walked

pub nodes::turns-returns-clause-walked : goal.nodes::turns-returns-clause-walked
nodes::turns-returns-clause-walked t c =
    turn_is _ c.args.primitive c.args.app.now.annots c.args.app.now.args c.args.at (context c.args.place) (kinds c.args.before.now) c.args.entries.now
    c.requires.way _ c.in-Some.ensures c.turning.ensures.walked

pub nodes::dips-returns-in-Some-clause-walked : goal.nodes::dips-returns-in-Some-clause-walked
nodes::dips-returns-in-Some-clause-walked t c =
    dip_is _ c.args.primitive c.args.app.now.annots c.args.app.now.args c.args.at (context c.args.place) (kinds c.args.before.now) c.args.entries.now
    c.requires.way _ c.in-Some.ensures c.dip.ensures.walked

pub nodes::dips-returns-clause-walked : goal.nodes::dips-returns-clause-walked
nodes::dips-returns-clause-walked t c =
    count_is _ c.args.primitive c.args.app.now.annots c.args.app.now.args c.args.at (context c.args.place) (kinds c.args.before.now) c.args.entries.now
    c.requires.way _ _ c.in-Some-both.ensures _ c.in-Some-count.ensures _ c.behind.ensures c.dip-2.ensures.walked

pub nodes::maps-returns-clause-walked : goal.nodes::maps-returns-clause-walked
nodes::maps-returns-clause-walked t c =
    map_is _ c.args.primitive c.args.app.now.annots c.args.app.now.args c.args.at (context c.args.place) (kinds c.args.before.now) c.args.entries.now
    c.requires.way _ c.in-Some.ensures c.map.ensures.walked

pub nodes::lambdas-returns-in_default-2-clause-walked : goal.nodes::lambdas-returns-in_default-2-clause-walked
nodes::lambdas-returns-in_default-2-clause-walked t c =
    let f = rw c.in_default-2.is at c.in_ok-arg.ensures in
    argument_fault c.args.primitive c.args.app.now.annots c.args.app.now.args c.args.at (context c.args._place) (kinds c.args.before.now) (all_entries c.args.entries.now)
    c.args.recursive c.requires.way _ _ _ c.in-Some.ensures f

pub nodes::lambdas-returns-in_default-3-clause-walked : goal.nodes::lambdas-returns-in_default-3-clause-walked
nodes::lambdas-returns-in_default-3-clause-walked t c =
    let f = rw c.in-Some-2.is at c.in_ok-arg.ensures in
    let g = rw c.in_default-3.is at c.in_ok-ret.ensures in
    result_fault c.args.primitive c.args.app.now.annots c.args.app.now.args c.args.at (context c.args._place) (kinds c.args.before.now) (all_entries c.args.entries.now)
    c.args.recursive c.requires.way _ _ _ c.in-Some.ensures (kind c.in-Some-2.arg) f (g ∙ ap (λ k. a_kind (type_at k (tree c.in-Some.second.now))) c.behind.ensures)

pub nodes::lambdas-returns-clause-walked : goal.nodes::lambdas-returns-clause-walked
nodes::lambdas-returns-clause-walked t c =
    let f = rw c.in-Some-2.is at c.in_ok-arg.ensures in
    let g = rw c.in-Some-3.is at c.in_ok-ret.ensures in
    lambda_is _ c.args.primitive c.args.app.now.annots c.args.app.now.args c.args.at (context c.args._place) (kinds c.args.before.now) c.args.entries.now
    c.args.recursive c.requires.way _ _ _ c.in-Some.ensures (kind c.in-Some-2.arg) (kind c.in-Some-3.ret) f _ c.behind.ensures g _ _ c.behind-2.ensures c.behind-there.ensures c.lambda.ensures.walked

-- ---- PUSH

pub literals::pushes-returns-in_default-2 : goal.literals::pushes-returns-in_default-2
literals::pushes-returns-in_default-2 t c =
    let f = rw c.in_default-2.is at c.in_ok-ty.ensures in
    no_push_type c.args.primitive c.args.app.now.annots c.args.app.now.args c.args.at (context c.args._place) (kinds c.args.before.now) (all_entries c.args.entries.now)
    c.requires.way _ _ c.in-Some.ensures f

pub literals::pushes-returns-then-not-pushable : goal.literals::pushes-returns-then-not-pushable
literals::pushes-returns-then-not-pushable t c =
    let f = rw c.in-Some-2.is at c.in_ok-ty.ensures in
    push_type_fault c.args.primitive c.args.app.now.annots c.args.app.now.args c.args.at (context c.args._place) (kinds c.args.before.now) (all_entries c.args.entries.now)
    c.requires.way _ _ c.in-Some.ensures (kind c.in-Some-2.ty) f (sym c.pushable.ensures ∙ c.if-not-pushable.true)

pub literals::pushes-returns : goal.literals::pushes-returns
literals::pushes-returns t c =
    let f = rw c.in-Some-2.is at c.in_ok-ty.ensures in
    push_is _ c.args.primitive c.args.app.now.annots c.args.app.now.args c.args.at (context c.args._place) (kinds c.args.before.now) c.args.entries.now
    c.requires.way _ _ c.in-Some.ensures (kind c.in-Some-2.ty) f (sym c.pushable.ensures ∙ c.if-not-pushable.false) _ c.behind.ensures c.push.ensures

pub literals::push-all_called-requires : goal.literals::push-all_called-requires
literals::push-all_called-requires t c =
    let f = rw c.in-Some.is at c.in_ok-pending.ensures in
    let r = read_within (kind c.args.ty.now) c.args.place (tree c.args.node.now) (all_pending c.in-Some.pending) f in
    let r0 = r.0 in
    let r1 = r.1 in
    (omega (arith, r1, c.decreases), omega (arith, r0, c.requires))

pub literals::all_called-item_called-requires : goal.literals::all_called-item_called-requires
literals::all_called-item_called-requires t c =
    let v = c.loop-item.invariant in
    let r = items_room _ _ _ c.loop-item-test.true c.item-item.is _ v.room in
    let s = items_size _ _ _ c.loop-item-test.true c.item-item.is _ v.sizes in
    let r0 = r.0 in
    let s0 = s.0 in
    (omega (arith, s0, c.decreases), omega (arith, r0, c.requires))

pub literals::all_called-returns-in_default : goal.literals::all_called-returns-in_default
literals::all_called-returns-in_default t c =
    let f = rw c.in_default.is at c.in_ok-past.ensures in
    items_failed _ _ _ c.loop-item-test.true c.item-item.is _ _ _ c.loop-item.invariant.same f

pub literals::all_called-loop-item-preserved : goal.literals::all_called-loop-item-preserved
literals::all_called-loop-item-preserved t c =
    let v = c.loop-item.invariant in
    let f = rw c.in-Some.is at c.in_ok-past.ensures in
    record {
      same = items_step _ _ _ c.loop-item-test.true c.item-item.is _ _ _ v.same _ f;
      room = (items_room _ _ _ c.loop-item-test.true c.item-item.is _ v.room).1;
      sizes = (items_size _ _ _ c.loop-item-test.true c.item-item.is _ v.sizes).1;
    }

pub literals::all_called-returns : goal.literals::all_called-returns
literals::all_called-returns t c = items_end _ _ c.loop-item-test.false _ _ _ c.loop-item.invariant.same

-- ---- scripts

pub scripts::creates-returns-then-is_view : goal.scripts::creates-returns-then-is_view
scripts::creates-returns-then-is_view t c =
    in_view c.args.primitive c.args.app.now.annots c.args.at (kinds c.args.before.now) (all_entries c.args.entries.now)
    c.requires.way (trees c.args.app.now.args) (context c.args.place) (sym c.is_view.ensures ∙ c.if-is_view.true)

pub scripts::creates-returns-in_default : goal.scripts::creates-returns-in_default
scripts::creates-returns-in_default t c =
    no_create c.args.primitive c.args.app.now.annots c.args.at (kinds c.args.before.now) (all_entries c.args.entries.now)
    c.requires.way c.args.app.now.args c.in_default.ensures (context c.args.place) (sym c.is_view.ensures ∙ c.if-is_view.false)

pub scripts::creates-returns-in_default-2 : goal.scripts::creates-returns-in_default-2
scripts::creates-returns-in_default-2 t c =
    let f = rw c.in_default-2.is at c.in_ok-outline.ensures in
    of_none c.args.primitive c.args.app.now.annots c.args.at (kinds c.args.before.now) (all_entries c.args.entries.now)
    c.requires.way c.args.app.now.args _ c.in-Some.ensures f (context c.args.place) (sym c.is_view.ensures ∙ c.if-is_view.false)

pub scripts::creates-create-requires : goal.scripts::creates-create-requires
scripts::creates-create-requires t c =
    let f = rw c.in-Some-2.is at c.in_ok-outline.ensures in
    let w = outline_within (tree c.in-Some.node.now) (outline_of c.in-Some-2.outline) f in
    let s = ap (λ ns. sizes (trees ns)) c.in-Some.ensures in
    let r = w.reach in
    let l = w.largest in
    (omega (arith, s, l, c.decreases), omega (arith, s, r, c.requires.fits))

pub scripts::creates-returns : goal.scripts::creates-returns
scripts::creates-returns t c =
    let f = rw c.in-Some-2.is at c.in_ok-outline.ensures in
    create_is _ c.args.primitive c.args.app.now.annots c.args.app.now.args c.args.at (context c.args.place) (kinds c.args.before.now) c.args.entries.now
    c.requires.way (sym c.is_view.ensures ∙ c.if-is_view.false) _ c.in-Some.ensures (outline_of c.in-Some-2.outline) f c.create.ensures

pub scripts::all_views-one_view-requires : goal.scripts::all_views-one_view-requires
scripts::all_views-one_view-requires t c =
    let v = c.loop-item.invariant in
    let r = views_room _ _ _ c.loop-item-test.true c.item-item.is _ v.room in
    let s = views_size _ _ _ c.loop-item-test.true c.item-item.is _ v.sizes in
    let r0 = r.0 in
    let s0 = s.0 in
    (omega (arith, s0, c.decreases), omega (arith, r0, c.requires))

pub scripts::all_views-returns-in_default : goal.scripts::all_views-returns-in_default
scripts::all_views-returns-in_default t c =
    let f = rw c.in_default.is at c.in_ok-past.ensures in
    views_failed _ _ _ c.loop-item-test.true c.item-item.is _ _ _ _ c.loop-item.invariant.same f

pub scripts::all_views-loop-item-preserved : goal.scripts::all_views-loop-item-preserved
scripts::all_views-loop-item-preserved t c =
    let v = c.loop-item.invariant in
    let f = rw c.in-Some.is at c.in_ok-past.ensures in
    record {
      same = views_step _ _ _ c.loop-item-test.true c.item-item.is _ _ _ _ v.same _ f;
      room = (views_room _ _ _ c.loop-item-test.true c.item-item.is _ v.room).1;
      sizes = (views_size _ _ _ c.loop-item-test.true c.item-item.is _ v.sizes).1;
    }

pub scripts::all_views-returns : goal.scripts::all_views-returns
scripts::all_views-returns t c = views_end _ _ c.loop-item-test.false _ _ _ _ c.loop-item.invariant.same
