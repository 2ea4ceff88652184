use Rattle.std.proofs.Common.{rules, arith, ◌+◌, subst, ap, sym, ◌∙◌}
use Rattle.std.specs.Prelude.{IfOk, Result, Err, Ok, List, [], ◌∷◌}
use Rattle.rules_text.specs.nodes.Tree.{prim, size, sizes}
use Rattle.rules_code.specs.typing.Typing.{shift}
use Rattle.rules_code.specs.typing.Nodes.{tree_type, trees_type}
use Rattle.mich_base.specs.TypeView.{kind}
use Rattle.mich_base.specs.View.{tree, trees}
use Rattle.mich_data.proofs.ForCallers.{left_end, sizes_at}
use Rattle.mich_overload.specs.View.{kinds}
use Rattle.mich_control.specs.View.{context}
use Rattle.rules_code.specs.typing.Literals.{fault_of_bodies}
use Rattle.mich_data.specs.View.{pending, all_pending}
use Rattle.mich_data.specs.declared.pending.Pending.{Pending as Item}
use Rattle.mich_check.specs.Pending.{AreSequences, IsFaulty, item_fault, largest, moved, reach}
use Rattle.mich_control.specs.Answers.{IsFault}
use Rattle.mich_instr.specs.Code as made
use Rattle.mich_instr.specs.Typed.{AreHeld, held_claim, none_held}
use Rattle.mich_instr.specs.View.{code, codes}
use Rattle.mich_control.proofs.ForCallers.{fault_is, seq_at, branch_one, branch_other, branch_join, branch_made, loop_body, loop_other, loop_behind, dip_read, dip_body, dip_made, map_body, map_made, lambda_types, lambda_begun, lambda_body, lambda_is, tree_seq, code_seq, code_create, storage_kind}
use Rattle.mich_check.proofs.Blocks.{left_size, block_fault, block_step, block_code, block_end, block_whole, seq_made}
use Rattle.mich_check.proofs.PushTyping.{push_type, push_literal, push_body, push_made, items_room, items_size, items_fault, items_step, items_end, called_item}
use Rattle.std.specs.Prelude.{map}
use Rattle.std.proofs.Common.{◌<◌, ◌≤◌, refl, subst}
use Rattle.rules_code.specs.typing.Scripts.{with_views}
use Rattle.mich_base.specs.TypeView.{kind}
use Rattle.mich_outline.specs.View.{outline_of, view_of}
use Rattle.mich_instr.specs.declared.instr.Script.{Script, out-Script}
use Rattle.mich_check.specs.Scripts.{AreTypedViews, largest_of}
use Rattle.mich_check.proofs.HeldTyping.{Awaits, called_code, held_one, awaits_none, awaits_next, awaits_end}
use Rattle.mich_check.proofs.CreateTyping.{created, create_script, shared_typed, storage_other}
use Rattle.mich_check.proofs.ScriptTyping.{Reached, code_size, reached_none, script_typed, views_end, views_fault, views_largest, views_size, views_step, whole_good}
use Rattle.mich_check.proofs.+check.Goals as goal

-- what holds whatever a result is
whatever : {T E P : Type 0} (r : Result T E) → P → IfOk r (λ _. P)
whatever (Ok x) p = p
whatever (Err e) p = tt

pub nodes::check_block-check_node-requires : goal.nodes::check_block-check_node-requires
nodes::check_block-check_node-requires t c =
    let v = c.loop-node.invariant in
    let s = left_size _ _ _ c.loop-node-test.true c.node-item.is in
    (omega (arith, s, v.room, v.forward, c.decreases, c.requires), omega (arith, s, v.room, v.forward, c.requires))

pub nodes::check_block-returns-in_err-made-clause-typed : goal.nodes::check_block-returns-in_err-made-clause-typed
nodes::check_block-returns-in_err-made-clause-typed t c =
    let v = c.loop-node.invariant in
    let fault : IsFault (shift c.args.at (trees_type (trees c.args.nodes.now) (context c.args.place) (kinds c.args.types))) c.in_err-made.field-0.0 =
    block_fault _ _ _ c.loop-node-test.true c.node-item.is _ _ _ c.in-Some.is _ _ _ v.same _ c.in_err-made.ensures.typed in
    search (rules, fault)

pub nodes::check_block-loop-node-preserved : goal.nodes::check_block-loop-node-preserved
nodes::check_block-loop-node-preserved t c =
    let v = c.loop-node.invariant in
    record {
      same = block_step _ _ _ c.loop-node-test.true c.node-item.is _ _ _ c.in-Some.is _ _ _ v.same _ _ c.in_ok-made.ensures.ends c.in_ok-made.ensures.typed.0;
      completes = block_code _ _ _ c.loop-node-test.true c.node-item.is _ _ _ c.in-Some.is _ _ _ _ _ _ c.in_ok-push.ensures.pushed v.completes c.in_ok-made.ensures.typed.1;
      forward = omega (arith, v.forward, c.in_ok-made.ensures.ends);
      room = sizes_at _ _ _ _ _ _ c.loop-node-test.true c.node-item.is v.room c.in_ok-made.ensures.ends;
    }

pub nodes::check_block-returns-clause-typed : goal.nodes::check_block-returns-clause-typed
nodes::check_block-returns-clause-typed t c =
    let v = c.loop-node.invariant in (
      block_end _ _ c.loop-node-test.false _ _ _ _ _ v.same,
      block_whole _ _ c.loop-node-test.false _ _ _ _ _ _ c.in_ok-code.ensures v.completes,
    )

pub nodes::check_block-returns-clause-ends : goal.nodes::check_block-returns-clause-ends
nodes::check_block-returns-clause-ends t c =
    let v = c.loop-node.invariant in
    let z = ap sizes (left_end _ _ c.loop-node-test.false) in
    omega (arith, v.room, z)

pub nodes::check_branch-returns-in_err-one_body-clause-typed : goal.nodes::check_branch-returns-in_err-one_body-clause-typed
nodes::check_branch-returns-in_err-one_body-clause-typed t c =
    let st = rw c.in-Some-2.is at c.in_ok-first.ensures in
    let fault : IsFault (shift c.args.at (tree_type (prim c.args.app.now.name c.args.app.now.annots (trees c.args.app.now.args)) (context c.args.place) (kinds c.args.types))) c.in_err-one_body.field-0.0 =
    branch_one _ _ _ _ _ _ _ c.requires.form _ _ _ _ c.in-Some.ensures st _ c.in_err-one_body.ensures.typed in
    search (rules, fault)

pub nodes::check_branch-returns-in_err-other_body-clause-typed : goal.nodes::check_branch-returns-in_err-other_body-clause-typed
nodes::check_branch-returns-in_err-other_body-clause-typed t c =
    let st = rw c.in-Some-2.is at c.in_ok-first.ensures in
    let fault : IsFault (shift c.args.at (tree_type (prim c.args.app.now.name c.args.app.now.annots (trees c.args.app.now.args)) (context c.args.place) (kinds c.args.types))) c.in_err-other_body.field-0.0 =
    branch_other _ _ _ _ _ _ _ c.requires.form _ _ _ _ c.in-Some.ensures st _ _ c.in_ok-one_body.ensures.ends c.in_ok-one_body.ensures.typed.1 _ c.in_err-other_body.ensures.typed in
    search (rules, fault)

pub nodes::check_branch-returns-in_err-after-clause-typed : goal.nodes::check_branch-returns-in_err-after-clause-typed
nodes::check_branch-returns-in_err-after-clause-typed t c =
    let st = rw c.in-Some-2.is at c.in_ok-first.ensures in
    let fault : IsFault (shift c.args.at (tree_type (prim c.args.app.now.name c.args.app.now.annots (trees c.args.app.now.args)) (context c.args.place) (kinds c.args.types))) c.in_err-after.field-0.0 =
    branch_join _ _ _ _ _ _ _ c.requires.form _ _ _ _ c.in-Some.ensures st _ _ c.in_ok-one_body.ensures.ends c.in_ok-one_body.ensures.typed.1 _ c.in_ok-other_body.ensures.typed.1 _ c.in_err-after.ensures in
    search (rules, fault)

pub nodes::check_branch-returns-clause-typed : goal.nodes::check_branch-returns-clause-typed
nodes::check_branch-returns-clause-typed t c =
    let st = rw c.in-Some-2.is at c.in_ok-first.ensures in
    let one = c.in_ok-one_body.ensures.typed in
    let other = c.in_ok-other_body.ensures.typed in
    branch_made _ _ _ _ _ _ _ c.requires.form _ _ _ _ c.in-Some.ensures st _ _ c.in_ok-one_body.ensures.ends one.1 _ other.1 _ _ _ _ c.in_ok-after.ensures c.branch_instr.ensures one.0 one.2 other.0 other.2

pub nodes::check_node-returns-in_err-body-in-Seq-clause-typed : goal.nodes::check_node-returns-in_err-body-in-Seq-clause-typed
nodes::check_node-returns-in_err-body-in-Seq-clause-typed t c =
    let fault : IsFault (shift c.args.at (tree_type (tree c.args.node.now) (context c.args.place) (kinds c.args.types))) c.in_err-body-in-Seq.field-0.0 =
    fault_is _ _ _ (seq_at _ _ _ _ _ (ap tree c.in-Seq.is ∙ tree_seq _)) c.in_err-body-in-Seq.ensures.typed in
    search (rules, fault)

pub nodes::check_node-returns-in_ok-body-in-Seq-clause-typed : goal.nodes::check_node-returns-in_ok-body-in-Seq-clause-typed
nodes::check_node-returns-in_ok-body-in-Seq-clause-typed t c =
    let h = c.in_ok-body-in-Seq.ensures.typed in
    (seq_at _ _ _ _ _ h.0 ∙ h.1, seq_made _ _ _ _ _ _ h.0 (code_seq _) h.2)

pub nodes::check_loop-returns-in_err-body-clause-typed : goal.nodes::check_loop-returns-in_err-body-clause-typed
nodes::check_loop-returns-in_err-body-clause-typed t c =
    let st = rw c.in-Some-2.is at c.in_ok-turning.ensures in
    let fault : IsFault (shift c.args.at (tree_type (prim c.args.app.now.name c.args.app.now.annots (trees c.args.app.now.args)) (context c.args.place) (kinds c.args.types))) c.in_err-body.field-0.0 =
    loop_body _ _ _ _ _ _ _ c.requires.form _ _ c.in-Some.ensures st _ c.in_err-body.ensures.typed in
    search (rules, fault)

pub nodes::check_loop-returns-then-not-ends_in-clause-typed : goal.nodes::check_loop-returns-then-not-ends_in-clause-typed
nodes::check_loop-returns-then-not-ends_in-clause-typed t c =
    let st = rw c.in-Some-2.is at c.in_ok-turning.ensures in
    loop_other _ _ _ _ _ _ _ c.requires.form _ _ c.in-Some.ensures st _ c.in_ok-body.ensures.typed.1 (sym c.if-not-ends_in.true ∙ c.ends_in.ensures)

pub nodes::check_loop-returns-clause-typed : goal.nodes::check_loop-returns-clause-typed
nodes::check_loop-returns-clause-typed t c =
    let st = rw c.in-Some-2.is at c.in_ok-turning.ensures in
    let b = c.in_ok-body.ensures.typed in
    loop_behind _ _ _ _ _ _ _ c.requires.form _ _ c.in-Some.ensures st _ b.1 _ c.in_ok-after.ensures _ _ (sym c.if-not-ends_in.false ∙ c.ends_in.ensures) c.loop_instr.ensures b.0 b.2

-- ---- DIP

pub nodes::check_dip-check_body-requires : goal.nodes::check_dip-check_body-requires
nodes::check_dip-check_body-requires t c =
    let w = c.in_ok-dip.ensures.within in
    let b = c.in_ok-dip.ensures.behind in
    (omega (arith, w, b, c.decreases, c.requires.fits), omega (arith, w, b, c.requires.fits))

pub nodes::check_dip-returns-in_err-dip-clause-typed : goal.nodes::check_dip-returns-in_err-dip-clause-typed
nodes::check_dip-returns-in_err-dip-clause-typed t c =
    let fault : IsFault (shift c.args.at (tree_type (prim c.args.app.now.name c.args.app.now.annots (trees c.args.app.now.args)) (context c.args.place) (kinds c.args.types))) c.in_err-dip.field-0.0 =
    dip_read _ _ _ _ _ _ c.requires.form _ c.in_err-dip.ensures.read in
    search (rules, fault)

pub nodes::check_dip-returns-in_err-body-clause-typed : goal.nodes::check_dip-returns-in_err-body-clause-typed
nodes::check_dip-returns-in_err-body-clause-typed t c =
    let s = rw c.in-Some.is at c.in_ok-upper.ensures in
    let fault : IsFault (shift c.args.at (tree_type (prim c.args.app.now.name c.args.app.now.annots (trees c.args.app.now.args)) (context c.args.place) (kinds c.args.types))) c.in_err-body.field-0.0 =
    dip_body _ _ _ _ _ _ c.requires.form _ _ _ _ c.in_ok-dip.ensures.read c.counted.ensures _ _ s.0 s.1 s.2 _ c.in_err-body.ensures.typed in
    search (rules, fault)

pub nodes::check_dip-returns-clause-typed : goal.nodes::check_dip-returns-clause-typed
nodes::check_dip-returns-clause-typed t c =
    let s = rw c.in-Some.is at c.in_ok-upper.ensures in
    let b = c.in_ok-body.ensures.typed in
    dip_made _ _ _ _ _ _ c.requires.form _ _ _ _ c.in_ok-dip.ensures.read c.counted.ensures _ _ s.0 s.1 s.2 _ b.0 b.1 b.2 _ c.dipped.ensures

pub nodes::check_dip-returns-clause-ends : goal.nodes::check_dip-returns-clause-ends
nodes::check_dip-returns-clause-ends t c =
    let w = c.in_ok-dip.ensures.within in
    let e = c.in_ok-body.ensures.ends in
    whatever c.dipped.result (omega (arith, w, e))

-- ---- MAP

pub nodes::check_map-returns-in_err-body-clause-typed : goal.nodes::check_map-returns-in_err-body-clause-typed
nodes::check_map-returns-in_err-body-clause-typed t c =
    let st = rw c.in-Some-2.is at c.in_ok-mapping.ensures in
    let fault : IsFault (shift c.args.at (tree_type (prim c.args.app.now.name c.args.app.now.annots (trees c.args.app.now.args)) (context c.args.place) (kinds c.args.types))) c.in_err-body.field-0.0 =
    map_body _ _ _ _ _ _ c.requires.form _ _ c.in-Some.ensures st _ c.in_err-body.ensures.typed in
    search (rules, fault)

pub nodes::check_map-returns-clause-typed : goal.nodes::check_map-returns-clause-typed
nodes::check_map-returns-clause-typed t c =
    let st = rw c.in-Some-2.is at c.in_ok-mapping.ensures in
    let b = c.in_ok-body.ensures.typed in
    map_made _ _ _ _ _ _ c.requires.form _ _ c.in-Some.ensures st _ b.0 b.1 b.2 _ c.mapped.ensures

pub nodes::check_map-returns-clause-ends : goal.nodes::check_map-returns-clause-ends
nodes::check_map-returns-clause-ends t c =
    let s = ap (λ ns. sizes (trees ns)) c.in-Some.ensures in
    let e = c.in_ok-body.ensures.ends in
    whatever c.mapped.result (omega (arith, s, e))

-- ---- LAMBDA

pub nodes::check_lambda-returns-in_err-arrow-clause-typed : goal.nodes::check_lambda-returns-in_err-arrow-clause-typed
nodes::check_lambda-returns-in_err-arrow-clause-typed t c =
    let fault : IsFault (shift c.args.at (tree_type (prim c.args.app.now.name c.args.app.now.annots (trees c.args.app.now.args)) (context c.args._place) (kinds c.args.types))) c.in_err-arrow.field-0.0 =
    lambda_types _ _ _ _ _ _ _ c.requires.form _ _ _ c.in-Some.ensures _ c.in_err-arrow.ensures in
    search (rules, fault)

pub nodes::check_lambda-returns-in_err-begins-clause-typed : goal.nodes::check_lambda-returns-in_err-begins-clause-typed
nodes::check_lambda-returns-in_err-begins-clause-typed t c =
    let fault : IsFault (shift c.args.at (tree_type (prim c.args.app.now.name c.args.app.now.annots (trees c.args.app.now.args)) (context c.args._place) (kinds c.args.types))) c.in_err-begins.field-0.0 =
    lambda_begun _ _ _ _ _ _ _ c.requires.form _ _ _ c.in-Some.ensures _ _ c.in_ok-arrow.ensures _ c.in_err-begins.ensures in
    search (rules, fault)

pub nodes::check_lambda-returns-in_err-body-clause-typed : goal.nodes::check_lambda-returns-in_err-body-clause-typed
nodes::check_lambda-returns-in_err-body-clause-typed t c =
    let g = c.in_ok-begins.ensures in
    let fault : IsFault (shift c.args.at (tree_type (prim c.args.app.now.name c.args.app.now.annots (trees c.args.app.now.args)) (context c.args._place) (kinds c.args.types))) c.in_err-body.field-0.0 =
    lambda_body _ _ _ _ _ _ _ c.requires.form _ _ _ c.in-Some.ensures _ _ c.in_ok-arrow.ensures _ _ _ g.0 g.1 c.behind.ensures c.behind-place.ensures _ c.in_err-body.ensures.typed in
    search (rules, fault)

pub nodes::check_lambda-returns-clause-typed : goal.nodes::check_lambda-returns-clause-typed
nodes::check_lambda-returns-clause-typed t c =
    let g = c.in_ok-begins.ensures in
    let b = c.in_ok-body.ensures.typed in
    lambda_is _ _ _ _ _ _ _ c.requires.form _ _ _ c.in-Some.ensures _ _ c.in_ok-arrow.ensures _ _ _ g.0 g.1 c.behind.ensures c.behind-place.ensures _ b.0 b.1 b.2 _ c.lambda_made.ensures

pub nodes::check_lambda-returns-clause-ends : goal.nodes::check_lambda-returns-clause-ends
nodes::check_lambda-returns-clause-ends t c =
    let s = ap (λ ns. sizes (trees ns)) c.in-Some.ensures in
    let e = c.in_ok-body.ensures.ends in
    let p = c.behind.ensures in
    let q = c.behind-place.ensures in
    whatever c.lambda_made.result (omega (arith, s, e, p, q))

-- ---- PUSH

pub nodes::check_push-returns-in_err-ty : goal.nodes::check_push-returns-in_err-ty
nodes::check_push-returns-in_err-ty t c =
    let fault : IsFault (shift c.args.at (tree_type (prim c.args.app.now.name c.args.app.now.annots (trees c.args.app.now.args)) (context c.args._place) (kinds c.args.types))) c.in_err-ty.field-0.0 =
    push_type _ _ _ _ _ _ c.requires.form _ _ c.in-Some.ensures _ c.in_err-ty.ensures in
    search (rules, fault)

pub nodes::check_push-returns-in_err-read : goal.nodes::check_push-returns-in_err-read
nodes::check_push-returns-in_err-read t c =
    let fault : IsFault (shift c.args.at (tree_type (prim c.args.app.now.name c.args.app.now.annots (trees c.args.app.now.args)) (context c.args._place) (kinds c.args.types))) c.in_err-read.field-0.0 =
    push_literal _ _ _ _ _ _ c.requires.form _ _ c.in-Some.ensures _ _ c.in_ok-ty.ensures c.behind.ensures _ c.in_err-read.ensures.read in
    search (rules, fault)

pub nodes::check_push-returns-in_err-lambdas : goal.nodes::check_push-returns-in_err-lambdas
nodes::check_push-returns-in_err-lambdas t c =
    let fault : IsFault (shift c.args.at (tree_type (prim c.args.app.now.name c.args.app.now.annots (trees c.args.app.now.args)) (context c.args._place) (kinds c.args.types))) c.in_err-lambdas.field-0.0 =
    push_body _ _ _ _ _ _ c.requires.form _ _ c.in-Some.ensures _ _ c.in_ok-ty.ensures c.behind.ensures _ _ c.in_ok-read.ensures.read _ c.in_err-lambdas.ensures.fault in
    search (rules, fault)

pub nodes::check_push-returns : goal.nodes::check_push-returns
nodes::check_push-returns t c =
    let m = c.in_ok-made.ensures in
    push_made _ _ _ _ _ _ c.requires.form _ _ c.in-Some.ensures _ _ c.in_ok-ty.ensures c.behind.ensures _ _ c.in_ok-read.ensures.read _ _ _ c.in_ok-lambdas.ensures.fault m.after m.code
    c.in_ok-lambdas.ensures.held

pub nodes::check_pending-check_item-requires : goal.nodes::check_pending-check_item-requires
nodes::check_pending-check_item-requires t c =
    let v = c.loop-item.invariant in
    let r = items_room _ _ _ c.loop-item-test.true c.item-item.is _ v.room in
    let s = items_size _ _ _ c.loop-item-test.true c.item-item.is _ v.sizes in
    let r0 = r.0 in
    let s0 = s.0 in
    (omega (arith, s0, c.decreases), omega (arith, r0, c.requires))

pub nodes::check_pending-returns-in_err-lambda-clause-fault : goal.nodes::check_pending-returns-in_err-lambda-clause-fault
nodes::check_pending-returns-in_err-lambda-clause-fault t c =
    let v = c.loop-item.invariant in
    let fault : IsFaulty {T = Unit {0}} (moved c.args.at (fault_of_bodies (all_pending c.args.pending.now))) (Err c.in_err-lambda.field-0.0) =
    items_fault _ _ _ c.loop-item-test.true c.item-item.is _ _ _ v.tried c.in_err-lambda.ensures.fault in
    search (rules, fault)

pub nodes::check_pending-loop-item-preserved : goal.nodes::check_pending-loop-item-preserved
nodes::check_pending-loop-item-preserved t c =
    let v = c.loop-item.invariant in
    record {
      tried = items_step _ _ _ c.loop-item-test.true c.item-item.is _ _ v.tried c.in_ok-lambda.ensures.fault;
      held = λ s. awaits_next _ _ _ c.loop-item-test.true c.item-item.is _ _ _ _ c.in_ok-put_lambda.ensures c.in_ok-lambda.ensures.held (v.held s);
      room = (items_room _ _ _ c.loop-item-test.true c.item-item.is _ v.room).1;
      sizes = (items_size _ _ _ c.loop-item-test.true c.item-item.is _ v.sizes).1;
    }

pub nodes::check_pending-returns-clause-fault : goal.nodes::check_pending-returns-clause-fault
nodes::check_pending-returns-clause-fault t c = items_end _ _ _ _ c.loop-item-test.false c.loop-item.invariant.tried

pub nodes::check_pending-returns-clause-held : goal.nodes::check_pending-returns-clause-held
nodes::check_pending-returns-clause-held t c = λ s. awaits_end _ _ _ _ c.loop-item-test.false (c.loop-item.invariant.held s)

pub nodes::check_pending-loop-item-init : goal.nodes::check_pending-loop-item-init
nodes::check_pending-loop-item-init t c =
    let whole = all_pending c.args.pending.now in
    let items = c.as_slice-item-items.ensures in
    record {
      tried = ap (λ (xs : List Item). moved c.args.at (fault_of_bodies (all_pending xs))) (sym items);
      room = subst (λ (xs : List Item). reach (all_pending xs) ≤ reach whole) (sym items) (omega arith);
      sizes = subst (λ (xs : List Item). largest (all_pending xs) ≤ largest whole) (sym items) (omega arith);
      held = λ s. subst (λ (xs : List Item). Awaits whole (all_pending xs) (codes c.new-lambdas.result)) (sym items) (awaits_none _ _ (ap codes c.new-lambdas.ensures) s);
    }

pub nodes::check_item-returns-in_err-code-in-Body-clause-fault : goal.nodes::check_item-returns-in_err-code-in-Body-clause-fault
nodes::check_item-returns-in_err-code-in-Body-clause-fault t c =
    let fault : IsFaulty {T = Unit {0}} (moved c.args.at (item_fault (pending c.args.item.now))) (Err c.in_err-code-in-Body.field-0.0) =
    subst (λ (x : Item). IsFaulty {T = Unit {0}} (moved c.args.at (item_fault (pending x))) (Err c.in_err-code-in-Body.field-0.0)) (sym c.in-Body.is)
    (called_item {T = Unit {0}} c.args.at c.in-Body.location (kind c.in-Body.arg) (kind c.in-Body.ret) c.in-Body.recursive (tree c.in-Body.node) (Err c.in_err-code-in-Body.field-0.0) c.in_err-code-in-Body.ensures.fault) in
    search (rules, fault)

pub nodes::check_item-returns-in_ok-lambda-in-Body-clause-held : goal.nodes::check_item-returns-in_ok-lambda-in-Body-clause-held
nodes::check_item-returns-in_ok-lambda-in-Body-clause-held t c =
    subst (λ (x : Item). AreSequences (pending x ∷ []) → AreHeld (pending x ∷ []) (made.more (code c.in_ok-lambda-in-Body.lambda) made.none)) (sym c.in-Body.is)
    (held_one c.in-Body.location (kind c.in-Body.arg) (kind c.in-Body.ret) c.in-Body.recursive (tree c.in-Body.node) _ _ c.in_ok-lambda-in-Body.ensures c.in_ok-code-in-Body.ensures.code)

pub nodes::check_item-returns-in-Claim-clause-held : goal.nodes::check_item-returns-in-Claim-clause-held
nodes::check_item-returns-in-Claim-clause-held t c = λ s. subst (λ (x : Item). AreHeld (pending x ∷ []) made.none) (sym c.in-Claim.is) (held_claim none_held)

pub nodes::check_called-returns-clause-code : goal.nodes::check_called-returns-clause-code
nodes::check_called-returns-clause-code t c =
    called_code _ _ _ _ _ _ _ _ _ c.in_ok-types.ensures c.in_ok-ends.ensures (sym c.ends_in.ensures ∙ c.if-not-ends_in.false) c.in_ok-made.ensures.typed.1 c.in_ok-block_of.ensures

-- ---- scripts

pub scripts::check_create-returns-in_err-typed : goal.scripts::check_create-returns-in_err-typed
scripts::check_create-returns-in_err-typed t c =
    let v = sym c.is_view.ensures ∙ c.if-is_view.false in
    let fault : IsFault (shift c.args.at (tree_type (prim c.args.app.now.name c.args.app.now.annots (trees c.args.app.now.args)) (context c.args.place) (kinds c.args.types))) c.in_err-typed.field-0.0 =
    create_script c.args.at (context c.args.place) c.args.app.now.name c.args.app.now.annots c.args.app.now.args (kinds c.args.types) c.requires.form v _ c.in-Some.ensures _ c.in-Some-origination.ensures _ c.in_err-typed.ensures in
    search (rules, fault)

pub scripts::check_create-returns-in_err-after : goal.scripts::check_create-returns-in_err-after
scripts::check_create-returns-in_err-after t c =
    let v = sym c.is_view.ensures ∙ c.if-is_view.false in
    let typed = shared_typed (c.args.at + 1) _ _ _ c.in_ok-script.ensures c.in_ok-typed.ensures in
    let storage = ap (λ (s : Script). kind (out-Script s).storage) c.get.ensures ∙ storage_kind c.in_ok-script.script in
    let fault : IsFault (shift c.args.at (tree_type (prim c.args.app.now.name c.args.app.now.annots (trees c.args.app.now.args)) (context c.args.place) (kinds c.args.types))) c.in_err-after.field-0.0 =
    storage_other c.args.at (context c.args.place) c.args.app.now.name c.args.app.now.annots c.args.app.now.args (kinds c.args.types) c.requires.form v _ c.in-Some.ensures _ c.in-Some-origination.ensures _ typed _ _ storage c.in_err-after.ensures in
    search (rules, fault)

pub scripts::check_create-returns : goal.scripts::check_create-returns
scripts::check_create-returns t c =
    let v = sym c.is_view.ensures ∙ c.if-is_view.false in
    let typed = shared_typed (c.args.at + 1) _ _ _ c.in_ok-script.ensures c.in_ok-typed.ensures in
    let storage = ap (λ (s : Script). kind (out-Script s).storage) c.get.ensures ∙ storage_kind c.in_ok-script.script in
    created c.args.at (context c.args.place) c.args.app.now.name c.args.app.now.annots c.args.app.now.args (kinds c.args.types) c.requires.form v _ c.in-Some.ensures _ c.in-Some-origination.ensures _ typed _ c.in_ok-after.after _ storage c.in_ok-after.ensures (code_create c.in_ok-script.script)

pub scripts::check_script_at-check_code-requires : goal.scripts::check_script_at-check_code-requires
scripts::check_script_at-check_code-requires t c =
    let h : size (tree c.in_ok-outline.outline.code.node.now) < size (tree c.args.node.now) = code_size c.args.at (tree c.args.node.now) (outline_of c.in_ok-outline.outline) c.in_ok-outline.ensures in
    (omega (arith, h, c.decreases), tt)

pub scripts::check_script_at-check_views-requires : goal.scripts::check_script_at-check_views-requires
scripts::check_script_at-check_views-requires t c =
    let h : largest_of c.in_ok-outline.outline.views < size (tree c.args.node.now) = views_largest c.args.at (tree c.args.node.now) c.in_ok-outline.outline c.in_ok-outline.ensures in
    (omega (arith, h, c.decreases), tt)

pub scripts::check_script_at-returns : goal.scripts::check_script_at-returns
scripts::check_script_at-returns t c =
    script_typed c.args.at (tree c.args.node.now) (outline_of c.in_ok-outline.outline) c.in_ok-outline.ensures _ c.in_ok-code.ensures _ _ c.in_ok-views.ensures c.in_ok-script.ensures

pub scripts::check_views-loop-view-init : goal.scripts::check_views-loop-view-init
scripts::check_views-loop-view-init t c =
    let s = kind c.args.storage.now in
    let whole = with_views s (map view_of c.args.views.now) in
    record {
      reached = subst (λ xs. Reached s whole (map view_of xs) c.new-typed.result) (sym c.as_slice-view-items.ensures) (reached_none s (map view_of c.args.views.now) c.new-typed.result c.new-typed.ensures);
      sizes = subst (λ xs. largest_of xs ≤ largest_of c.args.views.now) (sym c.as_slice-view-items.ensures) (omega arith);
    }

pub scripts::check_views-check_view-requires : goal.scripts::check_views-check_view-requires
scripts::check_views-check_view-requires t c =
    let s = kind c.args.storage.now in
    let whole = with_views s (map view_of c.args.views.now) in
    let r : size (tree c.view-item.result.body.node.now) ≤ largest_of c.args.views.now =
    (views_size s whole c.as_slice-view-items.result.now c.loop-view.view-index c.view-item.result c.loop-view.typed c.loop-view-test.true c.view-item.is (largest_of c.args.views.now) c.loop-view.invariant.sizes).0 in
    (omega (arith, r, c.decreases), tt)

pub scripts::check_views-returns-in_err-code : goal.scripts::check_views-returns-in_err-code
scripts::check_views-returns-in_err-code t c =
    let s = kind c.args.storage.now in
    let whole = with_views s (map view_of c.args.views.now) in
    let fault : AreTypedViews s (map view_of c.args.views.now) (Err c.in_err-code.field-0.0) =
    views_fault s whole c.as_slice-view-items.result.now c.loop-view.view-index c.view-item.result c.loop-view.typed c.loop-view-test.true c.view-item.is _ (map view_of c.args.views.now) refl c.loop-view.invariant.reached c.in_err-code.ensures in
    search (rules, fault)

pub scripts::check_views-loop-view-preserved : goal.scripts::check_views-loop-view-preserved
scripts::check_views-loop-view-preserved t c =
    let s = kind c.args.storage.now in
    let whole = with_views s (map view_of c.args.views.now) in
    record {
      reached = views_step s whole c.as_slice-view-items.result.now c.loop-view.view-index c.view-item.result c.loop-view.typed c.loop-view-test.true c.view-item.is c.in_ok-code.code c.push.new.self c.loop-view.invariant.reached c.in_ok-code.ensures c.in_ok-push.ensures.pushed;
      sizes = (views_size s whole c.as_slice-view-items.result.now c.loop-view.view-index c.view-item.result c.loop-view.typed c.loop-view-test.true c.view-item.is (largest_of c.args.views.now) c.loop-view.invariant.sizes).1;
    }

pub scripts::check_views-returns : goal.scripts::check_views-returns
scripts::check_views-returns t c = views_end _ _ c.as_slice-view-items.result.now c.loop-view.view-index c.loop-view.typed c.loop-view-test.false c.loop-view.invariant.reached

pub scripts::check_whole-returns-then-ends_in : goal.scripts::check_whole-returns-then-ends_in
scripts::check_whole-returns-then-ends_in t c =
    let b = c.in_ok-made.ensures.typed in
    whole_good c.args.body.at (tree c.args.body.node.now) (context c.args.place) (kind c.args.ends.begins) (kind c.args.ends.ends) _ c.in_ok-begins.ensures _ _ b.1 c.in_ok-last.ensures _ b.0 (sym c.ends_in.ensures ∙ c.if-ends_in.true) b.2
