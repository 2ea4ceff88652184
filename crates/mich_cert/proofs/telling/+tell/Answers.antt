use Rattle.std.proofs.Common.{rules, arith, ◌<◌, ◌+◌, List, [], ◌∷◌, subst, ap, refl, sym, ◌∙◌}
use Rattle.std.specs.Prelude.{IfOk, Result, map, Ok, Err}
use Rattle.rules_text.specs.nodes.Tree.{prim, size, sizes}
use Rattle.rules_data.specs.types.Kind.{Kind}
use Rattle.rules_code.specs.certificates.Derivation.{before, block_entries}
use Rattle.rules_code.specs.instructions.Context.{main, view}
use Rattle.rules_code.specs.typing.Bodies.{body_fault}
use Rattle.rules_code.specs.typing.Literals.{fault_of_bodies}
use Rattle.rules_code.specs.typing.Nodes.{body, script, tree_type, trees_type}
use Rattle.rules_code.specs.typing.Scripts.{code_fault, view_fault}
use Rattle.rules_code.specs.typing.Typing.{shift}
use Rattle.mich_base.specs.TypeView.{kind}
use Rattle.mich_base.specs.View.{tree, trees}
use Rattle.mich_check.specs.Pending.{called_fault, item_fault, moved}
use Rattle.mich_check.specs.Scripts.{largest_of}
use Rattle.mich_check.proofs.Blocks.{left_size, block_fault, block_step, block_end}
use Rattle.mich_check.proofs.PushTyping.{push_type, push_literal, push_body, items_room, items_size, items_step, items_end}
use Rattle.mich_check.proofs.ScriptTyping.{code_size, views_largest}
use Rattle.mich_control.specs.Answers.{IsFault}
use Rattle.mich_control.specs.View.{context}
use Rattle.mich_control.proofs.ForCallers.{branch_one, branch_other, loop_body, loop_other, dip_read, dip_body, map_body, lambda_types, lambda_begun, lambda_body, tree_seq}
use Rattle.mich_data.specs.View.{all_pending, pending}
use Rattle.mich_data.specs.declared.pending.Pending.{Pending as Item}
use Rattle.mich_data.proofs.ForCallers.{left_end, sizes_at}
use Rattle.mich_outline.specs.View.{outline_of, view_of}
use Rattle.mich_overload.specs.View.{kinds}
use Rattle.mich_cert.specs.telling.Told.{Adds}
use Rattle.mich_cert.specs.telling.Walk.{Confirms, IsScript, called_entries, code_entries, pending_entries, script_entries, views_entries, views_fault}
use Rattle.mich_cert.proofs.telling_lemmas.ToldBlocks.{told_step, told_end}
use Rattle.mich_cert.proofs.telling_lemmas.ToldBranches.{branch_told}
use Rattle.mich_cert.proofs.telling_lemmas.ToldCreates.{create_failed, create_other, create_told}
use Rattle.mich_cert.proofs.telling_lemmas.ToldDips.{dip_told}
use Rattle.mich_cert.proofs.telling_lemmas.ToldLambdas.{lambda_told}
use Rattle.mich_cert.proofs.telling_lemmas.ToldLoops.{loop_told}
use Rattle.mich_cert.proofs.telling_lemmas.ToldMaps.{map_told}
use Rattle.mich_cert.proofs.telling_lemmas.ToldNodes.{node_told, seq_told, body_seq, straight_told, transfer_told, bodiless_told, self_told}
use Rattle.mich_cert.proofs.telling_lemmas.ToldOutlines.{bodies_within}
use Rattle.mich_cert.proofs.telling_lemmas.ToldPushes.{as_read, as_faulty, items_failed, items_told, items_sequences, items_all, item_told, called_failed, called_good, called_other, push_told, whole_failed, whole_good, whole_other}
use Rattle.mich_cert.proofs.telling_lemmas.ToldScripts.{body_told, view_told, too_large, views_room, views_size, views_failed, views_step, views_told, views_end, views_all, outline_zero, no_outline, code_failed, script_views_failed, script_told}
use Rattle.mich_cert.proofs.telling.+tell.Goals as goal

-- what holds whatever a result is
whatever : {T E P : Type 0} (r : Result T E) → P → IfOk r (λ _. P)
whatever (Ok x) p = p
whatever (Err e) p = tt

-- ---- blocks

pub nodes::tell_block-tell_node-requires : goal.nodes::tell_block-tell_node-requires
nodes::tell_block-tell_node-requires t c =
    let v = c.loop-node.invariant in
    let s = left_size _ _ _ c.loop-node-test.true c.node-item.is in
    (omega (arith, s, v.room, v.forward, c.decreases, c.requires), omega (arith, s, v.room, v.forward, c.requires))

pub nodes::tell_block-returns-in_err-after-clause-follows : goal.nodes::tell_block-returns-in_err-after-clause-follows
nodes::tell_block-returns-in_err-after-clause-follows t c =
    let v = c.loop-node.invariant in
    let fault : IsFault (shift (c.args.at + 1) (trees_type (trees c.args.nodes.now) (context c.args.place) (kinds c.args.types))) c.in_err-after.field-0.0 =
    block_fault _ _ _ c.loop-node-test.true c.node-item.is _ _ _ c.in-Some.is _ _ _ v.same _ c.in_err-after.ensures.follows in
    search (rules, fault)

pub nodes::tell_block-loop-node-preserved : goal.nodes::tell_block-loop-node-preserved
nodes::tell_block-loop-node-preserved t c =
    let v = c.loop-node.invariant in
    record {
      same = block_step _ _ _ c.loop-node-test.true c.node-item.is _ _ _ c.in-Some.is _ _ _ v.same _ _ c.in_ok-after.ensures.ends c.in_ok-after.ensures.follows.0;
      completes = told_step _ _ _ c.loop-node-test.true c.node-item.is _ _ _ c.in-Some.is _ _ _ _ _ _ _ _ c.in_ok-after.ensures.ends c.in_ok-after.ensures.follows.0 v.completes c.in_ok-after.ensures.follows.1;
      forward = omega (arith, v.forward, c.in_ok-after.ensures.ends);
      room = sizes_at _ _ _ _ _ _ c.loop-node-test.true c.node-item.is v.room c.in_ok-after.ensures.ends;
    }

pub nodes::tell_block-returns-clause-follows : goal.nodes::tell_block-returns-clause-follows
nodes::tell_block-returns-clause-follows t c =
    let v = c.loop-node.invariant in (
      block_end _ _ c.loop-node-test.false _ _ _ _ _ v.same,
      told_end _ _ c.loop-node-test.false _ _ _ _ _ _ _ _ v.completes c.in_ok-tell_end.ensures,
    )

pub nodes::tell_block-returns-clause-ends : goal.nodes::tell_block-returns-clause-ends
nodes::tell_block-returns-clause-ends t c =
    let v = c.loop-node.invariant in
    let z = ap sizes (left_end _ _ c.loop-node-test.false) in
    omega (arith, v.room, z)

-- ---- instructions

pub nodes::tell_node-returns-clause-follows : goal.nodes::tell_node-returns-clause-follows
nodes::tell_node-returns-clause-follows t c = node_told _ (tree c.args.node.now) c.args.at (context c.args.place) (kinds c.args.types) _ _ _ _
    (subst (λ (A : List Kind). Adds c.args.told.now c.tell_stack.new.told (before c.args.at A ∷ [])) (ap kinds c.as_slice.ensures) c.in_ok-tell_stack.ensures) c.tell_within.ensures.follows

pub nodes::tell_within-returns-in-Seq-clause-follows : goal.nodes::tell_within-returns-in-Seq-clause-follows
nodes::tell_within-returns-in-Seq-clause-follows t c = seq_told (tree c.args.node.now) _ _ _ _ _ _ _ (ap tree c.in-Seq.is ∙ tree_seq _) c.tell_block.ensures.follows

pub nodes::tell_body-returns-in-Seq-clause-follows : goal.nodes::tell_body-returns-in-Seq-clause-follows
nodes::tell_body-returns-in-Seq-clause-follows t c = body_seq (tree c.args.node.now) _ _ _ _ _ _ _ (ap tree c.in-Seq.is ∙ tree_seq _) c.tell_block.ensures.follows

pub nodes::tell_app-returns-in-Straight-clause-follows : goal.nodes::tell_app-returns-in-Straight-clause-follows
nodes::tell_app-returns-in-Straight-clause-follows t c = straight_told _ _ _ _ _ _ _ _ c.behind_straight.ensures c.in-Straight.ensures

pub nodes::tell_app-returns-in-Transfer-clause-follows : goal.nodes::tell_app-returns-in-Transfer-clause-follows
nodes::tell_app-returns-in-Transfer-clause-follows t c = transfer_told _ _ _ _ _ _ _ _ c.behind_transfer.ensures c.in-Transfer.ensures

pub nodes::tell_app-returns-in-Bodiless-clause-follows : goal.nodes::tell_app-returns-in-Bodiless-clause-follows
nodes::tell_app-returns-in-Bodiless-clause-follows t c = bodiless_told _ _ _ _ _ _ _ _ c.behind_bodiless.ensures c.in-Bodiless.bodiless c.in-Bodiless.ensures

pub nodes::tell_app-returns-in-SelfContract-clause-follows : goal.nodes::tell_app-returns-in-SelfContract-clause-follows
nodes::tell_app-returns-in-SelfContract-clause-follows t c = self_told _ _ _ _ _ _ _ _ c.behind_self.ensures c.in-SelfContract.ensures

pub nodes::tell_app-returns-in-Straight-clause-ends : goal.nodes::tell_app-returns-in-Straight-clause-ends
nodes::tell_app-returns-in-Straight-clause-ends t c =
    let e = c.behind_all.ensures in
    whatever c.behind_straight.result (omega (arith, e))

pub nodes::tell_app-returns-in-Transfer-clause-ends : goal.nodes::tell_app-returns-in-Transfer-clause-ends
nodes::tell_app-returns-in-Transfer-clause-ends t c =
    let e = c.behind_all-in-Transfer.ensures in
    whatever c.behind_transfer.result (omega (arith, e))

pub nodes::tell_app-returns-in-Bodiless-clause-ends : goal.nodes::tell_app-returns-in-Bodiless-clause-ends
nodes::tell_app-returns-in-Bodiless-clause-ends t c =
    let e = c.behind_all-in-Bodiless.ensures in
    whatever c.behind_bodiless.result (omega (arith, e))

pub nodes::tell_app-returns-in-SelfContract-clause-ends : goal.nodes::tell_app-returns-in-SelfContract-clause-ends
nodes::tell_app-returns-in-SelfContract-clause-ends t c =
    let e = c.behind_all-in-SelfContract.ensures in
    whatever c.behind_self.result (omega (arith, e))

pub nodes::tell_app-returns-in-Push-clause-ends : goal.nodes::tell_app-returns-in-Push-clause-ends
nodes::tell_app-returns-in-Push-clause-ends t c =
    let e = c.behind_all-in-Push.ensures in
    whatever c.tell_push.result (omega (arith, e))

pub nodes::tell_app-returns-in-CreateContract-clause-ends : goal.nodes::tell_app-returns-in-CreateContract-clause-ends
nodes::tell_app-returns-in-CreateContract-clause-ends t c =
    let e = c.behind_all-in-CreateContract.ensures in
    whatever c.tell_create.result (omega (arith, e))

-- ---- branches

pub forms::tell_branch-returns-in_err-one_after-clause-follows : goal.forms::tell_branch-returns-in_err-one_after-clause-follows
forms::tell_branch-returns-in_err-one_after-clause-follows t c =
    let st = rw c.in-Some-2.is at c.in_ok-first.ensures in
    let fault : IsFault (shift c.args.at (tree_type (prim c.args.app.now.name c.args.app.now.annots (trees c.args.app.now.args)) (context c.args.place) (kinds c.args.types))) c.in_err-one_after.field-0.0 =
    branch_one _ _ _ _ _ _ _ c.requires.form _ _ _ _ c.in-Some.ensures st _ c.in_err-one_after.ensures.follows in
    search (rules, fault)

pub forms::tell_branch-returns-in_err-other_after-clause-follows : goal.forms::tell_branch-returns-in_err-other_after-clause-follows
forms::tell_branch-returns-in_err-other_after-clause-follows t c =
    let st = rw c.in-Some-2.is at c.in_ok-first.ensures in
    let fault : IsFault (shift c.args.at (tree_type (prim c.args.app.now.name c.args.app.now.annots (trees c.args.app.now.args)) (context c.args.place) (kinds c.args.types))) c.in_err-other_after.field-0.0 =
    branch_other _ _ _ _ _ _ _ c.requires.form _ _ _ _ c.in-Some.ensures st _ _ c.in_ok-one_after.ensures.ends c.in_ok-one_after.ensures.follows.0 _ c.in_err-other_after.ensures.follows in
    search (rules, fault)

pub forms::tell_branch-returns-clause-follows : goal.forms::tell_branch-returns-clause-follows
forms::tell_branch-returns-clause-follows t c =
    let st = rw c.in-Some-2.is at c.in_ok-first.ensures in
    let one = c.in_ok-one_after.ensures.follows in
    let other = c.in_ok-other_after.ensures.follows in
    branch_told _ _ _ _ _ _ _ c.requires.form _ _ _ _ c.in-Some.ensures st _ _ c.in_ok-one_after.ensures.ends one.0 _ other.0 _ _ _ one.1 other.1 _ c.joined.ensures

pub forms::tell_branch-returns-clause-ends : goal.forms::tell_branch-returns-clause-ends
forms::tell_branch-returns-clause-ends t c =
    let s = ap (λ ns. sizes (trees ns)) c.in-Some.ensures in
    let e = c.in_ok-one_after.ensures.ends in
    let f = c.in_ok-other_after.ensures.ends in
    whatever c.joined.result (omega (arith, s, e, f))

-- ---- loops

pub forms::tell_loop-returns-in_err-ends-clause-follows : goal.forms::tell_loop-returns-in_err-ends-clause-follows
forms::tell_loop-returns-in_err-ends-clause-follows t c =
    let st = rw c.in-Some-2.is at c.in_ok-turning.ensures in
    let fault : IsFault (shift c.args.at (tree_type (prim c.args.app.now.name c.args.app.now.annots (trees c.args.app.now.args)) (context c.args.place) (kinds c.args.types))) c.in_err-ends.field-0.0 =
    loop_body _ _ _ _ _ _ _ c.requires.form _ _ c.in-Some.ensures st _ c.in_err-ends.ensures.follows in
    search (rules, fault)

pub forms::tell_loop-returns-then-not-ends_in-clause-follows : goal.forms::tell_loop-returns-then-not-ends_in-clause-follows
forms::tell_loop-returns-then-not-ends_in-clause-follows t c =
    let st = rw c.in-Some-2.is at c.in_ok-turning.ensures in
    loop_other _ _ _ _ _ _ _ c.requires.form _ _ c.in-Some.ensures st _ c.in_ok-ends.ensures.follows.0 (sym c.if-not-ends_in.true ∙ c.ends_in.ensures)

pub forms::tell_loop-returns-clause-follows : goal.forms::tell_loop-returns-clause-follows
forms::tell_loop-returns-clause-follows t c =
    let st = rw c.in-Some-2.is at c.in_ok-turning.ensures in
    let b = c.in_ok-ends.ensures.follows in
    loop_told _ _ _ _ _ _ _ c.requires.form _ _ c.in-Some.ensures st _ b.0 _ _ b.1 (sym c.if-not-ends_in.false ∙ c.ends_in.ensures) c.in_ok-after.after c.in_ok-after.ensures

-- ---- DIP

pub forms::tell_dip-tell_body-requires : goal.forms::tell_dip-tell_body-requires
forms::tell_dip-tell_body-requires t c =
    let w = c.in_ok-dip.ensures.within in
    let b = c.in_ok-dip.ensures.behind in
    (omega (arith, w, b, c.decreases, c.requires.fits), omega (arith, w, b, c.requires.fits))

pub forms::tell_dip-returns-in_err-dip-clause-follows : goal.forms::tell_dip-returns-in_err-dip-clause-follows
forms::tell_dip-returns-in_err-dip-clause-follows t c =
    let fault : IsFault (shift c.args.at (tree_type (prim c.args.app.now.name c.args.app.now.annots (trees c.args.app.now.args)) (context c.args.place) (kinds c.args.types))) c.in_err-dip.field-0.0 =
    dip_read _ _ _ _ _ _ c.requires.form _ c.in_err-dip.ensures.read in
    search (rules, fault)

pub forms::tell_dip-returns-in_err-ends-clause-follows : goal.forms::tell_dip-returns-in_err-ends-clause-follows
forms::tell_dip-returns-in_err-ends-clause-follows t c =
    let s = rw c.in-Some.is at c.in_ok-upper.ensures in
    let fault : IsFault (shift c.args.at (tree_type (prim c.args.app.now.name c.args.app.now.annots (trees c.args.app.now.args)) (context c.args.place) (kinds c.args.types))) c.in_err-ends.field-0.0 =
    dip_body _ _ _ _ _ _ c.requires.form _ _ _ _ c.in_ok-dip.ensures.read c.counted.ensures _ _ s.0 s.1 s.2 _ c.in_err-ends.ensures.follows in
    search (rules, fault)

pub forms::tell_dip-returns-in_err-made-clause-follows : goal.forms::tell_dip-returns-in_err-made-clause-follows
forms::tell_dip-returns-in_err-made-clause-follows t c =
    let s = rw c.in-Some.is at c.in_ok-upper.ensures in
    let b = c.in_ok-ends.ensures.follows in
    let fault : IsFault (shift c.args.at (tree_type (prim c.args.app.now.name c.args.app.now.annots (trees c.args.app.now.args)) (context c.args.place) (kinds c.args.types))) c.in_err-made.field-0.0 =
    dip_told _ _ _ _ _ _ c.requires.form _ _ _ _ c.in_ok-dip.ensures.read c.counted.ensures _ _ s.0 s.1 s.2 _ b.0 _ _ b.1 c.in_ok-body.body c.in_ok-body.ensures (Err c.in_err-made.field-0.0) c.in_err-made.ensures in
    search (rules, fault)

pub forms::tell_dip-returns-clause-follows : goal.forms::tell_dip-returns-clause-follows
forms::tell_dip-returns-clause-follows t c =
    let s = rw c.in-Some.is at c.in_ok-upper.ensures in
    let b = c.in_ok-ends.ensures.follows in
    dip_told _ _ _ _ _ _ c.requires.form _ _ _ _ c.in_ok-dip.ensures.read c.counted.ensures _ _ s.0 s.1 s.2 _ b.0 _ _ b.1 c.in_ok-body.body c.in_ok-body.ensures (Ok c.in_ok-made.made) c.in_ok-made.ensures

pub forms::tell_dip-returns-clause-ends : goal.forms::tell_dip-returns-clause-ends
forms::tell_dip-returns-clause-ends t c =
    let w = c.in_ok-dip.ensures.within in
    let e = c.in_ok-ends.ensures.ends in
    omega (arith, w, e)

-- ---- MAP

pub forms::tell_map-returns-in_err-ends-clause-follows : goal.forms::tell_map-returns-in_err-ends-clause-follows
forms::tell_map-returns-in_err-ends-clause-follows t c =
    let st = rw c.in-Some-2.is at c.in_ok-mapping.ensures in
    let fault : IsFault (shift c.args.at (tree_type (prim c.args.app.now.name c.args.app.now.annots (trees c.args.app.now.args)) (context c.args.place) (kinds c.args.types))) c.in_err-ends.field-0.0 =
    map_body _ _ _ _ _ _ c.requires.form _ _ c.in-Some.ensures st _ c.in_err-ends.ensures.follows in
    search (rules, fault)

pub forms::tell_map-returns-in_err-made-clause-follows : goal.forms::tell_map-returns-in_err-made-clause-follows
forms::tell_map-returns-in_err-made-clause-follows t c =
    let st = rw c.in-Some-2.is at c.in_ok-mapping.ensures in
    let b = c.in_ok-ends.ensures.follows in
    let fault : IsFault (shift c.args.at (tree_type (prim c.args.app.now.name c.args.app.now.annots (trees c.args.app.now.args)) (context c.args.place) (kinds c.args.types))) c.in_err-made.field-0.0 =
    map_told _ _ _ _ _ _ c.requires.form _ _ c.in-Some.ensures st _ b.0 _ _ b.1 c.in_ok-body.body c.in_ok-body.ensures (Err c.in_err-made.field-0.0) c.in_err-made.ensures in
    search (rules, fault)

pub forms::tell_map-returns-clause-follows : goal.forms::tell_map-returns-clause-follows
forms::tell_map-returns-clause-follows t c =
    let st = rw c.in-Some-2.is at c.in_ok-mapping.ensures in
    let b = c.in_ok-ends.ensures.follows in
    map_told _ _ _ _ _ _ c.requires.form _ _ c.in-Some.ensures st _ b.0 _ _ b.1 c.in_ok-body.body c.in_ok-body.ensures (Ok c.in_ok-made.made) c.in_ok-made.ensures

pub forms::tell_map-returns-clause-ends : goal.forms::tell_map-returns-clause-ends
forms::tell_map-returns-clause-ends t c =
    let s = ap (λ ns. sizes (trees ns)) c.in-Some.ensures in
    let e = c.in_ok-ends.ensures.ends in
    omega (arith, s, e)

-- ---- LAMBDA

pub forms::tell_lambda-returns-in_err-arrow-clause-follows : goal.forms::tell_lambda-returns-in_err-arrow-clause-follows
forms::tell_lambda-returns-in_err-arrow-clause-follows t c =
    let fault : IsFault (shift c.args.at (tree_type (prim c.args.app.now.name c.args.app.now.annots (trees c.args.app.now.args)) (context c.args._place) (kinds c.args.types))) c.in_err-arrow.field-0.0 =
    lambda_types _ _ _ _ _ _ _ c.requires.form _ _ _ c.in-Some.ensures _ c.in_err-arrow.ensures in
    search (rules, fault)

pub forms::tell_lambda-returns-in_err-begins-clause-follows : goal.forms::tell_lambda-returns-in_err-begins-clause-follows
forms::tell_lambda-returns-in_err-begins-clause-follows t c =
    let fault : IsFault (shift c.args.at (tree_type (prim c.args.app.now.name c.args.app.now.annots (trees c.args.app.now.args)) (context c.args._place) (kinds c.args.types))) c.in_err-begins.field-0.0 =
    lambda_begun _ _ _ _ _ _ _ c.requires.form _ _ _ c.in-Some.ensures _ _ c.in_ok-arrow.ensures _ c.in_err-begins.ensures in
    search (rules, fault)

pub forms::tell_lambda-returns-in_err-ends-clause-follows : goal.forms::tell_lambda-returns-in_err-ends-clause-follows
forms::tell_lambda-returns-in_err-ends-clause-follows t c =
    let g = c.in_ok-begins.ensures in
    let fault : IsFault (shift c.args.at (tree_type (prim c.args.app.now.name c.args.app.now.annots (trees c.args.app.now.args)) (context c.args._place) (kinds c.args.types))) c.in_err-ends.field-0.0 =
    lambda_body _ _ _ _ _ _ _ c.requires.form _ _ _ c.in-Some.ensures _ _ c.in_ok-arrow.ensures _ _ _ g.0 g.1 c.behind.ensures c.behind-place.ensures _ c.in_err-ends.ensures.follows in
    search (rules, fault)

pub forms::tell_lambda-returns-in_err-made-clause-follows : goal.forms::tell_lambda-returns-in_err-made-clause-follows
forms::tell_lambda-returns-in_err-made-clause-follows t c =
    let g = c.in_ok-begins.ensures in
    let b = c.in_ok-ends.ensures.follows in
    let fault : IsFault (shift c.args.at (tree_type (prim c.args.app.now.name c.args.app.now.annots (trees c.args.app.now.args)) (context c.args._place) (kinds c.args.types))) c.in_err-made.field-0.0 =
    lambda_told _ _ _ _ _ _ _ c.requires.form _ _ _ c.in-Some.ensures _ _ c.in_ok-arrow.ensures _ _ _ g.0 g.1 c.behind.ensures c.behind-place.ensures _ b.0 _ _ b.1 c.in_ok-body.body c.in_ok-body.ensures (Err c.in_err-made.field-0.0) c.in_err-made.ensures in
    search (rules, fault)

pub forms::tell_lambda-returns-clause-follows : goal.forms::tell_lambda-returns-clause-follows
forms::tell_lambda-returns-clause-follows t c =
    let g = c.in_ok-begins.ensures in
    let b = c.in_ok-ends.ensures.follows in
    lambda_told _ _ _ _ _ _ _ c.requires.form _ _ _ c.in-Some.ensures _ _ c.in_ok-arrow.ensures _ _ _ g.0 g.1 c.behind.ensures c.behind-place.ensures _ b.0 _ _ b.1 c.in_ok-body.body c.in_ok-body.ensures (Ok c.in_ok-made.made) c.in_ok-made.ensures

pub forms::tell_lambda-returns-clause-ends : goal.forms::tell_lambda-returns-clause-ends
forms::tell_lambda-returns-clause-ends t c =
    let s = ap (λ ns. sizes (trees ns)) c.in-Some.ensures in
    let e = c.in_ok-ends.ensures.ends in
    let p = c.behind.ensures in
    let q = c.behind-place.ensures in
    omega (arith, s, e, p, q)

-- ---- PUSH

pub literals::tell_push-returns-in_err-ty : goal.literals::tell_push-returns-in_err-ty
literals::tell_push-returns-in_err-ty t c =
    let fault : IsFault (shift c.args.at (tree_type (prim c.args.app.now.name c.args.app.now.annots (trees c.args.app.now.args)) (context c.args._place) (kinds c.args.types))) c.in_err-ty.field-0.0 =
    push_type _ _ _ _ _ _ c.requires.form _ _ c.in-Some.ensures _ c.in_err-ty.ensures in
    search (rules, fault)

pub literals::tell_push-returns-in_err-pending : goal.literals::tell_push-returns-in_err-pending
literals::tell_push-returns-in_err-pending t c =
    let fault : IsFault (shift c.args.at (tree_type (prim c.args.app.now.name c.args.app.now.annots (trees c.args.app.now.args)) (context c.args._place) (kinds c.args.types))) c.in_err-pending.field-0.0 =
    push_literal _ _ _ _ _ _ c.requires.form _ _ c.in-Some.ensures _ _ c.in_ok-ty.ensures c.behind.ensures _ (as_read _ _ _ c.in_err-pending.ensures.read) in
    search (rules, fault)

pub literals::tell_push-returns-in_err-tell_pending : goal.literals::tell_push-returns-in_err-tell_pending
literals::tell_push-returns-in_err-tell_pending t c =
    let r = c.in_ok-pending.ensures.read in
    let fault : IsFault (shift c.args.at (tree_type (prim c.args.app.now.name c.args.app.now.annots (trees c.args.app.now.args)) (context c.args._place) (kinds c.args.types))) c.in_err-tell_pending.field-0.0 =
    push_body _ _ _ _ _ _ c.requires.form _ _ c.in-Some.ensures _ _ c.in_ok-ty.ensures c.behind.ensures r.0 _ r.1 _ (as_faulty (Unit {0}) (Unit {0}) _ [] c.args.told.now c.args.told.now _ c.in_err-tell_pending.ensures) in
    search (rules, fault)

pub literals::tell_push-returns : goal.literals::tell_push-returns
literals::tell_push-returns t c =
    let r = c.in_ok-pending.ensures.read in
    let m = c.in_ok-made.ensures in
    push_told _ _ _ _ _ _ c.requires.form _ _ c.in-Some.ensures _ _ c.in_ok-ty.ensures c.behind.ensures r.0 _ r.1 _ _ c.in_ok-tell_pending.ensures _ m.after

pub literals::tell_pending-returns-in_err-tell_item : goal.literals::tell_pending-returns-in_err-tell_item
literals::tell_pending-returns-in_err-tell_item t c =
    let v = c.loop-item.invariant in
    let fault : Confirms {A = Unit {0}} (moved c.args.at (fault_of_bodies (all_pending c.args.pending.now))) (pending_entries c.args.at (all_pending c.args.pending.now)) c.args.told.now c.tell_item.new.told (Err c.in_err-tell_item.field-0.0) =
    items_failed (Unit {0}) _ _ _ c.loop-item-test.true c.item-item.is _ _ [] [] c.args.told.now c.args.told.now c.args.told.now _ v.tried c.in_err-tell_item.ensures in
    search (rules, fault)

pub literals::tell_pending-loop-item-preserved : goal.literals::tell_pending-loop-item-preserved
literals::tell_pending-loop-item-preserved t c =
    let v = c.loop-item.invariant in
    record {
      tried = items_step _ _ _ c.loop-item-test.true c.item-item.is _ _ v.tried c.in_ok-tell_item.ensures.0;
      completes = items_told _ _ _ c.loop-item-test.true c.item-item.is _ _ _ _ _ v.completes c.in_ok-tell_item.ensures.1;
      sequences = (items_sequences _ _ _ c.loop-item-test.true c.item-item.is v.sequences).1;
      room = (items_room _ _ _ c.loop-item-test.true c.item-item.is _ v.room).1;
      sizes = (items_size _ _ _ c.loop-item-test.true c.item-item.is _ v.sizes).1;
    }

pub literals::tell_pending-returns : goal.literals::tell_pending-returns
literals::tell_pending-returns t c =
    let v = c.loop-item.invariant in
    (items_end _ _ _ _ c.loop-item-test.false v.tried, items_all _ _ _ _ _ _ c.loop-item-test.false v.completes)

pub literals::tell_item-returns-in-Body : goal.literals::tell_item-returns-in-Body
literals::tell_item-returns-in-Body t c =
    subst (λ (x : Item). Confirms (moved c.args.at (item_fault (pending x))) (pending_entries c.args.at (pending x ∷ [])) c.args.told.now c.tell_called.new.told c.tell_called.result) (sym c.in-Body.is)
    (item_told (Unit {0}) c.args.at c.in-Body.location (kind c.in-Body.arg) (kind c.in-Body.ret) c.in-Body.recursive (tree c.in-Body.node) c.args.told.now c.tell_called.new.told c.tell_called.result c.tell_called.ensures)

pub literals::tell_called-returns-in_err-after : goal.literals::tell_called-returns-in_err-after
literals::tell_called-returns-in_err-after t c =
    let fault : Confirms {A = Unit {0}} (called_fault c.args.at (kind c.args.arg.now) (kind c.args.ret.now) c.args.recursive (tree c.args.node.now)) (called_entries c.args.at (kind c.args.arg.now) (kind c.args.ret.now) c.args.recursive (tree c.args.node.now)) c.args.told.now c.tell_body.new.told (Err c.in_err-after.field-0.0) =
    called_failed _ _ _ _ _ c.requires.sequence _ c.in_ok-types.ensures (Unit {0}) [] c.args.told.now c.args.told.now _ c.in_err-after.ensures.follows in
    search (rules, fault)

pub literals::tell_called-returns : goal.literals::tell_called-returns
literals::tell_called-returns t c =
    called_good _ _ _ _ _ c.requires.sequence _ c.in_ok-types.ensures _ c.in_ok-after.ensures.follows.0 _ c.in_ok-ends.ensures _ _ c.in_ok-after.ensures.follows.1 (sym c.ends_in.ensures ∙ c.if-not-ends_in.false)

pub literals::tell_called-returns-then-not-ends_in : goal.literals::tell_called-returns-then-not-ends_in
literals::tell_called-returns-then-not-ends_in t c =
    called_other _ _ _ _ _ c.requires.sequence _ c.in_ok-types.ensures _ c.in_ok-after.ensures.follows.0 _ c.in_ok-ends.ensures (sym c.ends_in.ensures ∙ c.if-not-ends_in.true)

-- ---- scripts

pub scripts::tell_whole-returns-in_err-after : goal.scripts::tell_whole-returns-in_err-after
scripts::tell_whole-returns-in_err-after t c =
    let fault : Confirms {A = Unit {0}} (body_fault c.args.at (body (tree c.args.node.now) c.args.at (context c.args.place) (kind c.args.ends.begins ∷ [])) (kind c.args.ends.ends)) (block_entries (tree c.args.node.now) c.args.at (context c.args.place) (kind c.args.ends.begins ∷ [])) c.args.told.now c.tell_body.new.told (Err c.in_err-after.field-0.0) =
    whole_failed c.args.at (tree c.args.node.now) (context c.args.place) (kind c.args.ends.begins) (kind c.args.ends.ends) _ c.in_ok-begins.ensures (Unit {0}) [] c.args.told.now c.args.told.now _ c.in_err-after.ensures.follows in
    search (rules, fault)

pub scripts::tell_whole-returns : goal.scripts::tell_whole-returns
scripts::tell_whole-returns t c =
    whole_good _ _ _ _ _ _ c.in_ok-begins.ensures _ c.in_ok-after.ensures.follows.0 _ c.in_ok-last.ensures _ _ c.in_ok-after.ensures.follows.1 (sym c.ends_in.ensures ∙ c.if-not-ends_in.false)

pub scripts::tell_whole-returns-then-not-ends_in : goal.scripts::tell_whole-returns-then-not-ends_in
scripts::tell_whole-returns-then-not-ends_in t c =
    whole_other c.args.at (tree c.args.node.now) (context c.args.place) (kind c.args.ends.begins) (kind c.args.ends.ends) _ c.in_ok-begins.ensures _ c.in_ok-after.ensures.follows.0 _ c.in_ok-last.ensures (sym c.ends_in.ensures ∙ c.if-not-ends_in.true)

pub scripts::tell_code-returns-in_err-ends : goal.scripts::tell_code-returns-in_err-ends
scripts::tell_code-returns-in_err-ends t c =
    let o = c.args.outline.now in
    let fault : Confirms {A = Unit {0}} (moved c.args.at (code_fault (outline_of o))) (code_entries c.args.at (outline_of o)) c.args.told.now c.args.told.now (Err c.in_err-ends.field-0.0) =
    too_large c.args.at o.code.at (tree o.code.node.now) _ (main (outline_of o).entries) _ _ (Unit {0}) [] c.args.told.now c.args.told.now _ c.in_err-ends.ensures in
    search (rules, fault)

pub scripts::tell_code-returns : goal.scripts::tell_code-returns
scripts::tell_code-returns t c =
    let o = c.args.outline.now in
    let e = c.in_ok-ends.ensures in
    body_told c.args.at o.code.at (tree o.code.node.now) _ (main (outline_of o).entries) _ _ _ _ e.0 e.1 e.2 _ _ _ c.tell_whole.ensures

pub scripts::tell_view-returns-in_err-ends : goal.scripts::tell_view-returns-in_err-ends
scripts::tell_view-returns-in_err-ends t c =
    let v = c.args.view.now in
    let s = kind c.args.storage.now in
    let fault : Confirms {A = Unit {0}} (moved c.args.at (view_fault s (view_of v))) (views_entries c.args.at s (view_of v ∷ [])) c.args.told.now c.args.told.now (Err c.in_err-ends.field-0.0) =
    too_large c.args.at v.body.at (tree v.body.node.now) _ view _ _ (Unit {0}) [] c.args.told.now c.args.told.now _ c.in_err-ends.ensures in
    search (rules, fault)

pub scripts::tell_view-returns : goal.scripts::tell_view-returns
scripts::tell_view-returns t c =
    let v = c.args.view.now in
    let e = c.in_ok-ends.ensures in
    view_told c.args.at v.body.at (tree v.body.node.now) _ view _ _ _ _ e.0 e.1 e.2 _ _ _ c.tell_whole.ensures

pub scripts::tell_views-tell_view-requires : goal.scripts::tell_views-tell_view-requires
scripts::tell_views-tell_view-requires t c =
    let v = c.loop-view.invariant in
    let r = views_room (kind c.args.storage.now) _ _ _ c.loop-view-test.true c.view-item.is _ v.room in
    let s = views_size (kind c.args.storage.now) _ _ _ c.loop-view-test.true c.view-item.is _ v.sizes in
    let r0 = r.0 in
    let s0 = s.0 in
    (omega (arith, s0, c.decreases), omega (arith, r0, c.requires))

pub scripts::tell_views-returns-in_err-tell_view : goal.scripts::tell_views-returns-in_err-tell_view
scripts::tell_views-returns-in_err-tell_view t c =
    let v = c.loop-view.invariant in
    let s = kind c.args.storage.now in
    let fault : Confirms {A = Unit {0}} (moved c.args.at (views_fault s (map view_of c.args.views.now))) (views_entries c.args.at s (map view_of c.args.views.now)) c.args.told.now c.tell_view.new.told (Err c.in_err-tell_view.field-0.0) =
    views_failed s _ _ _ c.loop-view-test.true c.view-item.is (Unit {0}) _ _ [] [] c.args.told.now c.args.told.now c.args.told.now _ v.tried c.in_err-tell_view.ensures in
    search (rules, fault)

pub scripts::tell_views-loop-view-preserved : goal.scripts::tell_views-loop-view-preserved
scripts::tell_views-loop-view-preserved t c =
    let v = c.loop-view.invariant in
    let s = kind c.args.storage.now in
    record {
      tried = views_step s _ _ _ c.loop-view-test.true c.view-item.is _ _ v.tried c.in_ok-tell_view.ensures.0;
      completes = views_told s _ _ _ c.loop-view-test.true c.view-item.is _ _ _ _ _ v.completes c.in_ok-tell_view.ensures.1;
      room = (views_room s _ _ _ c.loop-view-test.true c.view-item.is _ v.room).1;
      sizes = (views_size s _ _ _ c.loop-view-test.true c.view-item.is _ v.sizes).1;
    }

pub scripts::tell_views-returns : goal.scripts::tell_views-returns
scripts::tell_views-returns t c =
    let v = c.loop-view.invariant in
    let s = kind c.args.storage.now in
    (views_end s _ _ c.loop-view-test.false _ _ v.tried, views_all s _ _ c.loop-view-test.false _ _ _ _ v.completes)

pub scripts::tell_script-tell_code-requires : goal.scripts::tell_script-tell_code-requires
scripts::tell_script-tell_code-requires t c =
    let o = c.in_ok-outline.outline in
    let h : size (tree o.code.node.now) < size (tree c.args.node.now) = code_size 0 (tree c.args.node.now) (outline_of o) (outline_zero (tree c.args.node.now) ∙ c.in_ok-outline.ensures) in
    let w = (bodies_within (tree c.args.node.now) o c.in_ok-outline.ensures).0 in
    (omega (arith, h, c.decreases), omega (arith, w, c.requires))

pub scripts::tell_script-tell_views-requires : goal.scripts::tell_script-tell_views-requires
scripts::tell_script-tell_views-requires t c =
    let o = c.in_ok-outline.outline in
    let h : largest_of o.views < size (tree c.args.node.now) = views_largest 0 (tree c.args.node.now) o (outline_zero (tree c.args.node.now) ∙ c.in_ok-outline.ensures) in
    let w = (bodies_within (tree c.args.node.now) o c.in_ok-outline.ensures).1 in
    (omega (arith, h, c.decreases), omega (arith, w, c.requires))

pub scripts::tell_script-returns-in_err-outline : goal.scripts::tell_script-returns-in_err-outline
scripts::tell_script-returns-in_err-outline t c =
    let fault : IsScript c.args.at (script (tree c.args.node.now)) (script_entries c.args.at (tree c.args.node.now)) c.args.told.now c.args.told.now (Err c.in_err-outline.field-0.0) =
    no_outline c.args.at (tree c.args.node.now) [] c.args.told.now c.args.told.now _ c.in_err-outline.ensures in
    search (rules, fault)

pub scripts::tell_script-returns-in_err-tell_code : goal.scripts::tell_script-returns-in_err-tell_code
scripts::tell_script-returns-in_err-tell_code t c =
    let fault : IsScript c.args.at (script (tree c.args.node.now)) (script_entries c.args.at (tree c.args.node.now)) c.args.told.now c.tell_code.new.told (Err c.in_err-tell_code.field-0.0) =
    code_failed c.args.at (tree c.args.node.now) (outline_of c.in_ok-outline.outline) c.in_ok-outline.ensures (Unit {0}) [] [] c.args.told.now c.args.told.now c.args.told.now _ c.in_err-tell_code.ensures in
    search (rules, fault)

pub scripts::tell_script-returns-in_err-tell_views : goal.scripts::tell_script-returns-in_err-tell_views
scripts::tell_script-returns-in_err-tell_views t c =
    let fault : IsScript c.args.at (script (tree c.args.node.now)) (script_entries c.args.at (tree c.args.node.now)) c.args.told.now c.tell_views.new.told (Err c.in_err-tell_views.field-0.0) =
    script_views_failed c.args.at (tree c.args.node.now) (outline_of c.in_ok-outline.outline) c.in_ok-outline.ensures c.in_ok-tell_code.ensures.0 (Unit {0}) [] [] c.args.told.now c.args.told.now c.args.told.now _ c.in_err-tell_views.ensures in
    search (rules, fault)

pub scripts::tell_script-returns : goal.scripts::tell_script-returns
scripts::tell_script-returns t c =
    script_told c.args.at (tree c.args.node.now) (outline_of c.in_ok-outline.outline) c.in_ok-outline.ensures c.in_ok-tell_code.ensures.0 _ _ _ c.in_ok-tell_code.ensures.1 c.in_ok-tell_views.ensures.0 c.in_ok-tell_views.ensures.1 c.in_ok-outline.outline.storage refl

-- ---- CREATE_CONTRACT

pub create::tell_create-returns-in_err-storage : goal.create::tell_create-returns-in_err-storage
create::tell_create-returns-in_err-storage t c =
    let v = sym c.is_view.ensures ∙ c.if-is_view.false in
    let fault : IsFault (shift c.args.at (tree_type (prim c.args.app.now.name c.args.app.now.annots (trees c.args.app.now.args)) (context c.args.place) (kinds c.args.types))) c.in_err-storage.field-0.0 =
    create_failed c.args.at (context c.args.place) c.args.app.now.name c.args.app.now.annots c.args.app.now.args (kinds c.args.types) c.requires.form v _ c.in-Some.ensures _ c.in-Some-origination.ensures [] c.args.told.now c.args.told.now _ c.in_err-storage.ensures in
    search (rules, fault)

pub create::tell_create-returns-in_err-after : goal.create::tell_create-returns-in_err-after
create::tell_create-returns-in_err-after t c =
    let v = sym c.is_view.ensures ∙ c.if-is_view.false in
    let s = c.in_ok-storage.ensures.0 in
    let fault : IsFault (shift c.args.at (tree_type (prim c.args.app.now.name c.args.app.now.annots (trees c.args.app.now.args)) (context c.args.place) (kinds c.args.types))) c.in_err-after.field-0.0 =
    create_other c.args.at (context c.args.place) c.args.app.now.name c.args.app.now.annots c.args.app.now.args (kinds c.args.types) c.requires.form v _ c.in-Some.ensures _ c.in-Some-origination.ensures s.0 s.1 _ s.2 _ c.in_err-after.ensures in
    search (rules, fault)

pub create::tell_create-returns : goal.create::tell_create-returns
create::tell_create-returns t c =
    let v = sym c.is_view.ensures ∙ c.if-is_view.false in
    let s = c.in_ok-storage.ensures.0 in
    create_told c.args.at (context c.args.place) c.args.app.now.name c.args.app.now.annots c.args.app.now.args (kinds c.args.types) c.requires.form v _ c.in-Some.ensures _ c.in-Some-origination.ensures s.0 s.1 _ s.2 _ _ c.in_ok-storage.ensures.1 c.in_ok-after.after c.in_ok-after.ensures
