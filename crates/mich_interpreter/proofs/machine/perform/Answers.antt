use Rattle.std.proofs.Common.{ap, ◌∙◌}
use Rattle.mich_base.specs.View.{tree, trees}
use Rattle.mich_instr.specs.View.{code}
use Rattle.mich_base.specs.View.{app_tree}
use Rattle.mich_interpreter.proofs.Codes.{code_if, code_if_none, code_if_left, code_if_cons, code_loop, code_loop_left, code_iter, code_map, code_dip, code_exec, code_apply, code_create, code_failwith, code_lambda, code_never, code_push, code_self, code_straight}
use Rattle.mich_interpreter.proofs.machine.perform.Goals as goal

pub act_dip-requires : goal.act_dip-requires
act_dip-requires c =
    let r = c.requires.comes in
    (trees c.in-Dip.written, (r.0, r.1, r.2, r.3, r.4, rw (ap code c.in-Dip.is ∙ code_dip c.in-Dip.count c.in-Dip.written c.in-Dip.body) at r.5))

pub returns-in_ok-act_dip-in-Dip-clause-acts : goal.returns-in_ok-act_dip-in-Dip-clause-acts
returns-in_ok-act_dip-in-Dip-clause-acts c = λ x fs d Z o h w.
    c.in_ok-act_dip-in-Dip.ensures.acts (trees c.in-Dip.written) x fs d Z o (rw (ap code c.in-Dip.is ∙ code_dip c.in-Dip.count c.in-Dip.written c.in-Dip.body) at h)

pub act_lambda-requires : goal.act_lambda-requires
act_lambda-requires c =
    let r = c.requires.comes in
    let l = c.in-Lambda in
    (trees l.written, (r.0, r.1, r.2, r.3, r.4, rw (ap code l.is ∙ code_lambda l.recursive l.arg l.ret l.written l.body l.code) at r.5))

pub returns-in_ok-act_lambda-in-Lambda-clause-acts : goal.returns-in_ok-act_lambda-in-Lambda-clause-acts
returns-in_ok-act_lambda-in-Lambda-clause-acts c = λ x fs d Z o h w.
    let l = c.in-Lambda in
    c.in_ok-act_lambda-in-Lambda.ensures.acts (trees l.written) x fs d Z o (rw (ap code l.is ∙ code_lambda l.recursive l.arg l.ret l.written l.body l.code) at h)

pub act_straight-requires : goal.act_straight-requires
act_straight-requires c =
    let r = c.requires.comes in
    let s = c.in-Straight in
    (app_tree s.field-1, (r.0, r.1, r.2, r.3, r.4, rw (ap code s.is ∙ code_straight s.simple s.field-1) at r.5, r.6))

pub returns-in_ok-act_straight-in-Straight-clause-acts : goal.returns-in_ok-act_straight-in-Straight-clause-acts
returns-in_ok-act_straight-in-Straight-clause-acts c = λ x fs d Z o h w.
    let s = c.in-Straight in
    c.in_ok-act_straight-in-Straight.ensures.acts (app_tree s.field-1) x fs d Z o (rw (ap code s.is ∙ code_straight s.simple s.field-1) at h) w

pub act_push-requires : goal.act_push-requires
act_push-requires c =
    let r = c.requires.comes in
    let p = c.in-Push in
    (tree p.written, (r.0, r.1, r.2, r.3, r.4, rw (ap code p.is ∙ code_push p.ty p.written p.literal p.lambdas) at r.5))

pub returns-in_ok-act_push-in-Push-clause-acts : goal.returns-in_ok-act_push-in-Push-clause-acts
returns-in_ok-act_push-in-Push-clause-acts c = λ x fs d Z o h w.
    let p = c.in-Push in
    c.in_ok-act_push-in-Push.ensures.acts (tree p.written) x fs d Z o (rw (ap code p.is ∙ code_push p.ty p.written p.literal p.lambdas) at h)

pub act_self-requires : goal.act_self-requires
act_self-requires c =
    let r = c.requires.comes in
    let s = c.in-SelfContract in
    (s.annots, (r.0, r.1, r.2, r.3, r.4, rw (ap code s.is ∙ code_self s.entrypoint s.annots) at r.5))

pub returns-in_ok-act_self-in-SelfContract-clause-acts : goal.returns-in_ok-act_self-in-SelfContract-clause-acts
returns-in_ok-act_self-in-SelfContract-clause-acts c = λ x fs d Z o h w.
    let s = c.in-SelfContract in
    c.in_ok-act_self-in-SelfContract.ensures.acts s.annots x fs d Z o (rw (ap code s.is ∙ code_self s.entrypoint s.annots) at h)

pub act_if-requires : goal.act_if-requires
act_if-requires c =
    let r = c.requires.comes in
    (r.0, r.1, r.2, r.3, r.4, rw (ap code c.in-If.is ∙ code_if c.in-If.first c.in-If.second) at r.5)

pub returns-in_ok-act_if-in-If-clause-acts : goal.returns-in_ok-act_if-in-If-clause-acts
returns-in_ok-act_if-in-If-clause-acts c = λ x fs d Z o h w.
    c.in_ok-act_if-in-If.ensures.acts x fs d Z o (rw (ap code c.in-If.is ∙ code_if c.in-If.first c.in-If.second) at h)

pub act_if_none-requires : goal.act_if_none-requires
act_if_none-requires c =
    let r = c.requires.comes in
    (r.0, r.1, r.2, r.3, r.4, rw (ap code c.in-IfNone.is ∙ code_if_none c.in-IfNone.first c.in-IfNone.second) at r.5)

pub returns-in_ok-act_if_none-in-IfNone-clause-acts : goal.returns-in_ok-act_if_none-in-IfNone-clause-acts
returns-in_ok-act_if_none-in-IfNone-clause-acts c = λ x fs d Z o h w.
    c.in_ok-act_if_none-in-IfNone.ensures.acts x fs d Z o (rw (ap code c.in-IfNone.is ∙ code_if_none c.in-IfNone.first c.in-IfNone.second) at h)

pub act_if_left-requires : goal.act_if_left-requires
act_if_left-requires c =
    let r = c.requires.comes in
    (r.0, r.1, r.2, r.3, r.4, rw (ap code c.in-IfLeft.is ∙ code_if_left c.in-IfLeft.first c.in-IfLeft.second) at r.5)

pub returns-in_ok-act_if_left-in-IfLeft-clause-acts : goal.returns-in_ok-act_if_left-in-IfLeft-clause-acts
returns-in_ok-act_if_left-in-IfLeft-clause-acts c = λ x fs d Z o h w.
    c.in_ok-act_if_left-in-IfLeft.ensures.acts x fs d Z o (rw (ap code c.in-IfLeft.is ∙ code_if_left c.in-IfLeft.first c.in-IfLeft.second) at h)

pub act_if_cons-requires : goal.act_if_cons-requires
act_if_cons-requires c =
    let r = c.requires.comes in
    (r.0, r.1, r.2, r.3, r.4, rw (ap code c.in-IfCons.is ∙ code_if_cons c.in-IfCons.first c.in-IfCons.second) at r.5)

pub returns-in_ok-act_if_cons-in-IfCons-clause-acts : goal.returns-in_ok-act_if_cons-in-IfCons-clause-acts
returns-in_ok-act_if_cons-in-IfCons-clause-acts c = λ x fs d Z o h w.
    c.in_ok-act_if_cons-in-IfCons.ensures.acts x fs d Z o (rw (ap code c.in-IfCons.is ∙ code_if_cons c.in-IfCons.first c.in-IfCons.second) at h)

pub act_loop-requires : goal.act_loop-requires
act_loop-requires c =
    let r = c.requires.comes in
    (r.0, r.1, r.2, r.3, r.4, rw (ap code c.in-Loop.is ∙ code_loop c.in-Loop.body) at r.5)

pub returns-in_ok-act_loop-in-Loop-clause-acts : goal.returns-in_ok-act_loop-in-Loop-clause-acts
returns-in_ok-act_loop-in-Loop-clause-acts c = λ x fs d Z o h w.
    c.in_ok-act_loop-in-Loop.ensures.acts x fs d Z o (rw (ap code c.in-Loop.is ∙ code_loop c.in-Loop.body) at h)

pub act_loop_left-requires : goal.act_loop_left-requires
act_loop_left-requires c =
    let r = c.requires.comes in
    (r.0, r.1, r.2, r.3, r.4, rw (ap code c.in-LoopLeft.is ∙ code_loop_left c.in-LoopLeft.body) at r.5)

pub returns-in_ok-act_loop_left-in-LoopLeft-clause-acts : goal.returns-in_ok-act_loop_left-in-LoopLeft-clause-acts
returns-in_ok-act_loop_left-in-LoopLeft-clause-acts c = λ x fs d Z o h w.
    c.in_ok-act_loop_left-in-LoopLeft.ensures.acts x fs d Z o (rw (ap code c.in-LoopLeft.is ∙ code_loop_left c.in-LoopLeft.body) at h)

pub act_iter-requires : goal.act_iter-requires
act_iter-requires c =
    let r = c.requires.comes in
    (r.0, r.1, r.2, r.3, r.4, rw (ap code c.in-Iter.is ∙ code_iter c.in-Iter.body) at r.5)

pub returns-in_ok-act_iter-in-Iter-clause-acts : goal.returns-in_ok-act_iter-in-Iter-clause-acts
returns-in_ok-act_iter-in-Iter-clause-acts c = λ x fs d Z o h w.
    c.in_ok-act_iter-in-Iter.ensures.acts x fs d Z o (rw (ap code c.in-Iter.is ∙ code_iter c.in-Iter.body) at h)

pub act_map-requires : goal.act_map-requires
act_map-requires c =
    let r = c.requires.comes in
    (r.0, r.1, r.2, r.3, r.4, rw (ap code c.in-Map.is ∙ code_map c.in-Map.body) at r.5)

pub returns-in_ok-act_map-in-Map-clause-acts : goal.returns-in_ok-act_map-in-Map-clause-acts
returns-in_ok-act_map-in-Map-clause-acts c = λ x fs d Z o h w.
    c.in_ok-act_map-in-Map.ensures.acts x fs d Z o (rw (ap code c.in-Map.is ∙ code_map c.in-Map.body) at h)

pub act_failwith-requires : goal.act_failwith-requires
act_failwith-requires c =
    let r = c.requires.comes in
    (r.0, r.1, r.2, r.3, r.4, rw (ap code c.in-Failwith.is ∙ code_failwith c.in-Failwith.ty) at r.5)

pub returns-in_ok-act_failwith-in-Failwith-clause-acts : goal.returns-in_ok-act_failwith-in-Failwith-clause-acts
returns-in_ok-act_failwith-in-Failwith-clause-acts c = λ x fs d Z o h w.
    c.in_ok-act_failwith-in-Failwith.ensures.acts x fs d Z o (rw (ap code c.in-Failwith.is ∙ code_failwith c.in-Failwith.ty) at h)

pub act_never-requires : goal.act_never-requires
act_never-requires c =
    let r = c.requires.comes in
    (r.0, r.1, r.2, r.3, r.4, rw (ap code c.in-Never.is ∙ code_never) at r.5)

pub returns-in_ok-act_never-in-Never-clause-acts : goal.returns-in_ok-act_never-in-Never-clause-acts
returns-in_ok-act_never-in-Never-clause-acts c = λ x fs d Z o h w.
    c.in_ok-act_never-in-Never.ensures.acts x fs d Z o (rw (ap code c.in-Never.is ∙ code_never) at h)

pub act_exec-requires : goal.act_exec-requires
act_exec-requires c =
    let r = c.requires.comes in
    (r.0, r.1, r.2, r.3, r.4, rw (ap code c.in-Exec.is ∙ code_exec c.in-Exec.arg c.in-Exec.ret) at r.5)

pub returns-in_ok-act_exec-in-Exec-clause-acts : goal.returns-in_ok-act_exec-in-Exec-clause-acts
returns-in_ok-act_exec-in-Exec-clause-acts c = λ x fs d Z o h w.
    c.in_ok-act_exec-in-Exec.ensures.acts x fs d Z o (rw (ap code c.in-Exec.is ∙ code_exec c.in-Exec.arg c.in-Exec.ret) at h)

pub act_apply-requires : goal.act_apply-requires
act_apply-requires c =
    let r = c.requires.comes in
    let a = c.in-Apply in
    (r.0, r.1, r.2, r.3, r.4, rw (ap code a.is ∙ code_apply a.captured a.rest a.ret) at r.5)

pub returns-in_ok-act_apply-in-Apply-clause-acts : goal.returns-in_ok-act_apply-in-Apply-clause-acts
returns-in_ok-act_apply-in-Apply-clause-acts c = λ x fs d Z o h w.
    let a = c.in-Apply in
    c.in_ok-act_apply-in-Apply.ensures.acts x fs d Z o (rw (ap code a.is ∙ code_apply a.captured a.rest a.ret) at h)

pub act_create-requires : goal.act_create-requires
act_create-requires c =
    let r = c.requires.comes in
    (r.0, r.1, r.2, r.3, r.4, rw (ap code c.in-CreateContract.is ∙ code_create c.in-CreateContract.script) at r.5)

pub returns-in_ok-act_create-in-CreateContract-clause-acts : goal.returns-in_ok-act_create-in-CreateContract-clause-acts
returns-in_ok-act_create-in-CreateContract-clause-acts c = λ x fs d Z o h w.
    c.in_ok-act_create-in-CreateContract.ensures.acts x fs d Z o (rw (ap code c.in-CreateContract.is ∙ code_create c.in-CreateContract.script) at h)
