use Rattle.std.proofs.Common.{subst}
use Rattle.rules_text.specs.nodes.Tree.{Tree}
use Rattle.rules_code.specs.instructions.Straight.{on_operations}
use Rattle.mich_instr.specs.Code as made
use Rattle.mich_overload.specs.View.{operation_row}
use Rattle.mich_overload.specs.declared.simple.OperationRow.{OperationRow}
use Rattle.mich_interpreter.specs.Ends.{Comes, ComesIn, Meets}
use Rattle.mich_interpreter.proofs.issuing.act_operation.Goals as goal

pub act_transfer-requires : goal.act_transfer-requires
act_transfer-requires c =
    let r = c.requires.comes.1 in
    subst (λ (row : OperationRow). (app : Tree) × Comes (made.straight (on_operations (operation_row row)) app) c.args.costs.now c.args.m.now)
    c.in-TransferTokens.is (c.requires.comes.0, (r.0, r.1, r.2, r.3, r.4, r.5))

pub act_emit-requires : goal.act_emit-requires
act_emit-requires c =
    let r = c.requires.comes.1 in
    subst (λ (row : OperationRow). (app : Tree) × Comes (made.straight (on_operations (operation_row row)) app) c.args.costs.now c.args.m.now)
    c.in-Emit.is (c.requires.comes.0, (r.0, r.1, r.2, r.3, r.4, r.5))

pub returns-in_ok-act_transfer-in-TransferTokens-clause-acts : goal.returns-in_ok-act_transfer-in-TransferTokens-clause-acts
returns-in_ok-act_transfer-in-TransferTokens-clause-acts c = λ app x fs d Z o h w.
    c.in_ok-act_transfer-in-TransferTokens.ensures.acts app x fs d Z o
    (subst (λ (row : OperationRow). Meets (made.straight (on_operations (operation_row row)) app) x c.args.costs.now c.args.m.now fs d Z o) c.in-TransferTokens.is h)

pub returns-in_ok-act_emit-in-Emit-clause-acts : goal.returns-in_ok-act_emit-in-Emit-clause-acts
returns-in_ok-act_emit-in-Emit-clause-acts c = λ app x fs d Z o h w.
    c.in_ok-act_emit-in-Emit.ensures.acts app x fs d Z o
    (subst (λ (row : OperationRow). Meets (made.straight (on_operations (operation_row row)) app) x c.args.costs.now c.args.m.now fs d Z o) c.in-Emit.is h)

pub act_contract-requires : goal.act_contract-requires
act_contract-requires c =
    subst (λ (row : OperationRow). (app : Tree) × ComesIn c.args.world.now (made.straight (on_operations (operation_row row)) app) c.args.costs.now c.args.m.now)
    c.in-Contract.is c.requires.comes

pub returns-in_ok-act_contract-in-Contract-clause-acts : goal.returns-in_ok-act_contract-in-Contract-clause-acts
returns-in_ok-act_contract-in-Contract-clause-acts c = λ app x fs d Z o h w.
    c.in_ok-act_contract-in-Contract.ensures.acts app x fs d Z o
    (subst (λ (row : OperationRow). Meets (made.straight (on_operations (operation_row row)) app) x c.args.costs.now c.args.m.now fs d Z o) c.in-Contract.is h) w

pub act_view-requires : goal.act_view-requires
act_view-requires c =
    subst (λ (row : OperationRow). (app : Tree) × ComesIn c.args.world.now (made.straight (on_operations (operation_row row)) app) c.args.costs.now c.args.m.now)
    c.in-View.is c.requires.comes

pub returns-in_ok-act_view-in-View-clause-acts : goal.returns-in_ok-act_view-in-View-clause-acts
returns-in_ok-act_view-in-View-clause-acts c = λ app x fs d Z o h w.
    c.in_ok-act_view-in-View.ensures.acts app x fs d Z o
    (subst (λ (row : OperationRow). Meets (made.straight (on_operations (operation_row row)) app) x c.args.costs.now c.args.m.now fs d Z o) c.in-View.is h) w
