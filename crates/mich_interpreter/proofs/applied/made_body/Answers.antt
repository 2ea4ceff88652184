use Rattle.std.proofs.Common.{sym, subst, false}
use Rattle.rules_text.specs.nodes.Tree.{Tree}
use Rattle.mich_base.specs.TypeView.{kind}
use Rattle.mich_base.specs.View.{tree}
use Rattle.mich_base.specs.declared.node.Node.{Node}
use Rattle.mich_instr.specs.Body.{IsBody}
use Rattle.mich_term.specs.ValueView.{val}
use Rattle.mich_interpreter.specs.Applied.{Captures}
use Rattle.mich_interpreter.proofs.applied.made_body.Goals as goal

pub applied_code-requires : goal.applied_code-requires
applied_code-requires c =
    let a = kind c.args.captured.now in
    let b = kind c.args.rest.now in
    let r = kind c.args.ret.now in
    subst (λ (t : Tree). Captures a b r (val c.args.value.now) t (tree c.args.body.now) c.args.recursive (tree c.args.made)) (sym c.in_ok-literal.ensures) c.requires

pub typed_body-requires : goal.typed_body-requires
typed_body-requires c =
    subst (λ (n : Node). IsBody c.args.rest.now c.args.ret.now false n c.in-Some.code) (sym c.in_ok-node.ensures) (rw c.in-Some.is at c.in_ok-found.ensures)
