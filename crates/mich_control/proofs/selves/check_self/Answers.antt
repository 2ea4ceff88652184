use Rattle.std.proofs.Common.{rules}
use Rattle.rules_text.specs.nodes.Tree.{prim}
use Rattle.rules_code.specs.typing.Typing.{shift}
use Rattle.rules_code.specs.typing.Nodes.{tree_type}
use Rattle.mich_base.specs.View.{trees}
use Rattle.mich_overload.specs.View.{kinds}
use Rattle.mich_control.specs.View.{context}
use Rattle.mich_control.specs.Answers.{IsFault}
use Rattle.mich_control.proofs.SelfTyping.{self_unnamed, self_made}
use Rattle.mich_control.proofs.Views.{code_self}
use Rattle.mich_control.proofs.selves.check_self.Goals as goal

pub returns-in_err-entrypoint : goal.returns-in_err-entrypoint
returns-in_err-entrypoint c =
    let fault : IsFault (shift c.args.at (tree_type (prim c.args.app.now.name c.args.app.now.annots (trees c.args.app.now.args)) (context c.args.place) (kinds c.args.types))) c.in_err-entrypoint.field-0.0 =
    self_unnamed _ _ _ _ _ _ c.requires _ c.in_err-entrypoint.ensures in
    search (rules, fault)

pub returns : goal.returns
returns c =
    self_made _ _ _ _ _ _ c.requires _ c.in_ok-entrypoint.ensures _ _ c.in-Some.ensures c.in_ok-ty.ensures c.in_ok-after.after _ _ c.in_ok-after.ensures c.in_ok-annots.ensures (code_self _ _)
