use Rattle.std.proofs.Common.{◌≡◌, Bool, ap, ◌∙◌, subst}
use Rattle.std.specs.Prelude.{IfOk}
use Rattle.mich_base.specs.TypeView.{kind}
use Rattle.mich_snapshot.specs.Leaves.{is_leaf}
use Rattle.mich_snapshot.proofs.Leaves.{bytes_leaf}
use Rattle.mich_snapshot.proofs.forms.bytes_fit.Goals as goal

pub returns : goal.returns
returns c =
    let a = kind c.args.ty.now in
    subst (λ (x : Bool). IfOk c.is_literal.result (λ b. b ≡ x)) (ap (is_leaf a) c.in_ok-node.ensures ∙ bytes_leaf a c.args.bytes.now) c.is_literal.ensures
