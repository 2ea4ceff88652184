use Rattle.std.proofs.Common.{◌≡◌, None, rules}
use Rattle.mich_base.specs.View.{tree}
use Rattle.mich_operations.proofs.Offers.{contentless, spelled_so}
use Rattle.mich_operations.proofs.offering.spelled_id.Goals as goal

pub returns-in_default-2 : goal.returns-in_default-2
returns-in_default-2 c = λ n.
    let none : c.in_ok-content.field-0 ≡ None = search rules in
    contentless c.args.issuer.now (tree c.args.ty.now) (tree c.args.literal.now) c.in-Some.ty n c.in_ok-ty.field-0 c.in_ok-ty.ensures c.in-Some.is
    c.in_ok-content.field-0 c.in_ok-content.ensures none

pub returns : goal.returns
returns c = λ n.
    spelled_so c.args.issuer.now (tree c.args.ty.now) (tree c.args.literal.now) c.in-Some.ty n c.in_ok-ty.field-0 c.in_ok-ty.ensures c.in-Some.is
    c.in_ok-content.field-0 c.in_ok-content.ensures c.in-Some-2.content c.in-Some-2.is
