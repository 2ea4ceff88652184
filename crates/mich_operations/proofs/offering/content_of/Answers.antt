use Rattle.mich_base.specs.TypeView.{kind}
use Rattle.mich_base.specs.View.{tree}
use Rattle.mich_data.specs.View.{all_pending}
use Rattle.mich_term.specs.ValueView.{val}
use Rattle.mich_operations.proofs.Offers.{content_found}
use Rattle.mich_operations.proofs.offering.content_of.Goals as goal

pub returns-in_ok-datum-in-Ok : goal.returns-in_ok-datum-in-Ok
returns-in_ok-datum-in-Ok c =
    content_found (kind c.args.ty.now) (tree c.args.node.now) (val c.in-Ok.found.value) (all_pending c.in-Ok.found.pending) _
    c.requires.comparable c.requires.small c.in-Ok.ensures.literal c.in_ok-datum-in-Ok.ensures.comparable c.in_ok-datum-in-Ok.ensures.value
