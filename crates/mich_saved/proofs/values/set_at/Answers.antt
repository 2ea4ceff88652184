use Rattle.mich_base.specs.TypeView.{kind}
use Rattle.mich_saved.specs.Results.{spot}
use Rattle.mich_saved.proofs.Nothings.{alike_set_told}
use Rattle.mich_saved.proofs.values.set_at.Goals as goal

pub returns-then-takes_nothing-clause-kept : goal.returns-then-takes_nothing-clause-kept
returns-then-takes_nothing-clause-kept c =
    alike_set_told (kind c.args.part.now) (spot c.args.cursor) (spot c.in_ok-count.after) c.in_ok-count.count c.takes_nothing.result c.takes_nothing.ensures
    c.if-takes_nothing.true c.if-count-gt1.true c.in_ok-count.ensures
