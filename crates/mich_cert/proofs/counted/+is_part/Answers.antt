use Rattle.std.proofs.Common.{sym, ◌∙◌}
use Rattle.mich_base.specs.TypeView.{kind}
use Rattle.mich_cert.proofs.Counts.{part_step}
use Rattle.mich_cert.proofs.counted.+is_part.Goals as goal

pub returns : goal.returns
returns t c =
    c.is_part.ensures
    ∙ sym (part_step c.args.n (kind c.args.comb.now) (kind c.in-Some.first.now) (kind c.in-Some.second.now) (kind c.args.part.now) c.if-n-eq0.false c.if-n-eq1.false c.in-Some.ensures)
