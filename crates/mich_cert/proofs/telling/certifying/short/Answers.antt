use Rattle.mich_base.specs.View.{tree}
use Rattle.mich_cert.proofs.telling_lemmas.Certified.{short_line, other_line}
use Rattle.mich_cert.proofs.telling.certifying.short.Goals as goal

pub returns-in-Ok : goal.returns-in-Ok
returns-in-Ok c = short_line (tree c.args.node) _ c.in-Ok.ensures

pub returns-in-Err-Long : goal.returns-in-Err-Long
returns-in-Err-Long c = other_line (tree c.args.node) (rw c.in-Err-Long.field-0-is at c.in-Err-Long.ensures)
