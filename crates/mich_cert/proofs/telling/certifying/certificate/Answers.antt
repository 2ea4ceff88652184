use Rattle.mich_base.specs.View.{tree}
use Rattle.mich_cert.proofs.telling_lemmas.Certified.{deep_answer, long_answer, line_answer}
use Rattle.mich_cert.proofs.telling.certifying.certificate.Goals as goal

pub returns-in-Some : goal.returns-in-Some
returns-in-Some c es i = deep_answer (tree c.args.node.now) _ es i c.in-Some.location c.in-Some.is

pub returns-in_default-line : goal.returns-in_default-line
returns-in_default-line c es i = long_answer (tree c.args.node.now) _ es i c.in_default.is c.in_default-line.is

pub returns : goal.returns
returns c es i = line_answer (tree c.args.node.now) _ es i c.in_default.is c.in-Some-line.line c.in-Some-line.is _ (rw c.in-Some-line.is at c.in_ok-whole.ensures) _ c.short.ensures
