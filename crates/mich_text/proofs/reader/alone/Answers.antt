use Rattle.std.proofs.Common.{Ok, subst, ap, ◌∙◌}
use Rattle.mich_text.specs.Results.{IsRead}
use Rattle.mich_text.proofs.limits.Alone.{found_closed, found_open, end_none}
use Rattle.mich_text.proofs.reader.alone.Goals as goal

pub returns-then-found : goal.returns-then-found
returns-then-found c = λ text none read. found_closed text none c.in-Ok-Some.found c.if-found.true (subst (IsRead text) (c.in-Ok-Some.is ∙ ap Ok c.in-Ok-Some.field-0-is) read)

pub returns-else-found : goal.returns-else-found
returns-else-found c = λ text none read. found_open text none c.in-Ok-Some.found c.if-found.false (subst (IsRead text) (c.in-Ok-Some.is ∙ ap Ok c.in-Ok-Some.field-0-is) read)

pub returns-in-Ok-None : goal.returns-in-Ok-None
returns-in-Ok-None c = λ text none read t. end_none text t (subst (IsRead text) (c.in-Ok-None.is ∙ ap Ok c.in-Ok-None.field-0-is) read)

pub returns-in-Err : goal.returns-in-Err
returns-in-Err c = λ text none read. c.none_alone.ensures text none (subst (IsRead text) c.in-Err.is read)
