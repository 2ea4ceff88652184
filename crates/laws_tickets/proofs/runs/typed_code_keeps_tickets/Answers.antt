use Rattle.laws_tickets.proofs.runs_lemmas.FromTotals.{linear_tickets}
use Rattle.laws_tickets.proofs.runs.typed_code_keeps_tickets.Goals as goal

pub returns : goal.returns
returns c = linear_tickets
