use Rattle.laws_tickets.proofs.runs_lemmas.Nodes.{totals}
use Rattle.laws_tickets.proofs.runs.evaluation_keeps_totals.Goals as goal

pub returns : goal.returns
returns c = totals
