use Rattle.laws_tickets.proofs.runs_lemmas.Linear.{linear}
use Rattle.laws_tickets.proofs.runs.tickets_are_linear.Goals as goal

pub returns : goal.returns
returns c = linear
