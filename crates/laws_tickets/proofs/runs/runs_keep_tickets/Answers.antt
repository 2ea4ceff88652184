use Rattle.laws_tickets.proofs.runs_lemmas.Linear.{runs_keep}
use Rattle.laws_tickets.proofs.runs.runs_keep_tickets.Goals as goal

pub returns : goal.returns
returns c = runs_keep
