use Rattle.mich_replay.proofs.Conserved.{conserves_tickets}
use Rattle.mich_replay.proofs.laws.tickets_are_conserved.Goals as goal

pub returns : goal.returns
returns c = conserves_tickets
