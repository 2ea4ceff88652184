use Rattle.laws_commands.proofs.audits_lemmas.Follows.{tickets_apart}
use Rattle.laws_commands.proofs.audits.told_tickets_are_apart.Goals as goal

pub returns : goal.returns
returns c = tickets_apart
