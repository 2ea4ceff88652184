use Rattle.laws_commands.proofs.audits_lemmas.Identities.{nodes_tell}
use Rattle.laws_commands.proofs.audits.nodes_tell_tickets.Goals as goal

pub returns : goal.returns
returns c = nodes_tell
