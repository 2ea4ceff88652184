use Rattle.rules_data.specs.types.Kind as k
use Rattle.mich_base.specs.TypeView.{kind}
use Rattle.mich_saved.proofs.Wholes.{ticket_whole}
use Rattle.mich_saved.proofs.values.ticket_at.Goals as goal

pub returns-clause-whole : goal.returns-clause-whole
returns-clause-whole c = ticket_whole (k.ticket (kind c.args.content.now)) c.in_ok-ticket.ticket
