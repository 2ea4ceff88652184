use Rattle.rules_audit.specs.Fields.{ticket_of}
use Rattle.mich_base.specs.View.{trees}
use Rattle.mich_audit.specs.View.{parts_seen}
use Rattle.mich_audit.proofs.Counts.{ticket_fields}
use Rattle.mich_audit.proofs.Telling.{nothing_told}
use Rattle.mich_audit.proofs.fields.ticket_of.Goals as goal

pub returns-in_default : goal.returns-in_default
returns-in_default c = nothing_told (ticket_of (trees c.args.args.now)) (parts_seen c.args.parts.now) (ticket_fields c.args.args.now c.in_default.ensures)
