-- What is told of a ticket that is held.
use Rattle.std.specs.Prelude.{unsigned_abs}
use Rattle.rules_data.specs.types.Printing.{node_of}
use Rattle.rules_data.specs.values.Canonical.{canonical}
use Rattle.rules_data.specs.values.Tickets.{Held}
use Rattle.rules_audit.specs.Fields.{identity, held, Part, part}

abbrev pub told : Held → Part
told t = part held (identity t.issuer (node_of t.kind) (canonical t.content)) (unsigned_abs t.amount)
