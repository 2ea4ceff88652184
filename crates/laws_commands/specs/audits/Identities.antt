-- Tickets are told apart by the nodes that are printed of them.
use Rattle.std.specs.Prelude.{◌≡◌, true}
use Rattle.rules_data.specs.values.Val.{Val, is_comparable}
use Rattle.rules_data.specs.values.Canonical.{canonical}
use Rattle.rules_data.specs.values.Tickets.{Identity}
use Rattle.rules_code.specs.steps.Changes.{is_alike}
use Rattle.rules_audit.specs.Form.{same_identity}
use Rattle.laws_commands.specs.audits.ToldLines.{identity_of}

-- comparable values of one literal are one
abbrev pub LiteralsTellComparable : Type 0
LiteralsTellComparable = (v w : Val) → is_comparable v ≡ true → is_comparable w ≡ true → canonical v ≡ canonical w → v ≡ w

-- tickets of comparable contents are alike exactly where their nodes are
abbrev pub NodesTellTickets : Type 0
NodesTellTickets = (i j : Identity) → is_comparable i.content ≡ true → is_comparable j.content ≡ true → same_identity (identity_of i) (identity_of j) ≡ is_alike i j
