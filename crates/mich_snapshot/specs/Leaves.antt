-- Literals of types without arguments, and tickets as values.
use Rattle.std.specs.Prelude.{Bool, true, false, is_some}
use Rattle.rules_text.specs.nodes.Tree.{Tree}
use Rattle.rules_data.specs.types.Kind.{Kind}
use Rattle.rules_data.specs.types.Kind as k
use Rattle.rules_data.specs.values.Literals.{simple_value}
use Rattle.rules_data.specs.values.Val.{Val}
use Rattle.rules_code.specs.steps.TicketSteps.{as_value}
use Rattle.mich_term.specs.TicketView.{held}
use Rattle.mich_term.specs.declared.ticket.Ticket.{Ticket}

abbrev pub is_simple : Kind → Bool
is_simple (k.simple s) = true
is_simple a = false

-- a node is a literal of a type, which has no arguments
abbrev pub is_leaf : Kind → Tree → Bool
is_leaf (k.simple s) t = is_some (simple_value s t)
is_leaf a t = false

abbrev pub ticket_val : Ticket → Val
ticket_val t = as_value (held t)
