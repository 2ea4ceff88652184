-- The tickets that tickets of the code stand for.
use Rattle.rules_data.specs.values.Tickets.{Identity, Held}
use Rattle.mich_forms.specs.Spelled.{place_bytes}
use Rattle.mich_base.specs.TypeView.{kind}
use Rattle.mich_term.specs.View.{datum}
use Rattle.mich_term.specs.declared.ticket.Ticket.{Ticket}
use Rattle.mich_term.specs.declared.ticket.TicketId.{TicketId}

-- the identity that an identity of the code stands for
abbrev pub identity : TicketId → Identity
identity id = record { issuer = place_bytes id.issuer; kind = kind id.ty; content = datum id.content }

-- the ticket that a ticket of the code stands for
abbrev pub held : Ticket → Held
held t = record { issuer = place_bytes t.id.issuer; kind = kind t.id.ty; content = datum t.id.content; amount = t.amount }
