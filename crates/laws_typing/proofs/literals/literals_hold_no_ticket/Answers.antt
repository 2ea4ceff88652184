use Rattle.laws_typing.proofs.literals_lemmas.Forms.{literals_hold_no_ticket}
use Rattle.laws_typing.proofs.literals.literals_hold_no_ticket.Goals as goal

pub returns : goal.returns
returns c = literals_hold_no_ticket
