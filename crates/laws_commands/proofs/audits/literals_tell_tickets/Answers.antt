use Rattle.laws_typing.specs.literals.Laws.{told_by}
use Rattle.laws_commands.proofs.audits_lemmas.Tickets.{fitting_tells}
use Rattle.laws_commands.proofs.audits.literals_tell_tickets.Goals as goal

pub returns : goal.returns
returns c = λ is_contract is_issued. fitting_tells (told_by is_contract is_issued)
