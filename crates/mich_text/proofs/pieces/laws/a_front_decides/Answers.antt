use Rattle.mich_text.proofs.pieces_lemmas.Stays.{closed_stays, no_end, node_closed, fault_stays}
use Rattle.mich_text.proofs.pieces_lemmas.Counted.{fault_counts}
use Rattle.mich_text.proofs.pieces_lemmas.Tried.{closed_cut}
use Rattle.mich_text.proofs.pieces.laws.a_front_decides.Goals as goal

pub returns-clause-statements : goal.returns-clause-statements
returns-clause-statements c = closed_stays

pub returns-clause-within : goal.returns-clause-within
returns-clause-within c = closed_cut

pub returns-clause-counted : goal.returns-clause-counted
returns-clause-counted c = fault_counts

pub returns-clause-faults : goal.returns-clause-faults
returns-clause-faults c = fault_stays

pub returns-clause-signs : goal.returns-clause-signs
returns-clause-signs c = node_closed

pub returns-clause-ends : goal.returns-clause-ends
returns-clause-ends c = no_end
