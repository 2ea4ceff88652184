use Rattle.mich_text.proofs.readings.Unique.{one_statement}
use Rattle.mich_text.proofs.limits.OneReading.{one_fault, no_fault_at_node, no_node_at_end, no_fault_at_end}
use Rattle.mich_text.proofs.laws.one_reading.Goals as goal

pub returns-clause-faults : goal.returns-clause-faults
returns-clause-faults c = one_fault

pub returns-clause-nodes : goal.returns-clause-nodes
returns-clause-nodes c = one_statement

pub returns-clause-apart : goal.returns-clause-apart
returns-clause-apart c = no_fault_at_node

pub returns-clause-no_node_at_end : goal.returns-clause-no_node_at_end
returns-clause-no_node_at_end c = no_node_at_end

pub returns-clause-no_fault_at_end : goal.returns-clause-no_fault_at_end
returns-clause-no_fault_at_end c = no_fault_at_end
