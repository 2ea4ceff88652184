use Rattle.mich_replay.specs.View.{file_fault_seen}
use Rattle.mich_replay.proofs.Refusing.{refusal_closes, refusal_status}
use Rattle.mich_replay.proofs.replaying.refuse.Goals as goal

pub returns-clause-closes : goal.returns-clause-closes
returns-clause-closes g c = refusal_closes _ _ c.file_fault_name.result.now (file_fault_seen c.args.fault) c.args.at c.refuse_as.result c.file_fault_name.ensures c.refuse_as.ensures.refuses

pub returns-clause-status : goal.returns-clause-status
returns-clause-status g c = refusal_status _ _ _ c.refuse_as.result c.refuse_as.ensures.refuses
