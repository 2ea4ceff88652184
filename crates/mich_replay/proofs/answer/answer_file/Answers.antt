use Rattle.mich_replay.proofs.Ends.{pack_ends}
use Rattle.mich_replay.proofs.answer.answer_file.Goals as goal

pub returns-in-Pack-clause-status : goal.returns-in-Pack-clause-status
returns-in-Pack-clause-status c = pack_ends c.args.file.now c.answer_node-in-Pack.result c.answer_node-in-Pack.ensures
