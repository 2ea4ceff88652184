use Rattle.mich_replay.proofs.Answered.{replays, words_answered}
use Rattle.mich_replay.proofs.Once.{answers-one}
use Rattle.mich_replay.proofs.laws.commands_have_one_answer.Goals as goal

pub returns-clause-once : goal.returns-clause-once
returns-clause-once c = answers-one

pub returns-clause-some : goal.returns-clause-some
returns-clause-some c = words_answered

pub returns-clause-replays : goal.returns-clause-replays
returns-clause-replays c = replays
