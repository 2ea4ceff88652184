use Rattle.rules_files.specs.commands.Scripts.{check_statements}
use Rattle.mich_replay.proofs.Fronts.{replay_on, codec_on, text_on, replay_refused, codec_refused, text_refused}
use Rattle.mich_replay.proofs.laws.long_files_are_decided_by_their_fronts.Goals as goal

pub returns-clause-replay : goal.returns-clause-replay
returns-clause-replay c = λ file more done past r. replay_on file more past done r

pub returns-clause-refused : goal.returns-clause-refused
returns-clause-refused c = replay_refused

pub returns-clause-codec : goal.returns-clause-codec
returns-clause-codec c = λ command file more answer past a. codec_on file more past command answer a

pub returns-clause-status : goal.returns-clause-status
returns-clause-status c = codec_refused

pub returns-clause-check : goal.returns-clause-check
returns-clause-check c = λ file more answer past a. text_on file more past check_statements answer a

pub returns-clause-check_status : goal.returns-clause-check_status
returns-clause-check_status c = text_refused check_statements
