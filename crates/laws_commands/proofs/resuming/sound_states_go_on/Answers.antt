use Rattle.laws_commands.proofs.resuming_lemmas.Together.{sound_states_go_on}
use Rattle.laws_commands.proofs.resuming.sound_states_go_on.Goals as goal

pub returns : goal.returns
returns c = sound_states_go_on
