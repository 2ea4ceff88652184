use Rattle.laws_commands.proofs.reached_lemmas.Files.{reached_are_sound}
use Rattle.laws_commands.proofs.reached.reached_are_sound.Goals as goal

pub returns : goal.returns
returns c = reached_are_sound
