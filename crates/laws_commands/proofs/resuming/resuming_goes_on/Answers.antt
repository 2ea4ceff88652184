use Rattle.laws_commands.proofs.reached_lemmas.Files.{reached_are_sound}
use Rattle.laws_commands.proofs.resuming_lemmas.Together.{resuming_goes_on}
use Rattle.laws_commands.proofs.resuming.resuming_goes_on.Goals as goal

pub returns : goal.returns
returns c = resuming_goes_on reached_are_sound
