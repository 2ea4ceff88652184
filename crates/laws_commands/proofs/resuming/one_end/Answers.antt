use Rattle.laws_commands.proofs.resuming_lemmas.Together.{one_ending}
use Rattle.laws_commands.proofs.resuming.one_end.Goals as goal

pub returns : goal.returns
returns c = one_ending
