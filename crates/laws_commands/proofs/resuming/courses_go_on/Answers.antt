use Rattle.laws_commands.proofs.resuming_lemmas.Together.{courses_go_on}
use Rattle.laws_commands.proofs.resuming.courses_go_on.Goals as goal

pub returns : goal.returns
returns c = courses_go_on
