use Rattle.laws_commands.proofs.reached_lemmas.Steps.{steps_are_counted}
use Rattle.laws_commands.proofs.reached.steps_are_counted.Goals as goal

pub returns : goal.returns
returns c = steps_are_counted
