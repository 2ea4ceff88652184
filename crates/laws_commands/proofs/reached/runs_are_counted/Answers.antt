use Rattle.laws_commands.proofs.reached_lemmas.Evaluation.{runs_are_counted}
use Rattle.laws_commands.proofs.reached.runs_are_counted.Goals as goal

pub returns : goal.returns
returns c = runs_are_counted
