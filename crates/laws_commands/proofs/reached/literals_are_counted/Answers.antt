use Rattle.laws_commands.proofs.reached_lemmas.Literals.{literals_are_counted}
use Rattle.laws_commands.proofs.reached.literals_are_counted.Goals as goal

pub returns : goal.returns
returns c = literals_are_counted
