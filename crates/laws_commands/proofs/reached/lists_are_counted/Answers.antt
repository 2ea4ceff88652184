use Rattle.laws_commands.proofs.reached_lemmas.Files.{lists_are_counted}
use Rattle.laws_commands.proofs.reached.lists_are_counted.Goals as goal

pub returns : goal.returns
returns c = lists_are_counted
