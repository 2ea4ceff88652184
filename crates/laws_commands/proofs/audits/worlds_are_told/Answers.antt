use Rattle.laws_commands.proofs.audits_lemmas.Worlds.{worlds_told}
use Rattle.laws_commands.proofs.audits.worlds_are_told.Goals as goal

pub returns : goal.returns
returns c = worlds_told
