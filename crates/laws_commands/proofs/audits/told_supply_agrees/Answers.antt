use Rattle.laws_commands.proofs.audits_lemmas.Supply.{supply_told}
use Rattle.laws_commands.proofs.audits.told_supply_agrees.Goals as goal

pub returns : goal.returns
returns c = supply_told
