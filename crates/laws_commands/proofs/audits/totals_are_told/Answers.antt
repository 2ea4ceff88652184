use Rattle.laws_commands.proofs.audits_lemmas.Totals.{totals_told}
use Rattle.laws_commands.proofs.audits.totals_are_told.Goals as goal

pub returns : goal.returns
returns c = totals_told
