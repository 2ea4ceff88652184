use Rattle.laws_commands.proofs.audits_lemmas.Written.{judged}
use Rattle.laws_commands.proofs.audits.texts_are_judged.Goals as goal

pub returns : goal.returns
returns c = judged
