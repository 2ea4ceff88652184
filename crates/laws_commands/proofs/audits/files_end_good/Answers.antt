use Rattle.laws_commands.proofs.audits_lemmas.Goods.{files_end_good}
use Rattle.laws_commands.proofs.audits.files_end_good.Goals as goal

pub returns : goal.returns
returns c = files_end_good
