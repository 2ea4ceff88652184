use Rattle.laws_commands.proofs.audits_lemmas.Plain.{plain_mints}
use Rattle.laws_commands.proofs.audits.plain_mints_suffice.Goals as goal

pub returns : goal.returns
returns c = plain_mints
