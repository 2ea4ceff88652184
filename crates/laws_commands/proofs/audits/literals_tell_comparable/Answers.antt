use Rattle.laws_commands.proofs.audits_lemmas.Identities.{literal_tells}
use Rattle.laws_commands.proofs.audits.literals_tell_comparable.Goals as goal

pub returns : goal.returns
returns c = literal_tells
