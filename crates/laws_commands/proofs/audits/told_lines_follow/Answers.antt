use Rattle.laws_commands.proofs.audits_lemmas.Follows.{lines_follow}
use Rattle.laws_commands.proofs.audits.told_lines_follow.Goals as goal

pub returns : goal.returns
returns c = lines_follow
