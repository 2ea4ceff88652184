use Rattle.laws_world.proofs.groups_lemmas.Groups.{tickets_balance}
use Rattle.laws_world.proofs.groups.tickets_balance.Goals as goal

pub returns : goal.returns
returns c = tickets_balance
