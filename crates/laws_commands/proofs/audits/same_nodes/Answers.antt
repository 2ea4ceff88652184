use Rattle.mich_audit.proofs.Same.{trees_decided, identities_decided}
use Rattle.laws_commands.proofs.audits.same_nodes.Goals as goal

pub returns : goal.returns
returns c = (trees_decided, identities_decided)
