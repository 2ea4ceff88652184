use Rattle.mich_term.proofs.ForCallers.Each as each
use Rattle.mich_term.specs.Layers.{FormedLayer}
use Rattle.mich_bigmap.specs.Layers.{BasedLayer}
use Rattle.tests_world.proofs.world.tests.replace.Goals as goal

pub commit-requires-clause-formed : goal.commit-requires-clause-formed
commit-requires-clause-formed c = each.of_number FormedLayer _

pub commit-requires-clause-based : goal.commit-requires-clause-based
commit-requires-clause-based c = each.of_number (BasedLayer _) _
