use Rattle.rules_world.specs.world.World.{identity_order}
use Rattle.laws_world.proofs.accounts.ForCallers.{identity_total}
use Rattle.laws_world.proofs.lines_lemmas.Aligned.{are_alike}
use Rattle.laws_world.proofs.lines_lemmas.Exact.{all_exact}
use Rattle.laws_world.proofs.lines.one_telling.Goals as goal

pub returns : goal.returns
returns c = λ es fs e f comparable same. all_exact es fs comparable (are_alike identity_order identity_total es fs e.order f.order e.positive f.positive same)
