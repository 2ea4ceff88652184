use Rattle.mich_base.specs.View.{tree}
use Rattle.mich_cert.proofs.telling_lemmas.Certified.{deep_typed, ill_typed_at}
use Rattle.mich_cert.proofs.telling.certifying.too_many_levels.Goals as goal

pub returns-in-Ok : goal.returns-in-Ok
returns-in-Ok c = deep_typed (tree c.args.node.now) _ c.in-Ok.ensures c.requires.levels

pub returns-in-Err-IllTyped : goal.returns-in-Err-IllTyped
returns-in-Err-IllTyped c = ill_typed_at (tree c.args.node.now) c.in-Err-IllTyped.location (rw c.in-Err-IllTyped.field-0-is at c.in-Err-IllTyped.ensures)
