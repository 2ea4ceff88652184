use Rattle.std.proofs.Common.{sym, ◌∙◌}
use Rattle.mich_base.specs.View.{tree}
use Rattle.mich_cert.proofs.telling_lemmas.Certified.{certified_as, refused_at}
use Rattle.mich_cert.proofs.telling.certifying.certify.Goals as goal

pub returns-in-Ok : goal.returns-in-Ok
returns-in-Ok c =
    let s = c.in-Ok.ensures.0 in
    certified_as (tree c.args.node.now) s.0 s.1 (sym c.depth_within.ensures ∙ c.if-not-depth_within.false) _ _ c.nothing-told.ensures c.in-Ok.ensures.1 _ c.certificate.ensures

pub returns-in-Err-IllTyped : goal.returns-in-Err-IllTyped
returns-in-Err-IllTyped c =
    rw c.in-Err-IllTyped.field-0-is
    (refused_at (tree c.args.node.now) c.in-Err-IllTyped.location (rw c.in-Err-IllTyped.field-0-is at c.in-Err-IllTyped.ensures))
