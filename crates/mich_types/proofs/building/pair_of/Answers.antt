use Rattle.std.proofs.Common.{sym, ◌∙◌, ◌++◌, ◌∷◌, [], map, ap}
use Rattle.mich_base.specs.TypeView.{kind}
use Rattle.mich_types.specs.Built.{pair_of}
use Rattle.mich_types.proofs.Lists.{popped}
use Rattle.mich_types.proofs.building.pair_of.Goals as goal

pub parts-preserved : goal.parts-preserved
parts-preserved c =
    ap (λ x. pair_of (map kind c.pop-in-parts.new.self ++ x ∷ [])) c.in_ok-ty.ensures
    ∙ sym (popped c.parts.left c.pop-in-parts.new.self c.in-Some-pop.part (kind c.parts.ty) c.in-Some-pop.ensures) ∙ c.parts.invariant
