use Rattle.std.proofs.Common.{◌≡◌, [], arith}
use Rattle.std.proofs.lemmas.Grind.{common_steps}
use Rattle.rules_files.specs.snapshots.Rules.{is_stored}
use Rattle.mich_base.specs.TypeView.{kind}
use Rattle.mich_snapshot.proofs.Fits.{elements_hold}
use Rattle.mich_snapshot.proofs.stored.set_fits.Goals as goal

pub returns : goal.returns
returns c =
    let none : c.loop-element.element-iterator ≡ [] = grind (arith, common_steps) in
    elements_hold (is_stored (kind c.args.part.now)) c.loop-element.element-iterator c.args.elements.now none c.loop-element.invariant c.iter-element-items.ensures.increasing
