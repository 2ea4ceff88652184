use Rattle.std.proofs.Common.{◌≡◌}
use Rattle.rules_files.specs.snapshots.Rules.{all_values, is_stored}
use Rattle.mich_base.specs.TypeView.{kind}
use Rattle.mich_term.specs.View.{datums}
use Rattle.mich_snapshot.proofs.stored.set_fits.Given as goal

abbrev pub invariant-loop-element : goal.invariant-loop-element
invariant-loop-element l =
    all_values (is_stored (kind l.part)) (datums l.element-iterator) ≡ all_values (is_stored (kind l.part)) (datums l.elements)
