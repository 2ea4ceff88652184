use Rattle.std.proofs.Common.{◌≡◌, ◌-◌, map}
use Rattle.rules_files.specs.snapshots.Reading.{value_at, vals_at}
use Rattle.mich_base.specs.TypeView.{kind}
use Rattle.mich_term.specs.View.{datum}
use Rattle.mich_saved.specs.Results.{spot}
use Rattle.mich_saved.proofs.Fronts.{with_vals}
use Rattle.mich_saved.proofs.values.datums_at.Given as goal

abbrev pub invariant-loop : goal.invariant-loop
invariant-loop l = with_vals (map datum l.values) (vals_at (value_at (kind l.part)) (l.count - l.counter) (spot l.here)) ≡ vals_at (value_at (kind l.part)) l.count (spot l.cursor)
