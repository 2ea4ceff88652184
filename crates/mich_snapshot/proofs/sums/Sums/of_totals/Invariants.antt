use Rattle.std.proofs.Common.{map, take}
use Rattle.mich_snapshot.proofs.Counts.{AreNothing}
use Rattle.mich_snapshot.proofs.sums.Sums.of_totals.Given as goal

abbrev pub invariant-loop-total : goal.invariant-loop-total
invariant-loop-total l = AreNothing (map (λ t. t.id) (take l.total-index l.total-items)) l.found.entries
