use Rattle.std.proofs.Common.{◌≡◌, ◌++◌, ℕ, List, map}
use Rattle.std.specs.Prelude.{option_map}
use Rattle.std.specs.Vec.Iter.{into_iter_items}
use Rattle.rules_code.specs.evaluation.Surroundings.{Contract}
use Rattle.rules_files.specs.snapshots.Spelling.{total_spelling}
use Rattle.rules_files.specs.snapshots.State.{State}
use Rattle.mich_saved.specs.Shown.{total}
use Rattle.mich_saved.specs.Sound.{EachAt, IsSame}
use Rattle.mich_term.specs.TicketView.{identity}
use Rattle.mich_snapshot.specs.Holders.{AreHashes, AreReady, total_of}
use Rattle.mich_snapshot.proofs.Ways.{TotalsOnWay}
use Rattle.mich_snapshot.proofs.holders.tried_totals.Given as goal

abbrev pub invariant-loop-total : goal.invariant-loop-total
invariant-loop-total l = record {
  way : (s : State) (place : ℕ) (cs : List (List ℕ × Contract)) → AreReady s l.fn.sums.found.entries cs → AreHashes cs l.fn.hashes.keys
      → EachAt IsSame total_spelling place s.tickets (map total l.fn.totals)
      → TotalsOnWay s place (option_map identity l.former) (into_iter_items l.total-iterator) l.sound;
  saved : map total_of l.sound ++ map (λ t. (total t).1) (into_iter_items l.total-iterator) ≡ map (λ t. (total t).1) l.fn.totals;
}
