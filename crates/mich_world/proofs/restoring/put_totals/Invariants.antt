use Rattle.std.specs.List.{AllByRecursion, flat_map}
use Rattle.std.specs.Vec.Iter.{into_iter_items}
use Rattle.mich_tickets.specs.Books.{Books}
use Rattle.mich_tickets.specs.Effects.{Adds}
use Rattle.mich_world.specs.Restoring.{AreTotals, told_of}
use Rattle.mich_world.proofs.restoring_lemmas.Totals.{Fit, AreWithin}
use Rattle.mich_world.proofs.restoring.put_totals.Given as goal

abbrev pub invariant-loop-id : goal.invariant-loop-id
invariant-loop-id l = record {
  totals : AllByRecursion (λ t. AreTotals t.1) (into_iter_items l.id-iterator);
  fit : Fit (into_iter_items l.id-iterator) l.ledger.books.present;
  within : AreWithin l.ledger.books.present;
  goes : (b : Books) → Adds (flat_map told_of (into_iter_items l.id-iterator)) l.ledger.books.present b → Adds (flat_map told_of l.fn.totals) l.fn.ledger.books.present b;
}
