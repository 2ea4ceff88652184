use Rattle.std.proofs.Common.{map}
use Rattle.std.specs.Vec.Iter.{into_iter_items}
use Rattle.rules_data.specs.forms.Spelling.{implicit_place}
use Rattle.mich_tickets.specs.Books.{Books}
use Rattle.mich_tickets.specs.Carrying.{MayEnter, Enters}
use Rattle.mich_world.specs.Restoring.{ticket_of}
use Rattle.mich_world.proofs.restoring.put_held.Given as goal

abbrev pub invariant-loop-id : goal.invariant-loop-id
invariant-loop-id l = record {
  may : MayEnter (implicit_place l.fn.who) l.ledger.books.present (map ticket_of (into_iter_items l.id-iterator));
  goes : (b : Books) → Enters (implicit_place l.fn.who) (map ticket_of (into_iter_items l.id-iterator)) l.ledger.books.present b
      → Enters (implicit_place l.fn.who) (map ticket_of l.fn.held) l.fn.ledger.books.present b;
}
