-- Changes that a ledger was told, one after another.
use Rattle.std.proofs.Common.{List, ◌++◌, map, append_assoc, ap, ◌∙◌}
use Rattle.rules_code.specs.steps.Changes.{Change}
use Rattle.mich_world.proofs.simulation_lemmas.ForCallers.{adds_then}
use Rattle.mich_tickets.specs.Books.{State as Ledger}
use Rattle.mich_tickets.specs.Effects.{change, Tells}

pub tells_then : (a b c : Ledger) (cs ds : List Change) → Tells cs a b → Tells ds b c → Tells (cs ++ ds) a c
tells_then a b c cs ds p q = record {
  told = q.told ∙ ap (λ l. l ++ ds) p.told ∙ append_assoc (map change a.changes) cs ds;
  books = adds_then a.books.present b.books.present c.books.present cs ds p.books q.books;
}
