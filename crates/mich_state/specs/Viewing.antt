-- What a view begins with, and what waits for its end.
use Rattle.std.specs.Prelude.{[], ◌∷◌}
use Rattle.mich_step.specs.declared.environment.Env.{Env}
use Rattle.mich_term.specs.declared.value.Value.{Value}
use Rattle.mich_tickets.specs.Books.{fresh}
use Rattle.mich_tickets.specs.Viewed.{viewed_books}
use Rattle.mich_state.specs.declared.viewing.Outer.{Outer}
use Rattle.mich_state.specs.declared.state.State.{State}

-- a view runs on a stack, in an environment and with a ledger of its own, on the meter and with the counts of its caller
abbrev pub viewing : Value → Env → State → State
viewing v e s = record {
  stack = v ∷ [];
  meter = s.meter;
  counts = s.counts;
  env = e;
  ledger = fresh (viewed_books s.ledger.books.present);
  issued = [];
}

abbrev pub outer_of : State → Outer
outer_of s = record { env = s.env; ledger = s.ledger; issued = s.issued; below = s.stack }
