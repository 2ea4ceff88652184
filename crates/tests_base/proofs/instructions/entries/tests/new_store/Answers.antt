use Rattle.std.proofs.Common.{List, [], sym, subst}
use Rattle.mich_bigmap.specs.Stored.{Stored}
use Rattle.mich_step.specs.Shown.{ShowsTickets}
use Rattle.mich_term.specs.declared.value.Value.{Value}
use Rattle.mich_store_steps.specs.seen.Sights.{sight}
use Rattle.mich_store_steps.proofs.seen.ForCallers.{sight_shows}
use Rattle.tests_base.proofs.instructions.entries.tests.new_store.Goals as goal

pub returns : goal.returns
returns c = subst (λ (s : Stored). (vs : List Value) → ShowsTickets (sight s.bases.present) vs) (sym c.new.ensures) (sight_shows [] tt)
