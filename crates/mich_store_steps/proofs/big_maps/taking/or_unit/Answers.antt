use Rattle.std.proofs.Common.{sym}
use Rattle.std.proofs.lemmas.List.{append-nil}
use Rattle.rules_data.specs.values.Tickets.{tickets}
use Rattle.mich_stack.specs.Views.{seen}
use Rattle.mich_store_steps.proofs.big_maps_lemmas.Stepped.{unit_tickets}
use Rattle.mich_store_steps.proofs.big_maps.taking.or_unit.Goals as goal

pub returns-in-Some : goal.returns-in-Some
returns-in-Some c = λ big. rw c.in-Some.is (sym (append-nil (tickets (seen big c.in-Some.value))))

pub returns-in-None : goal.returns-in-None
returns-in-None c = λ big. rw c.in-None.is (unit_tickets big)
