-- Instructions without bodies: the row that typing takes says the types after each, and its step the values (Michelson
-- reference, "Instructions").
use Rattle.std.specs.Prelude.{ℤ, ◌+ℤ◌}
use Rattle.rules_text.specs.nodes.Tree.{Tree}
use Rattle.rules_code.specs.instructions.Straight.{Straight, on_operations}
use Rattle.rules_code.specs.instructions.Rules.{Ruled, ruled, faulty}
use Rattle.rules_data.specs.values.Tickets.{Identity}
use Rattle.rules_code.specs.steps.Changes.{minted_in}
use Rattle.rules_code.specs.steps.Steps.{step}
use Rattle.rules_code.specs.steps.Costs.{kind_of, weight_of}
use Rattle.rules_code.specs.evaluation.Surroundings.{Surroundings}
use Rattle.rules_code.specs.evaluation.Operations.{Tally}
use Rattle.rules_code.specs.evaluation.Outcome.{stuck, Run, charge, finish}
use Rattle.rules_code.specs.evaluation.Trying.{trial}
use Rattle.rules_code.specs.evaluation.Operating.{operation_run}

-- what was ever minted of an identity, before the run and in it
abbrev pub minted_so_far : Surroundings → Tally → Identity → ℤ
minted_so_far e m id = e.minted id +ℤ minted_in id m.changes

-- what a row that was charged does, where the types after it are given; `again` runs a node
abbrev pub row_run : (Tree → Run) → Straight → Run
row_run again (on_operations row) e d B V m = operation_run again row e d B V m
row_run again row e d B V m = finish (step e.environment (minted_so_far e m) (trial e) row V) B m

abbrev pub ruled_run : (Tree → Run) → Ruled → Run
ruled_run again (ruled row B) e d A V m = charge e.prices (kind_of row) (weight_of row V) m (λ m. row_run again row e d B V m)
ruled_run again (faulty l) e d A V m = stuck
