-- Where the code of a contract has come to its end, and what is made of it.
use Rattle.std.specs.Prelude.{◌≡◌, ℕ, List, map, Some}
use Rattle.std.specs.List.{AllByRecursion}
use Rattle.rules_code.specs.evaluation.Operations.{Tally}
use Rattle.rules_code.specs.evaluation.Surroundings.{Contract}
use Rattle.rules_code.specs.steps.Environment.{Environment}
use Rattle.rules_data.specs.values.Val.{Val}
use Rattle.rules_world.specs.world.Outcomes.{Setting, Counts}
use Rattle.rules_world.specs.world.RunLaws.{IsCall}
use Rattle.rules_world.specs.world.Runs.{returned, with_returned, run_in}
use Rattle.rules_world.specs.world.Targets.{Target}
use Rattle.rules_world.specs.world.World.{World as PlainWorld, contract_at}
use Rattle.laws_world.specs.operations.NewOperations.{AreInTurn}
use Rattle.mich_store_steps.specs.seen.Sights.{sight}
use Rattle.mich_ops.specs.declared.issued.Issued.{Issued}
use Rattle.mich_term.specs.declared.value.Value.{Value}
use Rattle.mich_tickets.specs.Effects.{change}
use Rattle.mich_world.specs.Standing.{StandsFor}
use Rattle.mich_world.specs.World.{World}
use Rattle.mich_world.specs.simulation.Runs.{Runs}
use Rattle.mich_interpreter.specs.Issues.{IsScripted, issued_by}
use Rattle.mich_interpreter.specs.View.{tops}
use Rattle.mich_machine.specs.Calls.{IsHosting}

-- The code of the contract of these 20 bytes was called in a world, and came to its end in this one, with this stack and these issued
-- operations.
pub record IsEnding (v : World) (to : List ℕ) (stack : List Value) (issued : List Issued) : Type 0 where
  pub e : Environment
  pub s : Setting
  pub w : PlainWorld
  pub t : Target
  pub argument : Val
  pub gas : ℕ
  pub counts : Counts
  pub call : IsCall e s w t argument counts
  pub hash : t.hash ≡ to
  -- the world in which it was called
  pub start : World
  pub hosting : IsHosting start
  pub stands : StandsFor start w
  pub runs : Runs (map change v.ledger.changes) start v
  pub store : v.store ≡ start.store
  pub funds : v.funds ≡ start.funds
  -- its end
  pub tally : Tally
  pub contract : Contract
  pub there : contract_at w t.hash ≡ Some contract
  pub ends : run_in e s w t argument gas counts ≡ with_returned w t.hash contract tally (returned (tops (sight v.store.bases.present) stack))
  pub issues : tally.issued ≡ map (issued_by (sight v.store.bases.present)) issued
  pub changes : tally.changes ≡ map change v.ledger.changes
  pub turns : AreInTurn s.group counts.operations counts.originations tally.operations tally.originations tally.issued
  pub scripts : AllByRecursion IsScripted issued
