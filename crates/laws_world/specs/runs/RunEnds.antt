-- How the run of a contract ends in a good world.
use Rattle.std.specs.Prelude.{◌≡◌, ◌≤◌, ◌+◌, ◌^◌, ◌-◌, ◌+ℤ◌, ◌≤ℤ◌, ℕ, pos, Some}
use Rattle.std.specs.List.{All}
use Rattle.rules_text.specs.nodes.Limits.{operation_limit}
use Rattle.rules_data.specs.values.Val.{Val}
use Rattle.rules_data.specs.values.Tickets.{Identity}
use Rattle.rules_code.specs.steps.Changes.{minted_in, burnt_in, amount_in}
use Rattle.rules_code.specs.steps.Environment.{Environment}
use Rattle.rules_code.specs.evaluation.Surroundings.{Contract}
use Rattle.rules_world.specs.world.World.{World, contract_at}
use Rattle.rules_world.specs.world.Holdings.{minted_ever}
use Rattle.rules_world.specs.world.Outcomes.{Setting, Counts}
use Rattle.rules_world.specs.world.Targets.{Target}
use Rattle.rules_world.specs.world.Runs.{Finished, Ended, finished, run_failed, run_stuck, kept, run_in}
use Rattle.rules_world.specs.world.RunLaws.{IsCall, amount_returned}
use Rattle.rules_world.specs.world.Forms.{IsChange}
use Rattle.rules_world.specs.world.Good.{FitsIn, IsGoodOperation}
use Rattle.laws_world.specs.operations.Fresh.{made_by_issued, AreNew}

-- the world after it is as before but for the storage and the log; what it leaves has its form and its type; tickets are neither
-- made nor lost but by minting and burning; and the contracts that it is to make are new
pub record IsFinished (s : Setting) (w : World) (t : Target) (argument : Val) (counts : Counts) (f : Finished) : Type 0 where
  pub before : Contract
  pub there : contract_at w t.hash ≡ Some before
  pub storage : Val
  pub world : f.world ≡ kept w t.hash before storage f.changes
  pub fits : FitsIn w t.script.storage storage
  pub returned : All (λ i. IsGoodOperation w i.operation) f.returned
  pub changes : All IsChange f.changes
  pub minted : (id : Identity) → (minted_ever w id +ℤ minted_in id f.changes) ≤ℤ pos (2 ^ 127 - 1)
  pub tickets : (id : Identity) →
      amount_in id argument +ℤ amount_in id before.storage +ℤ minted_in id f.changes
      ≡ amount_in id storage +ℤ amount_returned id f.returned +ℤ burnt_in id f.changes
  pub operations : f.counts.operations ≤ operation_limit
  pub originations : f.counts.originations + counts.operations ≤ counts.originations + f.counts.operations
  pub grows : counts.originations ≤ f.counts.originations
  pub new : AreNew s.group counts.originations f.counts.originations (made_by_issued f.returned)

-- it is finished so, or failed, and never stuck
abbrev pub EndsWell : Setting → World → Target → Val → Counts → Ended → Type 0
EndsWell s w t argument counts (finished f) = IsFinished s w t argument counts f
EndsWell s w t argument counts (run_failed failure) = Unit {0}
EndsWell s w t argument counts run_stuck = ⊥

abbrev pub RunsEndWell : Type 0
RunsEndWell = (e : Environment) (s : Setting) (w : World) (t : Target) (argument : Val) (gas : ℕ) (counts : Counts) →
    IsCall e s w t argument counts → EndsWell s w t argument counts (run_in e s w t argument gas counts)
