-- How a run ends, by the end of its code.
use Rattle.std.specs.Prelude.{◌≡◌, ℕ, List, map, Result, Ok, Err}
use Rattle.std.specs.List.{AllByRecursion}
use Rattle.rules_world.specs.world.Runs.{Ended, finished, run_failed, run_in}
use Rattle.rules_world.specs.world.World.{World as PlainWorld}
use Rattle.mich_ops.specs.declared.issued.Issued.{Issued}
use Rattle.mich_ops.specs.Told.{told}
use Rattle.mich_ops.specs.View.{failure}
use Rattle.mich_ops.specs.declared.failure.Failure.{Failure}
use Rattle.mich_term.specs.declared.value.Value.{Value}
use Rattle.mich_tickets.specs.Effects.{change}
use Rattle.mich_world.specs.Standing.{StandsFor}
use Rattle.mich_world.specs.World.{World}
use Rattle.mich_machine.specs.Calls.{issued_in, IsHanded}
use Rattle.mich_machine.specs.Endings.{IsEnding}
use Rattle.mich_machine.specs.declared.running.Finished.{Finished}
use Rattle.mich_machine.specs.declared.running.RunError.{RunError}
use Rattle.mich_machine.specs.declared.running.RunError.TheVariants.{Failed, Memory}

-- a failure is the one that the definitions tell
abbrev pub FailsSo : Ended → Failure → Type 0
FailsSo (run_failed why) f = failure f ≡ told why
FailsSo o f = ⊥

module _ {v : World} {to : List ℕ} {stack : List Value} {issued : List Issued} where
  -- the run that the definitions give
  abbrev pub run_at : IsEnding v to stack issued → Ended
  run_at e = run_in e.e e.s e.w e.t e.argument e.gas e.counts

  -- it came to its end, with the gas and the counts that the code left
  pub record EndsWith (e : IsEnding v to stack issued) (z : World) (r : Finished) : Type 0 where
    pub world : PlainWorld
    pub stands : StandsFor z world
    pub same :
        run_at e ≡ finished (record {
          world = world;
          returned = map (issued_in z.store.bases.present) r.returned;
          changes = map change r.changes;
          gas = e.tally.gas;
          counts = record { operations = e.tally.operations; originations = e.tally.originations };
        })
    pub handed : AllByRecursion (IsHanded z.store.bases.present) r.returned

  abbrev pub EndsSo : IsEnding v to stack issued → World → Result Finished RunError → Type 0
  EndsSo e z (Ok r) = EndsWith e z r
  EndsSo e z (Err (Failed f)) = FailsSo (run_at e) f
  EndsSo e z (Err Memory) = Unit {0}
