-- A call of an entrypoint of a contract, and how its run ends (Michelson reference, "Semantics of smart contracts and transactions").
use Rattle.std.specs.Prelude.{◌≡◌, ℕ, List, map, Result, Ok, Err}
use Rattle.std.specs.List.{AllByRecursion}
use Rattle.rules_code.specs.evaluation.Operations as rules
use Rattle.rules_data.specs.gas.Prices.{Listed}
use Rattle.rules_world.specs.world.World.{World as PlainWorld}
use Rattle.rules_world.specs.world.Outcomes.{Setting, Counts as PlainCounts}
use Rattle.rules_world.specs.world.Targets.{Target}
use Rattle.rules_world.specs.world.Runs.{Ended, finished, run_failed, run_in}
use Rattle.rules_world.specs.world.RunLaws.{IsCall}
use Rattle.mich_base.specs.TypeView.{kind}
use Rattle.mich_bigmap.specs.Bases.{Bases}
use Rattle.mich_bigmap.specs.Layers.{HasBases}
use Rattle.mich_bigmap.specs.Standing.{val_in}
use Rattle.mich_bigmap.specs.Ticketless.{HoldNoTickets}
use Rattle.mich_forms.specs.Spelled.{address_bytes}
use Rattle.mich_instr.specs.Scripts.{IsTypedScript}
use Rattle.mich_instr.specs.View.{script_node}
use Rattle.mich_ops.specs.Issued.{numbered}
use Rattle.mich_ops.specs.declared.issued.Issued.{Issued}
use Rattle.mich_ops.specs.declared.issued.Issued.TheVariants as i
use Rattle.mich_ops.specs.Told.{told}
use Rattle.mich_ops.specs.View.{failure}
use Rattle.mich_step.specs.Views.{environment}
use Rattle.mich_step.specs.declared.environment.Env.{Env}
use Rattle.mich_term.specs.Layers.{AreFormed}
use Rattle.mich_term.specs.declared.value.Value.{Value}
use Rattle.mich_tickets.specs.Effects.{change}
use Rattle.mich_world.specs.Standing.{StandsFor}
use Rattle.mich_world.specs.Storages.{AreStored}
use Rattle.mich_world.specs.World.{World}
use Rattle.mich_state.specs.declared.state.Counts.{Counts}
use Rattle.mich_machine.specs.declared.running.Finished.{Finished}
use Rattle.mich_machine.specs.declared.running.RunError.{RunError}
use Rattle.mich_machine.specs.declared.running.RunError.TheVariants.{Failed, Memory}

-- ---- worlds in which contracts run

-- each script is typed, each storage is settled, and the bases of big maps hold no ticket
pub record IsHosting (v : World) : Type 0 where
  pub typed : AllByRecursion (λ c. IsTypedScript c.1.script) v.funds.present.contracts
  pub stored : AreStored v
  pub ticketless : HoldNoTickets v.store.bases.present

-- ---- calls

abbrev pub setting : Listed → Counts → Env → Setting
setting prices counts env = record { prices = prices; group = counts.group; source = env.source }

abbrev pub counts_of : Counts → PlainCounts
counts_of counts = record { operations = counts.issued; originations = counts.originated }

-- In a world that stands for w, the entrypoint of this name, of the contract of these 20 bytes, is called with an argument of its type.
pub record Calls (v : World) (w : PlainWorld) (prices : Listed) (counts : Counts) (to name : List ℕ) (argument : Value) (env : Env) (t : Target) : Type 0 where
  pub stands : StandsFor v w
  pub hash : t.hash ≡ to
  pub named : t.entry.name ≡ name
  pub call : IsCall (environment env) (setting prices counts env) w t (val_in v.store.bases.present argument) (counts_of counts)

-- the run that the definitions give of it
abbrev pub run_of : World → PlainWorld → Listed → Counts → ℕ → Value → Env → Target → Ended
run_of v w prices counts gas argument env t =
    run_in (environment env) (setting prices counts env) w t (val_in v.store.bases.present argument) gas (counts_of counts)

-- ---- how they end

-- the operation that an issued one stands for, with its big maps over the bases of a store
abbrev pub issued_in : Bases → Issued → rules.Issued
issued_in bs (i.Transfer number argument amount to) = numbered number (rules.transfer (val_in bs argument) amount (address_bytes to))
issued_in bs (i.Origination number delegate amount script storage hash) =
    numbered number (rules.origination delegate amount (script_node script) (val_in bs storage) hash)
issued_in bs (i.Event number tag ty value) = numbered number (rules.event tag (kind ty) (val_in bs value))

-- what an issued operation hands over has the form of big maps, with bases in the store, and its script is typed
abbrev pub IsHanded : Bases → Issued → Type 0
IsHanded bs (i.Transfer number argument amount to) = AreFormed argument × HasBases bs argument
IsHanded bs (i.Origination number delegate amount script storage hash) = AreFormed storage × HasBases bs storage × IsTypedScript script
IsHanded bs (i.Event number tag ty value) = AreFormed value × HasBases bs value

-- The run came to its end: the world stands for the world behind it, and the operations, the changes of tickets, the gas and the
-- counts are those of the definitions. Or it failed as they say. After want of memory nothing is said.
pub record IsFinished (f : Ended) (v : World) (gas : ℕ) (old new : Counts) (r : Finished) : Type 0 where
  pub world : PlainWorld
  pub stands : StandsFor v world
  pub same :
      f ≡ finished (record {
        world = world;
        returned = map (issued_in v.store.bases.present) r.returned;
        changes = map change r.changes;
        gas = gas;
        counts = counts_of new;
      })
  pub group : new.group ≡ old.group
  pub handed : AllByRecursion (IsHanded v.store.bases.present) r.returned

abbrev pub EndsAs : Ended → World → ℕ → Counts → Counts → Result Finished RunError → Type 0
EndsAs e v gas old new (Ok r) = IsFinished e v gas old new r
EndsAs (run_failed why) v gas old new (Err (Failed f)) = failure f ≡ told why
EndsAs e v gas old new (Err (Failed f)) = ⊥
EndsAs e v gas old new (Err Memory) = Unit {0}

-- wherever it is the call of a target, the run ends as that of the definitions
abbrev pub EndsAsCall : World → Listed → List ℕ → List ℕ → Value → Env → ℕ → Counts → World → ℕ → Counts → Result Finished RunError → Type 0
EndsAsCall v prices to name argument env gas counts z left now r =
    (w : PlainWorld) (t : Target) → Calls v w prices counts to name argument env t →
    EndsAs (run_of v w prices counts gas argument env t) z left counts now r

-- what holds where memory sufficed
abbrev pub WithMemory : Result Finished RunError → Type 0 → Type 0
WithMemory (Err Memory) a = Unit {0}
WithMemory r a = a
