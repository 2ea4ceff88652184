-- Contracts that are made (Octez "Operations", originations).
use Rattle.std.specs.Prelude.{◌≡◌, ℕ, true, List, Result, Ok, Err}
use Rattle.rules_text.specs.nodes.Tree.{Tree}
use Rattle.rules_code.specs.instructions.Arguments.{Found, found, fault}
use Rattle.rules_data.specs.gas.Prices.{Listed}
use Rattle.rules_data.specs.forms.Spelling.{is_key_hash, is_place}
use Rattle.rules_code.specs.typing.Nodes.{script}
use Rattle.rules_data.specs.values.Val.{Val}
use Rattle.rules_world.specs.world.Forms.{IsWorld}
use Rattle.rules_world.specs.world.Contents.{Originate}
use Rattle.rules_world.specs.world.Groups.{setting_of}
use Rattle.rules_world.specs.world.Originations.{Founding, found_contract, founded, with_script}
use Rattle.rules_world.specs.world.Outcomes.{ordered}
use Rattle.rules_world.specs.world.World.{World as PlainWorld}
use Rattle.mich_bigmap.specs.Bases.{Bases}
use Rattle.mich_bigmap.specs.Standing.{val_in}
use Rattle.mich_forms.specs.Spelled.{place_bytes}
use Rattle.mich_forms.specs.declared.places.Place.{Place}
use Rattle.mich_instr.specs.Scripts.{IsTypedScript}
use Rattle.mich_instr.specs.View.{script_node}
use Rattle.mich_instr.specs.declared.instr.Script.{Script}
use Rattle.mich_state.specs.declared.state.Counts.{Counts}
use Rattle.mich_machine.specs.Calls.{counts_of}
use Rattle.mich_ops.specs.declared.failure.Failure.TheVariants.{IllTyped, BadStorage}
use Rattle.mich_term.specs.ValueView.{val}
use Rattle.mich_term.specs.declared.value.Value.{Value}
use Rattle.mich_world.specs.Standing.{StandsFor}
use Rattle.mich_world.specs.World.{World}
use Rattle.mich_operations.specs.Going.{BeginsIn, EndsAs, setting_in}
use Rattle.mich_operations.specs.declared.applied.Applied.{Applied}
use Rattle.mich_operations.specs.declared.applied.ApplyError.{ApplyError}
use Rattle.mich_operations.specs.declared.applied.ApplyError.TheVariants.{Failed, Memory}

-- what a place makes
abbrev pub founding : Bases → Place → List ℕ → ℕ → Script → Value → Founding
founding bs from hash balance s storage = record {
  sender = place_bytes from;
  hash = hash;
  balance = balance;
  script = script_node s;
  storage = val_in bs storage;
}

-- a world stands for one of the form of worlds, and there is such a place
pub record IsPayer (v : World) (w : PlainWorld) (from : Place) : Type 0 where
  pub stands : StandsFor v w
  pub form : IsWorld w
  pub payer : is_place (place_bytes from) ≡ true

-- and the world with the contract has the form of worlds, which a source pays for
pub record IsFounding (v : World) (w : PlainWorld) (source : List ℕ) (from : Place) (f : Founding) : Type 0 where
  pub payer : IsPayer v w from
  pub form : IsWorld (founded w f)
  pub key : is_key_hash source ≡ true

-- a contract is made, whose balance a place pays, and what it takes is charged to the source
abbrev pub Founds : World → List ℕ → Place → Founding → World → Result Applied ApplyError → Type 0
Founds v source from f new r =
    (prices : Listed) (w : PlainWorld) (gas group : ℕ) (counts : Counts) → IsFounding v w source from f
    → EndsAs (found_contract (setting_of prices group source) w f gas (counts_of counts)) new gas counts counts r

-- in some world, at some prices, a group comes to an origination
abbrev pub SomeOrigination : World → Counts → List ℕ → ℕ → Tree → Tree → Type 0
SomeOrigination v counts source balance t storage =
    (prices : Listed) × (w : PlainWorld) × BeginsIn v w prices counts source (ordered (Originate balance t storage))

-- where a group comes to an origination, and its price is paid, it ends as the definitions say
abbrev pub Originates : List ℕ → ℕ → Tree → Tree → World → Counts → World → Counts → Result Applied ApplyError → Type 0
Originates source balance t storage v counts new after r =
    (prices : Listed) (w : PlainWorld) (gas : ℕ) → BeginsIn v w prices counts source (ordered (Originate balance t storage))
    → EndsAs (with_script (script t) (setting_in prices counts source) w balance t storage gas (counts_of counts)) new gas counts after r

-- a node is this script, or has its first fault here
abbrev pub IsScriptOf : Tree → Result Script ApplyError → Type 0
IsScriptOf t (Ok s) = (script_node s ≡ t) × IsTypedScript s
IsScriptOf t (Err (Failed (IllTyped l))) = script t ≡ fault l
IsScriptOf t (Err (Failed why)) = ⊥
IsScriptOf t (Err Memory) = Unit {0}

-- a literal has this value, or its first fault is here
abbrev pub IsStorageOf : Found Val → Result Value ApplyError → Type 0
IsStorageOf f (Ok v) = f ≡ found (val v)
IsStorageOf f (Err (Failed (BadStorage l))) = f ≡ fault l
IsStorageOf f (Err (Failed why)) = ⊥
IsStorageOf f (Err Memory) = Unit {0}
