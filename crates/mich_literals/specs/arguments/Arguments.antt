-- Literals of a world and arguments of entrypoints (Michelson reference, "Entrypoints").
use Rattle.std.specs.Prelude.{◌≡◌, ℕ, List, map, Result, Ok, Err, Bool}
use Rattle.std.specs.List.{AllByRecursion}
use Rattle.rules_text.specs.nodes.Tree.{Tree}
use Rattle.rules_code.specs.instructions.Arguments.{Found, found, fault}
use Rattle.rules_code.specs.steps.Failure.{no_contract, no_entrypoint}
use Rattle.rules_data.specs.types.Entrypoints.{Entry}
use Rattle.rules_data.specs.values.Val.{Val}
use Rattle.rules_world.specs.world.Arguments.{literal_in}
use Rattle.rules_world.specs.world.Targets.{Target, met, missing, search}
use Rattle.rules_world.specs.world.World.{World as PlainWorld, contract_at}
use Rattle.mich_typed.specs.declared.error.CheckError.{CheckError}
use Rattle.mich_typed.specs.declared.error.CheckError.TheVariants as error
use Rattle.mich_data.specs.Whole.{IsWhole}
use Rattle.mich_instr.specs.Scripts.{IsTypedScript}
use Rattle.mich_instr.specs.declared.instr.Script.{out-Script}
use Rattle.mich_term.specs.Layers.{AreFormed}
use Rattle.mich_term.specs.ValueView.{val}
use Rattle.mich_term.specs.declared.value.Value.{Value}
use Rattle.mich_types.specs.Entered.{entry_of}
use Rattle.mich_world.specs.World.{World}
use Rattle.mich_world.specs.declared.contract.Contract.{Contract}
use Rattle.mich_literals.specs.declared.arguments.arguments.ArgumentError.{ArgumentError}
use Rattle.mich_literals.specs.declared.arguments.arguments.ArgumentError.TheVariants as argument
use Rattle.rules_code.specs.evaluation.Contracts.{is_contract_of}
use Rattle.rules_data.specs.types.Kind.{Kind}
use Rattle.mich_world.specs.Standing.{StandsFor}

-- the script of each contract is typed
abbrev pub HasTypedScripts : World → Type 0
HasTypedScripts v = AllByRecursion (λ c. IsTypedScript c.1.script) v.funds.present.contracts

-- whether a contract of this type is at an address, in whatever world this one stands for
abbrev pub TellsContract : World → Kind → List ℕ → Bool → Type 0
TellsContract v a address b = (w : PlainWorld) → StandsFor v w → b ≡ is_contract_of (contract_at w) a address

-- the entrypoints of a contract
abbrev pub entries_in : Contract → List Entry
entries_in c = map entry_of (out-Script c.script).parameter.entries

-- a literal has this value, or its first fault is here
abbrev pub IsIn : Found Val → Result Value CheckError → Type 0
IsIn f (Ok v) = f ≡ found (val v)
IsIn f (Err (error.IllTyped l)) = f ≡ fault l
IsIn f (Err error.Memory) = Unit {0}

-- the entrypoint of this name takes the value that a node spells
pub record IsArgument (w : PlainWorld) (hash name : List ℕ) (t : Tree) (v : Value) : Type 0 where
  pub target : Target
  pub met : search w hash name ≡ met target
  pub literal : literal_in w target.entry.kind t ≡ found (val v)
  pub whole : IsWhole target.entry.kind v
  pub formed : AreFormed v

-- it takes this value; or there is no such contract or entrypoint, or the node is no literal of its type
abbrev pub ArgumentAs : PlainWorld → List ℕ → List ℕ → Tree → Result Value ArgumentError → Type 0
ArgumentAs w hash name t (Ok v) = IsArgument w hash name t v
ArgumentAs w hash name t (Err argument.NoContract) = search w hash name ≡ missing no_contract
ArgumentAs w hash name t (Err argument.NoEntrypoint) = search w hash name ≡ missing no_entrypoint
ArgumentAs w hash name t (Err (argument.BadParameter l)) = (target : Target) × (search w hash name ≡ met target) × (literal_in w target.entry.kind t ≡ fault l)
ArgumentAs w hash name t (Err argument.Memory) = Unit {0}
