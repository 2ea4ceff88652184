-- What a run sees of the world in which it began.
use Rattle.std.specs.Prelude.{◌≡◌, ℕ, List, Option, option_map}
use Rattle.rules_data.specs.forms.Spelling.{spelled_address}
use Rattle.rules_data.specs.types.Kind.{Kind}
use Rattle.mich_store_steps.specs.seen.Sights.{sight}
use Rattle.rules_code.specs.evaluation.Contracts.{Lookup, contract_of}
use Rattle.mich_literals.specs.arguments.Arguments.{HasTypedScripts}
use Rattle.mich_world.specs.Holders.{contract_at}
use Rattle.mich_world.specs.Standing.{plain}
use Rattle.mich_world.specs.Storages.{AreStored}
use Rattle.mich_world.specs.World.{World}
use Rattle.mich_interpreter.specs.View.{Beyond}

-- the contracts that are looked up are those of this world
abbrev pub LooksInto : World → Lookup → Type 0
LooksInto v at = (hash : List ℕ) → at hash ≡ option_map (plain v.store.bases.present) (contract_at v.funds.present hash)

-- the entrypoint of a type that the address of a place, with this name, and an annotation name together; or none
abbrev pub IsNamed : Lookup → List ℕ → List ℕ → List ℕ → Kind → Option (List ℕ) → Type 0
IsNamed at place name annotation ty o =
    option_map (spelled_address place) o ≡ contract_of at annotation ty (spelled_address place name)

-- the address that an address and an annotation name together, where the contract there takes the type; or none
abbrev pub NamesContract : World → List ℕ → Kind → List ℕ → Option (List ℕ) → Type 0
NamesContract v annotation ty address o = (at : Lookup) → LooksInto v at → o ≡ contract_of at annotation ty address

-- big maps are seen in the store of this world, and its contracts are seen; each script is typed, and each storage is settled
pub record Sees (v : World) (x : Beyond) : Type 0 where
  pub sight : x.sight ≡ sight v.store.bases.present
  pub contracts : LooksInto v x.contract_at
  pub typed : HasTypedScripts v
  pub stored : AreStored v
