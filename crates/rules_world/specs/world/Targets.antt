-- The entrypoints of contracts in a world (Octez "Accounts and addresses"; Michelson reference, "Entrypoints").
use Rattle.std.specs.Prelude.{ℕ, List, Bool, true, false, [], ◌∷◌, Option, Some, None}
use Rattle.rules_data.specs.types.Entrypoints.{Entry, find_entry}
use Rattle.rules_data.specs.values.Val.{Val, left, right}
use Rattle.rules_code.specs.steps.Failure.{Failure, no_contract, no_entrypoint}
use Rattle.rules_code.specs.instructions.Arguments.{Found, found, fault}
use Rattle.rules_code.specs.typing.Scripts.{Script}
use Rattle.rules_code.specs.typing.Nodes.{script}
use Rattle.rules_code.specs.evaluation.Surroundings.{Contract}
use Rattle.rules_world.specs.world.World.{World, contract_at}
use Rattle.rules_world.specs.world.Outcomes.{Outcome, failed, stuck}

-- an entrypoint of a contract: the contract's 20 bytes, what its script says, and the entrypoint
pub record Target : Type 0 where
  pub hash : List ℕ
  pub script : Script
  pub entry : Entry

-- an entrypoint that is there; or the failure of what isn't; or a script that is none, which no good world has
pub data Search : Type 0 where
  met : Target → Search
  missing : Failure → Search
  unreadable : Search

abbrev pub with_entry : List ℕ → Script → Option Entry → Search
with_entry hash s (Some entry) = met (record { hash = hash; script = s; entry = entry })
with_entry hash s None = missing no_entrypoint

abbrev pub in_script : List ℕ → List ℕ → Found Script → Search
in_script hash name (found s) = with_entry hash s (find_entry name s.entries)
in_script hash name (fault location) = unreadable

abbrev pub in_contract : List ℕ → List ℕ → Option Contract → Search
in_contract hash name (Some contract) = in_script hash name (script contract.script)
in_contract hash name None = missing no_contract

-- the entrypoint of a name, of the contract of these 20 bytes
abbrev pub search : World → List ℕ → List ℕ → Search
search w hash name = in_contract hash name (contract_at w hash)

-- goes on with an entrypoint that is there
abbrev pub on_met : Search → (Target → Outcome) → Outcome
on_met (met t) next = next t
on_met (missing failure) next = failed failure
on_met unreadable next = stuck

-- an entrypoint's argument as one of the whole parameter: true is right
abbrev pub wrapped : List Bool → Val → Val
wrapped [] v = v
wrapped (false ∷ path) v = left (wrapped path v)
wrapped (true ∷ path) v = right (wrapped path v)
