-- Addresses, and the entrypoints of contracts that they name.
use Rattle.std.proofs.Common.{◌≡◌, ℕ, true, List, None, Some, refl, sym, ap, ◌∙◌}
use Rattle.std.specs.Prelude.{option_and_then}
use Rattle.std.specs.declared.option.Option.{Option}
use Rattle.std.proofs.lemmas.List.{take_at}
use Rattle.rules_code.specs.evaluation.Contracts.{has_kind, entry_in, hash_in, takes}
use Rattle.rules_code.specs.evaluation.Surroundings.{Contract}
use Rattle.rules_data.specs.forms.Spelling.{IsPlace, IsEntrypoint, spelled_address, written_entrypoint, place_of, entrypoint_of, contract_place}
use Rattle.rules_data.specs.types.Entrypoints.{Entry, find_entry}
use Rattle.rules_data.specs.types.Kind.{Kind}
use Rattle.rules_code.specs.typing.Scripts.{Script}
use Rattle.rules_world.specs.world.Targets.{Target, met, with_entry, in_script, in_contract, search}
use Rattle.rules_world.specs.world.World.{World, contract_at}
use Rattle.laws_world.proofs.runs.ForCallers.{entry_of_script, IsOrderly, contract_stores}
use Rattle.laws_data.proofs.forms_lemmas.ForCallers.{place_length}
use Rattle.mich_forms.proofs.ForCallers.{entrypoint_of-spelled}

module _ (place name : List ℕ) (is_place : IsPlace place) (is_name : IsEntrypoint name) where
  pub place_is : place_of (spelled_address place name) ≡ place
  place_is = take_at place (written_entrypoint name) 22 (place_length place is_place)

  pub name_is : entrypoint_of (spelled_address place name) ≡ name
  name_is = sym (entrypoint_of-spelled place name is_place is_name)

-- a contract that takes a type at an entrypoint has it
module _ (w : World) (hash name : List ℕ) (a : Kind) where
  by_entry : (s : Script) (o : Option Entry) → has_kind a o ≡ true → (t : Target) × (with_entry hash s o ≡ met t)
  by_entry s None h = absurd cc
  by_entry s (Some e) h = (record { hash = hash; script = s; entry = e }, refl)

  by_contract : IsOrderly w → (o : Option Contract) → contract_at w hash ≡ o → has_kind a (option_and_then (entry_in name) o) ≡ true → (t : Target) × (in_contract hash name o ≡ met t)
  by_contract order None e h = absurd cc
  by_contract order (Some c) e h =
      let s = contract_stores w order hash c e in
      let r = by_entry s.0 (find_entry name s.0.entries) (ap (has_kind a) (sym (entry_of_script c.script s.0 name s.1)) ∙ h) in
      (r.0, ap (in_script hash name) s.1 ∙ r.1)

  pub takes_met : IsOrderly w → hash_in (contract_place hash) ≡ hash → takes (contract_at w) (contract_place hash) name a ≡ true → (t : Target) × (search w hash name ≡ met t)
  takes_met order same h =
      by_contract order (contract_at w hash) refl (ap (λ (q : List ℕ). has_kind a (option_and_then (entry_in name) (contract_at w q))) (sym same) ∙ h)
