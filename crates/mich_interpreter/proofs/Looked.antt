-- Contracts that are looked up.
use Rattle.std.proofs.Common.{◌≡◌, ℕ, Bool, true, false, List, Some, None, length, refl, sym, ap, ◌∙◌}
use Rattle.std.specs.Prelude.{option_and_then, option_map}
use Rattle.std.specs.declared.option.Option.{Option}
use Rattle.rules_data.specs.forms.Spelling.{IsPlace, contract_place, entrypoint_of, spelled_address, is_entrypoint}
use Rattle.rules_data.specs.types.Kind.{Kind}
use Rattle.rules_data.specs.types.Entrypoints.{find_entry}
use Rattle.rules_code.specs.evaluation.Contracts.{Lookup, address_where, chosen_entrypoint, contract_named, contract_of, entry_in, has_kind, hash_in, takes}
use Rattle.rules_code.specs.evaluation.Surroundings.{Contract as PlainContract}
use Rattle.laws_code.proofs.stacks.ForCallers.{name_back, place_back}
use Rattle.mich_literals.specs.arguments.Arguments.{HasTypedScripts, entries_in}
use Rattle.mich_literals.proofs.arguments_lemmas.ForCallers.{entry_found}
use Rattle.mich_world.proofs.simulation_lemmas.ForCallers.{hash_of}
use Rattle.mich_world.specs.Holders.{contract_at}
use Rattle.mich_world.specs.Standing.{plain}
use Rattle.mich_world.specs.World.{World}
use Rattle.mich_world.specs.declared.contract.Contract.{Contract}
use Rattle.mich_interpreter.specs.Sees.{LooksInto}

-- what an address and an annotation name, by the place and the entrypoint of the address
pub named_is : (at : Lookup) (place name annotation : List ℕ) (a : Kind) → IsPlace place → is_entrypoint name ≡ true →
    contract_of at annotation a (spelled_address place name) ≡ contract_named at place a (chosen_entrypoint name annotation)
named_is at place name annotation a h g =
    ap (λ p. contract_named at p a (chosen_entrypoint (entrypoint_of (spelled_address place name)) annotation)) (place_back place name h)
    ∙ ap (λ n. contract_named at place a (chosen_entrypoint n annotation)) (name_back place name h g)

module _ (at : Lookup) (place annotation name : List ℕ) (a : Kind) (h : IsPlace place) (g : is_entrypoint name ≡ true) where
  -- neither is the default one
  pub unnamed : None ≡ chosen_entrypoint name annotation → None ≡ contract_of at annotation a (spelled_address place name)
  unnamed e = ap (contract_named at place a) e ∙ sym (named_is at place name annotation a h g)

  pub unnamed_by : (o : Option (List ℕ)) → ((n : List ℕ) → o ≡ Some n → ⊥) → o ≡ chosen_entrypoint name annotation →
      option_map (spelled_address place) None ≡ contract_of at annotation a (spelled_address place name)
  unnamed_by None absent e = unnamed e
  unnamed_by (Some n) absent e = absurd (absent n refl)

  -- it is taken there, or isn't
  pub named_so : (n : List ℕ) (b : Bool) → Some n ≡ chosen_entrypoint name annotation → b ≡ takes at place n a →
      address_where b (spelled_address place n) ≡ contract_of at annotation a (spelled_address place name)
  named_so n b e f = ap (λ t. address_where t (spelled_address place n)) f ∙ ap (contract_named at place a) e ∙ sym (named_is at place name annotation a h g)

module _ (v : World) (at : Lookup) (looks : LooksInto v at) (hash name : List ℕ) (a : Kind) (typed : HasTypedScripts v) (is : length hash ≡ 20) where
  there : at (hash_in (contract_place hash)) ≡ option_map (plain v.store.bases.present) (contract_at v.funds.present hash)
  there = ap at (hash_of hash is) ∙ looks hash

  seen : (o : Option Contract) → contract_at v.funds.present hash ≡ o →
      takes at (contract_place hash) name a ≡ has_kind a (option_and_then (entry_in name) (option_map (plain v.store.bases.present) o))
  seen o e = ap (λ (x : Option PlainContract). has_kind a (option_and_then (entry_in name) x)) (there ∙ ap (option_map (plain v.store.bases.present)) e)

  pub contract_takes : (k : Contract) → contract_at v.funds.present hash ≡ Some k → takes at (contract_place hash) name a ≡ has_kind a (find_entry name (entries_in k))
  contract_takes k e = seen (Some k) e ∙ ap (has_kind a) (entry_found v hash k typed e v.store.bases.present name)

  pub nobody_takes : contract_at v.funds.present hash ≡ None → takes at (contract_place hash) name a ≡ false
  nobody_takes e = seen None e
