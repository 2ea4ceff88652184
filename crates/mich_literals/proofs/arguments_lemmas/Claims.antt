-- Which addresses are contracts of a type.
use Rattle.std.proofs.Common.{◌≡◌, ℕ, Bool, true, false, List, Some, None, length, is_some, refl, sym, ap, ◌∙◌, subst}
use Rattle.std.specs.Prelude.{◌&&◌, if◌then◌else◌, option_and_then, option_map}
use Rattle.std.specs.declared.option.Option.{Option}
use Rattle.std.specs.Bool.{IsTrue}
use Rattle.std.specs.Str.{bytes_eq}
use Rattle.std.proofs.lemmas.Slice.Eq.{bytes_eq-Decides}
use Rattle.rules_data.specs.forms.Spelling.{IsPlace, default_name, implicit_place, contract_place, spelled_address, entrypoint_of, is_entrypoint, is_key_hash}
use Rattle.rules_data.specs.types.Kind.{Kind}
use Rattle.rules_data.specs.types.Entrypoints.{find_entry}
use Rattle.rules_code.specs.evaluation.Contracts.{Lookup, address_where, chosen_entrypoint, contract_named, entry_in, has_kind, hash_in, is_contract_of, is_taken_by_account, takes}
use Rattle.rules_code.specs.evaluation.Surroundings.{Contract as PlainContract}
use Rattle.rules_world.specs.world.World.{World as PlainWorld, contract_at as plain_contract_at}
use Rattle.laws_code.proofs.stacks.ForCallers.{name_back, place_back}
use Rattle.mich_world.proofs.simulation_lemmas.ForCallers.{contracts_agree, hash_of}
use Rattle.laws_data.proofs.forms_lemmas.ForCallers.{implicit_is, contract_is}
use Rattle.mich_world.specs.Holders.{contract_at}
use Rattle.mich_world.specs.Standing.{StandsFor, plain}
use Rattle.mich_world.specs.World.{World}
use Rattle.mich_world.specs.declared.contract.Contract.{Contract}
use Rattle.mich_literals.specs.arguments.Arguments.{HasTypedScripts, entries_in}
use Rattle.mich_literals.proofs.arguments_lemmas.Entries.{entry_found}

-- ---- addresses

where_is : (b : Bool) (x : List ℕ) → is_some (address_where b x) ≡ b
where_is true x = refl
where_is false x = refl

-- an address is a contract of a type where its place takes it at its name
pub taken_is : (at : Lookup) (place name : List ℕ) (a : Kind) → IsPlace place → is_entrypoint name ≡ true →
    is_contract_of at a (spelled_address place name) ≡ takes at place name a
taken_is at place name a h g =
    ap (λ p. is_some (contract_named at p a (chosen_entrypoint (entrypoint_of (spelled_address place name)) default_name)))
    (place_back place name h)
    ∙ ap (λ n. is_some (contract_named at place a (chosen_entrypoint n default_name))) (name_back place name h g)
    ∙ by_test (bytes_eq name default_name) refl
  where
    by_test : (b : Bool) → bytes_eq name default_name ≡ b →
        is_some (contract_named at place a
        (if b then Some default_name else if bytes_eq default_name default_name then Some name else None)) ≡ takes at place name a
    by_test true e = where_is (takes at place default_name a) (spelled_address place default_name)
        ∙ ap (λ n. takes at place n a) (sym ((bytes_eq-Decides name default_name).0 e))
    by_test false e = where_is (takes at place name a) (spelled_address place name)

-- ---- accounts

pub default_so : (name : List ℕ) → name ≡ default_name → bytes_eq name default_name ≡ true
default_so name e = (bytes_eq-Decides name default_name).1 e

pub other_so : (name : List ℕ) (b : Bool) → (name ≡ default_name → IsTrue b) → b ≡ false → bytes_eq name default_name ≡ false
other_so name b told e = by (bytes_eq name default_name) refl
  where
    by : (t : Bool) → bytes_eq name default_name ≡ t → t ≡ false
    by false g = refl
    by true g = let held : IsTrue false = subst IsTrue e (told ((bytes_eq-Decides name default_name).0 g)) in let no : false ≡ true = held in absurd cc

pub account_place : (who : List ℕ) → is_key_hash who ≡ true → IsPlace (implicit_place who)
account_place who h = implicit_is who h

pub account_takes : (at : Lookup) (who name : List ℕ) (a : Kind) → is_key_hash who ≡ true →
    takes at (implicit_place who) name a ≡ (bytes_eq name default_name && is_taken_by_account a)
account_takes at who name a h =
    ap (λ b. if b then bytes_eq name default_name && is_taken_by_account a else has_kind a (option_and_then (entry_in name) (if b then None else at (hash_in (implicit_place who))))) h

-- ---- contracts

pub contract_place_is : (hash : List ℕ) → length hash ≡ 20 → IsPlace (contract_place hash)
contract_place_is hash h = contract_is hash h

module _ (v : World) (w : PlainWorld) (hash name : List ℕ) (a : Kind) (typed : HasTypedScripts v) (stands : StandsFor v w) (is : length hash ≡ 20) where
  there : plain_contract_at w (hash_in (contract_place hash)) ≡ option_map (plain v.store.bases.present) (contract_at v.funds.present hash)
  there = ap (plain_contract_at w) (hash_of hash is) ∙ contracts_agree v w hash stands

  seen : (o : Option Contract) → contract_at v.funds.present hash ≡ o →
      takes (plain_contract_at w) (contract_place hash) name a ≡ has_kind a (option_and_then (entry_in name) (option_map (plain v.store.bases.present) o))
  seen o e = ap (λ (x : Option PlainContract). has_kind a (option_and_then (entry_in name) x)) (there ∙ ap (option_map (plain v.store.bases.present)) e)

  pub contract_takes : (k : Contract) → contract_at v.funds.present hash ≡ Some k →
      takes (plain_contract_at w) (contract_place hash) name a ≡ has_kind a (find_entry name (entries_in k))
  contract_takes k e = seen (Some k) e ∙ ap (has_kind a) (entry_found v hash k typed e v.store.bases.present name)

  pub nobody_takes : contract_at v.funds.present hash ≡ None → takes (plain_contract_at w) (contract_place hash) name a ≡ false
  nobody_takes e = seen None e
