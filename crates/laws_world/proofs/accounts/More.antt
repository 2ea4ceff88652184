-- What holds in a world goes on to hold in one with more contracts, or with other storages and balances.
use Rattle.std.proofs.Common.{◌≡◌, ℕ, List, [], Bool, true, false, Some, None, refl, ap, ◌∙◌, is_some}
use Rattle.std.specs.Prelude.{◌&&◌, if◌then◌else◌, option_and_then}
use Rattle.std.specs.declared.option.Option.{Option}
use Rattle.std.specs.Str.{bytes_eq}
use Rattle.std.specs.List.{All}
use Rattle.std.proofs.lemmas.List.Elements.{All-weaker}
use Rattle.rules_text.specs.nodes.Tree.{Tree}
use Rattle.rules_data.specs.forms.Spelling.{default_name, spelled_address, place_of, entrypoint_of, is_implicit}
use Rattle.rules_data.specs.types.Kind.{Kind}
use Rattle.rules_data.specs.values.Val.{Val}
use Rattle.rules_code.specs.evaluation.Surroundings.{Contract}
use Rattle.rules_code.specs.evaluation.Operations.{Operation, transfer, origination, event}
use Rattle.rules_code.specs.evaluation.Contracts.{Lookup, outline_in, entry_in, hash_in, has_kind, is_taken_by_account, chosen_entrypoint, takes, address_where, contract_named, is_contract_of}
use Rattle.rules_world.specs.world.World.{World, contract_at}
use Rattle.rules_world.specs.world.Outcomes.{Waiting, ordered, issued}
use Rattle.rules_world.specs.world.Good.{known_with, FitsIn, Stores, IsGoodContract, IsGoodOperation, IsGoodWaiting}
use Rattle.laws_code.proofs.stacks.ForCallers.{fits_grow}

-- each contract is there too, with its script
abbrev pub Extends : Lookup → Lookup → Type 0
Extends l m = (hash : List ℕ) (c : Contract) → l hash ≡ Some c → (d : Contract) × (m hash ≡ Some d) × (d.script ≡ c.script)

pub extends_trans : (l m n : Lookup) → Extends l m → Extends m n → Extends l n
extends_trans l m n f g hash c h =
    let d = f hash c h in
    let e = g hash d.0 d.1 in
    (e.0, e.1, e.2 ∙ d.2)

-- ---- addresses of contracts

module _ (l m : Lookup) (more : Extends l m) where
  entry_more : (name : List ℕ) (a : Kind) (hash : List ℕ) → has_kind a (option_and_then (entry_in name) (l hash)) ≡ true →
      has_kind a (option_and_then (entry_in name) (m hash)) ≡ true
  entry_more name a hash h = by (l hash) refl h
    where
      by : (o : Option Contract) → l hash ≡ o → has_kind a (option_and_then (entry_in name) o) ≡ true →
          has_kind a (option_and_then (entry_in name) (m hash)) ≡ true
      by None e g = absurd cc
      by (Some c) e g =
          let d = more hash c e in
          ap (λ o. has_kind a (option_and_then (entry_in name) o)) d.1
          ∙ ap (λ t. has_kind a (option_and_then (λ o. Rattle.rules_data.specs.types.Entrypoints.find_entry name o.entries)
          (outline_in t))) d.2 ∙ g

  takes_more : (place name : List ℕ) (a : Kind) → takes l place name a ≡ true → takes m place name a ≡ true
  takes_more place name a h = by (is_implicit place) h
    where
      by : (b : Bool) → (if b then bytes_eq name default_name && is_taken_by_account a else has_kind a
          (option_and_then (entry_in name) (if b then None else l (hash_in place)))) ≡ true →
          (if b then bytes_eq name default_name && is_taken_by_account a else has_kind a
          (option_and_then (entry_in name) (if b then None else m (hash_in place)))) ≡ true
      by true g = g
      by false g = entry_more name a (hash_in place) g

  named_more : (place : List ℕ) (a : Kind) (name : Option (List ℕ)) → is_some (contract_named l place a name) ≡ true →
      is_some (contract_named m place a name) ≡ true
  named_more place a None h = h
  named_more place a (Some name) h = by (takes l place name a) refl h
    where
      by : (b : Bool) → takes l place name a ≡ b → is_some (address_where b (spelled_address place name)) ≡ true →
          is_some (address_where (takes m place name a) (spelled_address place name)) ≡ true
      by true e g = ap (λ b. is_some (address_where b (spelled_address place name))) (takes_more place name a e)
      by false e g = absurd cc

  pub contract_more : (a : Kind) (address : List ℕ) → is_contract_of l a address ≡ true → is_contract_of m a address ≡ true
  contract_more a address h = named_more (place_of address) a (chosen_entrypoint (entrypoint_of address) default_name) h

-- ---- worlds

module _ (w x : World) (more : Extends (contract_at w) (contract_at x)) where
  pub fits_in_more : (a : Kind) (y : Val) → FitsIn w a y → FitsIn x a y
  fits_in_more a y h = fits_grow (known_with w []) (known_with x [])
      (record { contracts = λ b a g. contract_more (contract_at w) (contract_at x) more a b g; issued = λ n g. g }) a y h

  pub stores_more : (t : Tree) (y : Val) → Stores w t y → Stores x t y
  stores_more t y h = (h.0, h.1, h.2, fits_in_more h.0.storage y h.3)

  pub contract_good_more : (c : List ℕ × Contract) → IsGoodContract w c → IsGoodContract x c
  contract_good_more c h = stores_more c.1.script c.1.storage h

  pub operation_more : (op : Operation) → IsGoodOperation w op → IsGoodOperation x op
  operation_more (transfer argument amount destination) h =
      (h.0, contract_more (contract_at w) (contract_at x) more h.0 destination h.1, fits_in_more h.0 argument h.2, h.3)
  operation_more (origination delegate amount t storage hash) h = (stores_more t storage h.0, h.1)
  operation_more (event tag a y) h = (h.0, fits_in_more a y h.1)

  pub waiting_more : (op : Waiting) → IsGoodWaiting w op → IsGoodWaiting x op
  waiting_more (ordered action) h = h
  waiting_more (issued sender op) h = (h.0, operation_more op h.1)

  pub all_waiting_more : (ops : List Waiting) → All (IsGoodWaiting w) ops → All (IsGoodWaiting x) ops
  all_waiting_more ops h = All-weaker (IsGoodWaiting w) (IsGoodWaiting x) waiting_more ops h
