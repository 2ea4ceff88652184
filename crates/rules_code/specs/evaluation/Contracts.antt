-- The contracts that a run sees (Michelson reference, CONTRACT and VIEW; Octez documentation, "Smart contract views").
use Rattle.std.specs.Prelude.{ℕ, Bool, true, false, ◌&&◌, if◌then◌else◌, List, [], ◌∷◌, take, drop, Option, Some, None, option_and_then, is_some}
use Rattle.std.specs.Str.{bytes_eq}
use Rattle.rules_text.specs.nodes.Tree.{Tree}
use Rattle.rules_data.specs.forms.Spelling.{default_name, spelled_address, place_of, entrypoint_of, is_implicit}
use Rattle.rules_data.specs.types.Kind.{Kind}
use Rattle.rules_data.specs.types.Kind as k
use Rattle.rules_data.specs.types.Entrypoints.{Entry, find_entry}
use Rattle.rules_code.specs.instructions.Types as t
use Rattle.rules_code.specs.instructions.Same.{same_kind}
use Rattle.rules_code.specs.instructions.Arguments.{Found, found, fault}
use Rattle.rules_code.specs.typing.Scripts.{Outline, TypedView}
use Rattle.rules_code.specs.typing.Nodes.{outline}
use Rattle.rules_code.specs.evaluation.Surroundings.{Contract}

abbrev pub if_found : {A : Type 0} → Found A → Option A
if_found (found x) = Some x
if_found (fault l) = None

-- ---- the parts of a script, whose bodies aren't typed anew

abbrev pub outline_in : Tree → Option Outline
outline_in script = if_found (outline script)

-- the entrypoint of a name
abbrev pub entry_in : List ℕ → Contract → Option Entry
entry_in name c = option_and_then (λ o. find_entry name o.entries) (outline_in c.script)

-- the view of a name
abbrev pub view_named : List ℕ → List TypedView → Option TypedView
view_named name [] = None
view_named name (v ∷ vs) = if bytes_eq v.name name then Some v else view_named name vs

-- ---- places

-- the 20 bytes of a contract's place
abbrev pub hash_in : List ℕ → List ℕ
hash_in place = take 20 (drop 1 place)

-- the contracts of a world by their 20 bytes
abbrev pub Lookup : Type 0
Lookup = List ℕ → Option Contract

-- the contract of a place, if the place is a contract's that is there
abbrev pub contract_in : Lookup → List ℕ → Option Contract
contract_in contract_at place = if is_implicit place then None else contract_at (hash_in place)

-- ---- CONTRACT

-- the entrypoint that an address and an annotation name together; both may not be other than the default one
abbrev pub chosen_entrypoint : List ℕ → List ℕ → Option (List ℕ)
chosen_entrypoint of_address of_annotation =
    if bytes_eq of_address default_name then Some of_annotation
    else if bytes_eq of_annotation default_name then Some of_address
    else None

-- an implicit account takes nothing but mutez, or tickets
abbrev pub is_taken_by_account : Kind → Bool
is_taken_by_account t.unit = true
is_taken_by_account (k.ticket a) = true
is_taken_by_account a = false

abbrev pub has_kind : Kind → Option Entry → Bool
has_kind a None = false
has_kind a (Some entry) = same_kind entry.kind a

-- whether a place has an entrypoint of a type
abbrev pub takes : Lookup → List ℕ → List ℕ → Kind → Bool
takes contract_at place name a =
    if is_implicit place
    then bytes_eq name default_name && is_taken_by_account a
    else has_kind a (option_and_then (entry_in name) (contract_in contract_at place))

abbrev pub address_where : Bool → List ℕ → Option (List ℕ)
address_where true address = Some address
address_where false address = None

abbrev pub contract_named : Lookup → List ℕ → Kind → Option (List ℕ) → Option (List ℕ)
contract_named contract_at place a None = None
contract_named contract_at place a (Some name) = address_where (takes contract_at place name a) (spelled_address place name)

-- the address with the entrypoint that it and the annotation name, where that has the type
abbrev pub contract_of : Lookup → List ℕ → Kind → List ℕ → Option (List ℕ)
contract_of contract_at annotation a address =
    contract_named contract_at (place_of address) a (chosen_entrypoint (entrypoint_of address) annotation)

-- whether an address in a literal of the type of contracts is one
abbrev pub is_contract_of : Lookup → Kind → List ℕ → Bool
is_contract_of contract_at a address = is_some (contract_of contract_at default_name a address)

-- ---- VIEW

-- a view that is there: the contract with its 20 bytes, the type of its storage, and the body
pub record Viewed : Type 0 where
  pub hash : List ℕ
  pub contract : Contract
  pub storage : Kind
  pub body : Tree

-- a view with these types of input and output, of a contract whose storage has this type
abbrev pub viewed_with : List ℕ → Contract → Kind → Kind → Kind → TypedView → Option Viewed
viewed_with hash c s a b v =
    if same_kind v.input a && same_kind v.output b
    then Some (record { hash = hash; contract = c; storage = s; body = v.body.node })
    else None

abbrev pub viewed_of : List ℕ → Contract → List ℕ → Kind → Kind → Option Viewed
viewed_of hash c name a b =
    option_and_then (λ o. option_and_then (viewed_with hash c o.storage a b) (view_named name o.views)) (outline_in c.script)

-- the view of a name at an address, whose entrypoint doesn't matter, with these types of input and output
abbrev pub viewed : Lookup → List ℕ → Kind → Kind → List ℕ → Option Viewed
viewed contract_at name a b address =
    option_and_then (λ c. viewed_of (hash_in (place_of address)) c name a b) (contract_in contract_at (place_of address))
