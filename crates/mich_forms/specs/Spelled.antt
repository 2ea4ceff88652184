-- The bytes that a place and an address stand for. The other forms are seen as their bytes.
use Rattle.std.specs.Prelude.{ℕ, List}
use Rattle.rules_data.specs.forms.Spelling.{implicit_place, contract_place, spelled_address}
use Rattle.mich_forms.specs.declared.places.Place.{Place}
use Rattle.mich_forms.specs.declared.places.Place.TheVariants.{Implicit, Contract}
use Rattle.mich_forms.specs.declared.addresses.Address.{Address}

-- the bytes of a place
abbrev pub place_bytes : Place → List ℕ
place_bytes (Implicit key_hash) = implicit_place key_hash
place_bytes (Contract hash) = contract_place hash

-- the bytes of an address
abbrev pub address_bytes : Address → List ℕ
address_bytes address = spelled_address (place_bytes address.place) address.entrypoint
