-- How entrypoints, key hashes, keys, signatures, chain ids, places and addresses are spelled, as lists of bytes. Each form is
-- a test, and that bytes have the form says that the test is true of them.
-- Sources: Michelson reference, the types key, key_hash, signature, chain_id and address, and its
-- section on entrypoints; Octez documentation, "Data encoding", public key, public key hash, contract id.
use Rattle.std.specs.Prelude.{◌≡◌, ℕ, Bool, true, false, ◌==◌, ◌&&◌, ◌||◌, not, nat_le, if◌then◌else◌, List, [], ◌∷◌, ◌++◌, length, take, drop, slice_index, codes}
use Rattle.std.specs.List.{list_all}
use Rattle.std.specs.Char.{is_ascii_alphanumeric}
use Rattle.std.specs.Str.{bytes_eq}

-- A character of a name: A-Z a-z 0-9 _ . % @ (Michelson reference, entrypoints).
abbrev pub is_name_byte : ℕ → Bool
is_name_byte c = is_ascii_alphanumeric c || c == 95 || c == 46 || c == 37 || c == 64

-- An entrypoint is named by 1 to 31 of them (Michelson reference, entrypoints).
abbrev pub is_entrypoint : List ℕ → Bool
is_entrypoint name = nat_le 1 (length name) && nat_le (length name) 31 && list_all is_name_byte name

abbrev pub IsEntrypoint : List ℕ → Type 0
IsEntrypoint name = is_entrypoint name ≡ true

-- The entrypoint of an address that names none (Michelson reference, address).
abbrev pub default_name : List ℕ
default_name = codes "default"

-- A key hash: its curve's tag, 0 to 3, and 20 bytes (Data encoding, public key hash).
abbrev pub is_key_hash : List ℕ → Bool
is_key_hash [] = false
is_key_hash (tag ∷ hash) = nat_le tag 3 && length hash == 20

abbrev pub IsKeyHash : List ℕ → Type 0
IsKeyHash bytes = is_key_hash bytes ≡ true

-- A key: tag 0 and 32 bytes, or tag 1 or 2 and 33 bytes (Data encoding, public key).
abbrev pub key_length : ℕ → ℕ
key_length tag = (if tag == 0 then 32 else 33)

abbrev pub is_key : List ℕ → Bool
is_key [] = false
is_key (tag ∷ body) = nat_le tag 2 && length body == key_length tag

abbrev pub IsKey : List ℕ → Type 0
IsKey bytes = is_key bytes ≡ true

-- A signature is 64 bytes long, a chain id 4 (Michelson reference, signature and chain_id).
abbrev pub is_signature : List ℕ → Bool
is_signature bytes = length bytes == 64

abbrev pub IsSignature : List ℕ → Type 0
IsSignature bytes = is_signature bytes ≡ true

abbrev pub is_chain_id : List ℕ → Bool
is_chain_id bytes = length bytes == 4

abbrev pub IsChainId : List ℕ → Type 0
IsChainId bytes = is_chain_id bytes ≡ true

-- The place of an implicit account: 0 and its key hash (Data encoding, contract id).
abbrev pub implicit_place : List ℕ → List ℕ
implicit_place key_hash = 0 ∷ key_hash

abbrev pub is_implicit : List ℕ → Bool
is_implicit [] = false
is_implicit (kind ∷ key_hash) = kind == 0 && is_key_hash key_hash

-- The place of a contract: 1, its 20 bytes and 0 (Data encoding, contract id).
abbrev pub contract_place : List ℕ → List ℕ
contract_place hash = 1 ∷ hash ++ 0 ∷ []

abbrev pub is_contract : List ℕ → Bool
is_contract [] = false
is_contract (kind ∷ rest) = kind == 1 && length rest == 21 && slice_index rest 20 == 0

-- A place is one or the other.
abbrev pub is_place : List ℕ → Bool
is_place bytes = is_implicit bytes || is_contract bytes

abbrev pub IsPlace : List ℕ → Type 0
IsPlace bytes = is_place bytes ≡ true

-- What an address writes of its entrypoint: nothing for the default one (Michelson reference, address).
abbrev pub written_entrypoint : List ℕ → List ℕ
written_entrypoint name = (if bytes_eq name default_name then [] else name)

abbrev pub is_written_entrypoint : List ℕ → Bool
is_written_entrypoint [] = true
is_written_entrypoint (c ∷ name) = is_entrypoint (c ∷ name) && not (bytes_eq (c ∷ name) default_name)

-- An address: the 22 bytes of a place, and what is written of an entrypoint (Michelson reference, address).
abbrev pub spelled_address : List ℕ → List ℕ → List ℕ
spelled_address place name = place ++ written_entrypoint name

abbrev pub is_address : List ℕ → Bool
is_address bytes = is_place (take 22 bytes) && is_written_entrypoint (drop 22 bytes)

abbrev pub IsAddress : List ℕ → Type 0
IsAddress bytes = is_address bytes ≡ true

-- The parts of an address.
abbrev pub place_of : List ℕ → List ℕ
place_of address = take 22 address

abbrev pub name_of : List ℕ → List ℕ
name_of [] = default_name
name_of (c ∷ name) = c ∷ name

abbrev pub entrypoint_of : List ℕ → List ℕ
entrypoint_of address = name_of (drop 22 address)
