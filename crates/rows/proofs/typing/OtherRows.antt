-- Strings and bytes, packing and hashes, surroundings, contracts and operations, tickets; names that are none.
use Rattle.std.specs.Prelude.{◌≡◌, refl, pos, [], ◌∷◌, codes}
use Rattle.rules_text.specs.nodes.Tree.{int, str, bytes, prim, none, more}
use Rattle.rules_text.specs.nodes.Primitives.{primitive_names, primitives, code_of_name, primitive_of_code, primitive_of_name}
use Rattle.rules_data.specs.declared.types.Simple.TheVariants as s
use Rattle.rules_data.specs.types.Kind as k
use Rattle.rules_data.specs.types.Reading.{former_of_name}
use Rattle.rules_data.specs.types.Entrypoints.{in_order}
use Rattle.rules_data.specs.values.Literals.{word_of_name}
use Rattle.rules_code.specs.instructions.Context as c
use Rattle.rules_code.specs.typing.Typing.{goes, bad}
use Rattle.rules_code.specs.typing.Nodes.{tree_type}
use Rattle.rows.specs.typing.Told.{main_entries}

-- CONCAT | lambda | string, string | string
other_1 : tree_type (prim (codes "CONCAT") [] none) c.lambda ((k.simple s.String) ∷ (k.simple s.String) ∷ []) ≡ goes
    ((k.simple s.String) ∷ [])
unfolding primitive_names primitives code_of_name primitive_of_code primitive_of_name former_of_name word_of_name in_order
other_1 = refl

-- CONCAT | lambda | bytes, bytes | bytes
other_2 : tree_type (prim (codes "CONCAT") [] none) c.lambda ((k.simple s.Bytes) ∷ (k.simple s.Bytes) ∷ []) ≡ goes ((k.simple
    s.Bytes) ∷ [])
unfolding primitive_names primitives code_of_name primitive_of_code primitive_of_name former_of_name word_of_name in_order
other_2 = refl

-- CONCAT | lambda | list string | string
other_3 : tree_type (prim (codes "CONCAT") [] none) c.lambda ((k.list (k.simple s.String)) ∷ []) ≡ goes ((k.simple s.String) ∷
    [])
unfolding primitive_names primitives code_of_name primitive_of_code primitive_of_name former_of_name word_of_name in_order
other_3 = refl

-- CONCAT | lambda | list bytes | bytes
other_4 : tree_type (prim (codes "CONCAT") [] none) c.lambda ((k.list (k.simple s.Bytes)) ∷ []) ≡ goes ((k.simple s.Bytes) ∷
    [])
unfolding primitive_names primitives code_of_name primitive_of_code primitive_of_name former_of_name word_of_name in_order
other_4 = refl

-- CONCAT | lambda | string, bytes | 0
other_5 : tree_type (prim (codes "CONCAT") [] none) c.lambda ((k.simple s.String) ∷ (k.simple s.Bytes) ∷ []) ≡ bad 0
unfolding primitive_names primitives code_of_name primitive_of_code primitive_of_name former_of_name word_of_name in_order
other_5 = refl

-- CONCAT | lambda | list nat | 0
other_6 : tree_type (prim (codes "CONCAT") [] none) c.lambda ((k.list (k.simple s.Nat)) ∷ []) ≡ bad 0
unfolding primitive_names primitives code_of_name primitive_of_code primitive_of_name former_of_name word_of_name in_order
other_6 = refl

-- CONCAT | lambda | string | 0
other_7 : tree_type (prim (codes "CONCAT") [] none) c.lambda ((k.simple s.String) ∷ []) ≡ bad 0
unfolding primitive_names primitives code_of_name primitive_of_code primitive_of_name former_of_name word_of_name in_order
other_7 = refl

-- SLICE | lambda | nat, nat, string | option string
other_8 : tree_type (prim (codes "SLICE") [] none) c.lambda ((k.simple s.Nat) ∷ (k.simple s.Nat) ∷ (k.simple s.String) ∷ []) ≡
    goes ((k.option (k.simple s.String)) ∷ [])
unfolding primitive_names primitives code_of_name primitive_of_code primitive_of_name former_of_name word_of_name in_order
other_8 = refl

-- SLICE | lambda | nat, nat, bytes | option bytes
other_9 : tree_type (prim (codes "SLICE") [] none) c.lambda ((k.simple s.Nat) ∷ (k.simple s.Nat) ∷ (k.simple s.Bytes) ∷ []) ≡
    goes ((k.option (k.simple s.Bytes)) ∷ [])
unfolding primitive_names primitives code_of_name primitive_of_code primitive_of_name former_of_name word_of_name in_order
other_9 = refl

-- SLICE | lambda | nat, int, bytes | 0
other_10 : tree_type (prim (codes "SLICE") [] none) c.lambda ((k.simple s.Nat) ∷ (k.simple s.Int) ∷ (k.simple s.Bytes) ∷ []) ≡
    bad 0
unfolding primitive_names primitives code_of_name primitive_of_code primitive_of_name former_of_name word_of_name in_order
other_10 = refl

-- SLICE | lambda | nat, nat, list nat | 0
other_11 : tree_type (prim (codes "SLICE") [] none) c.lambda ((k.simple s.Nat) ∷ (k.simple s.Nat) ∷ (k.list (k.simple s.Nat))
    ∷ []) ≡ bad 0
unfolding primitive_names primitives code_of_name primitive_of_code primitive_of_name former_of_name word_of_name in_order
other_11 = refl

-- PACK | lambda | pair nat (lambda nat nat) | bytes
other_12 : tree_type (prim (codes "PACK") [] none) c.lambda ((k.pair (k.simple s.Nat) (k.lambda (k.simple s.Nat) (k.simple
    s.Nat))) ∷ []) ≡ goes ((k.simple s.Bytes) ∷ [])
unfolding primitive_names primitives code_of_name primitive_of_code primitive_of_name former_of_name word_of_name in_order
other_12 = refl

-- PACK | lambda | contract unit | bytes
other_13 : tree_type (prim (codes "PACK") [] none) c.lambda ((k.contract (k.simple s.Unit)) ∷ []) ≡ goes ((k.simple s.Bytes) ∷
    [])
unfolding primitive_names primitives code_of_name primitive_of_code primitive_of_name former_of_name word_of_name in_order
other_13 = refl

-- PACK | lambda | big_map nat nat | 0
other_14 : tree_type (prim (codes "PACK") [] none) c.lambda ((k.big_map (k.simple s.Nat) (k.simple s.Nat)) ∷ []) ≡ bad 0
unfolding primitive_names primitives code_of_name primitive_of_code primitive_of_name former_of_name word_of_name in_order
other_14 = refl

-- PACK | lambda | operation | 0
other_15 : tree_type (prim (codes "PACK") [] none) c.lambda (k.operation ∷ []) ≡ bad 0
unfolding primitive_names primitives code_of_name primitive_of_code primitive_of_name former_of_name word_of_name in_order
other_15 = refl

-- UNPACK nat | lambda | bytes | option nat
other_16 : tree_type (prim (codes "UNPACK") [] (more (prim (codes "nat") [] none) none)) c.lambda ((k.simple s.Bytes) ∷ []) ≡
    goes ((k.option (k.simple s.Nat)) ∷ [])
unfolding primitive_names primitives code_of_name primitive_of_code primitive_of_name former_of_name word_of_name in_order
other_16 = refl

-- UNPACK (contract nat) | lambda | bytes | 1
other_17 : tree_type (prim (codes "UNPACK") [] (more (prim (codes "contract") [] (more (prim (codes "nat") [] none) none))
    none)) c.lambda ((k.simple s.Bytes) ∷ []) ≡ bad 1
unfolding primitive_names primitives code_of_name primitive_of_code primitive_of_name former_of_name word_of_name in_order
other_17 = refl

-- UNPACK nat | lambda | string | 0
other_18 : tree_type (prim (codes "UNPACK") [] (more (prim (codes "nat") [] none) none)) c.lambda ((k.simple s.String) ∷ []) ≡
    bad 0
unfolding primitive_names primitives code_of_name primitive_of_code primitive_of_name former_of_name word_of_name in_order
other_18 = refl

-- UNPACK | lambda | bytes | 0
other_19 : tree_type (prim (codes "UNPACK") [] none) c.lambda ((k.simple s.Bytes) ∷ []) ≡ bad 0
unfolding primitive_names primitives code_of_name primitive_of_code primitive_of_name former_of_name word_of_name in_order
other_19 = refl

-- BLAKE2B | lambda | bytes | bytes
other_20 : tree_type (prim (codes "BLAKE2B") [] none) c.lambda ((k.simple s.Bytes) ∷ []) ≡ goes ((k.simple s.Bytes) ∷ [])
unfolding primitive_names primitives code_of_name primitive_of_code primitive_of_name former_of_name word_of_name in_order
other_20 = refl

-- BLAKE2B | lambda | string | 0
other_21 : tree_type (prim (codes "BLAKE2B") [] none) c.lambda ((k.simple s.String) ∷ []) ≡ bad 0
unfolding primitive_names primitives code_of_name primitive_of_code primitive_of_name former_of_name word_of_name in_order
other_21 = refl

-- SHA256 | lambda | bytes | bytes
other_22 : tree_type (prim (codes "SHA256") [] none) c.lambda ((k.simple s.Bytes) ∷ []) ≡ goes ((k.simple s.Bytes) ∷ [])
unfolding primitive_names primitives code_of_name primitive_of_code primitive_of_name former_of_name word_of_name in_order
other_22 = refl

-- SHA512 | lambda | bytes | bytes
other_23 : tree_type (prim (codes "SHA512") [] none) c.lambda ((k.simple s.Bytes) ∷ []) ≡ goes ((k.simple s.Bytes) ∷ [])
unfolding primitive_names primitives code_of_name primitive_of_code primitive_of_name former_of_name word_of_name in_order
other_23 = refl

-- HASH_KEY | lambda | key | key_hash
other_24 : tree_type (prim (codes "HASH_KEY") [] none) c.lambda ((k.simple s.Key) ∷ []) ≡ goes ((k.simple s.KeyHash) ∷ [])
unfolding primitive_names primitives code_of_name primitive_of_code primitive_of_name former_of_name word_of_name in_order
other_24 = refl

-- HASH_KEY | lambda | bytes | 0
other_25 : tree_type (prim (codes "HASH_KEY") [] none) c.lambda ((k.simple s.Bytes) ∷ []) ≡ bad 0
unfolding primitive_names primitives code_of_name primitive_of_code primitive_of_name former_of_name word_of_name in_order
other_25 = refl

-- AMOUNT | view | - | mutez
other_26 : tree_type (prim (codes "AMOUNT") [] none) c.view [] ≡ goes ((k.simple s.Mutez) ∷ [])
unfolding primitive_names primitives code_of_name primitive_of_code primitive_of_name former_of_name word_of_name in_order
other_26 = refl

-- BALANCE | view | - | mutez
other_27 : tree_type (prim (codes "BALANCE") [] none) c.view [] ≡ goes ((k.simple s.Mutez) ∷ [])
unfolding primitive_names primitives code_of_name primitive_of_code primitive_of_name former_of_name word_of_name in_order
other_27 = refl

-- SENDER | view | - | address
other_28 : tree_type (prim (codes "SENDER") [] none) c.view [] ≡ goes ((k.simple s.Address) ∷ [])
unfolding primitive_names primitives code_of_name primitive_of_code primitive_of_name former_of_name word_of_name in_order
other_28 = refl

-- SOURCE | view | - | address
other_29 : tree_type (prim (codes "SOURCE") [] none) c.view [] ≡ goes ((k.simple s.Address) ∷ [])
unfolding primitive_names primitives code_of_name primitive_of_code primitive_of_name former_of_name word_of_name in_order
other_29 = refl

-- SELF_ADDRESS | view | - | address
other_30 : tree_type (prim (codes "SELF_ADDRESS") [] none) c.view [] ≡ goes ((k.simple s.Address) ∷ [])
unfolding primitive_names primitives code_of_name primitive_of_code primitive_of_name former_of_name word_of_name in_order
other_30 = refl

-- NOW | view | - | timestamp
other_31 : tree_type (prim (codes "NOW") [] none) c.view [] ≡ goes ((k.simple s.Timestamp) ∷ [])
unfolding primitive_names primitives code_of_name primitive_of_code primitive_of_name former_of_name word_of_name in_order
other_31 = refl

-- LEVEL | view | - | nat
other_32 : tree_type (prim (codes "LEVEL") [] none) c.view [] ≡ goes ((k.simple s.Nat) ∷ [])
unfolding primitive_names primitives code_of_name primitive_of_code primitive_of_name former_of_name word_of_name in_order
other_32 = refl

-- CHAIN_ID | view | unit | chain_id, unit
other_33 : tree_type (prim (codes "CHAIN_ID") [] none) c.view ((k.simple s.Unit) ∷ []) ≡ goes ((k.simple s.ChainId) ∷
    (k.simple s.Unit) ∷ [])
unfolding primitive_names primitives code_of_name primitive_of_code primitive_of_name former_of_name word_of_name in_order
other_33 = refl

-- ADDRESS | lambda | contract nat | address
other_34 : tree_type (prim (codes "ADDRESS") [] none) c.lambda ((k.contract (k.simple s.Nat)) ∷ []) ≡ goes ((k.simple
    s.Address) ∷ [])
unfolding primitive_names primitives code_of_name primitive_of_code primitive_of_name former_of_name word_of_name in_order
other_34 = refl

-- ADDRESS | lambda | address | 0
other_35 : tree_type (prim (codes "ADDRESS") [] none) c.lambda ((k.simple s.Address) ∷ []) ≡ bad 0
unfolding primitive_names primitives code_of_name primitive_of_code primitive_of_name former_of_name word_of_name in_order
other_35 = refl

-- IMPLICIT_ACCOUNT | lambda | key_hash | contract unit
other_36 : tree_type (prim (codes "IMPLICIT_ACCOUNT") [] none) c.lambda ((k.simple s.KeyHash) ∷ []) ≡ goes ((k.contract
    (k.simple s.Unit)) ∷ [])
unfolding primitive_names primitives code_of_name primitive_of_code primitive_of_name former_of_name word_of_name in_order
other_36 = refl

-- CONTRACT nat | lambda | address | option (contract nat)
other_37 : tree_type (prim (codes "CONTRACT") [] (more (prim (codes "nat") [] none) none)) c.lambda ((k.simple s.Address) ∷
    []) ≡ goes ((k.option (k.contract (k.simple s.Nat))) ∷ [])
unfolding primitive_names primitives code_of_name primitive_of_code primitive_of_name former_of_name word_of_name in_order
other_37 = refl

-- CONTRACT %a nat | lambda | address | option (contract nat)
other_38 : tree_type (prim (codes "CONTRACT") ((codes "%a") ∷ []) (more (prim (codes "nat") [] none) none)) c.lambda
    ((k.simple s.Address) ∷ []) ≡ goes ((k.option (k.contract (k.simple s.Nat))) ∷ [])
unfolding primitive_names primitives code_of_name primitive_of_code primitive_of_name former_of_name word_of_name in_order
other_38 = refl

-- CONTRACT %default nat | lambda | address | option (contract nat)
other_39 : tree_type (prim (codes "CONTRACT") ((codes "%default") ∷ []) (more (prim (codes "nat") [] none) none)) c.lambda
    ((k.simple s.Address) ∷ []) ≡ goes ((k.option (k.contract (k.simple s.Nat))) ∷ [])
unfolding primitive_names primitives code_of_name primitive_of_code primitive_of_name former_of_name word_of_name in_order
other_39 = refl

-- CONTRACT % %a nat | lambda | address | option (contract nat)
other_40 : tree_type (prim (codes "CONTRACT") ((codes "%") ∷ (codes "%a") ∷ []) (more (prim (codes "nat") [] none) none))
    c.lambda ((k.simple s.Address) ∷ []) ≡ goes ((k.option (k.contract (k.simple s.Nat))) ∷ [])
unfolding primitive_names primitives code_of_name primitive_of_code primitive_of_name former_of_name word_of_name in_order
other_40 = refl

-- CONTRACT operation | lambda | address | 1
other_41 : tree_type (prim (codes "CONTRACT") [] (more (prim (codes "operation") [] none) none)) c.lambda ((k.simple
    s.Address) ∷ []) ≡ bad 1
unfolding primitive_names primitives code_of_name primitive_of_code primitive_of_name former_of_name word_of_name in_order
other_41 = refl

-- CONTRACT (list foo) | lambda | address | 2
other_42 : tree_type (prim (codes "CONTRACT") [] (more (prim (codes "list") [] (more (prim (codes "foo") [] none) none))
    none)) c.lambda ((k.simple s.Address) ∷ []) ≡ bad 2
unfolding primitive_names primitives code_of_name primitive_of_code primitive_of_name former_of_name word_of_name in_order
other_42 = refl

-- CONTRACT (contract operation) | lambda | address | 2
other_43 : tree_type (prim (codes "CONTRACT") [] (more (prim (codes "contract") [] (more (prim (codes "operation") [] none)
    none)) none)) c.lambda ((k.simple s.Address) ∷ []) ≡ bad 2
unfolding primitive_names primitives code_of_name primitive_of_code primitive_of_name former_of_name word_of_name in_order
other_43 = refl

-- CONTRACT nat | lambda | key_hash | 0
other_44 : tree_type (prim (codes "CONTRACT") [] (more (prim (codes "nat") [] none) none)) c.lambda ((k.simple s.KeyHash) ∷
    []) ≡ bad 0
unfolding primitive_names primitives code_of_name primitive_of_code primitive_of_name former_of_name word_of_name in_order
other_44 = refl

-- CONTRACT %a234567890123456789012345678901 nat | lambda | address | option (contract nat)
other_45 : tree_type (prim (codes "CONTRACT") ((codes "%a234567890123456789012345678901") ∷ []) (more (prim (codes "nat") []
    none) none)) c.lambda ((k.simple s.Address) ∷ []) ≡ goes ((k.option (k.contract (k.simple s.Nat))) ∷ [])
unfolding primitive_names primitives code_of_name primitive_of_code primitive_of_name former_of_name word_of_name in_order
other_45 = refl

-- CONTRACT %a2345678901234567890123456789012 foo | lambda | address | 0
other_46 : tree_type (prim (codes "CONTRACT") ((codes "%a2345678901234567890123456789012") ∷ []) (more (prim (codes "foo") []
    none) none)) c.lambda ((k.simple s.Address) ∷ []) ≡ bad 0
unfolding primitive_names primitives code_of_name primitive_of_code primitive_of_name former_of_name word_of_name in_order
other_46 = refl

-- TRANSFER_TOKENS | lambda | nat, mutez, contract nat, unit | operation, unit
other_47 : tree_type (prim (codes "TRANSFER_TOKENS") [] none) c.lambda ((k.simple s.Nat) ∷ (k.simple s.Mutez) ∷ (k.contract
    (k.simple s.Nat)) ∷ (k.simple s.Unit) ∷ []) ≡ goes (k.operation ∷ (k.simple s.Unit) ∷ [])
unfolding primitive_names primitives code_of_name primitive_of_code primitive_of_name former_of_name word_of_name in_order
other_47 = refl

-- TRANSFER_TOKENS | main | nat, mutez, contract nat | operation
other_48 : tree_type (prim (codes "TRANSFER_TOKENS") [] none) main_entries ((k.simple s.Nat) ∷ (k.simple s.Mutez) ∷
    (k.contract (k.simple s.Nat)) ∷ []) ≡ goes (k.operation ∷ [])
unfolding primitive_names primitives code_of_name primitive_of_code primitive_of_name former_of_name word_of_name in_order
other_48 = refl

-- TRANSFER_TOKENS | view | nat, mutez, contract nat | 0
other_49 : tree_type (prim (codes "TRANSFER_TOKENS") [] none) c.view ((k.simple s.Nat) ∷ (k.simple s.Mutez) ∷ (k.contract
    (k.simple s.Nat)) ∷ []) ≡ bad 0
unfolding primitive_names primitives code_of_name primitive_of_code primitive_of_name former_of_name word_of_name in_order
other_49 = refl

-- TRANSFER_TOKENS | main | nat, mutez, contract int | 0
other_50 : tree_type (prim (codes "TRANSFER_TOKENS") [] none) main_entries ((k.simple s.Nat) ∷ (k.simple s.Mutez) ∷
    (k.contract (k.simple s.Int)) ∷ []) ≡ bad 0
unfolding primitive_names primitives code_of_name primitive_of_code primitive_of_name former_of_name word_of_name in_order
other_50 = refl

-- EMIT | lambda | nat, unit | operation, unit
other_51 : tree_type (prim (codes "EMIT") [] none) c.lambda ((k.simple s.Nat) ∷ (k.simple s.Unit) ∷ []) ≡ goes (k.operation ∷
    (k.simple s.Unit) ∷ [])
unfolding primitive_names primitives code_of_name primitive_of_code primitive_of_name former_of_name word_of_name in_order
other_51 = refl

-- EMIT %a nat | lambda | nat | operation
other_52 : tree_type (prim (codes "EMIT") ((codes "%a") ∷ []) (more (prim (codes "nat") [] none) none)) c.lambda ((k.simple
    s.Nat) ∷ []) ≡ goes (k.operation ∷ [])
unfolding primitive_names primitives code_of_name primitive_of_code primitive_of_name former_of_name word_of_name in_order
other_52 = refl

-- EMIT nat | lambda | int | 0
other_53 : tree_type (prim (codes "EMIT") [] (more (prim (codes "nat") [] none) none)) c.lambda ((k.simple s.Int) ∷ []) ≡ bad
    0
unfolding primitive_names primitives code_of_name primitive_of_code primitive_of_name former_of_name word_of_name in_order
other_53 = refl

-- EMIT operation | lambda | operation | 1
other_54 : tree_type (prim (codes "EMIT") [] (more (prim (codes "operation") [] none) none)) c.lambda (k.operation ∷ []) ≡ bad
    1
unfolding primitive_names primitives code_of_name primitive_of_code primitive_of_name former_of_name word_of_name in_order
other_54 = refl

-- EMIT | lambda | operation | 0
other_55 : tree_type (prim (codes "EMIT") [] none) c.lambda (k.operation ∷ []) ≡ bad 0
unfolding primitive_names primitives code_of_name primitive_of_code primitive_of_name former_of_name word_of_name in_order
other_55 = refl

-- EMIT nat nat | lambda | nat | 0
other_56 : tree_type (prim (codes "EMIT") [] (more (prim (codes "nat") [] none) (more (prim (codes "nat") [] none) none)))
    c.lambda ((k.simple s.Nat) ∷ []) ≡ bad 0
unfolding primitive_names primitives code_of_name primitive_of_code primitive_of_name former_of_name word_of_name in_order
other_56 = refl

-- EMIT %a2345678901234567890123456789012 | lambda | nat | 0
other_57 : tree_type (prim (codes "EMIT") ((codes "%a2345678901234567890123456789012") ∷ []) none) c.lambda ((k.simple s.Nat)
    ∷ []) ≡ bad 0
unfolding primitive_names primitives code_of_name primitive_of_code primitive_of_name former_of_name word_of_name in_order
other_57 = refl

-- VIEW "v" nat | lambda | operation, address, unit | option nat, unit
other_58 : tree_type (prim (codes "VIEW") [] (more (str (codes "v")) (more (prim (codes "nat") [] none) none))) c.lambda
    (k.operation ∷ (k.simple s.Address) ∷ (k.simple s.Unit) ∷ []) ≡ goes ((k.option (k.simple s.Nat)) ∷ (k.simple s.Unit) ∷
    [])
unfolding primitive_names primitives code_of_name primitive_of_code primitive_of_name former_of_name word_of_name in_order
other_58 = refl

-- VIEW "" nat | view | nat, address | option nat
other_59 : tree_type (prim (codes "VIEW") [] (more (str (codes "")) (more (prim (codes "nat") [] none) none))) c.view
    ((k.simple s.Nat) ∷ (k.simple s.Address) ∷ []) ≡ goes ((k.option (k.simple s.Nat)) ∷ [])
unfolding primitive_names primitives code_of_name primitive_of_code primitive_of_name former_of_name word_of_name in_order
other_59 = refl

-- VIEW v nat | lambda | nat, address | 1
other_60 : tree_type (prim (codes "VIEW") [] (more (prim (codes "v") [] none) (more (prim (codes "nat") [] none) none)))
    c.lambda ((k.simple s.Nat) ∷ (k.simple s.Address) ∷ []) ≡ bad 1
unfolding primitive_names primitives code_of_name primitive_of_code primitive_of_name former_of_name word_of_name in_order
other_60 = refl

-- VIEW "a-b" nat | lambda | nat, address | 1
other_61 : tree_type (prim (codes "VIEW") [] (more (str (codes "a-b")) (more (prim (codes "nat") [] none) none))) c.lambda
    ((k.simple s.Nat) ∷ (k.simple s.Address) ∷ []) ≡ bad 1
unfolding primitive_names primitives code_of_name primitive_of_code primitive_of_name former_of_name word_of_name in_order
other_61 = refl

-- VIEW "v" (big_map nat nat) | lambda | nat, address | 2
other_62 : tree_type (prim (codes "VIEW") [] (more (str (codes "v")) (more (prim (codes "big_map") [] (more (prim (codes
    "nat") [] none) (more (prim (codes "nat") [] none) none))) none))) c.lambda ((k.simple s.Nat) ∷ (k.simple s.Address) ∷ [])
    ≡ bad 2
unfolding primitive_names primitives code_of_name primitive_of_code primitive_of_name former_of_name word_of_name in_order
other_62 = refl

-- VIEW "a-b" foo | lambda | nat, address | 1
other_63 : tree_type (prim (codes "VIEW") [] (more (str (codes "a-b")) (more (prim (codes "foo") [] none) none))) c.lambda
    ((k.simple s.Nat) ∷ (k.simple s.Address) ∷ []) ≡ bad 1
unfolding primitive_names primitives code_of_name primitive_of_code primitive_of_name former_of_name word_of_name in_order
other_63 = refl

-- VIEW "v" foo | lambda | nat, address | 2
other_64 : tree_type (prim (codes "VIEW") [] (more (str (codes "v")) (more (prim (codes "foo") [] none) none))) c.lambda
    ((k.simple s.Nat) ∷ (k.simple s.Address) ∷ []) ≡ bad 2
unfolding primitive_names primitives code_of_name primitive_of_code primitive_of_name former_of_name word_of_name in_order
other_64 = refl

-- VIEW "v" nat | lambda | nat, nat | 0
other_65 : tree_type (prim (codes "VIEW") [] (more (str (codes "v")) (more (prim (codes "nat") [] none) none))) c.lambda
    ((k.simple s.Nat) ∷ (k.simple s.Nat) ∷ []) ≡ bad 0
unfolding primitive_names primitives code_of_name primitive_of_code primitive_of_name former_of_name word_of_name in_order
other_65 = refl

-- VIEW "v" | lambda | nat, address | 0
other_66 : tree_type (prim (codes "VIEW") [] (more (str (codes "v")) none)) c.lambda ((k.simple s.Nat) ∷ (k.simple s.Address)
    ∷ []) ≡ bad 0
unfolding primitive_names primitives code_of_name primitive_of_code primitive_of_name former_of_name word_of_name in_order
other_66 = refl

-- TICKET | lambda | string, nat, unit | option (ticket string), unit
other_67 : tree_type (prim (codes "TICKET") [] none) c.lambda ((k.simple s.String) ∷ (k.simple s.Nat) ∷ (k.simple s.Unit) ∷
    []) ≡ goes ((k.option (k.ticket (k.simple s.String))) ∷ (k.simple s.Unit) ∷ [])
unfolding primitive_names primitives code_of_name primitive_of_code primitive_of_name former_of_name word_of_name in_order
other_67 = refl

-- TICKET | lambda | list nat, nat | 0
other_68 : tree_type (prim (codes "TICKET") [] none) c.lambda ((k.list (k.simple s.Nat)) ∷ (k.simple s.Nat) ∷ []) ≡ bad 0
unfolding primitive_names primitives code_of_name primitive_of_code primitive_of_name former_of_name word_of_name in_order
other_68 = refl

-- TICKET | lambda | string, int | 0
other_69 : tree_type (prim (codes "TICKET") [] none) c.lambda ((k.simple s.String) ∷ (k.simple s.Int) ∷ []) ≡ bad 0
unfolding primitive_names primitives code_of_name primitive_of_code primitive_of_name former_of_name word_of_name in_order
other_69 = refl

-- READ_TICKET | lambda | ticket string, unit | pair address (pair string nat), ticket string, unit
other_70 : tree_type (prim (codes "READ_TICKET") [] none) c.lambda ((k.ticket (k.simple s.String)) ∷ (k.simple s.Unit) ∷ []) ≡
    goes ((k.pair (k.simple s.Address) (k.pair (k.simple s.String) (k.simple s.Nat))) ∷ (k.ticket (k.simple s.String)) ∷
    (k.simple s.Unit) ∷ [])
unfolding primitive_names primitives code_of_name primitive_of_code primitive_of_name former_of_name word_of_name in_order
other_70 = refl

-- READ_TICKET | lambda | string | 0
other_71 : tree_type (prim (codes "READ_TICKET") [] none) c.lambda ((k.simple s.String) ∷ []) ≡ bad 0
unfolding primitive_names primitives code_of_name primitive_of_code primitive_of_name former_of_name word_of_name in_order
other_71 = refl

-- SPLIT_TICKET | lambda | ticket string, pair nat nat | option (pair (ticket string) (ticket string))
other_72 : tree_type (prim (codes "SPLIT_TICKET") [] none) c.lambda ((k.ticket (k.simple s.String)) ∷ (k.pair (k.simple s.Nat)
    (k.simple s.Nat)) ∷ []) ≡ goes ((k.option (k.pair (k.ticket (k.simple s.String)) (k.ticket (k.simple s.String)))) ∷ [])
unfolding primitive_names primitives code_of_name primitive_of_code primitive_of_name former_of_name word_of_name in_order
other_72 = refl

-- SPLIT_TICKET | lambda | ticket string, pair nat int | 0
other_73 : tree_type (prim (codes "SPLIT_TICKET") [] none) c.lambda ((k.ticket (k.simple s.String)) ∷ (k.pair (k.simple s.Nat)
    (k.simple s.Int)) ∷ []) ≡ bad 0
unfolding primitive_names primitives code_of_name primitive_of_code primitive_of_name former_of_name word_of_name in_order
other_73 = refl

-- JOIN_TICKETS | lambda | pair (ticket string) (ticket string) | option (ticket string)
other_74 : tree_type (prim (codes "JOIN_TICKETS") [] none) c.lambda ((k.pair (k.ticket (k.simple s.String)) (k.ticket
    (k.simple s.String))) ∷ []) ≡ goes ((k.option (k.ticket (k.simple s.String))) ∷ [])
unfolding primitive_names primitives code_of_name primitive_of_code primitive_of_name former_of_name word_of_name in_order
other_74 = refl

-- JOIN_TICKETS | lambda | pair (ticket string) (ticket nat) | 0
other_75 : tree_type (prim (codes "JOIN_TICKETS") [] none) c.lambda ((k.pair (k.ticket (k.simple s.String)) (k.ticket
    (k.simple s.Nat))) ∷ []) ≡ bad 0
unfolding primitive_names primitives code_of_name primitive_of_code primitive_of_name former_of_name word_of_name in_order
other_75 = refl

-- FOO | lambda | nat | 0
other_76 : tree_type (prim (codes "FOO") [] none) c.lambda ((k.simple s.Nat) ∷ []) ≡ bad 0
unfolding primitive_names primitives code_of_name primitive_of_code primitive_of_name former_of_name word_of_name in_order
other_76 = refl

-- nat | lambda | nat | 0
other_77 : tree_type (prim (codes "nat") [] none) c.lambda ((k.simple s.Nat) ∷ []) ≡ bad 0
unfolding primitive_names primitives code_of_name primitive_of_code primitive_of_name former_of_name word_of_name in_order
other_77 = refl

-- CHECK_SIGNATURE | lambda | key, signature, bytes | 0
other_78 : tree_type (prim (codes "CHECK_SIGNATURE") [] none) c.lambda ((k.simple s.Key) ∷ (k.simple s.Signature) ∷ (k.simple
    s.Bytes) ∷ []) ≡ bad 0
unfolding primitive_names primitives code_of_name primitive_of_code primitive_of_name former_of_name word_of_name in_order
other_78 = refl

-- KECCAK | lambda | bytes | 0
other_79 : tree_type (prim (codes "KECCAK") [] none) c.lambda ((k.simple s.Bytes) ∷ []) ≡ bad 0
unfolding primitive_names primitives code_of_name primitive_of_code primitive_of_name former_of_name word_of_name in_order
other_79 = refl

-- SHA3 | lambda | bytes | 0
other_80 : tree_type (prim (codes "SHA3") [] none) c.lambda ((k.simple s.Bytes) ∷ []) ≡ bad 0
unfolding primitive_names primitives code_of_name primitive_of_code primitive_of_name former_of_name word_of_name in_order
other_80 = refl

-- SET_DELEGATE | lambda | option key_hash | 0
other_83 : tree_type (prim (codes "SET_DELEGATE") [] none) c.lambda ((k.option (k.simple s.KeyHash)) ∷ []) ≡ bad 0
unfolding primitive_names primitives code_of_name primitive_of_code primitive_of_name former_of_name word_of_name in_order
other_83 = refl

-- VOTING_POWER | lambda | key_hash | 0
other_84 : tree_type (prim (codes "VOTING_POWER") [] none) c.lambda ((k.simple s.KeyHash) ∷ []) ≡ bad 0
unfolding primitive_names primitives code_of_name primitive_of_code primitive_of_name former_of_name word_of_name in_order
other_84 = refl

-- MIN_BLOCK_TIME | lambda | - | 0
other_85 : tree_type (prim (codes "MIN_BLOCK_TIME") [] none) c.lambda [] ≡ bad 0
unfolding primitive_names primitives code_of_name primitive_of_code primitive_of_name former_of_name word_of_name in_order
other_85 = refl

-- STEPS_TO_QUOTA | lambda | - | 0
other_86 : tree_type (prim (codes "STEPS_TO_QUOTA") [] none) c.lambda [] ≡ bad 0
unfolding primitive_names primitives code_of_name primitive_of_code primitive_of_name former_of_name word_of_name in_order
other_86 = refl

-- CREATE_ACCOUNT | lambda | - | 0
other_87 : tree_type (prim (codes "CREATE_ACCOUNT") [] none) c.lambda [] ≡ bad 0
unfolding primitive_names primitives code_of_name primitive_of_code primitive_of_name former_of_name word_of_name in_order
other_87 = refl

-- Pair | lambda | nat | 0
other_88 : tree_type (prim (codes "Pair") [] none) c.lambda ((k.simple s.Nat) ∷ []) ≡ bad 0
unfolding primitive_names primitives code_of_name primitive_of_code primitive_of_name former_of_name word_of_name in_order
other_88 = refl

-- parameter | lambda | nat | 0
other_89 : tree_type (prim (codes "parameter") [] none) c.lambda ((k.simple s.Nat) ∷ []) ≡ bad 0
unfolding primitive_names primitives code_of_name primitive_of_code primitive_of_name former_of_name word_of_name in_order
other_89 = refl

-- constant "a" | lambda | nat | 0
other_90 : tree_type (prim (codes "constant") [] (more (str (codes "a")) none)) c.lambda ((k.simple s.Nat) ∷ []) ≡ bad 0
unfolding primitive_names primitives code_of_name primitive_of_code primitive_of_name former_of_name word_of_name in_order
other_90 = refl

-- 5 | lambda | nat | 0
other_91 : tree_type (int (pos 5)) c.lambda ((k.simple s.Nat) ∷ []) ≡ bad 0
unfolding primitive_names primitives code_of_name primitive_of_code primitive_of_name former_of_name word_of_name in_order
other_91 = refl

-- "a" | lambda | nat | 0
other_92 : tree_type (str (codes "a")) c.lambda ((k.simple s.Nat) ∷ []) ≡ bad 0
unfolding primitive_names primitives code_of_name primitive_of_code primitive_of_name former_of_name word_of_name in_order
other_92 = refl

-- 0x00 | lambda | nat | 0
other_93 : tree_type (bytes (0 ∷ [])) c.lambda ((k.simple s.Nat) ∷ []) ≡ bad 0
unfolding primitive_names primitives code_of_name primitive_of_code primitive_of_name former_of_name word_of_name in_order
other_93 = refl
