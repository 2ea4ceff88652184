-- The rule that is taken, by the arguments and types.
use Rattle.std.specs.Prelude.{◌≡◌, refl, pos, [], ◌∷◌, codes, Some}
use Rattle.rules_text.specs.nodes.Tree.{int, str, prim, none, more}
use Rattle.rules_text.specs.nodes.Primitives.{primitive_names, primitives, code_of_name, primitive_of_code, primitive_of_name}
use Rattle.rules_data.specs.declared.types.Simple.TheVariants as s
use Rattle.rules_data.specs.types.Kind as k
use Rattle.rules_data.specs.types.Reading.{former_of_name}
use Rattle.rules_data.specs.types.Entrypoints.{in_order}
use Rattle.rules_data.specs.values.Literals.{word_of_name}
use Rattle.rules_code.specs.instructions.Rules.{rule}
use Rattle.rules_code.specs.instructions.Straight.{on_stack, on_pairs, on_unions, on_collections, on_numbers, on_truth, on_text, on_hashes, on_operations, on_tickets}
use Rattle.rules_code.specs.instructions.Straight as i
use Rattle.rows.specs.typing.Told.{rule_taken}

-- DROP | nat | on_stack (i.drop 1)
choice_1 : rule_taken (rule (primitive_of_name (codes "DROP")) [] none ((k.simple s.Nat) ∷ [])) ≡ Some (on_stack (i.drop 1))
unfolding primitive_names primitives code_of_name primitive_of_code primitive_of_name former_of_name word_of_name in_order
choice_1 = refl

-- DROP 3 | nat, nat, nat | on_stack (i.drop 3)
choice_2 : rule_taken (rule (primitive_of_name (codes "DROP")) [] (more (int (pos 3)) none) ((k.simple s.Nat) ∷ (k.simple
    s.Nat) ∷ (k.simple s.Nat) ∷ [])) ≡ Some (on_stack (i.drop 3))
unfolding primitive_names primitives code_of_name primitive_of_code primitive_of_name former_of_name word_of_name in_order
choice_2 = refl

-- DUP | nat | on_stack (i.dup 1)
choice_3 : rule_taken (rule (primitive_of_name (codes "DUP")) [] none ((k.simple s.Nat) ∷ [])) ≡ Some (on_stack (i.dup 1))
unfolding primitive_names primitives code_of_name primitive_of_code primitive_of_name former_of_name word_of_name in_order
choice_3 = refl

-- PAIR | nat, nat | on_pairs (i.pair 2)
choice_4 : rule_taken (rule (primitive_of_name (codes "PAIR")) [] none ((k.simple s.Nat) ∷ (k.simple s.Nat) ∷ [])) ≡ Some
    (on_pairs (i.pair 2))
unfolding primitive_names primitives code_of_name primitive_of_code primitive_of_name former_of_name word_of_name in_order
choice_4 = refl

-- UNPAIR | pair nat nat | on_pairs (i.unpair 2)
choice_5 : rule_taken (rule (primitive_of_name (codes "UNPAIR")) [] none ((k.pair (k.simple s.Nat) (k.simple s.Nat)) ∷ [])) ≡
    Some (on_pairs (i.unpair 2))
unfolding primitive_names primitives code_of_name primitive_of_code primitive_of_name former_of_name word_of_name in_order
choice_5 = refl

-- GET 0 | nat | on_pairs (i.get_part 0)
choice_6 : rule_taken (rule (primitive_of_name (codes "GET")) [] (more (int (pos 0)) none) ((k.simple s.Nat) ∷ [])) ≡ Some
    (on_pairs (i.get_part 0))
unfolding primitive_names primitives code_of_name primitive_of_code primitive_of_name former_of_name word_of_name in_order
choice_6 = refl

-- LEFT nat | int | on_unions (i.left NAT)
choice_7 : rule_taken (rule (primitive_of_name (codes "LEFT")) [] (more (prim (codes "nat") [] none) none) ((k.simple s.Int) ∷
    [])) ≡ Some (on_unions (i.left (k.simple s.Nat)))
unfolding primitive_names primitives code_of_name primitive_of_code primitive_of_name former_of_name word_of_name in_order
choice_7 = refl

-- RIGHT nat | int | on_unions (i.right NAT)
choice_8 : rule_taken (rule (primitive_of_name (codes "RIGHT")) [] (more (prim (codes "nat") [] none) none) ((k.simple s.Int)
    ∷ [])) ≡ Some (on_unions (i.right (k.simple s.Nat)))
unfolding primitive_names primitives code_of_name primitive_of_code primitive_of_name former_of_name word_of_name in_order
choice_8 = refl

-- EMPTY_MAP nat int | - | on_collections (i.empty_map NAT INT)
choice_9 : rule_taken (rule (primitive_of_name (codes "EMPTY_MAP")) [] (more (prim (codes "nat") [] none) (more (prim (codes
    "int") [] none) none)) []) ≡ Some (on_collections (i.empty_map (k.simple s.Nat) (k.simple s.Int)))
unfolding primitive_names primitives code_of_name primitive_of_code primitive_of_name former_of_name word_of_name in_order
choice_9 = refl

-- SIZE | set nat | on_collections i.size_set
choice_10 : rule_taken (rule (primitive_of_name (codes "SIZE")) [] none ((k.set (k.simple s.Nat)) ∷ [])) ≡ Some
    (on_collections i.size_set)
unfolding primitive_names primitives code_of_name primitive_of_code primitive_of_name former_of_name word_of_name in_order
choice_10 = refl

-- SIZE | map nat nat | on_collections i.size_map
choice_11 : rule_taken (rule (primitive_of_name (codes "SIZE")) [] none ((k.map (k.simple s.Nat) (k.simple s.Nat)) ∷ [])) ≡
    Some (on_collections i.size_map)
unfolding primitive_names primitives code_of_name primitive_of_code primitive_of_name former_of_name word_of_name in_order
choice_11 = refl

-- SIZE | list nat | on_collections i.size_list
choice_12 : rule_taken (rule (primitive_of_name (codes "SIZE")) [] none ((k.list (k.simple s.Nat)) ∷ [])) ≡ Some
    (on_collections i.size_list)
unfolding primitive_names primitives code_of_name primitive_of_code primitive_of_name former_of_name word_of_name in_order
choice_12 = refl

-- SIZE | string | on_text i.size_string
choice_13 : rule_taken (rule (primitive_of_name (codes "SIZE")) [] none ((k.simple s.String) ∷ [])) ≡ Some (on_text
    i.size_string)
unfolding primitive_names primitives code_of_name primitive_of_code primitive_of_name former_of_name word_of_name in_order
choice_13 = refl

-- SIZE | bytes | on_text i.size_bytes
choice_14 : rule_taken (rule (primitive_of_name (codes "SIZE")) [] none ((k.simple s.Bytes) ∷ [])) ≡ Some (on_text
    i.size_bytes)
unfolding primitive_names primitives code_of_name primitive_of_code primitive_of_name former_of_name word_of_name in_order
choice_14 = refl

-- MEM | nat, set nat | on_collections i.mem_set
choice_15 : rule_taken (rule (primitive_of_name (codes "MEM")) [] none ((k.simple s.Nat) ∷ (k.set (k.simple s.Nat)) ∷ [])) ≡
    Some (on_collections i.mem_set)
unfolding primitive_names primitives code_of_name primitive_of_code primitive_of_name former_of_name word_of_name in_order
choice_15 = refl

-- MEM | nat, map nat nat | on_collections i.mem_map
choice_16 : rule_taken (rule (primitive_of_name (codes "MEM")) [] none ((k.simple s.Nat) ∷ (k.map (k.simple s.Nat) (k.simple
    s.Nat)) ∷ [])) ≡ Some (on_collections i.mem_map)
unfolding primitive_names primitives code_of_name primitive_of_code primitive_of_name former_of_name word_of_name in_order
choice_16 = refl

-- MEM | nat, big_map nat nat | on_collections i.mem_big_map
choice_17 : rule_taken (rule (primitive_of_name (codes "MEM")) [] none ((k.simple s.Nat) ∷ (k.big_map (k.simple s.Nat)
    (k.simple s.Nat)) ∷ [])) ≡ Some (on_collections i.mem_big_map)
unfolding primitive_names primitives code_of_name primitive_of_code primitive_of_name former_of_name word_of_name in_order
choice_17 = refl

-- GET | nat, map nat nat | on_collections i.get_map
choice_18 : rule_taken (rule (primitive_of_name (codes "GET")) [] none ((k.simple s.Nat) ∷ (k.map (k.simple s.Nat) (k.simple
    s.Nat)) ∷ [])) ≡ Some (on_collections i.get_map)
unfolding primitive_names primitives code_of_name primitive_of_code primitive_of_name former_of_name word_of_name in_order
choice_18 = refl

-- GET | nat, big_map nat nat | on_collections i.get_big_map
choice_19 : rule_taken (rule (primitive_of_name (codes "GET")) [] none ((k.simple s.Nat) ∷ (k.big_map (k.simple s.Nat)
    (k.simple s.Nat)) ∷ [])) ≡ Some (on_collections i.get_big_map)
unfolding primitive_names primitives code_of_name primitive_of_code primitive_of_name former_of_name word_of_name in_order
choice_19 = refl

-- UPDATE | nat, bool, set nat | on_collections i.update_set
choice_20 : rule_taken (rule (primitive_of_name (codes "UPDATE")) [] none ((k.simple s.Nat) ∷ (k.simple s.Bool) ∷ (k.set
    (k.simple s.Nat)) ∷ [])) ≡ Some (on_collections i.update_set)
unfolding primitive_names primitives code_of_name primitive_of_code primitive_of_name former_of_name word_of_name in_order
choice_20 = refl

-- UPDATE | nat, option nat, map nat nat | on_collections i.update_map
choice_21 : rule_taken (rule (primitive_of_name (codes "UPDATE")) [] none ((k.simple s.Nat) ∷ (k.option (k.simple s.Nat)) ∷
    (k.map (k.simple s.Nat) (k.simple s.Nat)) ∷ [])) ≡ Some (on_collections i.update_map)
unfolding primitive_names primitives code_of_name primitive_of_code primitive_of_name former_of_name word_of_name in_order
choice_21 = refl

-- UPDATE | nat, option nat, big_map nat nat | on_collections i.update_big_map
choice_22 : rule_taken (rule (primitive_of_name (codes "UPDATE")) [] none ((k.simple s.Nat) ∷ (k.option (k.simple s.Nat)) ∷
    (k.big_map (k.simple s.Nat) (k.simple s.Nat)) ∷ [])) ≡ Some (on_collections i.update_big_map)
unfolding primitive_names primitives code_of_name primitive_of_code primitive_of_name former_of_name word_of_name in_order
choice_22 = refl

-- GET_AND_UPDATE | nat, option nat, map nat nat | on_collections i.get_and_update_map
choice_23 : rule_taken (rule (primitive_of_name (codes "GET_AND_UPDATE")) [] none ((k.simple s.Nat) ∷ (k.option (k.simple
    s.Nat)) ∷ (k.map (k.simple s.Nat) (k.simple s.Nat)) ∷ [])) ≡ Some (on_collections i.get_and_update_map)
unfolding primitive_names primitives code_of_name primitive_of_code primitive_of_name former_of_name word_of_name in_order
choice_23 = refl

-- GET_AND_UPDATE | nat, option nat, big_map nat nat | on_collections i.get_and_update_big_map
choice_24 : rule_taken (rule (primitive_of_name (codes "GET_AND_UPDATE")) [] none ((k.simple s.Nat) ∷ (k.option (k.simple
    s.Nat)) ∷ (k.big_map (k.simple s.Nat) (k.simple s.Nat)) ∷ [])) ≡ Some (on_collections i.get_and_update_big_map)
unfolding primitive_names primitives code_of_name primitive_of_code primitive_of_name former_of_name word_of_name in_order
choice_24 = refl

-- ADD | mutez, mutez | on_numbers i.add_amounts
choice_25 : rule_taken (rule (primitive_of_name (codes "ADD")) [] none ((k.simple s.Mutez) ∷ (k.simple s.Mutez) ∷ [])) ≡ Some
    (on_numbers i.add_amounts)
unfolding primitive_names primitives code_of_name primitive_of_code primitive_of_name former_of_name word_of_name in_order
choice_25 = refl

-- ADD | timestamp, int | on_numbers i.add_numbers
choice_26 : rule_taken (rule (primitive_of_name (codes "ADD")) [] none ((k.simple s.Timestamp) ∷ (k.simple s.Int) ∷ [])) ≡
    Some (on_numbers i.add_numbers)
unfolding primitive_names primitives code_of_name primitive_of_code primitive_of_name former_of_name word_of_name in_order
choice_26 = refl

-- SUB | timestamp, timestamp | on_numbers i.sub
choice_27 : rule_taken (rule (primitive_of_name (codes "SUB")) [] none ((k.simple s.Timestamp) ∷ (k.simple s.Timestamp) ∷ []))
    ≡ Some (on_numbers i.sub)
unfolding primitive_names primitives code_of_name primitive_of_code primitive_of_name former_of_name word_of_name in_order
choice_27 = refl

-- MUL | nat, nat | on_numbers i.mul_numbers
choice_28 : rule_taken (rule (primitive_of_name (codes "MUL")) [] none ((k.simple s.Nat) ∷ (k.simple s.Nat) ∷ [])) ≡ Some
    (on_numbers i.mul_numbers)
unfolding primitive_names primitives code_of_name primitive_of_code primitive_of_name former_of_name word_of_name in_order
choice_28 = refl

-- MUL | nat, mutez | on_numbers i.mul_amounts
choice_29 : rule_taken (rule (primitive_of_name (codes "MUL")) [] none ((k.simple s.Nat) ∷ (k.simple s.Mutez) ∷ [])) ≡ Some
    (on_numbers i.mul_amounts)
unfolding primitive_names primitives code_of_name primitive_of_code primitive_of_name former_of_name word_of_name in_order
choice_29 = refl

-- MUL | mutez, nat | on_numbers i.mul_amounts
choice_30 : rule_taken (rule (primitive_of_name (codes "MUL")) [] none ((k.simple s.Mutez) ∷ (k.simple s.Nat) ∷ [])) ≡ Some
    (on_numbers i.mul_amounts)
unfolding primitive_names primitives code_of_name primitive_of_code primitive_of_name former_of_name word_of_name in_order
choice_30 = refl

-- EDIV | mutez, mutez | on_numbers i.ediv
choice_31 : rule_taken (rule (primitive_of_name (codes "EDIV")) [] none ((k.simple s.Mutez) ∷ (k.simple s.Mutez) ∷ [])) ≡ Some
    (on_numbers i.ediv)
unfolding primitive_names primitives code_of_name primitive_of_code primitive_of_name former_of_name word_of_name in_order
choice_31 = refl

-- AND | bool, bool | on_truth i.and_bools
choice_32 : rule_taken (rule (primitive_of_name (codes "AND")) [] none ((k.simple s.Bool) ∷ (k.simple s.Bool) ∷ [])) ≡ Some
    (on_truth i.and_bools)
unfolding primitive_names primitives code_of_name primitive_of_code primitive_of_name former_of_name word_of_name in_order
choice_32 = refl

-- AND | int, nat | on_truth i.and_numbers
choice_33 : rule_taken (rule (primitive_of_name (codes "AND")) [] none ((k.simple s.Int) ∷ (k.simple s.Nat) ∷ [])) ≡ Some
    (on_truth i.and_numbers)
unfolding primitive_names primitives code_of_name primitive_of_code primitive_of_name former_of_name word_of_name in_order
choice_33 = refl

-- OR | nat, nat | on_truth i.or_numbers
choice_34 : rule_taken (rule (primitive_of_name (codes "OR")) [] none ((k.simple s.Nat) ∷ (k.simple s.Nat) ∷ [])) ≡ Some
    (on_truth i.or_numbers)
unfolding primitive_names primitives code_of_name primitive_of_code primitive_of_name former_of_name word_of_name in_order
choice_34 = refl

-- OR | bool, bool | on_truth i.or_bools
choice_35 : rule_taken (rule (primitive_of_name (codes "OR")) [] none ((k.simple s.Bool) ∷ (k.simple s.Bool) ∷ [])) ≡ Some
    (on_truth i.or_bools)
unfolding primitive_names primitives code_of_name primitive_of_code primitive_of_name former_of_name word_of_name in_order
choice_35 = refl

-- XOR | bool, bool | on_truth i.xor_bools
choice_36 : rule_taken (rule (primitive_of_name (codes "XOR")) [] none ((k.simple s.Bool) ∷ (k.simple s.Bool) ∷ [])) ≡ Some
    (on_truth i.xor_bools)
unfolding primitive_names primitives code_of_name primitive_of_code primitive_of_name former_of_name word_of_name in_order
choice_36 = refl

-- XOR | nat, nat | on_truth i.xor_numbers
choice_37 : rule_taken (rule (primitive_of_name (codes "XOR")) [] none ((k.simple s.Nat) ∷ (k.simple s.Nat) ∷ [])) ≡ Some
    (on_truth i.xor_numbers)
unfolding primitive_names primitives code_of_name primitive_of_code primitive_of_name former_of_name word_of_name in_order
choice_37 = refl

-- NOT | bool | on_truth i.not_bool
choice_38 : rule_taken (rule (primitive_of_name (codes "NOT")) [] none ((k.simple s.Bool) ∷ [])) ≡ Some (on_truth i.not_bool)
unfolding primitive_names primitives code_of_name primitive_of_code primitive_of_name former_of_name word_of_name in_order
choice_38 = refl

-- NOT | int | on_truth i.not_number
choice_39 : rule_taken (rule (primitive_of_name (codes "NOT")) [] none ((k.simple s.Int) ∷ [])) ≡ Some (on_truth i.not_number)
unfolding primitive_names primitives code_of_name primitive_of_code primitive_of_name former_of_name word_of_name in_order
choice_39 = refl

-- CONCAT | string, string | on_text i.concat_strings
choice_40 : rule_taken (rule (primitive_of_name (codes "CONCAT")) [] none ((k.simple s.String) ∷ (k.simple s.String) ∷ [])) ≡
    Some (on_text i.concat_strings)
unfolding primitive_names primitives code_of_name primitive_of_code primitive_of_name former_of_name word_of_name in_order
choice_40 = refl

-- CONCAT | bytes, bytes | on_text i.concat_bytes
choice_41 : rule_taken (rule (primitive_of_name (codes "CONCAT")) [] none ((k.simple s.Bytes) ∷ (k.simple s.Bytes) ∷ [])) ≡
    Some (on_text i.concat_bytes)
unfolding primitive_names primitives code_of_name primitive_of_code primitive_of_name former_of_name word_of_name in_order
choice_41 = refl

-- CONCAT | list string | on_text i.concat_string_list
choice_42 : rule_taken (rule (primitive_of_name (codes "CONCAT")) [] none ((k.list (k.simple s.String)) ∷ [])) ≡ Some (on_text
    i.concat_string_list)
unfolding primitive_names primitives code_of_name primitive_of_code primitive_of_name former_of_name word_of_name in_order
choice_42 = refl

-- CONCAT | list bytes | on_text i.concat_bytes_list
choice_43 : rule_taken (rule (primitive_of_name (codes "CONCAT")) [] none ((k.list (k.simple s.Bytes)) ∷ [])) ≡ Some (on_text
    i.concat_bytes_list)
unfolding primitive_names primitives code_of_name primitive_of_code primitive_of_name former_of_name word_of_name in_order
choice_43 = refl

-- SLICE | nat, nat, string | on_text i.slice_string
choice_44 : rule_taken (rule (primitive_of_name (codes "SLICE")) [] none ((k.simple s.Nat) ∷ (k.simple s.Nat) ∷ (k.simple
    s.String) ∷ [])) ≡ Some (on_text i.slice_string)
unfolding primitive_names primitives code_of_name primitive_of_code primitive_of_name former_of_name word_of_name in_order
choice_44 = refl

-- SLICE | nat, nat, bytes | on_text i.slice_bytes
choice_45 : rule_taken (rule (primitive_of_name (codes "SLICE")) [] none ((k.simple s.Nat) ∷ (k.simple s.Nat) ∷ (k.simple
    s.Bytes) ∷ [])) ≡ Some (on_text i.slice_bytes)
unfolding primitive_names primitives code_of_name primitive_of_code primitive_of_name former_of_name word_of_name in_order
choice_45 = refl

-- UNPACK nat | bytes | on_hashes (i.unpack NAT)
choice_46 : rule_taken (rule (primitive_of_name (codes "UNPACK")) [] (more (prim (codes "nat") [] none) none) ((k.simple
    s.Bytes) ∷ [])) ≡ Some (on_hashes (i.unpack (k.simple s.Nat)))
unfolding primitive_names primitives code_of_name primitive_of_code primitive_of_name former_of_name word_of_name in_order
choice_46 = refl

-- CONTRACT nat | address | on_operations (i.contract (codes "default") NAT)
choice_47 : rule_taken (rule (primitive_of_name (codes "CONTRACT")) [] (more (prim (codes "nat") [] none) none) ((k.simple
    s.Address) ∷ [])) ≡ Some (on_operations (i.contract (codes "default") (k.simple s.Nat)))
unfolding primitive_names primitives code_of_name primitive_of_code primitive_of_name former_of_name word_of_name in_order
choice_47 = refl

-- CONTRACT %a nat | address | on_operations (i.contract (codes "a") NAT)
choice_48 : rule_taken (rule (primitive_of_name (codes "CONTRACT")) ((codes "%a") ∷ []) (more (prim (codes "nat") [] none)
    none) ((k.simple s.Address) ∷ [])) ≡ Some (on_operations (i.contract (codes "a") (k.simple s.Nat)))
unfolding primitive_names primitives code_of_name primitive_of_code primitive_of_name former_of_name word_of_name in_order
choice_48 = refl

-- CONTRACT % %a nat | address | on_operations (i.contract (codes "default") NAT)
choice_49 : rule_taken (rule (primitive_of_name (codes "CONTRACT")) ((codes "%") ∷ (codes "%a") ∷ []) (more (prim (codes
    "nat") [] none) none) ((k.simple s.Address) ∷ [])) ≡ Some (on_operations (i.contract (codes "default") (k.simple s.Nat)))
unfolding primitive_names primitives code_of_name primitive_of_code primitive_of_name former_of_name word_of_name in_order
choice_49 = refl

-- CONTRACT @x %a %b nat | address | on_operations (i.contract (codes "a") NAT)
choice_50 : rule_taken (rule (primitive_of_name (codes "CONTRACT")) ((codes "@x") ∷ (codes "%a") ∷ (codes "%b") ∷ []) (more
    (prim (codes "nat") [] none) none) ((k.simple s.Address) ∷ [])) ≡ Some (on_operations (i.contract (codes "a") (k.simple
    s.Nat)))
unfolding primitive_names primitives code_of_name primitive_of_code primitive_of_name former_of_name word_of_name in_order
choice_50 = refl

-- EMIT | nat | on_operations (i.emit [] NAT)
choice_51 : rule_taken (rule (primitive_of_name (codes "EMIT")) [] none ((k.simple s.Nat) ∷ [])) ≡ Some (on_operations (i.emit
    [] (k.simple s.Nat)))
unfolding primitive_names primitives code_of_name primitive_of_code primitive_of_name former_of_name word_of_name in_order
choice_51 = refl

-- EMIT %default nat | nat | on_operations (i.emit (codes "default") NAT)
choice_52 : rule_taken (rule (primitive_of_name (codes "EMIT")) ((codes "%default") ∷ []) (more (prim (codes "nat") [] none)
    none) ((k.simple s.Nat) ∷ [])) ≡ Some (on_operations (i.emit (codes "default") (k.simple s.Nat)))
unfolding primitive_names primitives code_of_name primitive_of_code primitive_of_name former_of_name word_of_name in_order
choice_52 = refl

-- EMIT % | nat | on_operations (i.emit [] NAT)
choice_53 : rule_taken (rule (primitive_of_name (codes "EMIT")) ((codes "%") ∷ []) none ((k.simple s.Nat) ∷ [])) ≡ Some
    (on_operations (i.emit [] (k.simple s.Nat)))
unfolding primitive_names primitives code_of_name primitive_of_code primitive_of_name former_of_name word_of_name in_order
choice_53 = refl

-- VIEW "v" nat | int, address | on_operations (i.view (codes "v") INT NAT)
choice_54 : rule_taken (rule (primitive_of_name (codes "VIEW")) [] (more (str (codes "v")) (more (prim (codes "nat") [] none)
    none)) ((k.simple s.Int) ∷ (k.simple s.Address) ∷ [])) ≡ Some (on_operations (i.view (codes "v") (k.simple s.Int)
    (k.simple s.Nat)))
unfolding primitive_names primitives code_of_name primitive_of_code primitive_of_name former_of_name word_of_name in_order
choice_54 = refl

-- TICKET | nat, nat | on_tickets (i.ticket NAT)
choice_55 : rule_taken (rule (primitive_of_name (codes "TICKET")) [] none ((k.simple s.Nat) ∷ (k.simple s.Nat) ∷ [])) ≡ Some
    (on_tickets (i.ticket (k.simple s.Nat)))
unfolding primitive_names primitives code_of_name primitive_of_code primitive_of_name former_of_name word_of_name in_order
choice_55 = refl
