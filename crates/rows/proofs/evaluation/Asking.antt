-- What surrounds a run, contracts and operations.
use Rattle.std.specs.Prelude.{◌≡◌, refl, pos, [], ◌∷◌, codes}
use Rattle.rules_text.specs.nodes.Tree.{int, str, bytes, prim, seq, none, more}
use Rattle.rules_text.specs.nodes.Primitives.{primitive_names, primitives, code_of_name, name_of_code, primitive_of_code, primitive_of_name}
use Rattle.rules_text.specs.binary.Spelling.{groups, integer, field, application}
use Rattle.rules_text.specs.binary.Reading.{byte_at, field_at, narrow_field_at, integer_at, string_at, bytes_at, annotations_at, any_annotations_at, name_at, nodes_at, application_at, many_at, node_by, tags_in_order, tag_at, node_at, decoded}
use Rattle.rules_data.specs.numbers.Limits.{int_or_limit, mutez_or_limit}
use Rattle.rules_data.specs.numbers.Integers.{division, shifted_left, shifted_right}
use Rattle.rules_data.specs.declared.types.Simple.TheVariants as s
use Rattle.rules_data.specs.types.Kind as k
use Rattle.rules_data.specs.types.Reading.{former_of_name}
use Rattle.rules_data.specs.types.Entrypoints.{in_order}
use Rattle.rules_data.specs.values.Val as v
use Rattle.rules_data.specs.values.Val.{no_val, more_vals, no_pair, more_pairs}
use Rattle.rules_data.specs.values.Literals.{word_of_name}
use Rattle.rules_code.specs.evaluation.Operations.{transfer, event}
use Rattle.rows.specs.evaluation.Told.{did, gave}

-- AMOUNT | - | - | 2 | 1
world_1 : did (prim (codes "AMOUNT") [] none) [] [] ≡ gave 1 ((int (pos 2)) ∷ []) [] []
unfolding primitive_names primitives code_of_name primitive_of_code primitive_of_name former_of_name word_of_name in_order
    int_or_limit mutez_or_limit division shifted_left shifted_right groups integer field application byte_at field_at
    narrow_field_at integer_at string_at bytes_at annotations_at any_annotations_at name_at name_of_code nodes_at
    application_at many_at node_by tags_in_order tag_at node_at decoded
world_1 = refl

-- BALANCE | - | - | 5 | 1
world_2 : did (prim (codes "BALANCE") [] none) [] [] ≡ gave 1 ((int (pos 5)) ∷ []) [] []
unfolding primitive_names primitives code_of_name primitive_of_code primitive_of_name former_of_name word_of_name in_order
    int_or_limit mutez_or_limit division shifted_left shifted_right groups integer field application byte_at field_at
    narrow_field_at integer_at string_at bytes_at annotations_at any_annotations_at name_at name_of_code nodes_at
    application_at many_at node_by tags_in_order tag_at node_at decoded
world_2 = refl

-- SENDER | - | - | 0x00000000000000000000000000000000000000000001 | 1
world_3 : did (prim (codes "SENDER") [] none) [] [] ≡ gave 1 ((bytes (0 ∷ 0 ∷ 0 ∷ 0 ∷ 0 ∷ 0 ∷ 0 ∷ 0 ∷ 0 ∷ 0 ∷ 0 ∷ 0 ∷ 0 ∷ 0 ∷
    0 ∷ 0 ∷ 0 ∷ 0 ∷ 0 ∷ 0 ∷ 0 ∷ 1 ∷ [])) ∷ []) [] []
unfolding primitive_names primitives code_of_name primitive_of_code primitive_of_name former_of_name word_of_name in_order
    int_or_limit mutez_or_limit division shifted_left shifted_right groups integer field application byte_at field_at
    narrow_field_at integer_at string_at bytes_at annotations_at any_annotations_at name_at name_of_code nodes_at
    application_at many_at node_by tags_in_order tag_at node_at decoded
world_3 = refl

-- SOURCE | - | - | 0x00000000000000000000000000000000000000000001 | 1
world_4 : did (prim (codes "SOURCE") [] none) [] [] ≡ gave 1 ((bytes (0 ∷ 0 ∷ 0 ∷ 0 ∷ 0 ∷ 0 ∷ 0 ∷ 0 ∷ 0 ∷ 0 ∷ 0 ∷ 0 ∷ 0 ∷ 0 ∷
    0 ∷ 0 ∷ 0 ∷ 0 ∷ 0 ∷ 0 ∷ 0 ∷ 1 ∷ [])) ∷ []) [] []
unfolding primitive_names primitives code_of_name primitive_of_code primitive_of_name former_of_name word_of_name in_order
    int_or_limit mutez_or_limit division shifted_left shifted_right groups integer field application byte_at field_at
    narrow_field_at integer_at string_at bytes_at annotations_at any_annotations_at name_at name_of_code nodes_at
    application_at many_at node_by tags_in_order tag_at node_at decoded
world_4 = refl

-- SELF_ADDRESS | - | - | 0x01000000000000000100000000000000000000000000 | 1
world_5 : did (prim (codes "SELF_ADDRESS") [] none) [] [] ≡ gave 1 ((bytes (1 ∷ 0 ∷ 0 ∷ 0 ∷ 0 ∷ 0 ∷ 0 ∷ 0 ∷ 1 ∷ 0 ∷ 0 ∷ 0 ∷ 0
    ∷ 0 ∷ 0 ∷ 0 ∷ 0 ∷ 0 ∷ 0 ∷ 0 ∷ 0 ∷ 0 ∷ [])) ∷ []) [] []
unfolding primitive_names primitives code_of_name primitive_of_code primitive_of_name former_of_name word_of_name in_order
    int_or_limit mutez_or_limit division shifted_left shifted_right groups integer field application byte_at field_at
    narrow_field_at integer_at string_at bytes_at annotations_at any_annotations_at name_at name_of_code nodes_at
    application_at many_at node_by tags_in_order tag_at node_at decoded
world_5 = refl

-- NOW | - | - | 9 | 1
world_6 : did (prim (codes "NOW") [] none) [] [] ≡ gave 1 ((int (pos 9)) ∷ []) [] []
unfolding primitive_names primitives code_of_name primitive_of_code primitive_of_name former_of_name word_of_name in_order
    int_or_limit mutez_or_limit division shifted_left shifted_right groups integer field application byte_at field_at
    narrow_field_at integer_at string_at bytes_at annotations_at any_annotations_at name_at name_of_code nodes_at
    application_at many_at node_by tags_in_order tag_at node_at decoded
world_6 = refl

-- LEVEL | - | - | 7 | 1
world_7 : did (prim (codes "LEVEL") [] none) [] [] ≡ gave 1 ((int (pos 7)) ∷ []) [] []
unfolding primitive_names primitives code_of_name primitive_of_code primitive_of_name former_of_name word_of_name in_order
    int_or_limit mutez_or_limit division shifted_left shifted_right groups integer field application byte_at field_at
    narrow_field_at integer_at string_at bytes_at annotations_at any_annotations_at name_at name_of_code nodes_at
    application_at many_at node_by tags_in_order tag_at node_at decoded
world_7 = refl

-- CHAIN_ID | - | - | 0x7a06a770 | 1
world_8 : did (prim (codes "CHAIN_ID") [] none) [] [] ≡ gave 1 ((bytes (122 ∷ 6 ∷ 167 ∷ 112 ∷ [])) ∷ []) [] []
unfolding primitive_names primitives code_of_name primitive_of_code primitive_of_name former_of_name word_of_name in_order
    int_or_limit mutez_or_limit division shifted_left shifted_right groups integer field application byte_at field_at
    narrow_field_at integer_at string_at bytes_at annotations_at any_annotations_at name_at name_of_code nodes_at
    application_at many_at node_by tags_in_order tag_at node_at decoded
world_8 = refl

-- SELF | - | - | 0x01000000000000000100000000000000000000000000 | 1
world_9 : did (prim (codes "SELF") [] none) [] [] ≡ gave 1 ((bytes (1 ∷ 0 ∷ 0 ∷ 0 ∷ 0 ∷ 0 ∷ 0 ∷ 0 ∷ 1 ∷ 0 ∷ 0 ∷ 0 ∷ 0 ∷ 0 ∷ 0
    ∷ 0 ∷ 0 ∷ 0 ∷ 0 ∷ 0 ∷ 0 ∷ 0 ∷ [])) ∷ []) [] []
unfolding primitive_names primitives code_of_name primitive_of_code primitive_of_name former_of_name word_of_name in_order
    int_or_limit mutez_or_limit division shifted_left shifted_right groups integer field application byte_at field_at
    narrow_field_at integer_at string_at bytes_at annotations_at any_annotations_at name_at name_of_code nodes_at
    application_at many_at node_by tags_in_order tag_at node_at decoded
world_9 = refl

-- SELF %a | - | - | 0x0100000000000000010000000000000000000000000061 | 1
world_10 : did (prim (codes "SELF") ((codes "%a") ∷ []) none) [] [] ≡ gave 1 ((bytes (1 ∷ 0 ∷ 0 ∷ 0 ∷ 0 ∷ 0 ∷ 0 ∷ 0 ∷ 1 ∷ 0 ∷
    0 ∷ 0 ∷ 0 ∷ 0 ∷ 0 ∷ 0 ∷ 0 ∷ 0 ∷ 0 ∷ 0 ∷ 0 ∷ 0 ∷ 97 ∷ [])) ∷ []) [] []
unfolding primitive_names primitives code_of_name primitive_of_code primitive_of_name former_of_name word_of_name in_order
    int_or_limit mutez_or_limit division shifted_left shifted_right groups integer field application byte_at field_at
    narrow_field_at integer_at string_at bytes_at annotations_at any_annotations_at name_at name_of_code nodes_at
    application_at many_at node_by tags_in_order tag_at node_at decoded
world_10 = refl

-- ADDRESS | contract int | 0x0100000000000000010000000000000000000000000061 |
-- 0x0100000000000000010000000000000000000000000061 | 1
world_11 : did (prim (codes "ADDRESS") [] none) ((k.contract (k.simple s.Int)) ∷ []) ((v.bytes (1 ∷ 0 ∷ 0 ∷ 0 ∷ 0 ∷ 0 ∷ 0 ∷ 0
    ∷ 1 ∷ 0 ∷ 0 ∷ 0 ∷ 0 ∷ 0 ∷ 0 ∷ 0 ∷ 0 ∷ 0 ∷ 0 ∷ 0 ∷ 0 ∷ 0 ∷ 97 ∷ [])) ∷ []) ≡ gave 1 ((bytes (1 ∷ 0 ∷ 0 ∷ 0 ∷ 0 ∷ 0 ∷ 0 ∷ 0
    ∷ 1 ∷ 0 ∷ 0 ∷ 0 ∷ 0 ∷ 0 ∷ 0 ∷ 0 ∷ 0 ∷ 0 ∷ 0 ∷ 0 ∷ 0 ∷ 0 ∷ 97 ∷ [])) ∷ []) [] []
unfolding primitive_names primitives code_of_name primitive_of_code primitive_of_name former_of_name word_of_name in_order
    int_or_limit mutez_or_limit division shifted_left shifted_right groups integer field application byte_at field_at
    narrow_field_at integer_at string_at bytes_at annotations_at any_annotations_at name_at name_of_code nodes_at
    application_at many_at node_by tags_in_order tag_at node_at decoded
world_11 = refl

-- IMPLICIT_ACCOUNT | key_hash | 0x000000000000000000000000000000000000000002 | 0x00000000000000000000000000000000000000000002
-- | 1
world_12 : did (prim (codes "IMPLICIT_ACCOUNT") [] none) ((k.simple s.KeyHash) ∷ []) ((v.bytes (0 ∷ 0 ∷ 0 ∷ 0 ∷ 0 ∷ 0 ∷ 0 ∷ 0
    ∷ 0 ∷ 0 ∷ 0 ∷ 0 ∷ 0 ∷ 0 ∷ 0 ∷ 0 ∷ 0 ∷ 0 ∷ 0 ∷ 0 ∷ 2 ∷ [])) ∷ []) ≡ gave 1 ((bytes (0 ∷ 0 ∷ 0 ∷ 0 ∷ 0 ∷ 0 ∷ 0 ∷ 0 ∷ 0 ∷ 0 ∷
    0 ∷ 0 ∷ 0 ∷ 0 ∷ 0 ∷ 0 ∷ 0 ∷ 0 ∷ 0 ∷ 0 ∷ 0 ∷ 2 ∷ [])) ∷ []) [] []
unfolding primitive_names primitives code_of_name primitive_of_code primitive_of_name former_of_name word_of_name in_order
    int_or_limit mutez_or_limit division shifted_left shifted_right groups integer field application byte_at field_at
    narrow_field_at integer_at string_at bytes_at annotations_at any_annotations_at name_at name_of_code nodes_at
    application_at many_at node_by tags_in_order tag_at node_at decoded
world_12 = refl

-- CONTRACT unit | address | 0x00000000000000000000000000000000000000000002 | Some
-- 0x00000000000000000000000000000000000000000002 | 1
world_13 : did (prim (codes "CONTRACT") [] (more (prim (codes "unit") [] none) none)) ((k.simple s.Address) ∷ []) ((v.bytes (0
    ∷ 0 ∷ 0 ∷ 0 ∷ 0 ∷ 0 ∷ 0 ∷ 0 ∷ 0 ∷ 0 ∷ 0 ∷ 0 ∷ 0 ∷ 0 ∷ 0 ∷ 0 ∷ 0 ∷ 0 ∷ 0 ∷ 0 ∷ 0 ∷ 2 ∷ [])) ∷ []) ≡ gave 1 ((prim (codes
    "Some") [] (more (bytes (0 ∷ 0 ∷ 0 ∷ 0 ∷ 0 ∷ 0 ∷ 0 ∷ 0 ∷ 0 ∷ 0 ∷ 0 ∷ 0 ∷ 0 ∷ 0 ∷ 0 ∷ 0 ∷ 0 ∷ 0 ∷ 0 ∷ 0 ∷ 0 ∷ 2 ∷ []))
    none)) ∷ []) [] []
unfolding primitive_names primitives code_of_name primitive_of_code primitive_of_name former_of_name word_of_name in_order
    int_or_limit mutez_or_limit division shifted_left shifted_right groups integer field application byte_at field_at
    narrow_field_at integer_at string_at bytes_at annotations_at any_annotations_at name_at name_of_code nodes_at
    application_at many_at node_by tags_in_order tag_at node_at decoded
world_13 = refl

-- CONTRACT int | address | 0x00000000000000000000000000000000000000000002 | None | 1
world_14 : did (prim (codes "CONTRACT") [] (more (prim (codes "int") [] none) none)) ((k.simple s.Address) ∷ []) ((v.bytes (0
    ∷ 0 ∷ 0 ∷ 0 ∷ 0 ∷ 0 ∷ 0 ∷ 0 ∷ 0 ∷ 0 ∷ 0 ∷ 0 ∷ 0 ∷ 0 ∷ 0 ∷ 0 ∷ 0 ∷ 0 ∷ 0 ∷ 0 ∷ 0 ∷ 2 ∷ [])) ∷ []) ≡ gave 1 ((prim (codes
    "None") [] none) ∷ []) [] []
unfolding primitive_names primitives code_of_name primitive_of_code primitive_of_name former_of_name word_of_name in_order
    int_or_limit mutez_or_limit division shifted_left shifted_right groups integer field application byte_at field_at
    narrow_field_at integer_at string_at bytes_at annotations_at any_annotations_at name_at name_of_code nodes_at
    application_at many_at node_by tags_in_order tag_at node_at decoded
world_14 = refl

-- CONTRACT %a unit | address | 0x00000000000000000000000000000000000000000002 | None | 1
world_15 : did (prim (codes "CONTRACT") ((codes "%a") ∷ []) (more (prim (codes "unit") [] none) none)) ((k.simple s.Address) ∷
    []) ((v.bytes (0 ∷ 0 ∷ 0 ∷ 0 ∷ 0 ∷ 0 ∷ 0 ∷ 0 ∷ 0 ∷ 0 ∷ 0 ∷ 0 ∷ 0 ∷ 0 ∷ 0 ∷ 0 ∷ 0 ∷ 0 ∷ 0 ∷ 0 ∷ 0 ∷ 2 ∷ [])) ∷ []) ≡ gave 1
    ((prim (codes "None") [] none) ∷ []) [] []
unfolding primitive_names primitives code_of_name primitive_of_code primitive_of_name former_of_name word_of_name in_order
    int_or_limit mutez_or_limit division shifted_left shifted_right groups integer field application byte_at field_at
    narrow_field_at integer_at string_at bytes_at annotations_at any_annotations_at name_at name_of_code nodes_at
    application_at many_at node_by tags_in_order tag_at node_at decoded
world_15 = refl

-- CONTRACT %a int | address | 0x01000000000000000100000000000000000000000000 | Some
-- 0x0100000000000000010000000000000000000000000061 | 1
world_16 : did (prim (codes "CONTRACT") ((codes "%a") ∷ []) (more (prim (codes "int") [] none) none)) ((k.simple s.Address) ∷
    []) ((v.bytes (1 ∷ 0 ∷ 0 ∷ 0 ∷ 0 ∷ 0 ∷ 0 ∷ 0 ∷ 1 ∷ 0 ∷ 0 ∷ 0 ∷ 0 ∷ 0 ∷ 0 ∷ 0 ∷ 0 ∷ 0 ∷ 0 ∷ 0 ∷ 0 ∷ 0 ∷ [])) ∷ []) ≡ gave 1
    ((prim (codes "Some") [] (more (bytes (1 ∷ 0 ∷ 0 ∷ 0 ∷ 0 ∷ 0 ∷ 0 ∷ 0 ∷ 1 ∷ 0 ∷ 0 ∷ 0 ∷ 0 ∷ 0 ∷ 0 ∷ 0 ∷ 0 ∷ 0 ∷ 0 ∷ 0 ∷ 0 ∷
    0 ∷ 97 ∷ [])) none)) ∷ []) [] []
unfolding primitive_names primitives code_of_name primitive_of_code primitive_of_name former_of_name word_of_name in_order
    int_or_limit mutez_or_limit division shifted_left shifted_right groups integer field application byte_at field_at
    narrow_field_at integer_at string_at bytes_at annotations_at any_annotations_at name_at name_of_code nodes_at
    application_at many_at node_by tags_in_order tag_at node_at decoded
world_16 = refl

-- CONTRACT int | address | 0x0100000000000000010000000000000000000000000061 | Some
-- 0x0100000000000000010000000000000000000000000061 | 1
world_17 : did (prim (codes "CONTRACT") [] (more (prim (codes "int") [] none) none)) ((k.simple s.Address) ∷ []) ((v.bytes (1
    ∷ 0 ∷ 0 ∷ 0 ∷ 0 ∷ 0 ∷ 0 ∷ 0 ∷ 1 ∷ 0 ∷ 0 ∷ 0 ∷ 0 ∷ 0 ∷ 0 ∷ 0 ∷ 0 ∷ 0 ∷ 0 ∷ 0 ∷ 0 ∷ 0 ∷ 97 ∷ [])) ∷ []) ≡ gave 1 ((prim
    (codes "Some") [] (more (bytes (1 ∷ 0 ∷ 0 ∷ 0 ∷ 0 ∷ 0 ∷ 0 ∷ 0 ∷ 1 ∷ 0 ∷ 0 ∷ 0 ∷ 0 ∷ 0 ∷ 0 ∷ 0 ∷ 0 ∷ 0 ∷ 0 ∷ 0 ∷ 0 ∷ 0 ∷ 97
    ∷ [])) none)) ∷ []) [] []
unfolding primitive_names primitives code_of_name primitive_of_code primitive_of_name former_of_name word_of_name in_order
    int_or_limit mutez_or_limit division shifted_left shifted_right groups integer field application byte_at field_at
    narrow_field_at integer_at string_at bytes_at annotations_at any_annotations_at name_at name_of_code nodes_at
    application_at many_at node_by tags_in_order tag_at node_at decoded
world_17 = refl

-- CONTRACT %a int | address | 0x0100000000000000010000000000000000000000000061 | None | 1
world_18 : did (prim (codes "CONTRACT") ((codes "%a") ∷ []) (more (prim (codes "int") [] none) none)) ((k.simple s.Address) ∷
    []) ((v.bytes (1 ∷ 0 ∷ 0 ∷ 0 ∷ 0 ∷ 0 ∷ 0 ∷ 0 ∷ 1 ∷ 0 ∷ 0 ∷ 0 ∷ 0 ∷ 0 ∷ 0 ∷ 0 ∷ 0 ∷ 0 ∷ 0 ∷ 0 ∷ 0 ∷ 0 ∷ 97 ∷ [])) ∷ []) ≡
    gave 1 ((prim (codes "None") [] none) ∷ []) [] []
unfolding primitive_names primitives code_of_name primitive_of_code primitive_of_name former_of_name word_of_name in_order
    int_or_limit mutez_or_limit division shifted_left shifted_right groups integer field application byte_at field_at
    narrow_field_at integer_at string_at bytes_at annotations_at any_annotations_at name_at name_of_code nodes_at
    application_at many_at node_by tags_in_order tag_at node_at decoded
world_18 = refl

-- CONTRACT (or int unit) | address | 0x01000000000000000100000000000000000000000000 | Some
-- 0x01000000000000000100000000000000000000000000 | 1
world_19 : did (prim (codes "CONTRACT") [] (more (prim (codes "or") [] (more (prim (codes "int") [] none) (more (prim (codes
    "unit") [] none) none))) none)) ((k.simple s.Address) ∷ []) ((v.bytes (1 ∷ 0 ∷ 0 ∷ 0 ∷ 0 ∷ 0 ∷ 0 ∷ 0 ∷ 1 ∷ 0 ∷ 0 ∷ 0 ∷ 0 ∷
    0 ∷ 0 ∷ 0 ∷ 0 ∷ 0 ∷ 0 ∷ 0 ∷ 0 ∷ 0 ∷ [])) ∷ []) ≡ gave 1 ((prim (codes "Some") [] (more (bytes (1 ∷ 0 ∷ 0 ∷ 0 ∷ 0 ∷ 0 ∷ 0 ∷
    0 ∷ 1 ∷ 0 ∷ 0 ∷ 0 ∷ 0 ∷ 0 ∷ 0 ∷ 0 ∷ 0 ∷ 0 ∷ 0 ∷ 0 ∷ 0 ∷ 0 ∷ [])) none)) ∷ []) [] []
unfolding primitive_names primitives code_of_name primitive_of_code primitive_of_name former_of_name word_of_name in_order
    int_or_limit mutez_or_limit division shifted_left shifted_right groups integer field application byte_at field_at
    narrow_field_at integer_at string_at bytes_at annotations_at any_annotations_at name_at name_of_code nodes_at
    application_at many_at node_by tags_in_order tag_at node_at decoded
world_19 = refl

-- CONTRACT unit | address | 0x01000000000000000100000000000000000000000000 | None | 1
world_20 : did (prim (codes "CONTRACT") [] (more (prim (codes "unit") [] none) none)) ((k.simple s.Address) ∷ []) ((v.bytes (1
    ∷ 0 ∷ 0 ∷ 0 ∷ 0 ∷ 0 ∷ 0 ∷ 0 ∷ 1 ∷ 0 ∷ 0 ∷ 0 ∷ 0 ∷ 0 ∷ 0 ∷ 0 ∷ 0 ∷ 0 ∷ 0 ∷ 0 ∷ 0 ∷ 0 ∷ [])) ∷ []) ≡ gave 1 ((prim (codes
    "None") [] none) ∷ []) [] []
unfolding primitive_names primitives code_of_name primitive_of_code primitive_of_name former_of_name word_of_name in_order
    int_or_limit mutez_or_limit division shifted_left shifted_right groups integer field application byte_at field_at
    narrow_field_at integer_at string_at bytes_at annotations_at any_annotations_at name_at name_of_code nodes_at
    application_at many_at node_by tags_in_order tag_at node_at decoded
world_20 = refl

-- CONTRACT unit | address | 0x01000000000000000100000001000000000000000000 | None | 1
world_21 : did (prim (codes "CONTRACT") [] (more (prim (codes "unit") [] none) none)) ((k.simple s.Address) ∷ []) ((v.bytes (1
    ∷ 0 ∷ 0 ∷ 0 ∷ 0 ∷ 0 ∷ 0 ∷ 0 ∷ 1 ∷ 0 ∷ 0 ∷ 0 ∷ 1 ∷ 0 ∷ 0 ∷ 0 ∷ 0 ∷ 0 ∷ 0 ∷ 0 ∷ 0 ∷ 0 ∷ [])) ∷ []) ≡ gave 1 ((prim (codes
    "None") [] none) ∷ []) [] []
unfolding primitive_names primitives code_of_name primitive_of_code primitive_of_name former_of_name word_of_name in_order
    int_or_limit mutez_or_limit division shifted_left shifted_right groups integer field application byte_at field_at
    narrow_field_at integer_at string_at bytes_at annotations_at any_annotations_at name_at name_of_code nodes_at
    application_at many_at node_by tags_in_order tag_at node_at decoded
world_21 = refl

-- TRANSFER_TOKENS | int, mutez, contract int | 5, 6, 0x0100000000000000010000000000000000000000000061 | {} | 1
world_22 : did (prim (codes "TRANSFER_TOKENS") [] none) ((k.simple s.Int) ∷ (k.simple s.Mutez) ∷ (k.contract (k.simple s.Int))
    ∷ []) ((v.number (pos 5)) ∷ (v.number (pos 6)) ∷ (v.bytes (1 ∷ 0 ∷ 0 ∷ 0 ∷ 0 ∷ 0 ∷ 0 ∷ 0 ∷ 1 ∷ 0 ∷ 0 ∷ 0 ∷ 0 ∷ 0 ∷ 0 ∷ 0 ∷
    0 ∷ 0 ∷ 0 ∷ 0 ∷ 0 ∷ 0 ∷ 97 ∷ [])) ∷ []) ≡ gave 1 ((seq none) ∷ []) (record {
      number = 0;
      operation = transfer (v.number
          (pos 5)) 6 (1 ∷ 0 ∷ 0 ∷ 0 ∷ 0 ∷ 0 ∷ 0 ∷ 0 ∷ 1 ∷ 0 ∷ 0 ∷ 0 ∷ 0 ∷ 0 ∷ 0 ∷ 0 ∷ 0 ∷ 0 ∷ 0 ∷ 0 ∷ 0 ∷ 0 ∷ 97 ∷ []);
    } ∷ []) []
unfolding primitive_names primitives code_of_name primitive_of_code primitive_of_name former_of_name word_of_name in_order
    int_or_limit mutez_or_limit division shifted_left shifted_right groups integer field application byte_at field_at
    narrow_field_at integer_at string_at bytes_at annotations_at any_annotations_at name_at name_of_code nodes_at
    application_at many_at node_by tags_in_order tag_at node_at decoded
world_22 = refl

-- EMIT %tag | int | 5 | {} | 1
world_23 : did (prim (codes "EMIT") ((codes "%tag") ∷ []) none) ((k.simple s.Int) ∷ []) ((v.number (pos 5)) ∷ []) ≡ gave 1
    ((seq none) ∷ []) (record { number = 0; operation = event (codes "tag") (k.simple s.Int) (v.number (pos 5)) } ∷ []) []
unfolding primitive_names primitives code_of_name primitive_of_code primitive_of_name former_of_name word_of_name in_order
    int_or_limit mutez_or_limit division shifted_left shifted_right groups integer field application byte_at field_at
    narrow_field_at integer_at string_at bytes_at annotations_at any_annotations_at name_at name_of_code nodes_at
    application_at many_at node_by tags_in_order tag_at node_at decoded
world_23 = refl

-- EMIT | int | 5 | {} | 1
world_24 : did (prim (codes "EMIT") [] none) ((k.simple s.Int) ∷ []) ((v.number (pos 5)) ∷ []) ≡ gave 1 ((seq none) ∷ [])
    (record { number = 0; operation = event [] (k.simple s.Int) (v.number (pos 5)) } ∷ []) []
unfolding primitive_names primitives code_of_name primitive_of_code primitive_of_name former_of_name word_of_name in_order
    int_or_limit mutez_or_limit division shifted_left shifted_right groups integer field application byte_at field_at
    narrow_field_at integer_at string_at bytes_at annotations_at any_annotations_at name_at name_of_code nodes_at
    application_at many_at node_by tags_in_order tag_at node_at decoded
world_24 = refl

-- VIEW "n" nat | int, address | 5, 0x01000000000000000100000000000000000000000000 | None | 1
world_25 : did (prim (codes "VIEW") [] (more (str (codes "n")) (more (prim (codes "nat") [] none) none))) ((k.simple s.Int) ∷
    (k.simple s.Address) ∷ []) ((v.number (pos 5)) ∷ (v.bytes (1 ∷ 0 ∷ 0 ∷ 0 ∷ 0 ∷ 0 ∷ 0 ∷ 0 ∷ 1 ∷ 0 ∷ 0 ∷ 0 ∷ 0 ∷ 0 ∷ 0 ∷ 0 ∷
    0 ∷ 0 ∷ 0 ∷ 0 ∷ 0 ∷ 0 ∷ [])) ∷ []) ≡ gave 1 ((prim (codes "None") [] none) ∷ []) [] []
unfolding primitive_names primitives code_of_name primitive_of_code primitive_of_name former_of_name word_of_name in_order
    int_or_limit mutez_or_limit division shifted_left shifted_right groups integer field application byte_at field_at
    narrow_field_at integer_at string_at bytes_at annotations_at any_annotations_at name_at name_of_code nodes_at
    application_at many_at node_by tags_in_order tag_at node_at decoded
world_25 = refl

-- VIEW "n" nat | int, address | 5, 0x00000000000000000000000000000000000000000001 | None | 1
world_26 : did (prim (codes "VIEW") [] (more (str (codes "n")) (more (prim (codes "nat") [] none) none))) ((k.simple s.Int) ∷
    (k.simple s.Address) ∷ []) ((v.number (pos 5)) ∷ (v.bytes (0 ∷ 0 ∷ 0 ∷ 0 ∷ 0 ∷ 0 ∷ 0 ∷ 0 ∷ 0 ∷ 0 ∷ 0 ∷ 0 ∷ 0 ∷ 0 ∷ 0 ∷ 0 ∷
    0 ∷ 0 ∷ 0 ∷ 0 ∷ 0 ∷ 1 ∷ [])) ∷ []) ≡ gave 1 ((prim (codes "None") [] none) ∷ []) [] []
unfolding primitive_names primitives code_of_name primitive_of_code primitive_of_name former_of_name word_of_name in_order
    int_or_limit mutez_or_limit division shifted_left shifted_right groups integer field application byte_at field_at
    narrow_field_at integer_at string_at bytes_at annotations_at any_annotations_at name_at name_of_code nodes_at
    application_at many_at node_by tags_in_order tag_at node_at decoded
world_26 = refl

-- UNPACK address | bytes | 0x050a000000170100000000000000010000000000000000000000000061 | Some
-- 0x0100000000000000010000000000000000000000000061 | 30
world_27 : did (prim (codes "UNPACK") [] (more (prim (codes "address") [] none) none)) ((k.simple s.Bytes) ∷ []) ((v.bytes (5
    ∷ 10 ∷ 0 ∷ 0 ∷ 0 ∷ 23 ∷ 1 ∷ 0 ∷ 0 ∷ 0 ∷ 0 ∷ 0 ∷ 0 ∷ 0 ∷ 1 ∷ 0 ∷ 0 ∷ 0 ∷ 0 ∷ 0 ∷ 0 ∷ 0 ∷ 0 ∷ 0 ∷ 0 ∷ 0 ∷ 0 ∷ 0 ∷ 97 ∷ []))
    ∷ []) ≡ gave 30 ((prim (codes "Some") [] (more (bytes (1 ∷ 0 ∷ 0 ∷ 0 ∷ 0 ∷ 0 ∷ 0 ∷ 0 ∷ 1 ∷ 0 ∷ 0 ∷ 0 ∷ 0 ∷ 0 ∷ 0 ∷ 0 ∷ 0 ∷
    0 ∷ 0 ∷ 0 ∷ 0 ∷ 0 ∷ 97 ∷ [])) none)) ∷ []) [] []
unfolding primitive_names primitives code_of_name primitive_of_code primitive_of_name former_of_name word_of_name in_order
    int_or_limit mutez_or_limit division shifted_left shifted_right groups integer field application byte_at field_at
    narrow_field_at integer_at string_at bytes_at annotations_at any_annotations_at name_at name_of_code nodes_at
    application_at many_at node_by tags_in_order tag_at node_at decoded
world_27 = refl
