-- Sets, maps and big maps.
use Rattle.std.specs.Prelude.{◌≡◌, refl, pos, [], ◌∷◌, codes, true, false}
use Rattle.rules_text.specs.nodes.Tree.{int, prim, seq, none, more}
use Rattle.rules_text.specs.nodes.Primitives.{primitive_names, primitives, code_of_name, name_of_code, primitive_of_code, primitive_of_name}
use Rattle.rules_text.specs.binary.Spelling.{groups, integer, field, application}
use Rattle.rules_text.specs.binary.Reading.{byte_at, field_at, narrow_field_at, integer_at, string_at, bytes_at, annotations_at, any_annotations_at, name_at, nodes_at, application_at, many_at, node_by, tags_in_order, tag_at, node_at, decoded}
use Rattle.rules_data.specs.numbers.Limits.{int_or_limit, mutez_or_limit}
use Rattle.rules_data.specs.numbers.Integers.{division, shifted_left, shifted_right}
use Rattle.rules_data.specs.declared.types.Simple.TheVariants as s
use Rattle.rules_data.specs.types.Kind as k
use Rattle.rules_data.specs.types.Reading.{former_of_name}
use Rattle.rules_data.specs.types.Entrypoints.{in_order}
use Rattle.rules_data.specs.values.Val as v
use Rattle.rules_data.specs.values.Val.{no_val, more_vals, no_pair, more_pairs}
use Rattle.rules_data.specs.values.Literals.{word_of_name}
use Rattle.rows.specs.evaluation.Told.{did, gave}

-- EMPTY_SET int | - | - | {} | 1
collection_1 : did (prim (codes "EMPTY_SET") [] (more (prim (codes "int") [] none) none)) [] [] ≡ gave 1 ((seq none) ∷ []) []
    []
unfolding primitive_names primitives code_of_name primitive_of_code primitive_of_name former_of_name word_of_name in_order
    int_or_limit mutez_or_limit division shifted_left shifted_right groups integer field application byte_at field_at
    narrow_field_at integer_at string_at bytes_at annotations_at any_annotations_at name_at name_of_code nodes_at
    application_at many_at node_by tags_in_order tag_at node_at decoded
collection_1 = refl

-- EMPTY_MAP int string | - | - | {} | 1
collection_2 : did (prim (codes "EMPTY_MAP") [] (more (prim (codes "int") [] none) (more (prim (codes "string") [] none)
    none))) [] [] ≡ gave 1 ((seq none) ∷ []) [] []
unfolding primitive_names primitives code_of_name primitive_of_code primitive_of_name former_of_name word_of_name in_order
    int_or_limit mutez_or_limit division shifted_left shifted_right groups integer field application byte_at field_at
    narrow_field_at integer_at string_at bytes_at annotations_at any_annotations_at name_at name_of_code nodes_at
    application_at many_at node_by tags_in_order tag_at node_at decoded
collection_2 = refl

-- EMPTY_BIG_MAP int string | - | - | {} | 1
collection_3 : did (prim (codes "EMPTY_BIG_MAP") [] (more (prim (codes "int") [] none) (more (prim (codes "string") [] none)
    none))) [] [] ≡ gave 1 ((seq none) ∷ []) [] []
unfolding primitive_names primitives code_of_name primitive_of_code primitive_of_name former_of_name word_of_name in_order
    int_or_limit mutez_or_limit division shifted_left shifted_right groups integer field application byte_at field_at
    narrow_field_at integer_at string_at bytes_at annotations_at any_annotations_at name_at name_of_code nodes_at
    application_at many_at node_by tags_in_order tag_at node_at decoded
collection_3 = refl

-- SIZE | list int | { 4 ; 4 } | 2 | 1
collection_4 : did (prim (codes "SIZE") [] none) ((k.list (k.simple s.Int)) ∷ []) ((v.list (more_vals (v.number (pos 4))
    (more_vals (v.number (pos 4)) no_val))) ∷ []) ≡ gave 1 ((int (pos 2)) ∷ []) [] []
unfolding primitive_names primitives code_of_name primitive_of_code primitive_of_name former_of_name word_of_name in_order
    int_or_limit mutez_or_limit division shifted_left shifted_right groups integer field application byte_at field_at
    narrow_field_at integer_at string_at bytes_at annotations_at any_annotations_at name_at name_of_code nodes_at
    application_at many_at node_by tags_in_order tag_at node_at decoded
collection_4 = refl

-- SIZE | set int | { 4 ; 5 ; 6 } | 3 | 1
collection_5 : did (prim (codes "SIZE") [] none) ((k.set (k.simple s.Int)) ∷ []) ((v.set (more_vals (v.number (pos 4))
    (more_vals (v.number (pos 5)) (more_vals (v.number (pos 6)) no_val)))) ∷ []) ≡ gave 1 ((int (pos 3)) ∷ []) [] []
unfolding primitive_names primitives code_of_name primitive_of_code primitive_of_name former_of_name word_of_name in_order
    int_or_limit mutez_or_limit division shifted_left shifted_right groups integer field application byte_at field_at
    narrow_field_at integer_at string_at bytes_at annotations_at any_annotations_at name_at name_of_code nodes_at
    application_at many_at node_by tags_in_order tag_at node_at decoded
collection_5 = refl

-- SIZE | map int int | { Elt 1 1 } | 1 | 1
collection_6 : did (prim (codes "SIZE") [] none) ((k.map (k.simple s.Int) (k.simple s.Int)) ∷ []) ((v.table (more_pairs
    (v.number (pos 1)) (v.number (pos 1)) no_pair)) ∷ []) ≡ gave 1 ((int (pos 1)) ∷ []) [] []
unfolding primitive_names primitives code_of_name primitive_of_code primitive_of_name former_of_name word_of_name in_order
    int_or_limit mutez_or_limit division shifted_left shifted_right groups integer field application byte_at field_at
    narrow_field_at integer_at string_at bytes_at annotations_at any_annotations_at name_at name_of_code nodes_at
    application_at many_at node_by tags_in_order tag_at node_at decoded
collection_6 = refl

-- SIZE | string | "abc" | 3 | 1
collection_7 : did (prim (codes "SIZE") [] none) ((k.simple s.String) ∷ []) ((v.text (codes "abc")) ∷ []) ≡ gave 1 ((int (pos
    3)) ∷ []) [] []
unfolding primitive_names primitives code_of_name primitive_of_code primitive_of_name former_of_name word_of_name in_order
    int_or_limit mutez_or_limit division shifted_left shifted_right groups integer field application byte_at field_at
    narrow_field_at integer_at string_at bytes_at annotations_at any_annotations_at name_at name_of_code nodes_at
    application_at many_at node_by tags_in_order tag_at node_at decoded
collection_7 = refl

-- SIZE | bytes | 0x0102 | 2 | 1
collection_8 : did (prim (codes "SIZE") [] none) ((k.simple s.Bytes) ∷ []) ((v.bytes (1 ∷ 2 ∷ [])) ∷ []) ≡ gave 1 ((int (pos
    2)) ∷ []) [] []
unfolding primitive_names primitives code_of_name primitive_of_code primitive_of_name former_of_name word_of_name in_order
    int_or_limit mutez_or_limit division shifted_left shifted_right groups integer field application byte_at field_at
    narrow_field_at integer_at string_at bytes_at annotations_at any_annotations_at name_at name_of_code nodes_at
    application_at many_at node_by tags_in_order tag_at node_at decoded
collection_8 = refl

-- MEM | int, set int | 4, { 4 ; 5 } | True | 1
collection_9 : did (prim (codes "MEM") [] none) ((k.simple s.Int) ∷ (k.set (k.simple s.Int)) ∷ []) ((v.number (pos 4)) ∷
    (v.set (more_vals (v.number (pos 4)) (more_vals (v.number (pos 5)) no_val))) ∷ []) ≡ gave 1 ((prim (codes "True") [] none)
    ∷ []) [] []
unfolding primitive_names primitives code_of_name primitive_of_code primitive_of_name former_of_name word_of_name in_order
    int_or_limit mutez_or_limit division shifted_left shifted_right groups integer field application byte_at field_at
    narrow_field_at integer_at string_at bytes_at annotations_at any_annotations_at name_at name_of_code nodes_at
    application_at many_at node_by tags_in_order tag_at node_at decoded
collection_9 = refl

-- MEM | int, set int | 3, { 4 ; 5 } | False | 1
collection_10 : did (prim (codes "MEM") [] none) ((k.simple s.Int) ∷ (k.set (k.simple s.Int)) ∷ []) ((v.number (pos 3)) ∷
    (v.set (more_vals (v.number (pos 4)) (more_vals (v.number (pos 5)) no_val))) ∷ []) ≡ gave 1 ((prim (codes "False") []
    none) ∷ []) [] []
unfolding primitive_names primitives code_of_name primitive_of_code primitive_of_name former_of_name word_of_name in_order
    int_or_limit mutez_or_limit division shifted_left shifted_right groups integer field application byte_at field_at
    narrow_field_at integer_at string_at bytes_at annotations_at any_annotations_at name_at name_of_code nodes_at
    application_at many_at node_by tags_in_order tag_at node_at decoded
collection_10 = refl

-- MEM | int, map int int | 5, { Elt 4 0 ; Elt 5 0 } | True | 1
collection_11 : did (prim (codes "MEM") [] none) ((k.simple s.Int) ∷ (k.map (k.simple s.Int) (k.simple s.Int)) ∷ [])
    ((v.number (pos 5)) ∷ (v.table (more_pairs (v.number (pos 4)) (v.number (pos 0)) (more_pairs (v.number (pos 5)) (v.number
    (pos 0)) no_pair))) ∷ []) ≡ gave 1 ((prim (codes "True") [] none) ∷ []) [] []
unfolding primitive_names primitives code_of_name primitive_of_code primitive_of_name former_of_name word_of_name in_order
    int_or_limit mutez_or_limit division shifted_left shifted_right groups integer field application byte_at field_at
    narrow_field_at integer_at string_at bytes_at annotations_at any_annotations_at name_at name_of_code nodes_at
    application_at many_at node_by tags_in_order tag_at node_at decoded
collection_11 = refl

-- MEM | int, big_map int int | 6, { Elt 4 0 ; Elt 5 0 } | False | 1
collection_12 : did (prim (codes "MEM") [] none) ((k.simple s.Int) ∷ (k.big_map (k.simple s.Int) (k.simple s.Int)) ∷ [])
    ((v.number (pos 6)) ∷ (v.big_table (more_pairs (v.number (pos 4)) (v.number (pos 0)) (more_pairs (v.number (pos 5))
    (v.number (pos 0)) no_pair))) ∷ []) ≡ gave 1 ((prim (codes "False") [] none) ∷ []) [] []
unfolding primitive_names primitives code_of_name primitive_of_code primitive_of_name former_of_name word_of_name in_order
    int_or_limit mutez_or_limit division shifted_left shifted_right groups integer field application byte_at field_at
    narrow_field_at integer_at string_at bytes_at annotations_at any_annotations_at name_at name_of_code nodes_at
    application_at many_at node_by tags_in_order tag_at node_at decoded
collection_12 = refl

-- GET | int, map int (pair int int) | 5, { Elt 4 (Pair 0 0) ; Elt 5 (Pair 1 2) } | Some (Pair 1 2) | 4
collection_13 : did (prim (codes "GET") [] none) ((k.simple s.Int) ∷ (k.map (k.simple s.Int) (k.pair (k.simple s.Int)
    (k.simple s.Int))) ∷ []) ((v.number (pos 5)) ∷ (v.table (more_pairs (v.number (pos 4)) (v.both (v.number (pos 0))
    (v.number (pos 0))) (more_pairs (v.number (pos 5)) (v.both (v.number (pos 1)) (v.number (pos 2))) no_pair))) ∷ []) ≡ gave
    4 ((prim (codes "Some") [] (more (prim (codes "Pair") [] (more (int (pos 1)) (more (int (pos 2)) none))) none)) ∷ []) []
    []
unfolding primitive_names primitives code_of_name primitive_of_code primitive_of_name former_of_name word_of_name in_order
    int_or_limit mutez_or_limit division shifted_left shifted_right groups integer field application byte_at field_at
    narrow_field_at integer_at string_at bytes_at annotations_at any_annotations_at name_at name_of_code nodes_at
    application_at many_at node_by tags_in_order tag_at node_at decoded
collection_13 = refl

-- GET | int, map int int | 6, { Elt 4 0 ; Elt 5 0 } | None | 1
collection_14 : did (prim (codes "GET") [] none) ((k.simple s.Int) ∷ (k.map (k.simple s.Int) (k.simple s.Int)) ∷ [])
    ((v.number (pos 6)) ∷ (v.table (more_pairs (v.number (pos 4)) (v.number (pos 0)) (more_pairs (v.number (pos 5)) (v.number
    (pos 0)) no_pair))) ∷ []) ≡ gave 1 ((prim (codes "None") [] none) ∷ []) [] []
unfolding primitive_names primitives code_of_name primitive_of_code primitive_of_name former_of_name word_of_name in_order
    int_or_limit mutez_or_limit division shifted_left shifted_right groups integer field application byte_at field_at
    narrow_field_at integer_at string_at bytes_at annotations_at any_annotations_at name_at name_of_code nodes_at
    application_at many_at node_by tags_in_order tag_at node_at decoded
collection_14 = refl

-- GET | int, big_map int int | 4, { Elt 4 7 } | Some 7 | 2
collection_15 : did (prim (codes "GET") [] none) ((k.simple s.Int) ∷ (k.big_map (k.simple s.Int) (k.simple s.Int)) ∷ [])
    ((v.number (pos 4)) ∷ (v.big_table (more_pairs (v.number (pos 4)) (v.number (pos 7)) no_pair)) ∷ []) ≡ gave 2 ((prim
    (codes "Some") [] (more (int (pos 7)) none)) ∷ []) [] []
unfolding primitive_names primitives code_of_name primitive_of_code primitive_of_name former_of_name word_of_name in_order
    int_or_limit mutez_or_limit division shifted_left shifted_right groups integer field application byte_at field_at
    narrow_field_at integer_at string_at bytes_at annotations_at any_annotations_at name_at name_of_code nodes_at
    application_at many_at node_by tags_in_order tag_at node_at decoded
collection_15 = refl

-- UPDATE | int, bool, set int | 4, True, { 3 ; 5 } | { 3 ; 4 ; 5 } | 1
collection_16 : did (prim (codes "UPDATE") [] none) ((k.simple s.Int) ∷ (k.simple s.Bool) ∷ (k.set (k.simple s.Int)) ∷ [])
    ((v.number (pos 4)) ∷ (v.truth true) ∷ (v.set (more_vals (v.number (pos 3)) (more_vals (v.number (pos 5)) no_val))) ∷ [])
    ≡ gave 1 ((seq (more (int (pos 3)) (more (int (pos 4)) (more (int (pos 5)) none)))) ∷ []) [] []
unfolding primitive_names primitives code_of_name primitive_of_code primitive_of_name former_of_name word_of_name in_order
    int_or_limit mutez_or_limit division shifted_left shifted_right groups integer field application byte_at field_at
    narrow_field_at integer_at string_at bytes_at annotations_at any_annotations_at name_at name_of_code nodes_at
    application_at many_at node_by tags_in_order tag_at node_at decoded
collection_16 = refl

-- UPDATE | int, bool, set int | 5, True, { 3 ; 5 } | { 3 ; 5 } | 1
collection_17 : did (prim (codes "UPDATE") [] none) ((k.simple s.Int) ∷ (k.simple s.Bool) ∷ (k.set (k.simple s.Int)) ∷ [])
    ((v.number (pos 5)) ∷ (v.truth true) ∷ (v.set (more_vals (v.number (pos 3)) (more_vals (v.number (pos 5)) no_val))) ∷ [])
    ≡ gave 1 ((seq (more (int (pos 3)) (more (int (pos 5)) none))) ∷ []) [] []
unfolding primitive_names primitives code_of_name primitive_of_code primitive_of_name former_of_name word_of_name in_order
    int_or_limit mutez_or_limit division shifted_left shifted_right groups integer field application byte_at field_at
    narrow_field_at integer_at string_at bytes_at annotations_at any_annotations_at name_at name_of_code nodes_at
    application_at many_at node_by tags_in_order tag_at node_at decoded
collection_17 = refl

-- UPDATE | int, bool, set int | 3, False, { 3 ; 5 } | { 5 } | 1
collection_18 : did (prim (codes "UPDATE") [] none) ((k.simple s.Int) ∷ (k.simple s.Bool) ∷ (k.set (k.simple s.Int)) ∷ [])
    ((v.number (pos 3)) ∷ (v.truth false) ∷ (v.set (more_vals (v.number (pos 3)) (more_vals (v.number (pos 5)) no_val))) ∷ [])
    ≡ gave 1 ((seq (more (int (pos 5)) none)) ∷ []) [] []
unfolding primitive_names primitives code_of_name primitive_of_code primitive_of_name former_of_name word_of_name in_order
    int_or_limit mutez_or_limit division shifted_left shifted_right groups integer field application byte_at field_at
    narrow_field_at integer_at string_at bytes_at annotations_at any_annotations_at name_at name_of_code nodes_at
    application_at many_at node_by tags_in_order tag_at node_at decoded
collection_18 = refl

-- UPDATE | int, bool, set int | 4, False, { 3 ; 5 } | { 3 ; 5 } | 1
collection_19 : did (prim (codes "UPDATE") [] none) ((k.simple s.Int) ∷ (k.simple s.Bool) ∷ (k.set (k.simple s.Int)) ∷ [])
    ((v.number (pos 4)) ∷ (v.truth false) ∷ (v.set (more_vals (v.number (pos 3)) (more_vals (v.number (pos 5)) no_val))) ∷ [])
    ≡ gave 1 ((seq (more (int (pos 3)) (more (int (pos 5)) none))) ∷ []) [] []
unfolding primitive_names primitives code_of_name primitive_of_code primitive_of_name former_of_name word_of_name in_order
    int_or_limit mutez_or_limit division shifted_left shifted_right groups integer field application byte_at field_at
    narrow_field_at integer_at string_at bytes_at annotations_at any_annotations_at name_at name_of_code nodes_at
    application_at many_at node_by tags_in_order tag_at node_at decoded
collection_19 = refl

-- UPDATE | int, option int, map int int | 4, Some 9, { Elt 3 0 ; Elt 5 0 } | { Elt 3 0 ; Elt 4 9 ; Elt 5 0 } | 1
collection_20 : did (prim (codes "UPDATE") [] none) ((k.simple s.Int) ∷ (k.option (k.simple s.Int)) ∷ (k.map (k.simple s.Int)
    (k.simple s.Int)) ∷ []) ((v.number (pos 4)) ∷ (v.some (v.number (pos 9))) ∷ (v.table (more_pairs (v.number (pos 3))
    (v.number (pos 0)) (more_pairs (v.number (pos 5)) (v.number (pos 0)) no_pair))) ∷ []) ≡ gave 1 ((seq (more (prim (codes
    "Elt") [] (more (int (pos 3)) (more (int (pos 0)) none))) (more (prim (codes "Elt") [] (more (int (pos 4)) (more (int (pos
    9)) none))) (more (prim (codes "Elt") [] (more (int (pos 5)) (more (int (pos 0)) none))) none)))) ∷ []) [] []
unfolding primitive_names primitives code_of_name primitive_of_code primitive_of_name former_of_name word_of_name in_order
    int_or_limit mutez_or_limit division shifted_left shifted_right groups integer field application byte_at field_at
    narrow_field_at integer_at string_at bytes_at annotations_at any_annotations_at name_at name_of_code nodes_at
    application_at many_at node_by tags_in_order tag_at node_at decoded
collection_20 = refl

-- UPDATE | int, option int, map int int | 5, Some 9, { Elt 3 0 ; Elt 5 0 } | { Elt 3 0 ; Elt 5 9 } | 1
collection_21 : did (prim (codes "UPDATE") [] none) ((k.simple s.Int) ∷ (k.option (k.simple s.Int)) ∷ (k.map (k.simple s.Int)
    (k.simple s.Int)) ∷ []) ((v.number (pos 5)) ∷ (v.some (v.number (pos 9))) ∷ (v.table (more_pairs (v.number (pos 3))
    (v.number (pos 0)) (more_pairs (v.number (pos 5)) (v.number (pos 0)) no_pair))) ∷ []) ≡ gave 1 ((seq (more (prim (codes
    "Elt") [] (more (int (pos 3)) (more (int (pos 0)) none))) (more (prim (codes "Elt") [] (more (int (pos 5)) (more (int (pos
    9)) none))) none))) ∷ []) [] []
unfolding primitive_names primitives code_of_name primitive_of_code primitive_of_name former_of_name word_of_name in_order
    int_or_limit mutez_or_limit division shifted_left shifted_right groups integer field application byte_at field_at
    narrow_field_at integer_at string_at bytes_at annotations_at any_annotations_at name_at name_of_code nodes_at
    application_at many_at node_by tags_in_order tag_at node_at decoded
collection_21 = refl

-- UPDATE | int, option int, big_map int int | 3, None, { Elt 3 0 ; Elt 5 0 } | { Elt 5 0 } | 1
collection_22 : did (prim (codes "UPDATE") [] none) ((k.simple s.Int) ∷ (k.option (k.simple s.Int)) ∷ (k.big_map (k.simple
    s.Int) (k.simple s.Int)) ∷ []) ((v.number (pos 3)) ∷ v.nothing ∷ (v.big_table (more_pairs (v.number (pos 3)) (v.number
    (pos 0)) (more_pairs (v.number (pos 5)) (v.number (pos 0)) no_pair))) ∷ []) ≡ gave 1 ((seq (more (prim (codes "Elt") []
    (more (int (pos 5)) (more (int (pos 0)) none))) none)) ∷ []) [] []
unfolding primitive_names primitives code_of_name primitive_of_code primitive_of_name former_of_name word_of_name in_order
    int_or_limit mutez_or_limit division shifted_left shifted_right groups integer field application byte_at field_at
    narrow_field_at integer_at string_at bytes_at annotations_at any_annotations_at name_at name_of_code nodes_at
    application_at many_at node_by tags_in_order tag_at node_at decoded
collection_22 = refl

-- GET_AND_UPDATE | int, option int, map int int | 3, None, { Elt 3 7 ; Elt 5 0 } | Some 7, { Elt 5 0 } | 1
collection_23 : did (prim (codes "GET_AND_UPDATE") [] none) ((k.simple s.Int) ∷ (k.option (k.simple s.Int)) ∷ (k.map (k.simple
    s.Int) (k.simple s.Int)) ∷ []) ((v.number (pos 3)) ∷ v.nothing ∷ (v.table (more_pairs (v.number (pos 3)) (v.number (pos
    7)) (more_pairs (v.number (pos 5)) (v.number (pos 0)) no_pair))) ∷ []) ≡ gave 1 ((prim (codes "Some") [] (more (int (pos
    7)) none)) ∷ (seq (more (prim (codes "Elt") [] (more (int (pos 5)) (more (int (pos 0)) none))) none)) ∷ []) [] []
unfolding primitive_names primitives code_of_name primitive_of_code primitive_of_name former_of_name word_of_name in_order
    int_or_limit mutez_or_limit division shifted_left shifted_right groups integer field application byte_at field_at
    narrow_field_at integer_at string_at bytes_at annotations_at any_annotations_at name_at name_of_code nodes_at
    application_at many_at node_by tags_in_order tag_at node_at decoded
collection_23 = refl

-- GET_AND_UPDATE | int, option int, big_map int int | 4, Some 1, { Elt 3 7 } | None, { Elt 3 7 ; Elt 4 1 } | 1
collection_24 : did (prim (codes "GET_AND_UPDATE") [] none) ((k.simple s.Int) ∷ (k.option (k.simple s.Int)) ∷ (k.big_map
    (k.simple s.Int) (k.simple s.Int)) ∷ []) ((v.number (pos 4)) ∷ (v.some (v.number (pos 1))) ∷ (v.big_table (more_pairs
    (v.number (pos 3)) (v.number (pos 7)) no_pair)) ∷ []) ≡ gave 1 ((prim (codes "None") [] none) ∷ (seq (more (prim (codes
    "Elt") [] (more (int (pos 3)) (more (int (pos 7)) none))) (more (prim (codes "Elt") [] (more (int (pos 4)) (more (int (pos
    1)) none))) none))) ∷ []) [] []
unfolding primitive_names primitives code_of_name primitive_of_code primitive_of_name former_of_name word_of_name in_order
    int_or_limit mutez_or_limit division shifted_left shifted_right groups integer field application byte_at field_at
    narrow_field_at integer_at string_at bytes_at annotations_at any_annotations_at name_at name_of_code nodes_at
    application_at many_at node_by tags_in_order tag_at node_at decoded
collection_24 = refl
