-- The order of the stack, pairs, unions and lists.
use Rattle.std.specs.Prelude.{◌≡◌, refl, pos, [], ◌∷◌, codes}
use Rattle.rules_text.specs.nodes.Tree.{int, str, prim, seq, none, more}
use Rattle.rules_text.specs.nodes.Primitives.{primitive_names, primitives, code_of_name, name_of_code, primitive_of_code, primitive_of_name}
use Rattle.rules_text.specs.binary.Spelling.{groups, integer, field, application}
use Rattle.rules_text.specs.binary.Reading.{byte_at, field_at, narrow_field_at, integer_at, string_at, bytes_at, annotations_at, any_annotations_at, name_at, nodes_at, application_at, many_at, node_by, tags_in_order, tag_at, node_at, decoded}
use Rattle.rules_data.specs.numbers.Limits.{int_or_limit, mutez_or_limit}
use Rattle.rules_data.specs.numbers.Integers.{division, shifted_left, shifted_right}
use Rattle.rules_data.specs.declared.types.Simple.TheVariants as s
use Rattle.rules_data.specs.types.Kind as k
use Rattle.rules_data.specs.types.Reading.{former_of_name}
use Rattle.rules_data.specs.types.Entrypoints.{in_order}
use Rattle.rules_data.specs.values.Val as v
use Rattle.rules_data.specs.values.Val.{no_val, more_vals, no_pair, more_pairs}
use Rattle.rules_data.specs.values.Literals.{word_of_name}
use Rattle.rows.specs.evaluation.Told.{did, gave}

-- DROP | int | 5 | - | 2
stack_1 : did (prim (codes "DROP") [] none) ((k.simple s.Int) ∷ []) ((v.number (pos 5)) ∷ []) ≡ gave 2 [] [] []
unfolding primitive_names primitives code_of_name primitive_of_code primitive_of_name former_of_name word_of_name in_order
    int_or_limit mutez_or_limit division shifted_left shifted_right groups integer field application byte_at field_at
    narrow_field_at integer_at string_at bytes_at annotations_at any_annotations_at name_at name_of_code nodes_at
    application_at many_at node_by tags_in_order tag_at node_at decoded
stack_1 = refl

-- DROP 2 | int, string | 1, "a" | - | 3
stack_2 : did (prim (codes "DROP") [] (more (int (pos 2)) none)) ((k.simple s.Int) ∷ (k.simple s.String) ∷ []) ((v.number (pos
    1)) ∷ (v.text (codes "a")) ∷ []) ≡ gave 3 [] [] []
unfolding primitive_names primitives code_of_name primitive_of_code primitive_of_name former_of_name word_of_name in_order
    int_or_limit mutez_or_limit division shifted_left shifted_right groups integer field application byte_at field_at
    narrow_field_at integer_at string_at bytes_at annotations_at any_annotations_at name_at name_of_code nodes_at
    application_at many_at node_by tags_in_order tag_at node_at decoded
stack_2 = refl

-- DROP 0 | int | 1 | 1 | 1
stack_3 : did (prim (codes "DROP") [] (more (int (pos 0)) none)) ((k.simple s.Int) ∷ []) ((v.number (pos 1)) ∷ []) ≡ gave 1
    ((int (pos 1)) ∷ []) [] []
unfolding primitive_names primitives code_of_name primitive_of_code primitive_of_name former_of_name word_of_name in_order
    int_or_limit mutez_or_limit division shifted_left shifted_right groups integer field application byte_at field_at
    narrow_field_at integer_at string_at bytes_at annotations_at any_annotations_at name_at name_of_code nodes_at
    application_at many_at node_by tags_in_order tag_at node_at decoded
stack_3 = refl

-- DUP | pair int int | Pair 1 2 | Pair 1 2, Pair 1 2 | 4
stack_4 : did (prim (codes "DUP") [] none) ((k.pair (k.simple s.Int) (k.simple s.Int)) ∷ []) ((v.both (v.number (pos 1))
    (v.number (pos 2))) ∷ []) ≡ gave 4 ((prim (codes "Pair") [] (more (int (pos 1)) (more (int (pos 2)) none))) ∷ (prim (codes
    "Pair") [] (more (int (pos 1)) (more (int (pos 2)) none))) ∷ []) [] []
unfolding primitive_names primitives code_of_name primitive_of_code primitive_of_name former_of_name word_of_name in_order
    int_or_limit mutez_or_limit division shifted_left shifted_right groups integer field application byte_at field_at
    narrow_field_at integer_at string_at bytes_at annotations_at any_annotations_at name_at name_of_code nodes_at
    application_at many_at node_by tags_in_order tag_at node_at decoded
stack_4 = refl

-- DUP 2 | int, nat | 1, 2 | 2, 1, 2 | 2
stack_5 : did (prim (codes "DUP") [] (more (int (pos 2)) none)) ((k.simple s.Int) ∷ (k.simple s.Nat) ∷ []) ((v.number (pos 1))
    ∷ (v.number (pos 2)) ∷ []) ≡ gave 2 ((int (pos 2)) ∷ (int (pos 1)) ∷ (int (pos 2)) ∷ []) [] []
unfolding primitive_names primitives code_of_name primitive_of_code primitive_of_name former_of_name word_of_name in_order
    int_or_limit mutez_or_limit division shifted_left shifted_right groups integer field application byte_at field_at
    narrow_field_at integer_at string_at bytes_at annotations_at any_annotations_at name_at name_of_code nodes_at
    application_at many_at node_by tags_in_order tag_at node_at decoded
stack_5 = refl

-- SWAP | int, nat | 1, 2 | 2, 1 | 1
stack_6 : did (prim (codes "SWAP") [] none) ((k.simple s.Int) ∷ (k.simple s.Nat) ∷ []) ((v.number (pos 1)) ∷ (v.number (pos
    2)) ∷ []) ≡ gave 1 ((int (pos 2)) ∷ (int (pos 1)) ∷ []) [] []
unfolding primitive_names primitives code_of_name primitive_of_code primitive_of_name former_of_name word_of_name in_order
    int_or_limit mutez_or_limit division shifted_left shifted_right groups integer field application byte_at field_at
    narrow_field_at integer_at string_at bytes_at annotations_at any_annotations_at name_at name_of_code nodes_at
    application_at many_at node_by tags_in_order tag_at node_at decoded
stack_6 = refl

-- DIG 2 | int, int, int | 1, 2, 3 | 3, 1, 2 | 1
stack_7 : did (prim (codes "DIG") [] (more (int (pos 2)) none)) ((k.simple s.Int) ∷ (k.simple s.Int) ∷ (k.simple s.Int) ∷ [])
    ((v.number (pos 1)) ∷ (v.number (pos 2)) ∷ (v.number (pos 3)) ∷ []) ≡ gave 1 ((int (pos 3)) ∷ (int (pos 1)) ∷ (int (pos
    2)) ∷ []) [] []
unfolding primitive_names primitives code_of_name primitive_of_code primitive_of_name former_of_name word_of_name in_order
    int_or_limit mutez_or_limit division shifted_left shifted_right groups integer field application byte_at field_at
    narrow_field_at integer_at string_at bytes_at annotations_at any_annotations_at name_at name_of_code nodes_at
    application_at many_at node_by tags_in_order tag_at node_at decoded
stack_7 = refl

-- DIG 0 | int | 1 | 1 | 1
stack_8 : did (prim (codes "DIG") [] (more (int (pos 0)) none)) ((k.simple s.Int) ∷ []) ((v.number (pos 1)) ∷ []) ≡ gave 1
    ((int (pos 1)) ∷ []) [] []
unfolding primitive_names primitives code_of_name primitive_of_code primitive_of_name former_of_name word_of_name in_order
    int_or_limit mutez_or_limit division shifted_left shifted_right groups integer field application byte_at field_at
    narrow_field_at integer_at string_at bytes_at annotations_at any_annotations_at name_at name_of_code nodes_at
    application_at many_at node_by tags_in_order tag_at node_at decoded
stack_8 = refl

-- DUG 2 | int, int, int | 1, 2, 3 | 2, 3, 1 | 1
stack_9 : did (prim (codes "DUG") [] (more (int (pos 2)) none)) ((k.simple s.Int) ∷ (k.simple s.Int) ∷ (k.simple s.Int) ∷ [])
    ((v.number (pos 1)) ∷ (v.number (pos 2)) ∷ (v.number (pos 3)) ∷ []) ≡ gave 1 ((int (pos 2)) ∷ (int (pos 3)) ∷ (int (pos
    1)) ∷ []) [] []
unfolding primitive_names primitives code_of_name primitive_of_code primitive_of_name former_of_name word_of_name in_order
    int_or_limit mutez_or_limit division shifted_left shifted_right groups integer field application byte_at field_at
    narrow_field_at integer_at string_at bytes_at annotations_at any_annotations_at name_at name_of_code nodes_at
    application_at many_at node_by tags_in_order tag_at node_at decoded
stack_9 = refl

-- DUG 0 | int | 1 | 1 | 1
stack_10 : did (prim (codes "DUG") [] (more (int (pos 0)) none)) ((k.simple s.Int) ∷ []) ((v.number (pos 1)) ∷ []) ≡ gave 1
    ((int (pos 1)) ∷ []) [] []
unfolding primitive_names primitives code_of_name primitive_of_code primitive_of_name former_of_name word_of_name in_order
    int_or_limit mutez_or_limit division shifted_left shifted_right groups integer field application byte_at field_at
    narrow_field_at integer_at string_at bytes_at annotations_at any_annotations_at name_at name_of_code nodes_at
    application_at many_at node_by tags_in_order tag_at node_at decoded
stack_10 = refl

-- UNIT | - | - | Unit | 1
stack_11 : did (prim (codes "UNIT") [] none) [] [] ≡ gave 1 ((prim (codes "Unit") [] none) ∷ []) [] []
unfolding primitive_names primitives code_of_name primitive_of_code primitive_of_name former_of_name word_of_name in_order
    int_or_limit mutez_or_limit division shifted_left shifted_right groups integer field application byte_at field_at
    narrow_field_at integer_at string_at bytes_at annotations_at any_annotations_at name_at name_of_code nodes_at
    application_at many_at node_by tags_in_order tag_at node_at decoded
stack_11 = refl

-- PUSH (list int) { 1 ; 2 } | - | - | { 1 ; 2 } | 4
stack_12 : did (prim (codes "PUSH") [] (more (prim (codes "list") [] (more (prim (codes "int") [] none) none)) (more (seq
    (more (int (pos 1)) (more (int (pos 2)) none))) none))) [] [] ≡ gave 4 ((seq (more (int (pos 1)) (more (int (pos 2))
    none))) ∷ []) [] []
unfolding primitive_names primitives code_of_name primitive_of_code primitive_of_name former_of_name word_of_name in_order
    int_or_limit mutez_or_limit division shifted_left shifted_right groups integer field application byte_at field_at
    narrow_field_at integer_at string_at bytes_at annotations_at any_annotations_at name_at name_of_code nodes_at
    application_at many_at node_by tags_in_order tag_at node_at decoded
stack_12 = refl

-- CAST int | int | 1 | 1 | 1
stack_13 : did (prim (codes "CAST") [] (more (prim (codes "int") [] none) none)) ((k.simple s.Int) ∷ []) ((v.number (pos 1)) ∷
    []) ≡ gave 1 ((int (pos 1)) ∷ []) [] []
unfolding primitive_names primitives code_of_name primitive_of_code primitive_of_name former_of_name word_of_name in_order
    int_or_limit mutez_or_limit division shifted_left shifted_right groups integer field application byte_at field_at
    narrow_field_at integer_at string_at bytes_at annotations_at any_annotations_at name_at name_of_code nodes_at
    application_at many_at node_by tags_in_order tag_at node_at decoded
stack_13 = refl

-- RENAME @x | int | 1 | 1 | 1
stack_14 : did (prim (codes "RENAME") ((codes "@x") ∷ []) none) ((k.simple s.Int) ∷ []) ((v.number (pos 1)) ∷ []) ≡ gave 1
    ((int (pos 1)) ∷ []) [] []
unfolding primitive_names primitives code_of_name primitive_of_code primitive_of_name former_of_name word_of_name in_order
    int_or_limit mutez_or_limit division shifted_left shifted_right groups integer field application byte_at field_at
    narrow_field_at integer_at string_at bytes_at annotations_at any_annotations_at name_at name_of_code nodes_at
    application_at many_at node_by tags_in_order tag_at node_at decoded
stack_14 = refl

-- { UNIT ; UNIT ; PAIR } | - | - | Pair Unit Unit | 3
stack_15 : did (seq (more (prim (codes "UNIT") [] none) (more (prim (codes "UNIT") [] none) (more (prim (codes "PAIR") []
    none) none)))) [] [] ≡ gave 3 ((prim (codes "Pair") [] (more (prim (codes "Unit") [] none) (more (prim (codes "Unit") []
    none) none))) ∷ []) [] []
unfolding primitive_names primitives code_of_name primitive_of_code primitive_of_name former_of_name word_of_name in_order
    int_or_limit mutez_or_limit division shifted_left shifted_right groups integer field application byte_at field_at
    narrow_field_at integer_at string_at bytes_at annotations_at any_annotations_at name_at name_of_code nodes_at
    application_at many_at node_by tags_in_order tag_at node_at decoded
stack_15 = refl

-- PAIR | int, int | 1, 2 | Pair 1 2 | 1
stack_16 : did (prim (codes "PAIR") [] none) ((k.simple s.Int) ∷ (k.simple s.Int) ∷ []) ((v.number (pos 1)) ∷ (v.number (pos
    2)) ∷ []) ≡ gave 1 ((prim (codes "Pair") [] (more (int (pos 1)) (more (int (pos 2)) none))) ∷ []) [] []
unfolding primitive_names primitives code_of_name primitive_of_code primitive_of_name former_of_name word_of_name in_order
    int_or_limit mutez_or_limit division shifted_left shifted_right groups integer field application byte_at field_at
    narrow_field_at integer_at string_at bytes_at annotations_at any_annotations_at name_at name_of_code nodes_at
    application_at many_at node_by tags_in_order tag_at node_at decoded
stack_16 = refl

-- PAIR 3 | int, int, int | 1, 2, 3 | Pair 1 (Pair 2 3) | 1
stack_17 : did (prim (codes "PAIR") [] (more (int (pos 3)) none)) ((k.simple s.Int) ∷ (k.simple s.Int) ∷ (k.simple s.Int) ∷
    []) ((v.number (pos 1)) ∷ (v.number (pos 2)) ∷ (v.number (pos 3)) ∷ []) ≡ gave 1 ((prim (codes "Pair") [] (more (int (pos
    1)) (more (prim (codes "Pair") [] (more (int (pos 2)) (more (int (pos 3)) none))) none))) ∷ []) [] []
unfolding primitive_names primitives code_of_name primitive_of_code primitive_of_name former_of_name word_of_name in_order
    int_or_limit mutez_or_limit division shifted_left shifted_right groups integer field application byte_at field_at
    narrow_field_at integer_at string_at bytes_at annotations_at any_annotations_at name_at name_of_code nodes_at
    application_at many_at node_by tags_in_order tag_at node_at decoded
stack_17 = refl

-- UNPAIR | pair int int int | Pair 1 2 3 | 1, Pair 2 3 | 1
stack_18 : did (prim (codes "UNPAIR") [] none) ((k.pair (k.simple s.Int) (k.pair (k.simple s.Int) (k.simple s.Int))) ∷ [])
    ((v.both (v.number (pos 1)) (v.both (v.number (pos 2)) (v.number (pos 3)))) ∷ []) ≡ gave 1 ((int (pos 1)) ∷ (prim (codes
    "Pair") [] (more (int (pos 2)) (more (int (pos 3)) none))) ∷ []) [] []
unfolding primitive_names primitives code_of_name primitive_of_code primitive_of_name former_of_name word_of_name in_order
    int_or_limit mutez_or_limit division shifted_left shifted_right groups integer field application byte_at field_at
    narrow_field_at integer_at string_at bytes_at annotations_at any_annotations_at name_at name_of_code nodes_at
    application_at many_at node_by tags_in_order tag_at node_at decoded
stack_18 = refl

-- UNPAIR 3 | pair int int int | Pair 1 2 3 | 1, 2, 3 | 1
stack_19 : did (prim (codes "UNPAIR") [] (more (int (pos 3)) none)) ((k.pair (k.simple s.Int) (k.pair (k.simple s.Int)
    (k.simple s.Int))) ∷ []) ((v.both (v.number (pos 1)) (v.both (v.number (pos 2)) (v.number (pos 3)))) ∷ []) ≡ gave 1 ((int
    (pos 1)) ∷ (int (pos 2)) ∷ (int (pos 3)) ∷ []) [] []
unfolding primitive_names primitives code_of_name primitive_of_code primitive_of_name former_of_name word_of_name in_order
    int_or_limit mutez_or_limit division shifted_left shifted_right groups integer field application byte_at field_at
    narrow_field_at integer_at string_at bytes_at annotations_at any_annotations_at name_at name_of_code nodes_at
    application_at many_at node_by tags_in_order tag_at node_at decoded
stack_19 = refl

-- CAR | pair int string | Pair 1 "a" | 1 | 1
stack_20 : did (prim (codes "CAR") [] none) ((k.pair (k.simple s.Int) (k.simple s.String)) ∷ []) ((v.both (v.number (pos 1))
    (v.text (codes "a"))) ∷ []) ≡ gave 1 ((int (pos 1)) ∷ []) [] []
unfolding primitive_names primitives code_of_name primitive_of_code primitive_of_name former_of_name word_of_name in_order
    int_or_limit mutez_or_limit division shifted_left shifted_right groups integer field application byte_at field_at
    narrow_field_at integer_at string_at bytes_at annotations_at any_annotations_at name_at name_of_code nodes_at
    application_at many_at node_by tags_in_order tag_at node_at decoded
stack_20 = refl

-- CDR | pair int string | Pair 1 "a" | "a" | 1
stack_21 : did (prim (codes "CDR") [] none) ((k.pair (k.simple s.Int) (k.simple s.String)) ∷ []) ((v.both (v.number (pos 1))
    (v.text (codes "a"))) ∷ []) ≡ gave 1 ((str (codes "a")) ∷ []) [] []
unfolding primitive_names primitives code_of_name primitive_of_code primitive_of_name former_of_name word_of_name in_order
    int_or_limit mutez_or_limit division shifted_left shifted_right groups integer field application byte_at field_at
    narrow_field_at integer_at string_at bytes_at annotations_at any_annotations_at name_at name_of_code nodes_at
    application_at many_at node_by tags_in_order tag_at node_at decoded
stack_21 = refl

-- GET 0 | pair int int int | Pair 1 2 3 | Pair 1 (Pair 2 3) | 1
stack_22 : did (prim (codes "GET") [] (more (int (pos 0)) none)) ((k.pair (k.simple s.Int) (k.pair (k.simple s.Int) (k.simple
    s.Int))) ∷ []) ((v.both (v.number (pos 1)) (v.both (v.number (pos 2)) (v.number (pos 3)))) ∷ []) ≡ gave 1 ((prim (codes
    "Pair") [] (more (int (pos 1)) (more (prim (codes "Pair") [] (more (int (pos 2)) (more (int (pos 3)) none))) none))) ∷ [])
    [] []
unfolding primitive_names primitives code_of_name primitive_of_code primitive_of_name former_of_name word_of_name in_order
    int_or_limit mutez_or_limit division shifted_left shifted_right groups integer field application byte_at field_at
    narrow_field_at integer_at string_at bytes_at annotations_at any_annotations_at name_at name_of_code nodes_at
    application_at many_at node_by tags_in_order tag_at node_at decoded
stack_22 = refl

-- GET 1 | pair int int int | Pair 1 2 3 | 1 | 1
stack_23 : did (prim (codes "GET") [] (more (int (pos 1)) none)) ((k.pair (k.simple s.Int) (k.pair (k.simple s.Int) (k.simple
    s.Int))) ∷ []) ((v.both (v.number (pos 1)) (v.both (v.number (pos 2)) (v.number (pos 3)))) ∷ []) ≡ gave 1 ((int (pos 1)) ∷
    []) [] []
unfolding primitive_names primitives code_of_name primitive_of_code primitive_of_name former_of_name word_of_name in_order
    int_or_limit mutez_or_limit division shifted_left shifted_right groups integer field application byte_at field_at
    narrow_field_at integer_at string_at bytes_at annotations_at any_annotations_at name_at name_of_code nodes_at
    application_at many_at node_by tags_in_order tag_at node_at decoded
stack_23 = refl

-- GET 2 | pair int int int | Pair 1 2 3 | Pair 2 3 | 1
stack_24 : did (prim (codes "GET") [] (more (int (pos 2)) none)) ((k.pair (k.simple s.Int) (k.pair (k.simple s.Int) (k.simple
    s.Int))) ∷ []) ((v.both (v.number (pos 1)) (v.both (v.number (pos 2)) (v.number (pos 3)))) ∷ []) ≡ gave 1 ((prim (codes
    "Pair") [] (more (int (pos 2)) (more (int (pos 3)) none))) ∷ []) [] []
unfolding primitive_names primitives code_of_name primitive_of_code primitive_of_name former_of_name word_of_name in_order
    int_or_limit mutez_or_limit division shifted_left shifted_right groups integer field application byte_at field_at
    narrow_field_at integer_at string_at bytes_at annotations_at any_annotations_at name_at name_of_code nodes_at
    application_at many_at node_by tags_in_order tag_at node_at decoded
stack_24 = refl

-- GET 3 | pair int int int | Pair 1 2 3 | 2 | 1
stack_25 : did (prim (codes "GET") [] (more (int (pos 3)) none)) ((k.pair (k.simple s.Int) (k.pair (k.simple s.Int) (k.simple
    s.Int))) ∷ []) ((v.both (v.number (pos 1)) (v.both (v.number (pos 2)) (v.number (pos 3)))) ∷ []) ≡ gave 1 ((int (pos 2)) ∷
    []) [] []
unfolding primitive_names primitives code_of_name primitive_of_code primitive_of_name former_of_name word_of_name in_order
    int_or_limit mutez_or_limit division shifted_left shifted_right groups integer field application byte_at field_at
    narrow_field_at integer_at string_at bytes_at annotations_at any_annotations_at name_at name_of_code nodes_at
    application_at many_at node_by tags_in_order tag_at node_at decoded
stack_25 = refl

-- GET 4 | pair int int int | Pair 1 2 3 | 3 | 1
stack_26 : did (prim (codes "GET") [] (more (int (pos 4)) none)) ((k.pair (k.simple s.Int) (k.pair (k.simple s.Int) (k.simple
    s.Int))) ∷ []) ((v.both (v.number (pos 1)) (v.both (v.number (pos 2)) (v.number (pos 3)))) ∷ []) ≡ gave 1 ((int (pos 3)) ∷
    []) [] []
unfolding primitive_names primitives code_of_name primitive_of_code primitive_of_name former_of_name word_of_name in_order
    int_or_limit mutez_or_limit division shifted_left shifted_right groups integer field application byte_at field_at
    narrow_field_at integer_at string_at bytes_at annotations_at any_annotations_at name_at name_of_code nodes_at
    application_at many_at node_by tags_in_order tag_at node_at decoded
stack_26 = refl

-- UPDATE 0 | unit, pair int int | Unit, Pair 1 2 | Unit | 1
stack_27 : did (prim (codes "UPDATE") [] (more (int (pos 0)) none)) ((k.simple s.Unit) ∷ (k.pair (k.simple s.Int) (k.simple
    s.Int)) ∷ []) (v.unit ∷ (v.both (v.number (pos 1)) (v.number (pos 2))) ∷ []) ≡ gave 1 ((prim (codes "Unit") [] none) ∷ [])
    [] []
unfolding primitive_names primitives code_of_name primitive_of_code primitive_of_name former_of_name word_of_name in_order
    int_or_limit mutez_or_limit division shifted_left shifted_right groups integer field application byte_at field_at
    narrow_field_at integer_at string_at bytes_at annotations_at any_annotations_at name_at name_of_code nodes_at
    application_at many_at node_by tags_in_order tag_at node_at decoded
stack_27 = refl

-- UPDATE 1 | unit, pair int int | Unit, Pair 1 2 | Pair Unit 2 | 1
stack_28 : did (prim (codes "UPDATE") [] (more (int (pos 1)) none)) ((k.simple s.Unit) ∷ (k.pair (k.simple s.Int) (k.simple
    s.Int)) ∷ []) (v.unit ∷ (v.both (v.number (pos 1)) (v.number (pos 2))) ∷ []) ≡ gave 1 ((prim (codes "Pair") [] (more (prim
    (codes "Unit") [] none) (more (int (pos 2)) none))) ∷ []) [] []
unfolding primitive_names primitives code_of_name primitive_of_code primitive_of_name former_of_name word_of_name in_order
    int_or_limit mutez_or_limit division shifted_left shifted_right groups integer field application byte_at field_at
    narrow_field_at integer_at string_at bytes_at annotations_at any_annotations_at name_at name_of_code nodes_at
    application_at many_at node_by tags_in_order tag_at node_at decoded
stack_28 = refl

-- UPDATE 2 | unit, pair int int | Unit, Pair 1 2 | Pair 1 Unit | 1
stack_29 : did (prim (codes "UPDATE") [] (more (int (pos 2)) none)) ((k.simple s.Unit) ∷ (k.pair (k.simple s.Int) (k.simple
    s.Int)) ∷ []) (v.unit ∷ (v.both (v.number (pos 1)) (v.number (pos 2))) ∷ []) ≡ gave 1 ((prim (codes "Pair") [] (more (int
    (pos 1)) (more (prim (codes "Unit") [] none) none))) ∷ []) [] []
unfolding primitive_names primitives code_of_name primitive_of_code primitive_of_name former_of_name word_of_name in_order
    int_or_limit mutez_or_limit division shifted_left shifted_right groups integer field application byte_at field_at
    narrow_field_at integer_at string_at bytes_at annotations_at any_annotations_at name_at name_of_code nodes_at
    application_at many_at node_by tags_in_order tag_at node_at decoded
stack_29 = refl

-- UPDATE 4 | unit, pair int int int | Unit, Pair 1 2 3 | Pair 1 (Pair 2 Unit) | 1
stack_30 : did (prim (codes "UPDATE") [] (more (int (pos 4)) none)) ((k.simple s.Unit) ∷ (k.pair (k.simple s.Int) (k.pair
    (k.simple s.Int) (k.simple s.Int))) ∷ []) (v.unit ∷ (v.both (v.number (pos 1)) (v.both (v.number (pos 2)) (v.number (pos
    3)))) ∷ []) ≡ gave 1 ((prim (codes "Pair") [] (more (int (pos 1)) (more (prim (codes "Pair") [] (more (int (pos 2)) (more
    (prim (codes "Unit") [] none) none))) none))) ∷ []) [] []
unfolding primitive_names primitives code_of_name primitive_of_code primitive_of_name former_of_name word_of_name in_order
    int_or_limit mutez_or_limit division shifted_left shifted_right groups integer field application byte_at field_at
    narrow_field_at integer_at string_at bytes_at annotations_at any_annotations_at name_at name_of_code nodes_at
    application_at many_at node_by tags_in_order tag_at node_at decoded
stack_30 = refl

-- LEFT string | int | 1 | Left 1 | 1
stack_31 : did (prim (codes "LEFT") [] (more (prim (codes "string") [] none) none)) ((k.simple s.Int) ∷ []) ((v.number (pos
    1)) ∷ []) ≡ gave 1 ((prim (codes "Left") [] (more (int (pos 1)) none)) ∷ []) [] []
unfolding primitive_names primitives code_of_name primitive_of_code primitive_of_name former_of_name word_of_name in_order
    int_or_limit mutez_or_limit division shifted_left shifted_right groups integer field application byte_at field_at
    narrow_field_at integer_at string_at bytes_at annotations_at any_annotations_at name_at name_of_code nodes_at
    application_at many_at node_by tags_in_order tag_at node_at decoded
stack_31 = refl

-- RIGHT string | int | 1 | Right 1 | 1
stack_32 : did (prim (codes "RIGHT") [] (more (prim (codes "string") [] none) none)) ((k.simple s.Int) ∷ []) ((v.number (pos
    1)) ∷ []) ≡ gave 1 ((prim (codes "Right") [] (more (int (pos 1)) none)) ∷ []) [] []
unfolding primitive_names primitives code_of_name primitive_of_code primitive_of_name former_of_name word_of_name in_order
    int_or_limit mutez_or_limit division shifted_left shifted_right groups integer field application byte_at field_at
    narrow_field_at integer_at string_at bytes_at annotations_at any_annotations_at name_at name_of_code nodes_at
    application_at many_at node_by tags_in_order tag_at node_at decoded
stack_32 = refl

-- SOME | int | 1 | Some 1 | 1
stack_33 : did (prim (codes "SOME") [] none) ((k.simple s.Int) ∷ []) ((v.number (pos 1)) ∷ []) ≡ gave 1 ((prim (codes "Some")
    [] (more (int (pos 1)) none)) ∷ []) [] []
unfolding primitive_names primitives code_of_name primitive_of_code primitive_of_name former_of_name word_of_name in_order
    int_or_limit mutez_or_limit division shifted_left shifted_right groups integer field application byte_at field_at
    narrow_field_at integer_at string_at bytes_at annotations_at any_annotations_at name_at name_of_code nodes_at
    application_at many_at node_by tags_in_order tag_at node_at decoded
stack_33 = refl

-- NONE int | - | - | None | 1
stack_34 : did (prim (codes "NONE") [] (more (prim (codes "int") [] none) none)) [] [] ≡ gave 1 ((prim (codes "None") [] none)
    ∷ []) [] []
unfolding primitive_names primitives code_of_name primitive_of_code primitive_of_name former_of_name word_of_name in_order
    int_or_limit mutez_or_limit division shifted_left shifted_right groups integer field application byte_at field_at
    narrow_field_at integer_at string_at bytes_at annotations_at any_annotations_at name_at name_of_code nodes_at
    application_at many_at node_by tags_in_order tag_at node_at decoded
stack_34 = refl

-- NIL int | - | - | {} | 1
stack_35 : did (prim (codes "NIL") [] (more (prim (codes "int") [] none) none)) [] [] ≡ gave 1 ((seq none) ∷ []) [] []
unfolding primitive_names primitives code_of_name primitive_of_code primitive_of_name former_of_name word_of_name in_order
    int_or_limit mutez_or_limit division shifted_left shifted_right groups integer field application byte_at field_at
    narrow_field_at integer_at string_at bytes_at annotations_at any_annotations_at name_at name_of_code nodes_at
    application_at many_at node_by tags_in_order tag_at node_at decoded
stack_35 = refl

-- CONS | int, list int | 1, { 2 ; 3 } | { 1 ; 2 ; 3 } | 1
stack_36 : did (prim (codes "CONS") [] none) ((k.simple s.Int) ∷ (k.list (k.simple s.Int)) ∷ []) ((v.number (pos 1)) ∷ (v.list
    (more_vals (v.number (pos 2)) (more_vals (v.number (pos 3)) no_val))) ∷ []) ≡ gave 1 ((seq (more (int (pos 1)) (more (int
    (pos 2)) (more (int (pos 3)) none)))) ∷ []) [] []
unfolding primitive_names primitives code_of_name primitive_of_code primitive_of_name former_of_name word_of_name in_order
    int_or_limit mutez_or_limit division shifted_left shifted_right groups integer field application byte_at field_at
    narrow_field_at integer_at string_at bytes_at annotations_at any_annotations_at name_at name_of_code nodes_at
    application_at many_at node_by tags_in_order tag_at node_at decoded
stack_36 = refl
