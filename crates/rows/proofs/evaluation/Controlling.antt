-- Branches, loops and lambdas.
use Rattle.std.specs.Prelude.{◌≡◌, refl, pos, negsuc, [], ◌∷◌, codes, true, false}
use Rattle.rules_text.specs.nodes.Tree.{int, str, prim, seq, none, more}
use Rattle.rules_text.specs.nodes.Primitives.{primitive_names, primitives, code_of_name, name_of_code, primitive_of_code, primitive_of_name}
use Rattle.rules_text.specs.binary.Spelling.{groups, integer, field, application}
use Rattle.rules_text.specs.binary.Reading.{byte_at, field_at, narrow_field_at, integer_at, string_at, bytes_at, annotations_at, any_annotations_at, name_at, nodes_at, application_at, many_at, node_by, tags_in_order, tag_at, node_at, decoded}
use Rattle.rules_data.specs.numbers.Limits.{int_or_limit, mutez_or_limit}
use Rattle.rules_data.specs.numbers.Integers.{division, shifted_left, shifted_right}
use Rattle.rules_data.specs.declared.types.Simple.TheVariants as s
use Rattle.rules_data.specs.types.Kind as k
use Rattle.rules_data.specs.types.Reading.{former_of_name}
use Rattle.rules_data.specs.types.Entrypoints.{in_order}
use Rattle.rules_data.specs.values.Val as v
use Rattle.rules_data.specs.values.Val.{no_val, more_vals, no_pair, more_pairs}
use Rattle.rules_data.specs.values.Literals.{word_of_name}
use Rattle.rules_code.specs.steps.Failure as f
use Rattle.rows.specs.evaluation.Told.{did, gave, failed_as}

-- IF { PUSH int 1 } { PUSH int 2 } | bool | True | 1 | 3
control_1 : did (prim (codes "IF") [] (more (seq (more (prim (codes "PUSH") [] (more (prim (codes "int") [] none) (more (int
    (pos 1)) none))) none)) (more (seq (more (prim (codes "PUSH") [] (more (prim (codes "int") [] none) (more (int (pos 2))
    none))) none)) none))) ((k.simple s.Bool) ∷ []) ((v.truth true) ∷ []) ≡ gave 3 ((int (pos 1)) ∷ []) [] []
unfolding primitive_names primitives code_of_name primitive_of_code primitive_of_name former_of_name word_of_name in_order
    int_or_limit mutez_or_limit division shifted_left shifted_right groups integer field application byte_at field_at
    narrow_field_at integer_at string_at bytes_at annotations_at any_annotations_at name_at name_of_code nodes_at
    application_at many_at node_by tags_in_order tag_at node_at decoded
control_1 = refl

-- IF { PUSH int 1 } { PUSH int 2 } | bool | False | 2 | 3
control_2 : did (prim (codes "IF") [] (more (seq (more (prim (codes "PUSH") [] (more (prim (codes "int") [] none) (more (int
    (pos 1)) none))) none)) (more (seq (more (prim (codes "PUSH") [] (more (prim (codes "int") [] none) (more (int (pos 2))
    none))) none)) none))) ((k.simple s.Bool) ∷ []) ((v.truth false) ∷ []) ≡ gave 3 ((int (pos 2)) ∷ []) [] []
unfolding primitive_names primitives code_of_name primitive_of_code primitive_of_name former_of_name word_of_name in_order
    int_or_limit mutez_or_limit division shifted_left shifted_right groups integer field application byte_at field_at
    narrow_field_at integer_at string_at bytes_at annotations_at any_annotations_at name_at name_of_code nodes_at
    application_at many_at node_by tags_in_order tag_at node_at decoded
control_2 = refl

-- IF_NONE { PUSH int 1 } {} | option int | None | 1 | 3
control_3 : did (prim (codes "IF_NONE") [] (more (seq (more (prim (codes "PUSH") [] (more (prim (codes "int") [] none) (more
    (int (pos 1)) none))) none)) (more (seq none) none))) ((k.option (k.simple s.Int)) ∷ []) (v.nothing ∷ []) ≡ gave 3 ((int
    (pos 1)) ∷ []) [] []
unfolding primitive_names primitives code_of_name primitive_of_code primitive_of_name former_of_name word_of_name in_order
    int_or_limit mutez_or_limit division shifted_left shifted_right groups integer field application byte_at field_at
    narrow_field_at integer_at string_at bytes_at annotations_at any_annotations_at name_at name_of_code nodes_at
    application_at many_at node_by tags_in_order tag_at node_at decoded
control_3 = refl

-- IF_NONE { PUSH int 1 } {} | option int | Some 5 | 5 | 1
control_4 : did (prim (codes "IF_NONE") [] (more (seq (more (prim (codes "PUSH") [] (more (prim (codes "int") [] none) (more
    (int (pos 1)) none))) none)) (more (seq none) none))) ((k.option (k.simple s.Int)) ∷ []) ((v.some (v.number (pos 5))) ∷
    []) ≡ gave 1 ((int (pos 5)) ∷ []) [] []
unfolding primitive_names primitives code_of_name primitive_of_code primitive_of_name former_of_name word_of_name in_order
    int_or_limit mutez_or_limit division shifted_left shifted_right groups integer field application byte_at field_at
    narrow_field_at integer_at string_at bytes_at annotations_at any_annotations_at name_at name_of_code nodes_at
    application_at many_at node_by tags_in_order tag_at node_at decoded
control_4 = refl

-- IF_LEFT {} { SIZE } | or nat string | Left 5 | 5 | 1
control_5 : did (prim (codes "IF_LEFT") [] (more (seq none) (more (seq (more (prim (codes "SIZE") [] none) none)) none)))
    ((k.or (k.simple s.Nat) (k.simple s.String)) ∷ []) ((v.left (v.number (pos 5))) ∷ []) ≡ gave 1 ((int (pos 5)) ∷ []) [] []
unfolding primitive_names primitives code_of_name primitive_of_code primitive_of_name former_of_name word_of_name in_order
    int_or_limit mutez_or_limit division shifted_left shifted_right groups integer field application byte_at field_at
    narrow_field_at integer_at string_at bytes_at annotations_at any_annotations_at name_at name_of_code nodes_at
    application_at many_at node_by tags_in_order tag_at node_at decoded
control_5 = refl

-- IF_LEFT {} { SIZE } | or nat string | Right "ab" | 2 | 2
control_6 : did (prim (codes "IF_LEFT") [] (more (seq none) (more (seq (more (prim (codes "SIZE") [] none) none)) none)))
    ((k.or (k.simple s.Nat) (k.simple s.String)) ∷ []) ((v.right (v.text (codes "ab"))) ∷ []) ≡ gave 2 ((int (pos 2)) ∷ []) []
    []
unfolding primitive_names primitives code_of_name primitive_of_code primitive_of_name former_of_name word_of_name in_order
    int_or_limit mutez_or_limit division shifted_left shifted_right groups integer field application byte_at field_at
    narrow_field_at integer_at string_at bytes_at annotations_at any_annotations_at name_at name_of_code nodes_at
    application_at many_at node_by tags_in_order tag_at node_at decoded
control_6 = refl

-- IF_CONS { SWAP ; DROP } { PUSH int 0 } | list int | { 7 ; 8 ; 9 } | 7 | 6
control_7 : did (prim (codes "IF_CONS") [] (more (seq (more (prim (codes "SWAP") [] none) (more (prim (codes "DROP") [] none)
    none))) (more (seq (more (prim (codes "PUSH") [] (more (prim (codes "int") [] none) (more (int (pos 0)) none))) none))
    none))) ((k.list (k.simple s.Int)) ∷ []) ((v.list (more_vals (v.number (pos 7)) (more_vals (v.number (pos 8)) (more_vals
    (v.number (pos 9)) no_val)))) ∷ []) ≡ gave 6 ((int (pos 7)) ∷ []) [] []
unfolding primitive_names primitives code_of_name primitive_of_code primitive_of_name former_of_name word_of_name in_order
    int_or_limit mutez_or_limit division shifted_left shifted_right groups integer field application byte_at field_at
    narrow_field_at integer_at string_at bytes_at annotations_at any_annotations_at name_at name_of_code nodes_at
    application_at many_at node_by tags_in_order tag_at node_at decoded
control_7 = refl

-- IF_CONS { SWAP ; DROP } { PUSH int 0 } | list int | {} | 0 | 3
control_8 : did (prim (codes "IF_CONS") [] (more (seq (more (prim (codes "SWAP") [] none) (more (prim (codes "DROP") [] none)
    none))) (more (seq (more (prim (codes "PUSH") [] (more (prim (codes "int") [] none) (more (int (pos 0)) none))) none))
    none))) ((k.list (k.simple s.Int)) ∷ []) ((v.list no_val) ∷ []) ≡ gave 3 ((int (pos 0)) ∷ []) [] []
unfolding primitive_names primitives code_of_name primitive_of_code primitive_of_name former_of_name word_of_name in_order
    int_or_limit mutez_or_limit division shifted_left shifted_right groups integer field application byte_at field_at
    narrow_field_at integer_at string_at bytes_at annotations_at any_annotations_at name_at name_of_code nodes_at
    application_at many_at node_by tags_in_order tag_at node_at decoded
control_8 = refl

-- DIP { ADD } | int, int, int | 1, 2, 3 | 1, 5 | 2
control_9 : did (prim (codes "DIP") [] (more (seq (more (prim (codes "ADD") [] none) none)) none)) ((k.simple s.Int) ∷
    (k.simple s.Int) ∷ (k.simple s.Int) ∷ []) ((v.number (pos 1)) ∷ (v.number (pos 2)) ∷ (v.number (pos 3)) ∷ []) ≡ gave 2
    ((int (pos 1)) ∷ (int (pos 5)) ∷ []) [] []
unfolding primitive_names primitives code_of_name primitive_of_code primitive_of_name former_of_name word_of_name in_order
    int_or_limit mutez_or_limit division shifted_left shifted_right groups integer field application byte_at field_at
    narrow_field_at integer_at string_at bytes_at annotations_at any_annotations_at name_at name_of_code nodes_at
    application_at many_at node_by tags_in_order tag_at node_at decoded
control_9 = refl

-- DIP 2 { NEG } | int, int, int | 1, 2, 3 | 1, 2, -3 | 2
control_10 : did (prim (codes "DIP") [] (more (int (pos 2)) (more (seq (more (prim (codes "NEG") [] none) none)) none)))
    ((k.simple s.Int) ∷ (k.simple s.Int) ∷ (k.simple s.Int) ∷ []) ((v.number (pos 1)) ∷ (v.number (pos 2)) ∷ (v.number (pos
    3)) ∷ []) ≡ gave 2 ((int (pos 1)) ∷ (int (pos 2)) ∷ (int (negsuc 2)) ∷ []) [] []
unfolding primitive_names primitives code_of_name primitive_of_code primitive_of_name former_of_name word_of_name in_order
    int_or_limit mutez_or_limit division shifted_left shifted_right groups integer field application byte_at field_at
    narrow_field_at integer_at string_at bytes_at annotations_at any_annotations_at name_at name_of_code nodes_at
    application_at many_at node_by tags_in_order tag_at node_at decoded
control_10 = refl

-- DIP 0 { NEG } | int | 1 | -1 | 2
control_11 : did (prim (codes "DIP") [] (more (int (pos 0)) (more (seq (more (prim (codes "NEG") [] none) none)) none)))
    ((k.simple s.Int) ∷ []) ((v.number (pos 1)) ∷ []) ≡ gave 2 ((int (negsuc 0)) ∷ []) [] []
unfolding primitive_names primitives code_of_name primitive_of_code primitive_of_name former_of_name word_of_name in_order
    int_or_limit mutez_or_limit division shifted_left shifted_right groups integer field application byte_at field_at
    narrow_field_at integer_at string_at bytes_at annotations_at any_annotations_at name_at name_of_code nodes_at
    application_at many_at node_by tags_in_order tag_at node_at decoded
control_11 = refl

-- LOOP { PUSH bool False } | bool | True | - | 4
control_12 : did (prim (codes "LOOP") [] (more (seq (more (prim (codes "PUSH") [] (more (prim (codes "bool") [] none) (more
    (prim (codes "False") [] none) none))) none)) none)) ((k.simple s.Bool) ∷ []) ((v.truth true) ∷ []) ≡ gave 4 [] [] []
unfolding primitive_names primitives code_of_name primitive_of_code primitive_of_name former_of_name word_of_name in_order
    int_or_limit mutez_or_limit division shifted_left shifted_right groups integer field application byte_at field_at
    narrow_field_at integer_at string_at bytes_at annotations_at any_annotations_at name_at name_of_code nodes_at
    application_at many_at node_by tags_in_order tag_at node_at decoded
control_12 = refl

-- LOOP { PUSH bool False } | bool | False | - | 1
control_13 : did (prim (codes "LOOP") [] (more (seq (more (prim (codes "PUSH") [] (more (prim (codes "bool") [] none) (more
    (prim (codes "False") [] none) none))) none)) none)) ((k.simple s.Bool) ∷ []) ((v.truth false) ∷ []) ≡ gave 1 [] [] []
unfolding primitive_names primitives code_of_name primitive_of_code primitive_of_name former_of_name word_of_name in_order
    int_or_limit mutez_or_limit division shifted_left shifted_right groups integer field application byte_at field_at
    narrow_field_at integer_at string_at bytes_at annotations_at any_annotations_at name_at name_of_code nodes_at
    application_at many_at node_by tags_in_order tag_at node_at decoded
control_13 = refl

-- LAMBDA int int { NEG } | - | - | { NEG } | 1
control_14 : did (prim (codes "LAMBDA") [] (more (prim (codes "int") [] none) (more (prim (codes "int") [] none) (more (seq
    (more (prim (codes "NEG") [] none) none)) none)))) [] [] ≡ gave 1 ((seq (more (prim (codes "NEG") [] none) none)) ∷ []) []
    []
unfolding primitive_names primitives code_of_name primitive_of_code primitive_of_name former_of_name word_of_name in_order
    int_or_limit mutez_or_limit division shifted_left shifted_right groups integer field application byte_at field_at
    narrow_field_at integer_at string_at bytes_at annotations_at any_annotations_at name_at name_of_code nodes_at
    application_at many_at node_by tags_in_order tag_at node_at decoded
control_14 = refl

-- LAMBDA_REC int int { DIP { DROP } ; NEG } | - | - | Lambda_rec { DIP { DROP } ; NEG } | 1
control_15 : did (prim (codes "LAMBDA_REC") [] (more (prim (codes "int") [] none) (more (prim (codes "int") [] none) (more
    (seq (more (prim (codes "DIP") [] (more (seq (more (prim (codes "DROP") [] none) none)) none)) (more (prim (codes "NEG")
    [] none) none))) none)))) [] [] ≡ gave 1 ((prim (codes "Lambda_rec") [] (more (seq (more (prim (codes "DIP") [] (more (seq
    (more (prim (codes "DROP") [] none) none)) none)) (more (prim (codes "NEG") [] none) none))) none)) ∷ []) [] []
unfolding primitive_names primitives code_of_name primitive_of_code primitive_of_name former_of_name word_of_name in_order
    int_or_limit mutez_or_limit division shifted_left shifted_right groups integer field application byte_at field_at
    narrow_field_at integer_at string_at bytes_at annotations_at any_annotations_at name_at name_of_code nodes_at
    application_at many_at node_by tags_in_order tag_at node_at decoded
control_15 = refl

-- EXEC | int, lambda int int | 5, { NEG } | -5 | 2
control_16 : did (prim (codes "EXEC") [] none) ((k.simple s.Int) ∷ (k.lambda (k.simple s.Int) (k.simple s.Int)) ∷ [])
    ((v.number (pos 5)) ∷ (v.lambda (seq (more (prim (codes "NEG") [] none) none)) false) ∷ []) ≡ gave 2 ((int (negsuc 4)) ∷
    []) [] []
unfolding primitive_names primitives code_of_name primitive_of_code primitive_of_name former_of_name word_of_name in_order
    int_or_limit mutez_or_limit division shifted_left shifted_right groups integer field application byte_at field_at
    narrow_field_at integer_at string_at bytes_at annotations_at any_annotations_at name_at name_of_code nodes_at
    application_at many_at node_by tags_in_order tag_at node_at decoded
control_16 = refl

-- EXEC | int, lambda int int | 5, Lambda_rec { DIP { DROP } ; NEG } | -5 | 5
control_17 : did (prim (codes "EXEC") [] none) ((k.simple s.Int) ∷ (k.lambda (k.simple s.Int) (k.simple s.Int)) ∷ [])
    ((v.number (pos 5)) ∷ (v.lambda (seq (more (prim (codes "DIP") [] (more (seq (more (prim (codes "DROP") [] none) none))
    none)) (more (prim (codes "NEG") [] none) none))) true) ∷ []) ≡ gave 5 ((int (negsuc 4)) ∷ []) [] []
unfolding primitive_names primitives code_of_name primitive_of_code primitive_of_name former_of_name word_of_name in_order
    int_or_limit mutez_or_limit division shifted_left shifted_right groups integer field application byte_at field_at
    narrow_field_at integer_at string_at bytes_at annotations_at any_annotations_at name_at name_of_code nodes_at
    application_at many_at node_by tags_in_order tag_at node_at decoded
control_17 = refl

-- APPLY | int, lambda (pair int int) int | 5, { UNPAIR ; SUB } | { PUSH int 5 ; PAIR ; { UNPAIR ; SUB } } | 2
control_18 : did (prim (codes "APPLY") [] none) ((k.simple s.Int) ∷ (k.lambda (k.pair (k.simple s.Int) (k.simple s.Int))
    (k.simple s.Int)) ∷ []) ((v.number (pos 5)) ∷ (v.lambda (seq (more (prim (codes "UNPAIR") [] none) (more (prim (codes
    "SUB") [] none) none))) false) ∷ []) ≡ gave 2 ((seq (more (prim (codes "PUSH") [] (more (prim (codes "int") [] none) (more
    (int (pos 5)) none))) (more (prim (codes "PAIR") [] none) (more (seq (more (prim (codes "UNPAIR") [] none) (more (prim
    (codes "SUB") [] none) none))) none)))) ∷ []) [] []
unfolding primitive_names primitives code_of_name primitive_of_code primitive_of_name former_of_name word_of_name in_order
    int_or_limit mutez_or_limit division shifted_left shifted_right groups integer field application byte_at field_at
    narrow_field_at integer_at string_at bytes_at annotations_at any_annotations_at name_at name_of_code nodes_at
    application_at many_at node_by tags_in_order tag_at node_at decoded
control_18 = refl

-- APPLY | int, lambda (pair int int) int | 5, Lambda_rec { DIP { DROP } ; CAR } | { PUSH int 5 ; PAIR ; LAMBDA_REC (pair int
-- int) int { DIP { DROP } ; CAR } ; SWAP ; EXEC } | 2
control_19 : did (prim (codes "APPLY") [] none) ((k.simple s.Int) ∷ (k.lambda (k.pair (k.simple s.Int) (k.simple s.Int))
    (k.simple s.Int)) ∷ []) ((v.number (pos 5)) ∷ (v.lambda (seq (more (prim (codes "DIP") [] (more (seq (more (prim (codes
    "DROP") [] none) none)) none)) (more (prim (codes "CAR") [] none) none))) true) ∷ []) ≡ gave 2 ((seq (more (prim (codes
    "PUSH") [] (more (prim (codes "int") [] none) (more (int (pos 5)) none))) (more (prim (codes "PAIR") [] none) (more (prim
    (codes "LAMBDA_REC") [] (more (prim (codes "pair") [] (more (prim (codes "int") [] none) (more (prim (codes "int") []
    none) none))) (more (prim (codes "int") [] none) (more (seq (more (prim (codes "DIP") [] (more (seq (more (prim (codes
    "DROP") [] none) none)) none)) (more (prim (codes "CAR") [] none) none))) none)))) (more (prim (codes "SWAP") [] none)
    (more (prim (codes "EXEC") [] none) none)))))) ∷ []) [] []
unfolding primitive_names primitives code_of_name primitive_of_code primitive_of_name former_of_name word_of_name in_order
    int_or_limit mutez_or_limit division shifted_left shifted_right groups integer field application byte_at field_at
    narrow_field_at integer_at string_at bytes_at annotations_at any_annotations_at name_at name_of_code nodes_at
    application_at many_at node_by tags_in_order tag_at node_at decoded
control_19 = refl

-- FAILWITH | string | "no" | fails failed_with (k.simple s.String) (v.text (codes "no")) | 1
control_20 : did (prim (codes "FAILWITH") [] none) ((k.simple s.String) ∷ []) ((v.text (codes "no")) ∷ []) ≡ failed_as
    (f.failed_with (k.simple s.String) (v.text (codes "no")))
unfolding primitive_names primitives code_of_name primitive_of_code primitive_of_name former_of_name word_of_name in_order
    int_or_limit mutez_or_limit division shifted_left shifted_right groups integer field application byte_at field_at
    narrow_field_at integer_at string_at bytes_at annotations_at any_annotations_at name_at name_of_code nodes_at
    application_at many_at node_by tags_in_order tag_at node_at decoded
control_20 = refl

-- ITER { ADD } | set int, int | { 1 ; 2 }, 10 | 13 | 5
control_21 : did (prim (codes "ITER") [] (more (seq (more (prim (codes "ADD") [] none) none)) none)) ((k.set (k.simple s.Int))
    ∷ (k.simple s.Int) ∷ []) ((v.set (more_vals (v.number (pos 1)) (more_vals (v.number (pos 2)) no_val))) ∷ (v.number (pos
    10)) ∷ []) ≡ gave 5 ((int (pos 13)) ∷ []) [] []
unfolding primitive_names primitives code_of_name primitive_of_code primitive_of_name former_of_name word_of_name in_order
    int_or_limit mutez_or_limit division shifted_left shifted_right groups integer field application byte_at field_at
    narrow_field_at integer_at string_at bytes_at annotations_at any_annotations_at name_at name_of_code nodes_at
    application_at many_at node_by tags_in_order tag_at node_at decoded
control_21 = refl

-- ITER { UNPAIR ; ADD ; ADD } | map int int, int | { Elt 1 2 ; Elt 3 4 }, 0 | 10 | 9
control_22 : did (prim (codes "ITER") [] (more (seq (more (prim (codes "UNPAIR") [] none) (more (prim (codes "ADD") [] none)
    (more (prim (codes "ADD") [] none) none)))) none)) ((k.map (k.simple s.Int) (k.simple s.Int)) ∷ (k.simple s.Int) ∷ [])
    ((v.table (more_pairs (v.number (pos 1)) (v.number (pos 2)) (more_pairs (v.number (pos 3)) (v.number (pos 4)) no_pair))) ∷
    (v.number (pos 0)) ∷ []) ≡ gave 9 ((int (pos 10)) ∷ []) [] []
unfolding primitive_names primitives code_of_name primitive_of_code primitive_of_name former_of_name word_of_name in_order
    int_or_limit mutez_or_limit division shifted_left shifted_right groups integer field application byte_at field_at
    narrow_field_at integer_at string_at bytes_at annotations_at any_annotations_at name_at name_of_code nodes_at
    application_at many_at node_by tags_in_order tag_at node_at decoded
control_22 = refl

-- MAP { DIP { PUSH int 1 ; ADD } } | list string, int | { "a" ; "b" }, 0 | { "a" ; "b" }, 2 | 11
control_23 : did (prim (codes "MAP") [] (more (seq (more (prim (codes "DIP") [] (more (seq (more (prim (codes "PUSH") [] (more
    (prim (codes "int") [] none) (more (int (pos 1)) none))) (more (prim (codes "ADD") [] none) none))) none)) none)) none))
    ((k.list (k.simple s.String)) ∷ (k.simple s.Int) ∷ []) ((v.list (more_vals (v.text (codes "a")) (more_vals (v.text (codes
    "b")) no_val))) ∷ (v.number (pos 0)) ∷ []) ≡ gave 11 ((seq (more (str (codes "a")) (more (str (codes "b")) none))) ∷ (int
    (pos 2)) ∷ []) [] []
unfolding primitive_names primitives code_of_name primitive_of_code primitive_of_name former_of_name word_of_name in_order
    int_or_limit mutez_or_limit division shifted_left shifted_right groups integer field application byte_at field_at
    narrow_field_at integer_at string_at bytes_at annotations_at any_annotations_at name_at name_of_code nodes_at
    application_at many_at node_by tags_in_order tag_at node_at decoded
control_23 = refl

-- MAP { NEG } | list int | {} | {} | 1
control_24 : did (prim (codes "MAP") [] (more (seq (more (prim (codes "NEG") [] none) none)) none)) ((k.list (k.simple s.Int))
    ∷ []) ((v.list no_val) ∷ []) ≡ gave 1 ((seq none) ∷ []) [] []
unfolding primitive_names primitives code_of_name primitive_of_code primitive_of_name former_of_name word_of_name in_order
    int_or_limit mutez_or_limit division shifted_left shifted_right groups integer field application byte_at field_at
    narrow_field_at integer_at string_at bytes_at annotations_at any_annotations_at name_at name_of_code nodes_at
    application_at many_at node_by tags_in_order tag_at node_at decoded
control_24 = refl
