-- Numbers, truth values and comparison.
use Rattle.std.specs.Prelude.{◌≡◌, refl, pos, negsuc, [], ◌∷◌, codes, replicate, true, false}
use Rattle.rules_text.specs.nodes.Tree.{int, bytes, prim, none, more}
use Rattle.rules_text.specs.nodes.Primitives.{primitive_names, primitives, code_of_name, name_of_code, primitive_of_code, primitive_of_name}
use Rattle.rules_text.specs.binary.Spelling.{groups, integer, field, application}
use Rattle.rules_text.specs.binary.Reading.{byte_at, field_at, narrow_field_at, integer_at, string_at, bytes_at, annotations_at, any_annotations_at, name_at, nodes_at, application_at, many_at, node_by, tags_in_order, tag_at, node_at, decoded}
use Rattle.rules_data.specs.numbers.Limits.{int_or_limit, mutez_or_limit}
use Rattle.rules_data.specs.numbers.Integers.{division, shifted_left, shifted_right}
use Rattle.rules_data.specs.declared.types.Simple.TheVariants as s
use Rattle.rules_data.specs.types.Kind as k
use Rattle.rules_data.specs.types.Reading.{former_of_name}
use Rattle.rules_data.specs.types.Entrypoints.{in_order}
use Rattle.rules_data.specs.values.Val as v
use Rattle.rules_data.specs.values.Val.{no_val, more_vals, no_pair, more_pairs}
use Rattle.rules_data.specs.values.Literals.{word_of_name}
use Rattle.rules_code.specs.steps.Failure as f
use Rattle.rows.specs.evaluation.Told.{did, gave, failed_as}

-- ADD | int, nat | -3, 2 | -1 | 1
number_1 : did (prim (codes "ADD") [] none) ((k.simple s.Int) ∷ (k.simple s.Nat) ∷ []) ((v.number (negsuc 2)) ∷ (v.number (pos
    2)) ∷ []) ≡ gave 1 ((int (negsuc 0)) ∷ []) [] []
unfolding primitive_names primitives code_of_name primitive_of_code primitive_of_name former_of_name word_of_name in_order
    int_or_limit mutez_or_limit division shifted_left shifted_right groups integer field application byte_at field_at
    narrow_field_at integer_at string_at bytes_at annotations_at any_annotations_at name_at name_of_code nodes_at
    application_at many_at node_by tags_in_order tag_at node_at decoded
number_1 = refl

-- ADD | timestamp, int | 5, 6 | 11 | 1
number_2 : did (prim (codes "ADD") [] none) ((k.simple s.Timestamp) ∷ (k.simple s.Int) ∷ []) ((v.number (pos 5)) ∷ (v.number
    (pos 6)) ∷ []) ≡ gave 1 ((int (pos 11)) ∷ []) [] []
unfolding primitive_names primitives code_of_name primitive_of_code primitive_of_name former_of_name word_of_name in_order
    int_or_limit mutez_or_limit division shifted_left shifted_right groups integer field application byte_at field_at
    narrow_field_at integer_at string_at bytes_at annotations_at any_annotations_at name_at name_of_code nodes_at
    application_at many_at node_by tags_in_order tag_at node_at decoded
number_2 = refl

-- ADD | mutez, mutez | 5, 6 | 11 | 1
number_3 : did (prim (codes "ADD") [] none) ((k.simple s.Mutez) ∷ (k.simple s.Mutez) ∷ []) ((v.number (pos 5)) ∷ (v.number
    (pos 6)) ∷ []) ≡ gave 1 ((int (pos 11)) ∷ []) [] []
unfolding primitive_names primitives code_of_name primitive_of_code primitive_of_name former_of_name word_of_name in_order
    int_or_limit mutez_or_limit division shifted_left shifted_right groups integer field application byte_at field_at
    narrow_field_at integer_at string_at bytes_at annotations_at any_annotations_at name_at name_of_code nodes_at
    application_at many_at node_by tags_in_order tag_at node_at decoded
number_3 = refl

-- SUB | nat, nat | 2, 3 | -1 | 1
number_4 : did (prim (codes "SUB") [] none) ((k.simple s.Nat) ∷ (k.simple s.Nat) ∷ []) ((v.number (pos 2)) ∷ (v.number (pos
    3)) ∷ []) ≡ gave 1 ((int (negsuc 0)) ∷ []) [] []
unfolding primitive_names primitives code_of_name primitive_of_code primitive_of_name former_of_name word_of_name in_order
    int_or_limit mutez_or_limit division shifted_left shifted_right groups integer field application byte_at field_at
    narrow_field_at integer_at string_at bytes_at annotations_at any_annotations_at name_at name_of_code nodes_at
    application_at many_at node_by tags_in_order tag_at node_at decoded
number_4 = refl

-- SUB | timestamp, timestamp | 10, 3 | 7 | 1
number_5 : did (prim (codes "SUB") [] none) ((k.simple s.Timestamp) ∷ (k.simple s.Timestamp) ∷ []) ((v.number (pos 10)) ∷
    (v.number (pos 3)) ∷ []) ≡ gave 1 ((int (pos 7)) ∷ []) [] []
unfolding primitive_names primitives code_of_name primitive_of_code primitive_of_name former_of_name word_of_name in_order
    int_or_limit mutez_or_limit division shifted_left shifted_right groups integer field application byte_at field_at
    narrow_field_at integer_at string_at bytes_at annotations_at any_annotations_at name_at name_of_code nodes_at
    application_at many_at node_by tags_in_order tag_at node_at decoded
number_5 = refl

-- MUL | int, int | -3, 4 | -12 | 1
number_6 : did (prim (codes "MUL") [] none) ((k.simple s.Int) ∷ (k.simple s.Int) ∷ []) ((v.number (negsuc 2)) ∷ (v.number (pos
    4)) ∷ []) ≡ gave 1 ((int (negsuc 11)) ∷ []) [] []
unfolding primitive_names primitives code_of_name primitive_of_code primitive_of_name former_of_name word_of_name in_order
    int_or_limit mutez_or_limit division shifted_left shifted_right groups integer field application byte_at field_at
    narrow_field_at integer_at string_at bytes_at annotations_at any_annotations_at name_at name_of_code nodes_at
    application_at many_at node_by tags_in_order tag_at node_at decoded
number_6 = refl

-- MUL | nat, mutez | 3, 4 | 12 | 1
number_7 : did (prim (codes "MUL") [] none) ((k.simple s.Nat) ∷ (k.simple s.Mutez) ∷ []) ((v.number (pos 3)) ∷ (v.number (pos
    4)) ∷ []) ≡ gave 1 ((int (pos 12)) ∷ []) [] []
unfolding primitive_names primitives code_of_name primitive_of_code primitive_of_name former_of_name word_of_name in_order
    int_or_limit mutez_or_limit division shifted_left shifted_right groups integer field application byte_at field_at
    narrow_field_at integer_at string_at bytes_at annotations_at any_annotations_at name_at name_of_code nodes_at
    application_at many_at node_by tags_in_order tag_at node_at decoded
number_7 = refl

-- MUL | mutez, nat | 9223372036854775807, 2 | fails mutez_overflow | 1
number_8 : did (prim (codes "MUL") [] none) ((k.simple s.Mutez) ∷ (k.simple s.Nat) ∷ []) ((v.number (pos 9223372036854775807))
    ∷ (v.number (pos 2)) ∷ []) ≡ failed_as (f.mutez_overflow)
unfolding primitive_names primitives code_of_name primitive_of_code primitive_of_name former_of_name word_of_name in_order
    int_or_limit mutez_or_limit division shifted_left shifted_right groups integer field application byte_at field_at
    narrow_field_at integer_at string_at bytes_at annotations_at any_annotations_at name_at name_of_code nodes_at
    application_at many_at node_by tags_in_order tag_at node_at decoded
number_8 = refl

-- EDIV | mutez, mutez | 7, 2 | Some (Pair 3 1) | 1
number_9 : did (prim (codes "EDIV") [] none) ((k.simple s.Mutez) ∷ (k.simple s.Mutez) ∷ []) ((v.number (pos 7)) ∷ (v.number
    (pos 2)) ∷ []) ≡ gave 1 ((prim (codes "Some") [] (more (prim (codes "Pair") [] (more (int (pos 3)) (more (int (pos 1))
    none))) none)) ∷ []) [] []
unfolding primitive_names primitives code_of_name primitive_of_code primitive_of_name former_of_name word_of_name in_order
    int_or_limit mutez_or_limit division shifted_left shifted_right groups integer field application byte_at field_at
    narrow_field_at integer_at string_at bytes_at annotations_at any_annotations_at name_at name_of_code nodes_at
    application_at many_at node_by tags_in_order tag_at node_at decoded
number_9 = refl

-- EDIV | mutez, nat | 7, 0 | None | 1
number_10 : did (prim (codes "EDIV") [] none) ((k.simple s.Mutez) ∷ (k.simple s.Nat) ∷ []) ((v.number (pos 7)) ∷ (v.number
    (pos 0)) ∷ []) ≡ gave 1 ((prim (codes "None") [] none) ∷ []) [] []
unfolding primitive_names primitives code_of_name primitive_of_code primitive_of_name former_of_name word_of_name in_order
    int_or_limit mutez_or_limit division shifted_left shifted_right groups integer field application byte_at field_at
    narrow_field_at integer_at string_at bytes_at annotations_at any_annotations_at name_at name_of_code nodes_at
    application_at many_at node_by tags_in_order tag_at node_at decoded
number_10 = refl

-- EDIV | int, int | 7, -2 | Some (Pair -3 1) | 1
number_11 : did (prim (codes "EDIV") [] none) ((k.simple s.Int) ∷ (k.simple s.Int) ∷ []) ((v.number (pos 7)) ∷ (v.number
    (negsuc 1)) ∷ []) ≡ gave 1 ((prim (codes "Some") [] (more (prim (codes "Pair") [] (more (int (negsuc 2)) (more (int (pos
    1)) none))) none)) ∷ []) [] []
unfolding primitive_names primitives code_of_name primitive_of_code primitive_of_name former_of_name word_of_name in_order
    int_or_limit mutez_or_limit division shifted_left shifted_right groups integer field application byte_at field_at
    narrow_field_at integer_at string_at bytes_at annotations_at any_annotations_at name_at name_of_code nodes_at
    application_at many_at node_by tags_in_order tag_at node_at decoded
number_11 = refl

-- SUB_MUTEZ | mutez, mutez | 7, 2 | Some 5 | 1
number_12 : did (prim (codes "SUB_MUTEZ") [] none) ((k.simple s.Mutez) ∷ (k.simple s.Mutez) ∷ []) ((v.number (pos 7)) ∷
    (v.number (pos 2)) ∷ []) ≡ gave 1 ((prim (codes "Some") [] (more (int (pos 5)) none)) ∷ []) [] []
unfolding primitive_names primitives code_of_name primitive_of_code primitive_of_name former_of_name word_of_name in_order
    int_or_limit mutez_or_limit division shifted_left shifted_right groups integer field application byte_at field_at
    narrow_field_at integer_at string_at bytes_at annotations_at any_annotations_at name_at name_of_code nodes_at
    application_at many_at node_by tags_in_order tag_at node_at decoded
number_12 = refl

-- ABS | int | -7 | 7 | 1
number_13 : did (prim (codes "ABS") [] none) ((k.simple s.Int) ∷ []) ((v.number (negsuc 6)) ∷ []) ≡ gave 1 ((int (pos 7)) ∷
    []) [] []
unfolding primitive_names primitives code_of_name primitive_of_code primitive_of_name former_of_name word_of_name in_order
    int_or_limit mutez_or_limit division shifted_left shifted_right groups integer field application byte_at field_at
    narrow_field_at integer_at string_at bytes_at annotations_at any_annotations_at name_at name_of_code nodes_at
    application_at many_at node_by tags_in_order tag_at node_at decoded
number_13 = refl

-- NEG | nat | 7 | -7 | 1
number_14 : did (prim (codes "NEG") [] none) ((k.simple s.Nat) ∷ []) ((v.number (pos 7)) ∷ []) ≡ gave 1 ((int (negsuc 6)) ∷
    []) [] []
unfolding primitive_names primitives code_of_name primitive_of_code primitive_of_name former_of_name word_of_name in_order
    int_or_limit mutez_or_limit division shifted_left shifted_right groups integer field application byte_at field_at
    narrow_field_at integer_at string_at bytes_at annotations_at any_annotations_at name_at name_of_code nodes_at
    application_at many_at node_by tags_in_order tag_at node_at decoded
number_14 = refl

-- INT | nat | 7 | 7 | 1
number_15 : did (prim (codes "INT") [] none) ((k.simple s.Nat) ∷ []) ((v.number (pos 7)) ∷ []) ≡ gave 1 ((int (pos 7)) ∷ [])
    [] []
unfolding primitive_names primitives code_of_name primitive_of_code primitive_of_name former_of_name word_of_name in_order
    int_or_limit mutez_or_limit division shifted_left shifted_right groups integer field application byte_at field_at
    narrow_field_at integer_at string_at bytes_at annotations_at any_annotations_at name_at name_of_code nodes_at
    application_at many_at node_by tags_in_order tag_at node_at decoded
number_15 = refl

-- ISNAT | int | -1 | None | 1
number_16 : did (prim (codes "ISNAT") [] none) ((k.simple s.Int) ∷ []) ((v.number (negsuc 0)) ∷ []) ≡ gave 1 ((prim (codes
    "None") [] none) ∷ []) [] []
unfolding primitive_names primitives code_of_name primitive_of_code primitive_of_name former_of_name word_of_name in_order
    int_or_limit mutez_or_limit division shifted_left shifted_right groups integer field application byte_at field_at
    narrow_field_at integer_at string_at bytes_at annotations_at any_annotations_at name_at name_of_code nodes_at
    application_at many_at node_by tags_in_order tag_at node_at decoded
number_16 = refl

-- ISNAT | int | 1 | Some 1 | 1
number_17 : did (prim (codes "ISNAT") [] none) ((k.simple s.Int) ∷ []) ((v.number (pos 1)) ∷ []) ≡ gave 1 ((prim (codes
    "Some") [] (more (int (pos 1)) none)) ∷ []) [] []
unfolding primitive_names primitives code_of_name primitive_of_code primitive_of_name former_of_name word_of_name in_order
    int_or_limit mutez_or_limit division shifted_left shifted_right groups integer field application byte_at field_at
    narrow_field_at integer_at string_at bytes_at annotations_at any_annotations_at name_at name_of_code nodes_at
    application_at many_at node_by tags_in_order tag_at node_at decoded
number_17 = refl

-- LSL | nat, nat | 3, 2 | 12 | 1
number_18 : did (prim (codes "LSL") [] none) ((k.simple s.Nat) ∷ (k.simple s.Nat) ∷ []) ((v.number (pos 3)) ∷ (v.number (pos
    2)) ∷ []) ≡ gave 1 ((int (pos 12)) ∷ []) [] []
unfolding primitive_names primitives code_of_name primitive_of_code primitive_of_name former_of_name word_of_name in_order
    int_or_limit mutez_or_limit division shifted_left shifted_right groups integer field application byte_at field_at
    narrow_field_at integer_at string_at bytes_at annotations_at any_annotations_at name_at name_of_code nodes_at
    application_at many_at node_by tags_in_order tag_at node_at decoded
number_18 = refl

-- LSR | nat, nat | 12, 2 | 3 | 1
number_19 : did (prim (codes "LSR") [] none) ((k.simple s.Nat) ∷ (k.simple s.Nat) ∷ []) ((v.number (pos 12)) ∷ (v.number (pos
    2)) ∷ []) ≡ gave 1 ((int (pos 3)) ∷ []) [] []
unfolding primitive_names primitives code_of_name primitive_of_code primitive_of_name former_of_name word_of_name in_order
    int_or_limit mutez_or_limit division shifted_left shifted_right groups integer field application byte_at field_at
    narrow_field_at integer_at string_at bytes_at annotations_at any_annotations_at name_at name_of_code nodes_at
    application_at many_at node_by tags_in_order tag_at node_at decoded
number_19 = refl

-- LSR | nat, nat | 12, 257 | fails shift_limit | 1
number_20 : did (prim (codes "LSR") [] none) ((k.simple s.Nat) ∷ (k.simple s.Nat) ∷ []) ((v.number (pos 12)) ∷ (v.number (pos
    257)) ∷ []) ≡ failed_as (f.shift_limit)
unfolding primitive_names primitives code_of_name primitive_of_code primitive_of_name former_of_name word_of_name in_order
    int_or_limit mutez_or_limit division shifted_left shifted_right groups integer field application byte_at field_at
    narrow_field_at integer_at string_at bytes_at annotations_at any_annotations_at name_at name_of_code nodes_at
    application_at many_at node_by tags_in_order tag_at node_at decoded
number_20 = refl

-- AND | bool, bool | True, False | False | 1
number_21 : did (prim (codes "AND") [] none) ((k.simple s.Bool) ∷ (k.simple s.Bool) ∷ []) ((v.truth true) ∷ (v.truth false) ∷
    []) ≡ gave 1 ((prim (codes "False") [] none) ∷ []) [] []
unfolding primitive_names primitives code_of_name primitive_of_code primitive_of_name former_of_name word_of_name in_order
    int_or_limit mutez_or_limit division shifted_left shifted_right groups integer field application byte_at field_at
    narrow_field_at integer_at string_at bytes_at annotations_at any_annotations_at name_at name_of_code nodes_at
    application_at many_at node_by tags_in_order tag_at node_at decoded
number_21 = refl

-- OR | bool, bool | True, False | True | 1
number_22 : did (prim (codes "OR") [] none) ((k.simple s.Bool) ∷ (k.simple s.Bool) ∷ []) ((v.truth true) ∷ (v.truth false) ∷
    []) ≡ gave 1 ((prim (codes "True") [] none) ∷ []) [] []
unfolding primitive_names primitives code_of_name primitive_of_code primitive_of_name former_of_name word_of_name in_order
    int_or_limit mutez_or_limit division shifted_left shifted_right groups integer field application byte_at field_at
    narrow_field_at integer_at string_at bytes_at annotations_at any_annotations_at name_at name_of_code nodes_at
    application_at many_at node_by tags_in_order tag_at node_at decoded
number_22 = refl

-- XOR | bool, bool | True, True | False | 1
number_23 : did (prim (codes "XOR") [] none) ((k.simple s.Bool) ∷ (k.simple s.Bool) ∷ []) ((v.truth true) ∷ (v.truth true) ∷
    []) ≡ gave 1 ((prim (codes "False") [] none) ∷ []) [] []
unfolding primitive_names primitives code_of_name primitive_of_code primitive_of_name former_of_name word_of_name in_order
    int_or_limit mutez_or_limit division shifted_left shifted_right groups integer field application byte_at field_at
    narrow_field_at integer_at string_at bytes_at annotations_at any_annotations_at name_at name_of_code nodes_at
    application_at many_at node_by tags_in_order tag_at node_at decoded
number_23 = refl

-- NOT | bool | True | False | 1
number_24 : did (prim (codes "NOT") [] none) ((k.simple s.Bool) ∷ []) ((v.truth true) ∷ []) ≡ gave 1 ((prim (codes "False") []
    none) ∷ []) [] []
unfolding primitive_names primitives code_of_name primitive_of_code primitive_of_name former_of_name word_of_name in_order
    int_or_limit mutez_or_limit division shifted_left shifted_right groups integer field application byte_at field_at
    narrow_field_at integer_at string_at bytes_at annotations_at any_annotations_at name_at name_of_code nodes_at
    application_at many_at node_by tags_in_order tag_at node_at decoded
number_24 = refl

-- AND | nat, nat | 6, 3 | 2 | 1
number_25 : did (prim (codes "AND") [] none) ((k.simple s.Nat) ∷ (k.simple s.Nat) ∷ []) ((v.number (pos 6)) ∷ (v.number (pos
    3)) ∷ []) ≡ gave 1 ((int (pos 2)) ∷ []) [] []
unfolding primitive_names primitives code_of_name primitive_of_code primitive_of_name former_of_name word_of_name in_order
    int_or_limit mutez_or_limit division shifted_left shifted_right groups integer field application byte_at field_at
    narrow_field_at integer_at string_at bytes_at annotations_at any_annotations_at name_at name_of_code nodes_at
    application_at many_at node_by tags_in_order tag_at node_at decoded
number_25 = refl

-- OR | nat, nat | 6, 3 | 7 | 1
number_26 : did (prim (codes "OR") [] none) ((k.simple s.Nat) ∷ (k.simple s.Nat) ∷ []) ((v.number (pos 6)) ∷ (v.number (pos
    3)) ∷ []) ≡ gave 1 ((int (pos 7)) ∷ []) [] []
unfolding primitive_names primitives code_of_name primitive_of_code primitive_of_name former_of_name word_of_name in_order
    int_or_limit mutez_or_limit division shifted_left shifted_right groups integer field application byte_at field_at
    narrow_field_at integer_at string_at bytes_at annotations_at any_annotations_at name_at name_of_code nodes_at
    application_at many_at node_by tags_in_order tag_at node_at decoded
number_26 = refl

-- XOR | nat, nat | 6, 3 | 5 | 1
number_27 : did (prim (codes "XOR") [] none) ((k.simple s.Nat) ∷ (k.simple s.Nat) ∷ []) ((v.number (pos 6)) ∷ (v.number (pos
    3)) ∷ []) ≡ gave 1 ((int (pos 5)) ∷ []) [] []
unfolding primitive_names primitives code_of_name primitive_of_code primitive_of_name former_of_name word_of_name in_order
    int_or_limit mutez_or_limit division shifted_left shifted_right groups integer field application byte_at field_at
    narrow_field_at integer_at string_at bytes_at annotations_at any_annotations_at name_at name_of_code nodes_at
    application_at many_at node_by tags_in_order tag_at node_at decoded
number_27 = refl

-- NOT | nat | 6 | -7 | 1
number_28 : did (prim (codes "NOT") [] none) ((k.simple s.Nat) ∷ []) ((v.number (pos 6)) ∷ []) ≡ gave 1 ((int (negsuc 6)) ∷
    []) [] []
unfolding primitive_names primitives code_of_name primitive_of_code primitive_of_name former_of_name word_of_name in_order
    int_or_limit mutez_or_limit division shifted_left shifted_right groups integer field application byte_at field_at
    narrow_field_at integer_at string_at bytes_at annotations_at any_annotations_at name_at name_of_code nodes_at
    application_at many_at node_by tags_in_order tag_at node_at decoded
number_28 = refl

-- COMPARE | int, int | 2, 1 | 1 | 1
number_29 : did (prim (codes "COMPARE") [] none) ((k.simple s.Int) ∷ (k.simple s.Int) ∷ []) ((v.number (pos 2)) ∷ (v.number
    (pos 1)) ∷ []) ≡ gave 1 ((int (pos 1)) ∷ []) [] []
unfolding primitive_names primitives code_of_name primitive_of_code primitive_of_name former_of_name word_of_name in_order
    int_or_limit mutez_or_limit division shifted_left shifted_right groups integer field application byte_at field_at
    narrow_field_at integer_at string_at bytes_at annotations_at any_annotations_at name_at name_of_code nodes_at
    application_at many_at node_by tags_in_order tag_at node_at decoded
number_29 = refl

-- COMPARE | string, string | "a", "ab" | -1 | 1
number_30 : did (prim (codes "COMPARE") [] none) ((k.simple s.String) ∷ (k.simple s.String) ∷ []) ((v.text (codes "a")) ∷
    (v.text (codes "ab")) ∷ []) ≡ gave 1 ((int (negsuc 0)) ∷ []) [] []
unfolding primitive_names primitives code_of_name primitive_of_code primitive_of_name former_of_name word_of_name in_order
    int_or_limit mutez_or_limit division shifted_left shifted_right groups integer field application byte_at field_at
    narrow_field_at integer_at string_at bytes_at annotations_at any_annotations_at name_at name_of_code nodes_at
    application_at many_at node_by tags_in_order tag_at node_at decoded
number_30 = refl

-- COMPARE | option int, option int | None, Some 0 | -1 | 1
number_31 : did (prim (codes "COMPARE") [] none) ((k.option (k.simple s.Int)) ∷ (k.option (k.simple s.Int)) ∷ []) (v.nothing ∷
    (v.some (v.number (pos 0))) ∷ []) ≡ gave 1 ((int (negsuc 0)) ∷ []) [] []
unfolding primitive_names primitives code_of_name primitive_of_code primitive_of_name former_of_name word_of_name in_order
    int_or_limit mutez_or_limit division shifted_left shifted_right groups integer field application byte_at field_at
    narrow_field_at integer_at string_at bytes_at annotations_at any_annotations_at name_at name_of_code nodes_at
    application_at many_at node_by tags_in_order tag_at node_at decoded
number_31 = refl

-- COMPARE | or int int, or int int | Right 0, Left 1 | 1 | 1
number_32 : did (prim (codes "COMPARE") [] none) ((k.or (k.simple s.Int) (k.simple s.Int)) ∷ (k.or (k.simple s.Int) (k.simple
    s.Int)) ∷ []) ((v.right (v.number (pos 0))) ∷ (v.left (v.number (pos 1))) ∷ []) ≡ gave 1 ((int (pos 1)) ∷ []) [] []
unfolding primitive_names primitives code_of_name primitive_of_code primitive_of_name former_of_name word_of_name in_order
    int_or_limit mutez_or_limit division shifted_left shifted_right groups integer field application byte_at field_at
    narrow_field_at integer_at string_at bytes_at annotations_at any_annotations_at name_at name_of_code nodes_at
    application_at many_at node_by tags_in_order tag_at node_at decoded
number_32 = refl

-- COMPARE | pair int bool, pair int bool | Pair 1 False, Pair 1 False | 0 | 1
number_33 : did (prim (codes "COMPARE") [] none) ((k.pair (k.simple s.Int) (k.simple s.Bool)) ∷ (k.pair (k.simple s.Int)
    (k.simple s.Bool)) ∷ []) ((v.both (v.number (pos 1)) (v.truth false)) ∷ (v.both (v.number (pos 1)) (v.truth false)) ∷ [])
    ≡ gave 1 ((int (pos 0)) ∷ []) [] []
unfolding primitive_names primitives code_of_name primitive_of_code primitive_of_name former_of_name word_of_name in_order
    int_or_limit mutez_or_limit division shifted_left shifted_right groups integer field application byte_at field_at
    narrow_field_at integer_at string_at bytes_at annotations_at any_annotations_at name_at name_of_code nodes_at
    application_at many_at node_by tags_in_order tag_at node_at decoded
number_33 = refl

-- EQ | int | 0 | True | 1
number_34 : did (prim (codes "EQ") [] none) ((k.simple s.Int) ∷ []) ((v.number (pos 0)) ∷ []) ≡ gave 1 ((prim (codes "True")
    [] none) ∷ []) [] []
unfolding primitive_names primitives code_of_name primitive_of_code primitive_of_name former_of_name word_of_name in_order
    int_or_limit mutez_or_limit division shifted_left shifted_right groups integer field application byte_at field_at
    narrow_field_at integer_at string_at bytes_at annotations_at any_annotations_at name_at name_of_code nodes_at
    application_at many_at node_by tags_in_order tag_at node_at decoded
number_34 = refl

-- NEQ | int | 0 | False | 1
number_35 : did (prim (codes "NEQ") [] none) ((k.simple s.Int) ∷ []) ((v.number (pos 0)) ∷ []) ≡ gave 1 ((prim (codes "False")
    [] none) ∷ []) [] []
unfolding primitive_names primitives code_of_name primitive_of_code primitive_of_name former_of_name word_of_name in_order
    int_or_limit mutez_or_limit division shifted_left shifted_right groups integer field application byte_at field_at
    narrow_field_at integer_at string_at bytes_at annotations_at any_annotations_at name_at name_of_code nodes_at
    application_at many_at node_by tags_in_order tag_at node_at decoded
number_35 = refl

-- LT | int | -1 | True | 1
number_36 : did (prim (codes "LT") [] none) ((k.simple s.Int) ∷ []) ((v.number (negsuc 0)) ∷ []) ≡ gave 1 ((prim (codes
    "True") [] none) ∷ []) [] []
unfolding primitive_names primitives code_of_name primitive_of_code primitive_of_name former_of_name word_of_name in_order
    int_or_limit mutez_or_limit division shifted_left shifted_right groups integer field application byte_at field_at
    narrow_field_at integer_at string_at bytes_at annotations_at any_annotations_at name_at name_of_code nodes_at
    application_at many_at node_by tags_in_order tag_at node_at decoded
number_36 = refl

-- GT | int | -1 | False | 1
number_37 : did (prim (codes "GT") [] none) ((k.simple s.Int) ∷ []) ((v.number (negsuc 0)) ∷ []) ≡ gave 1 ((prim (codes
    "False") [] none) ∷ []) [] []
unfolding primitive_names primitives code_of_name primitive_of_code primitive_of_name former_of_name word_of_name in_order
    int_or_limit mutez_or_limit division shifted_left shifted_right groups integer field application byte_at field_at
    narrow_field_at integer_at string_at bytes_at annotations_at any_annotations_at name_at name_of_code nodes_at
    application_at many_at node_by tags_in_order tag_at node_at decoded
number_37 = refl

-- LE | int | 0 | True | 1
number_38 : did (prim (codes "LE") [] none) ((k.simple s.Int) ∷ []) ((v.number (pos 0)) ∷ []) ≡ gave 1 ((prim (codes "True")
    [] none) ∷ []) [] []
unfolding primitive_names primitives code_of_name primitive_of_code primitive_of_name former_of_name word_of_name in_order
    int_or_limit mutez_or_limit division shifted_left shifted_right groups integer field application byte_at field_at
    narrow_field_at integer_at string_at bytes_at annotations_at any_annotations_at name_at name_of_code nodes_at
    application_at many_at node_by tags_in_order tag_at node_at decoded
number_38 = refl

-- GE | int | -1 | False | 1
number_39 : did (prim (codes "GE") [] none) ((k.simple s.Int) ∷ []) ((v.number (negsuc 0)) ∷ []) ≡ gave 1 ((prim (codes
    "False") [] none) ∷ []) [] []
unfolding primitive_names primitives code_of_name primitive_of_code primitive_of_name former_of_name word_of_name in_order
    int_or_limit mutez_or_limit division shifted_left shifted_right groups integer field application byte_at field_at
    narrow_field_at integer_at string_at bytes_at annotations_at any_annotations_at name_at name_of_code nodes_at
    application_at many_at node_by tags_in_order tag_at node_at decoded
number_39 = refl

-- BYTES | nat | 128 | 0x80 | 1
number_40 : did (prim (codes "BYTES") [] none) ((k.simple s.Nat) ∷ []) ((v.number (pos 128)) ∷ []) ≡ gave 1 ((bytes (128 ∷ [])) ∷ []) [] []
unfolding primitive_names primitives code_of_name primitive_of_code primitive_of_name former_of_name word_of_name in_order
    int_or_limit mutez_or_limit division shifted_left shifted_right groups integer field application byte_at field_at
    narrow_field_at integer_at string_at bytes_at annotations_at any_annotations_at name_at name_of_code nodes_at
    application_at many_at node_by tags_in_order tag_at node_at decoded
number_40 = refl

-- BYTES | int | 128 | 0x0080 | 1
number_41 : did (prim (codes "BYTES") [] none) ((k.simple s.Int) ∷ []) ((v.number (pos 128)) ∷ []) ≡ gave 1 ((bytes (0 ∷ 128 ∷ [])) ∷ []) [] []
unfolding primitive_names primitives code_of_name primitive_of_code primitive_of_name former_of_name word_of_name in_order
    int_or_limit mutez_or_limit division shifted_left shifted_right groups integer field application byte_at field_at
    narrow_field_at integer_at string_at bytes_at annotations_at any_annotations_at name_at name_of_code nodes_at
    application_at many_at node_by tags_in_order tag_at node_at decoded
number_41 = refl

-- BYTES | int | -129 | 0xff7f | 1
number_42 : did (prim (codes "BYTES") [] none) ((k.simple s.Int) ∷ []) ((v.number (negsuc 128)) ∷ []) ≡ gave 1 ((bytes (255 ∷ 127 ∷ [])) ∷ []) [] []
unfolding primitive_names primitives code_of_name primitive_of_code primitive_of_name former_of_name word_of_name in_order
    int_or_limit mutez_or_limit division shifted_left shifted_right groups integer field application byte_at field_at
    narrow_field_at integer_at string_at bytes_at annotations_at any_annotations_at name_at name_of_code nodes_at
    application_at many_at node_by tags_in_order tag_at node_at decoded
number_42 = refl

-- BYTES | int | 0 | 0x | 1
number_43 : did (prim (codes "BYTES") [] none) ((k.simple s.Int) ∷ []) ((v.number (pos 0)) ∷ []) ≡ gave 1 ((bytes []) ∷ []) [] []
unfolding primitive_names primitives code_of_name primitive_of_code primitive_of_name former_of_name word_of_name in_order
    int_or_limit mutez_or_limit division shifted_left shifted_right groups integer field application byte_at field_at
    narrow_field_at integer_at string_at bytes_at annotations_at any_annotations_at name_at name_of_code nodes_at
    application_at many_at node_by tags_in_order tag_at node_at decoded
number_43 = refl

-- BYTES | nat | 0 | 0x | 1
number_44 : did (prim (codes "BYTES") [] none) ((k.simple s.Nat) ∷ []) ((v.number (pos 0)) ∷ []) ≡ gave 1 ((bytes []) ∷ []) [] []
unfolding primitive_names primitives code_of_name primitive_of_code primitive_of_name former_of_name word_of_name in_order
    int_or_limit mutez_or_limit division shifted_left shifted_right groups integer field application byte_at field_at
    narrow_field_at integer_at string_at bytes_at annotations_at any_annotations_at name_at name_of_code nodes_at
    application_at many_at node_by tags_in_order tag_at node_at decoded
number_44 = refl

-- BYTES | int | -1 | 0xff | 1
number_45 : did (prim (codes "BYTES") [] none) ((k.simple s.Int) ∷ []) ((v.number (negsuc 0)) ∷ []) ≡ gave 1 ((bytes (255 ∷ [])) ∷ []) [] []
unfolding primitive_names primitives code_of_name primitive_of_code primitive_of_name former_of_name word_of_name in_order
    int_or_limit mutez_or_limit division shifted_left shifted_right groups integer field application byte_at field_at
    narrow_field_at integer_at string_at bytes_at annotations_at any_annotations_at name_at name_of_code nodes_at
    application_at many_at node_by tags_in_order tag_at node_at decoded
number_45 = refl

-- BYTES | int | -128 | 0x80 | 1
number_46 : did (prim (codes "BYTES") [] none) ((k.simple s.Int) ∷ []) ((v.number (negsuc 127)) ∷ []) ≡ gave 1 ((bytes (128 ∷ [])) ∷ []) [] []
unfolding primitive_names primitives code_of_name primitive_of_code primitive_of_name former_of_name word_of_name in_order
    int_or_limit mutez_or_limit division shifted_left shifted_right groups integer field application byte_at field_at
    narrow_field_at integer_at string_at bytes_at annotations_at any_annotations_at name_at name_of_code nodes_at
    application_at many_at node_by tags_in_order tag_at node_at decoded
number_46 = refl

-- BYTES | int | -170141183460469231731687303715884105728 | 0x80000000000000000000000000000000 | 1
number_47 : did (prim (codes "BYTES") [] none) ((k.simple s.Int) ∷ []) ((v.number (negsuc 170141183460469231731687303715884105727)) ∷ []) ≡ gave 1 ((bytes (128 ∷ replicate 15 0)) ∷ []) [] []
unfolding primitive_names primitives code_of_name primitive_of_code primitive_of_name former_of_name word_of_name in_order
    int_or_limit mutez_or_limit division shifted_left shifted_right groups integer field application byte_at field_at
    narrow_field_at integer_at string_at bytes_at annotations_at any_annotations_at name_at name_of_code nodes_at
    application_at many_at node_by tags_in_order tag_at node_at decoded
number_47 = refl

-- BYTES | nat | 170141183460469231731687303715884105727 | 0x7fffffffffffffffffffffffffffffff | 1
number_48 : did (prim (codes "BYTES") [] none) ((k.simple s.Nat) ∷ []) ((v.number (pos 170141183460469231731687303715884105727)) ∷ []) ≡ gave 1 ((bytes (127 ∷ replicate 15 255)) ∷ []) [] []
unfolding primitive_names primitives code_of_name primitive_of_code primitive_of_name former_of_name word_of_name in_order
    int_or_limit mutez_or_limit division shifted_left shifted_right groups integer field application byte_at field_at
    narrow_field_at integer_at string_at bytes_at annotations_at any_annotations_at name_at name_of_code nodes_at
    application_at many_at node_by tags_in_order tag_at node_at decoded
number_48 = refl

-- INT | bytes | 0xff | -1 | 2
number_49 : did (prim (codes "INT") [] none) ((k.simple s.Bytes) ∷ []) ((v.bytes (255 ∷ [])) ∷ []) ≡ gave 2 ((int (negsuc 0)) ∷ []) [] []
unfolding primitive_names primitives code_of_name primitive_of_code primitive_of_name former_of_name word_of_name in_order
    int_or_limit mutez_or_limit division shifted_left shifted_right groups integer field application byte_at field_at
    narrow_field_at integer_at string_at bytes_at annotations_at any_annotations_at name_at name_of_code nodes_at
    application_at many_at node_by tags_in_order tag_at node_at decoded
number_49 = refl

-- INT | bytes | 0x | 0 | 1
number_50 : did (prim (codes "INT") [] none) ((k.simple s.Bytes) ∷ []) ((v.bytes []) ∷ []) ≡ gave 1 ((int (pos 0)) ∷ []) [] []
unfolding primitive_names primitives code_of_name primitive_of_code primitive_of_name former_of_name word_of_name in_order
    int_or_limit mutez_or_limit division shifted_left shifted_right groups integer field application byte_at field_at
    narrow_field_at integer_at string_at bytes_at annotations_at any_annotations_at name_at name_of_code nodes_at
    application_at many_at node_by tags_in_order tag_at node_at decoded
number_50 = refl

-- INT | bytes | 0x00ff | 255 | 3
number_51 : did (prim (codes "INT") [] none) ((k.simple s.Bytes) ∷ []) ((v.bytes (0 ∷ 255 ∷ [])) ∷ []) ≡ gave 3 ((int (pos 255)) ∷ []) [] []
unfolding primitive_names primitives code_of_name primitive_of_code primitive_of_name former_of_name word_of_name in_order
    int_or_limit mutez_or_limit division shifted_left shifted_right groups integer field application byte_at field_at
    narrow_field_at integer_at string_at bytes_at annotations_at any_annotations_at name_at name_of_code nodes_at
    application_at many_at node_by tags_in_order tag_at node_at decoded
number_51 = refl

-- INT | bytes | 0x80000000000000000000000000000000 | -170141183460469231731687303715884105728 | 17
number_52 : did (prim (codes "INT") [] none) ((k.simple s.Bytes) ∷ []) ((v.bytes (128 ∷ replicate 15 0)) ∷ []) ≡ gave 17 ((int (negsuc 170141183460469231731687303715884105727)) ∷ []) [] []
unfolding primitive_names primitives code_of_name primitive_of_code primitive_of_name former_of_name word_of_name in_order
    int_or_limit mutez_or_limit division shifted_left shifted_right groups integer field application byte_at field_at
    narrow_field_at integer_at string_at bytes_at annotations_at any_annotations_at name_at name_of_code nodes_at
    application_at many_at node_by tags_in_order tag_at node_at decoded
number_52 = refl

-- INT | bytes | 0x0080000000000000000000000000000000 | IntegerLimit | 18
number_53 : did (prim (codes "INT") [] none) ((k.simple s.Bytes) ∷ []) ((v.bytes (0 ∷ 128 ∷ 0 ∷ 0 ∷ 0 ∷ 0 ∷ 0 ∷ 0 ∷ 0 ∷ 0 ∷ 0 ∷ 0 ∷ 0 ∷ 0 ∷ 0 ∷ 0 ∷ 0 ∷ [])) ∷ []) ≡ failed_as f.integer_limit
unfolding primitive_names primitives code_of_name primitive_of_code primitive_of_name former_of_name word_of_name in_order
    int_or_limit mutez_or_limit division shifted_left shifted_right groups integer field application byte_at field_at
    narrow_field_at integer_at string_at bytes_at annotations_at any_annotations_at name_at name_of_code nodes_at
    application_at many_at node_by tags_in_order tag_at node_at decoded
number_53 = refl

-- INT | nat | 5 | 5 | 1
number_54 : did (prim (codes "INT") [] none) ((k.simple s.Nat) ∷ []) ((v.number (pos 5)) ∷ []) ≡ gave 1 ((int (pos 5)) ∷ []) [] []
unfolding primitive_names primitives code_of_name primitive_of_code primitive_of_name former_of_name word_of_name in_order
    int_or_limit mutez_or_limit division shifted_left shifted_right groups integer field application byte_at field_at
    narrow_field_at integer_at string_at bytes_at annotations_at any_annotations_at name_at name_of_code nodes_at
    application_at many_at node_by tags_in_order tag_at node_at decoded
number_54 = refl

-- NAT | bytes | 0x00ff | 255 | 3
number_55 : did (prim (codes "NAT") [] none) ((k.simple s.Bytes) ∷ []) ((v.bytes (0 ∷ 255 ∷ [])) ∷ []) ≡ gave 3 ((int (pos 255)) ∷ []) [] []
unfolding primitive_names primitives code_of_name primitive_of_code primitive_of_name former_of_name word_of_name in_order
    int_or_limit mutez_or_limit division shifted_left shifted_right groups integer field application byte_at field_at
    narrow_field_at integer_at string_at bytes_at annotations_at any_annotations_at name_at name_of_code nodes_at
    application_at many_at node_by tags_in_order tag_at node_at decoded
number_55 = refl

-- NAT | bytes | 0x | 0 | 1
number_56 : did (prim (codes "NAT") [] none) ((k.simple s.Bytes) ∷ []) ((v.bytes []) ∷ []) ≡ gave 1 ((int (pos 0)) ∷ []) [] []
unfolding primitive_names primitives code_of_name primitive_of_code primitive_of_name former_of_name word_of_name in_order
    int_or_limit mutez_or_limit division shifted_left shifted_right groups integer field application byte_at field_at
    narrow_field_at integer_at string_at bytes_at annotations_at any_annotations_at name_at name_of_code nodes_at
    application_at many_at node_by tags_in_order tag_at node_at decoded
number_56 = refl

-- NAT | bytes | 0x80000000000000000000000000000000 | IntegerLimit | 17
number_57 : did (prim (codes "NAT") [] none) ((k.simple s.Bytes) ∷ []) ((v.bytes (128 ∷ replicate 15 0)) ∷ []) ≡ failed_as f.integer_limit
unfolding primitive_names primitives code_of_name primitive_of_code primitive_of_name former_of_name word_of_name in_order
    int_or_limit mutez_or_limit division shifted_left shifted_right groups integer field application byte_at field_at
    narrow_field_at integer_at string_at bytes_at annotations_at any_annotations_at name_at name_of_code nodes_at
    application_at many_at node_by tags_in_order tag_at node_at decoded
number_57 = refl
