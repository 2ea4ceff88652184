-- Strings, bytes and packing.
use Rattle.std.specs.Prelude.{◌≡◌, refl, pos, [], ◌∷◌, codes}
use Rattle.rules_text.specs.nodes.Tree.{int, str, bytes, prim, seq, none, more}
use Rattle.rules_text.specs.nodes.Primitives.{primitive_names, primitives, code_of_name, name_of_code, primitive_of_code, primitive_of_name}
use Rattle.rules_text.specs.binary.Spelling.{groups, integer, field, application}
use Rattle.rules_text.specs.binary.Reading.{byte_at, field_at, narrow_field_at, integer_at, string_at, bytes_at, annotations_at, any_annotations_at, name_at, nodes_at, application_at, many_at, node_by, tags_in_order, tag_at, node_at, decoded}
use Rattle.rules_data.specs.numbers.Limits.{int_or_limit, mutez_or_limit}
use Rattle.rules_data.specs.numbers.Integers.{division, shifted_left, shifted_right}
use Rattle.rules_data.specs.declared.types.Simple.TheVariants as s
use Rattle.rules_data.specs.types.Kind as k
use Rattle.rules_data.specs.types.Reading.{former_of_name}
use Rattle.rules_data.specs.types.Entrypoints.{in_order}
use Rattle.rules_data.specs.values.Val as v
use Rattle.rules_data.specs.values.Val.{no_val, more_vals, no_pair, more_pairs}
use Rattle.rules_data.specs.values.Literals.{word_of_name}
use Rattle.rows.specs.evaluation.Told.{did, gave}

-- CONCAT | string, string | "ab", "c" | "abc" | 4
text_1 : did (prim (codes "CONCAT") [] none) ((k.simple s.String) ∷ (k.simple s.String) ∷ []) ((v.text (codes "ab")) ∷ (v.text
    (codes "c")) ∷ []) ≡ gave 4 ((str (codes "abc")) ∷ []) [] []
unfolding primitive_names primitives code_of_name primitive_of_code primitive_of_name former_of_name word_of_name in_order
    int_or_limit mutez_or_limit division shifted_left shifted_right groups integer field application byte_at field_at
    narrow_field_at integer_at string_at bytes_at annotations_at any_annotations_at name_at name_of_code nodes_at
    application_at many_at node_by tags_in_order tag_at node_at decoded
text_1 = refl

-- CONCAT | bytes, bytes | 0x01, 0x0203 | 0x010203 | 4
text_2 : did (prim (codes "CONCAT") [] none) ((k.simple s.Bytes) ∷ (k.simple s.Bytes) ∷ []) ((v.bytes (1 ∷ [])) ∷ (v.bytes (2
    ∷ 3 ∷ [])) ∷ []) ≡ gave 4 ((bytes (1 ∷ 2 ∷ 3 ∷ [])) ∷ []) [] []
unfolding primitive_names primitives code_of_name primitive_of_code primitive_of_name former_of_name word_of_name in_order
    int_or_limit mutez_or_limit division shifted_left shifted_right groups integer field application byte_at field_at
    narrow_field_at integer_at string_at bytes_at annotations_at any_annotations_at name_at name_of_code nodes_at
    application_at many_at node_by tags_in_order tag_at node_at decoded
text_2 = refl

-- CONCAT | list string | { "ab" ; "" ; "c" } | "abc" | 7
text_3 : did (prim (codes "CONCAT") [] none) ((k.list (k.simple s.String)) ∷ []) ((v.list (more_vals (v.text (codes "ab"))
    (more_vals (v.text (codes "")) (more_vals (v.text (codes "c")) no_val)))) ∷ []) ≡ gave 7 ((str (codes "abc")) ∷ []) [] []
unfolding primitive_names primitives code_of_name primitive_of_code primitive_of_name former_of_name word_of_name in_order
    int_or_limit mutez_or_limit division shifted_left shifted_right groups integer field application byte_at field_at
    narrow_field_at integer_at string_at bytes_at annotations_at any_annotations_at name_at name_of_code nodes_at
    application_at many_at node_by tags_in_order tag_at node_at decoded
text_3 = refl

-- CONCAT | list bytes | {} | 0x | 1
text_4 : did (prim (codes "CONCAT") [] none) ((k.list (k.simple s.Bytes)) ∷ []) ((v.list no_val) ∷ []) ≡ gave 1 ((bytes []) ∷
    []) [] []
unfolding primitive_names primitives code_of_name primitive_of_code primitive_of_name former_of_name word_of_name in_order
    int_or_limit mutez_or_limit division shifted_left shifted_right groups integer field application byte_at field_at
    narrow_field_at integer_at string_at bytes_at annotations_at any_annotations_at name_at name_of_code nodes_at
    application_at many_at node_by tags_in_order tag_at node_at decoded
text_4 = refl

-- SLICE | nat, nat, bytes | 1, 1, 0x010203 | Some 0x02 | 2
text_5 : did (prim (codes "SLICE") [] none) ((k.simple s.Nat) ∷ (k.simple s.Nat) ∷ (k.simple s.Bytes) ∷ []) ((v.number (pos
    1)) ∷ (v.number (pos 1)) ∷ (v.bytes (1 ∷ 2 ∷ 3 ∷ [])) ∷ []) ≡ gave 2 ((prim (codes "Some") [] (more (bytes (2 ∷ []))
    none)) ∷ []) [] []
unfolding primitive_names primitives code_of_name primitive_of_code primitive_of_name former_of_name word_of_name in_order
    int_or_limit mutez_or_limit division shifted_left shifted_right groups integer field application byte_at field_at
    narrow_field_at integer_at string_at bytes_at annotations_at any_annotations_at name_at name_of_code nodes_at
    application_at many_at node_by tags_in_order tag_at node_at decoded
text_5 = refl

-- SLICE | nat, nat, string | 2, 2, "abc" | None | 1
text_6 : did (prim (codes "SLICE") [] none) ((k.simple s.Nat) ∷ (k.simple s.Nat) ∷ (k.simple s.String) ∷ []) ((v.number (pos
    2)) ∷ (v.number (pos 2)) ∷ (v.text (codes "abc")) ∷ []) ≡ gave 1 ((prim (codes "None") [] none) ∷ []) [] []
unfolding primitive_names primitives code_of_name primitive_of_code primitive_of_name former_of_name word_of_name in_order
    int_or_limit mutez_or_limit division shifted_left shifted_right groups integer field application byte_at field_at
    narrow_field_at integer_at string_at bytes_at annotations_at any_annotations_at name_at name_of_code nodes_at
    application_at many_at node_by tags_in_order tag_at node_at decoded
text_6 = refl

-- PACK | int | 1 | 0x050001 | 4
text_7 : did (prim (codes "PACK") [] none) ((k.simple s.Int) ∷ []) ((v.number (pos 1)) ∷ []) ≡ gave 4 ((bytes (5 ∷ 0 ∷ 1 ∷
    [])) ∷ []) [] []
unfolding primitive_names primitives code_of_name primitive_of_code primitive_of_name former_of_name word_of_name in_order
    int_or_limit mutez_or_limit division shifted_left shifted_right groups integer field application byte_at field_at
    narrow_field_at integer_at string_at bytes_at annotations_at any_annotations_at name_at name_of_code nodes_at
    application_at many_at node_by tags_in_order tag_at node_at decoded
text_7 = refl

-- UNPACK int | bytes | 0x050001 | Some 1 | 4
text_8 : did (prim (codes "UNPACK") [] (more (prim (codes "int") [] none) none)) ((k.simple s.Bytes) ∷ []) ((v.bytes (5 ∷ 0 ∷
    1 ∷ [])) ∷ []) ≡ gave 4 ((prim (codes "Some") [] (more (int (pos 1)) none)) ∷ []) [] []
unfolding primitive_names primitives code_of_name primitive_of_code primitive_of_name former_of_name word_of_name in_order
    int_or_limit mutez_or_limit division shifted_left shifted_right groups integer field application byte_at field_at
    narrow_field_at integer_at string_at bytes_at annotations_at any_annotations_at name_at name_of_code nodes_at
    application_at many_at node_by tags_in_order tag_at node_at decoded
text_8 = refl

-- UNPACK nat | bytes | 0x050041 | None | 4
text_9 : did (prim (codes "UNPACK") [] (more (prim (codes "nat") [] none) none)) ((k.simple s.Bytes) ∷ []) ((v.bytes (5 ∷ 0 ∷
    65 ∷ [])) ∷ []) ≡ gave 4 ((prim (codes "None") [] none) ∷ []) [] []
unfolding primitive_names primitives code_of_name primitive_of_code primitive_of_name former_of_name word_of_name in_order
    int_or_limit mutez_or_limit division shifted_left shifted_right groups integer field application byte_at field_at
    narrow_field_at integer_at string_at bytes_at annotations_at any_annotations_at name_at name_of_code nodes_at
    application_at many_at node_by tags_in_order tag_at node_at decoded
text_9 = refl

-- UNPACK (lambda int int) | bytes | 0x050200000000 | Some {} | 7
text_10 : did (prim (codes "UNPACK") [] (more (prim (codes "lambda") [] (more (prim (codes "int") [] none) (more (prim (codes
    "int") [] none) none))) none)) ((k.simple s.Bytes) ∷ []) ((v.bytes (5 ∷ 2 ∷ 0 ∷ 0 ∷ 0 ∷ 0 ∷ [])) ∷ []) ≡ gave 7 ((prim
    (codes "Some") [] (more (seq none) none)) ∷ []) [] []
unfolding primitive_names primitives code_of_name primitive_of_code primitive_of_name former_of_name word_of_name in_order
    int_or_limit mutez_or_limit division shifted_left shifted_right groups integer field application byte_at field_at
    narrow_field_at integer_at string_at bytes_at annotations_at any_annotations_at name_at name_of_code nodes_at
    application_at many_at node_by tags_in_order tag_at node_at decoded
text_10 = refl

-- UNPACK (lambda int nat) | bytes | 0x050200000000 | None | 7
text_11 : did (prim (codes "UNPACK") [] (more (prim (codes "lambda") [] (more (prim (codes "int") [] none) (more (prim (codes
    "nat") [] none) none))) none)) ((k.simple s.Bytes) ∷ []) ((v.bytes (5 ∷ 2 ∷ 0 ∷ 0 ∷ 0 ∷ 0 ∷ [])) ∷ []) ≡ gave 7 ((prim
    (codes "None") [] none) ∷ []) [] []
unfolding primitive_names primitives code_of_name primitive_of_code primitive_of_name former_of_name word_of_name in_order
    int_or_limit mutez_or_limit division shifted_left shifted_right groups integer field application byte_at field_at
    narrow_field_at integer_at string_at bytes_at annotations_at any_annotations_at name_at name_of_code nodes_at
    application_at many_at node_by tags_in_order tag_at node_at decoded
text_11 = refl
