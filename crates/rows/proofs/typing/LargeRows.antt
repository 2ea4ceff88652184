-- Types at and past the limit of 2,000 nodes.
use Rattle.std.specs.Prelude.{◌≡◌, refl, pos, [], ◌∷◌, codes}
use Rattle.rules_text.specs.nodes.Tree.{int, prim, seq, none, more}
use Rattle.rules_text.specs.nodes.Primitives.{primitive_names, primitives, code_of_name, primitive_of_code, primitive_of_name}
use Rattle.rules_data.specs.declared.types.Simple.TheVariants as s
use Rattle.rules_data.specs.types.Kind as k
use Rattle.rules_data.specs.types.Reading.{former_of_name}
use Rattle.rules_data.specs.types.Entrypoints.{in_order}
use Rattle.rules_data.specs.values.Literals.{word_of_name}
use Rattle.rules_code.specs.instructions.Context as c
use Rattle.rules_code.specs.typing.Typing.{goes, bad}
use Rattle.rules_code.specs.typing.Nodes.{tree_type}
use Rattle.rows.specs.typing.Told.{wide, wide_kind}

-- NIL WIDE1000 | lambda | - | list WIDE1000
large_1 : tree_type (prim (codes "NIL") [] (more (wide 1000) none)) c.lambda [] ≡ goes ((k.list (wide_kind 1000)) ∷ [])
unfolding primitive_names primitives code_of_name primitive_of_code primitive_of_name former_of_name word_of_name in_order
large_1 = refl

-- NIL (list WIDE1000) | lambda | - | 0
large_2 : tree_type (prim (codes "NIL") [] (more (prim (codes "list") [] (more (wide 1000) none)) none)) c.lambda [] ≡ bad 0
unfolding primitive_names primitives code_of_name primitive_of_code primitive_of_name former_of_name word_of_name in_order
large_2 = refl

-- NIL (list (list WIDE1000)) | lambda | - | 1
large_3 : tree_type (prim (codes "NIL") [] (more (prim (codes "list") [] (more (prim (codes "list") [] (more (wide 1000)
    none)) none)) none)) c.lambda [] ≡ bad 1
unfolding primitive_names primitives code_of_name primitive_of_code primitive_of_name former_of_name word_of_name in_order
large_3 = refl

-- NIL (list WIDE1001) | lambda | - | 1
large_4 : tree_type (prim (codes "NIL") [] (more (prim (codes "list") [] (more (wide 1001) none)) none)) c.lambda [] ≡ bad 1
unfolding primitive_names primitives code_of_name primitive_of_code primitive_of_name former_of_name word_of_name in_order
large_4 = refl

-- PUSH (list (list WIDE1000)) 5 | lambda | - | 1
large_5 : tree_type (prim (codes "PUSH") [] (more (prim (codes "list") [] (more (prim (codes "list") [] (more (wide 1000)
    none)) none)) (more (int (pos 5)) none))) c.lambda [] ≡ bad 1
unfolding primitive_names primitives code_of_name primitive_of_code primitive_of_name former_of_name word_of_name in_order
large_5 = refl

-- SOME | lambda | WIDE1000 | option WIDE1000
large_6 : tree_type (prim (codes "SOME") [] none) c.lambda ((wide_kind 1000) ∷ []) ≡ goes ((k.option (wide_kind 1000)) ∷ [])
unfolding primitive_names primitives code_of_name primitive_of_code primitive_of_name former_of_name word_of_name in_order
large_6 = refl

-- SOME | lambda | list WIDE1000 | 0
large_7 : tree_type (prim (codes "SOME") [] none) c.lambda ((k.list (wide_kind 1000)) ∷ []) ≡ bad 0
unfolding primitive_names primitives code_of_name primitive_of_code primitive_of_name former_of_name word_of_name in_order
large_7 = refl

-- PAIR | lambda | WIDE500, WIDE500 | pair WIDE500 WIDE500
large_8 : tree_type (prim (codes "PAIR") [] none) c.lambda ((wide_kind 500) ∷ (wide_kind 500) ∷ []) ≡ goes ((k.pair (wide_kind
    500) (wide_kind 500)) ∷ [])
unfolding primitive_names primitives code_of_name primitive_of_code primitive_of_name former_of_name word_of_name in_order
large_8 = refl

-- PAIR | lambda | WIDE500, WIDE501 | 0
large_9 : tree_type (prim (codes "PAIR") [] none) c.lambda ((wide_kind 500) ∷ (wide_kind 501) ∷ []) ≡ bad 0
unfolding primitive_names primitives code_of_name primitive_of_code primitive_of_name former_of_name word_of_name in_order
large_9 = refl

-- UPDATE 1 | lambda | WIDE501, pair nat WIDE500 | 0
large_10 : tree_type (prim (codes "UPDATE") [] (more (int (pos 1)) none)) c.lambda ((wide_kind 501) ∷ (k.pair (k.simple s.Nat)
    (wide_kind 500)) ∷ []) ≡ bad 0
unfolding primitive_names primitives code_of_name primitive_of_code primitive_of_name former_of_name word_of_name in_order
large_10 = refl

-- DUP | lambda | list WIDE1000 | list WIDE1000, list WIDE1000
large_11 : tree_type (prim (codes "DUP") [] none) c.lambda ((k.list (wide_kind 1000)) ∷ []) ≡ goes ((k.list (wide_kind 1000))
    ∷ (k.list (wide_kind 1000)) ∷ [])
unfolding primitive_names primitives code_of_name primitive_of_code primitive_of_name former_of_name word_of_name in_order
large_11 = refl

-- READ_TICKET | lambda | ticket WIDE1000 | 0
large_12 : tree_type (prim (codes "READ_TICKET") [] none) c.lambda ((k.ticket (wide_kind 1000)) ∷ []) ≡ bad 0
unfolding primitive_names primitives code_of_name primitive_of_code primitive_of_name former_of_name word_of_name in_order
large_12 = refl

-- CONTRACT (list WIDE1000) | lambda | address | 0
large_13 : tree_type (prim (codes "CONTRACT") [] (more (prim (codes "list") [] (more (wide 1000) none)) none)) c.lambda
    ((k.simple s.Address) ∷ []) ≡ bad 0
unfolding primitive_names primitives code_of_name primitive_of_code primitive_of_name former_of_name word_of_name in_order
large_13 = refl

-- UNPACK WIDE1000 | lambda | bytes | option WIDE1000
large_14 : tree_type (prim (codes "UNPACK") [] (more (wide 1000) none)) c.lambda ((k.simple s.Bytes) ∷ []) ≡ goes ((k.option
    (wide_kind 1000)) ∷ [])
unfolding primitive_names primitives code_of_name primitive_of_code primitive_of_name former_of_name word_of_name in_order
large_14 = refl

-- UNPACK (list WIDE1000) | lambda | bytes | 0
large_15 : tree_type (prim (codes "UNPACK") [] (more (prim (codes "list") [] (more (wide 1000) none)) none)) c.lambda
    ((k.simple s.Bytes) ∷ []) ≡ bad 0
unfolding primitive_names primitives code_of_name primitive_of_code primitive_of_name former_of_name word_of_name in_order
large_15 = refl

-- LAMBDA (list WIDE1000) unit { DROP ; UNIT } | lambda | - | 0
large_16 : tree_type (prim (codes "LAMBDA") [] (more (prim (codes "list") [] (more (wide 1000) none)) (more (prim (codes
    "unit") [] none) (more (seq (more (prim (codes "DROP") [] none) (more (prim (codes "UNIT") [] none) none))) none))))
    c.lambda [] ≡ bad 0
unfolding primitive_names primitives code_of_name primitive_of_code primitive_of_name former_of_name word_of_name in_order
large_16 = refl

-- LAMBDA (list WIDE1000) unit { FOO } | lambda | - | 1005
large_17 : tree_type (prim (codes "LAMBDA") [] (more (prim (codes "list") [] (more (wide 1000) none)) (more (prim (codes
    "unit") [] none) (more (seq (more (prim (codes "FOO") [] none) none)) none)))) c.lambda [] ≡ bad 1005
unfolding primitive_names primitives code_of_name primitive_of_code primitive_of_name former_of_name word_of_name in_order
large_17 = refl

-- LAMBDA_REC (list WIDE1000) unit { FOO } | lambda | - | 0
large_18 : tree_type (prim (codes "LAMBDA_REC") [] (more (prim (codes "list") [] (more (wide 1000) none)) (more (prim (codes
    "unit") [] none) (more (seq (more (prim (codes "FOO") [] none) none)) none)))) c.lambda [] ≡ bad 0
unfolding primitive_names primitives code_of_name primitive_of_code primitive_of_name former_of_name word_of_name in_order
large_18 = refl

-- LAMBDA (list WIDE999) unit { DROP ; UNIT } | lambda | - | lambda (list WIDE999) unit
large_19 : tree_type (prim (codes "LAMBDA") [] (more (prim (codes "list") [] (more (wide 999) none)) (more (prim (codes
    "unit") [] none) (more (seq (more (prim (codes "DROP") [] none) (more (prim (codes "UNIT") [] none) none))) none))))
    c.lambda [] ≡ goes ((k.lambda (k.list (wide_kind 999)) (k.simple s.Unit)) ∷ [])
unfolding primitive_names primitives code_of_name primitive_of_code primitive_of_name former_of_name word_of_name in_order
large_19 = refl

-- MAP { SOME } | lambda | list WIDE999 | list (option WIDE999)
large_20 : tree_type (prim (codes "MAP") [] (more (seq (more (prim (codes "SOME") [] none) none)) none)) c.lambda ((k.list
    (wide_kind 999)) ∷ []) ≡ goes ((k.list (k.option (wide_kind 999))) ∷ [])
unfolding primitive_names primitives code_of_name primitive_of_code primitive_of_name former_of_name word_of_name in_order
large_20 = refl

-- MAP { SOME } | lambda | list WIDE1000 | 0
large_21 : tree_type (prim (codes "MAP") [] (more (seq (more (prim (codes "SOME") [] none) none)) none)) c.lambda ((k.list
    (wide_kind 1000)) ∷ []) ≡ bad 0
unfolding primitive_names primitives code_of_name primitive_of_code primitive_of_name former_of_name word_of_name in_order
large_21 = refl
