-- Unions, options, lists, sets, maps and big maps.
use Rattle.std.specs.Prelude.{◌≡◌, refl, [], ◌∷◌, codes}
use Rattle.rules_text.specs.nodes.Tree.{prim, none, more}
use Rattle.rules_text.specs.nodes.Primitives.{primitive_names, primitives, code_of_name, primitive_of_code, primitive_of_name}
use Rattle.rules_data.specs.declared.types.Simple.TheVariants as s
use Rattle.rules_data.specs.types.Kind as k
use Rattle.rules_data.specs.types.Reading.{former_of_name}
use Rattle.rules_data.specs.types.Entrypoints.{in_order}
use Rattle.rules_data.specs.values.Literals.{word_of_name}
use Rattle.rules_code.specs.instructions.Context as c
use Rattle.rules_code.specs.typing.Typing.{goes, bad}
use Rattle.rules_code.specs.typing.Nodes.{tree_type}

-- LEFT nat | lambda | int | or int nat
data_1 : tree_type (prim (codes "LEFT") [] (more (prim (codes "nat") [] none) none)) c.lambda ((k.simple s.Int) ∷ []) ≡ goes
    ((k.or (k.simple s.Int) (k.simple s.Nat)) ∷ [])
unfolding primitive_names primitives code_of_name primitive_of_code primitive_of_name former_of_name word_of_name in_order
data_1 = refl

-- RIGHT nat | lambda | int | or nat int
data_2 : tree_type (prim (codes "RIGHT") [] (more (prim (codes "nat") [] none) none)) c.lambda ((k.simple s.Int) ∷ []) ≡ goes
    ((k.or (k.simple s.Nat) (k.simple s.Int)) ∷ [])
unfolding primitive_names primitives code_of_name primitive_of_code primitive_of_name former_of_name word_of_name in_order
data_2 = refl

-- LEFT foo | lambda | int | 1
data_3 : tree_type (prim (codes "LEFT") [] (more (prim (codes "foo") [] none) none)) c.lambda ((k.simple s.Int) ∷ []) ≡ bad 1
unfolding primitive_names primitives code_of_name primitive_of_code primitive_of_name former_of_name word_of_name in_order
data_3 = refl

-- LEFT | lambda | int | 0
data_4 : tree_type (prim (codes "LEFT") [] none) c.lambda ((k.simple s.Int) ∷ []) ≡ bad 0
unfolding primitive_names primitives code_of_name primitive_of_code primitive_of_name former_of_name word_of_name in_order
data_4 = refl

-- LEFT nat | lambda | - | 0
data_5 : tree_type (prim (codes "LEFT") [] (more (prim (codes "nat") [] none) none)) c.lambda [] ≡ bad 0
unfolding primitive_names primitives code_of_name primitive_of_code primitive_of_name former_of_name word_of_name in_order
data_5 = refl

-- SOME | lambda | int, nat | option int, nat
data_6 : tree_type (prim (codes "SOME") [] none) c.lambda ((k.simple s.Int) ∷ (k.simple s.Nat) ∷ []) ≡ goes ((k.option
    (k.simple s.Int)) ∷ (k.simple s.Nat) ∷ [])
unfolding primitive_names primitives code_of_name primitive_of_code primitive_of_name former_of_name word_of_name in_order
data_6 = refl

-- NONE int | lambda | - | option int
data_7 : tree_type (prim (codes "NONE") [] (more (prim (codes "int") [] none) none)) c.lambda [] ≡ goes ((k.option (k.simple
    s.Int)) ∷ [])
unfolding primitive_names primitives code_of_name primitive_of_code primitive_of_name former_of_name word_of_name in_order
data_7 = refl

-- NIL operation | lambda | unit | list operation, unit
data_8 : tree_type (prim (codes "NIL") [] (more (prim (codes "operation") [] none) none)) c.lambda ((k.simple s.Unit) ∷ []) ≡
    goes ((k.list k.operation) ∷ (k.simple s.Unit) ∷ [])
unfolding primitive_names primitives code_of_name primitive_of_code primitive_of_name former_of_name word_of_name in_order
data_8 = refl

-- NIL (list foo) | lambda | unit | 2
data_9 : tree_type (prim (codes "NIL") [] (more (prim (codes "list") [] (more (prim (codes "foo") [] none) none)) none))
    c.lambda ((k.simple s.Unit) ∷ []) ≡ bad 2
unfolding primitive_names primitives code_of_name primitive_of_code primitive_of_name former_of_name word_of_name in_order
data_9 = refl

-- NIL | lambda | unit | 0
data_10 : tree_type (prim (codes "NIL") [] none) c.lambda ((k.simple s.Unit) ∷ []) ≡ bad 0
unfolding primitive_names primitives code_of_name primitive_of_code primitive_of_name former_of_name word_of_name in_order
data_10 = refl

-- CONS | lambda | int, list int, nat | list int, nat
data_11 : tree_type (prim (codes "CONS") [] none) c.lambda ((k.simple s.Int) ∷ (k.list (k.simple s.Int)) ∷ (k.simple s.Nat) ∷
    []) ≡ goes ((k.list (k.simple s.Int)) ∷ (k.simple s.Nat) ∷ [])
unfolding primitive_names primitives code_of_name primitive_of_code primitive_of_name former_of_name word_of_name in_order
data_11 = refl

-- CONS | lambda | int, list nat | 0
data_12 : tree_type (prim (codes "CONS") [] none) c.lambda ((k.simple s.Int) ∷ (k.list (k.simple s.Nat)) ∷ []) ≡ bad 0
unfolding primitive_names primitives code_of_name primitive_of_code primitive_of_name former_of_name word_of_name in_order
data_12 = refl

-- CONS | lambda | int, set int | 0
data_13 : tree_type (prim (codes "CONS") [] none) c.lambda ((k.simple s.Int) ∷ (k.set (k.simple s.Int)) ∷ []) ≡ bad 0
unfolding primitive_names primitives code_of_name primitive_of_code primitive_of_name former_of_name word_of_name in_order
data_13 = refl

-- EMPTY_SET nat | lambda | - | set nat
data_14 : tree_type (prim (codes "EMPTY_SET") [] (more (prim (codes "nat") [] none) none)) c.lambda [] ≡ goes ((k.set
    (k.simple s.Nat)) ∷ [])
unfolding primitive_names primitives code_of_name primitive_of_code primitive_of_name former_of_name word_of_name in_order
data_14 = refl

-- EMPTY_SET (list nat) | lambda | - | 1
data_15 : tree_type (prim (codes "EMPTY_SET") [] (more (prim (codes "list") [] (more (prim (codes "nat") [] none) none))
    none)) c.lambda [] ≡ bad 1
unfolding primitive_names primitives code_of_name primitive_of_code primitive_of_name former_of_name word_of_name in_order
data_15 = refl

-- EMPTY_MAP nat (list nat) | lambda | - | map nat (list nat)
data_16 : tree_type (prim (codes "EMPTY_MAP") [] (more (prim (codes "nat") [] none) (more (prim (codes "list") [] (more (prim
    (codes "nat") [] none) none)) none))) c.lambda [] ≡ goes ((k.map (k.simple s.Nat) (k.list (k.simple s.Nat))) ∷ [])
unfolding primitive_names primitives code_of_name primitive_of_code primitive_of_name former_of_name word_of_name in_order
data_16 = refl

-- EMPTY_MAP (list nat) foo | lambda | - | 1
data_17 : tree_type (prim (codes "EMPTY_MAP") [] (more (prim (codes "list") [] (more (prim (codes "nat") [] none) none)) (more
    (prim (codes "foo") [] none) none))) c.lambda [] ≡ bad 1
unfolding primitive_names primitives code_of_name primitive_of_code primitive_of_name former_of_name word_of_name in_order
data_17 = refl

-- EMPTY_MAP nat foo | lambda | - | 2
data_18 : tree_type (prim (codes "EMPTY_MAP") [] (more (prim (codes "nat") [] none) (more (prim (codes "foo") [] none) none)))
    c.lambda [] ≡ bad 2
unfolding primitive_names primitives code_of_name primitive_of_code primitive_of_name former_of_name word_of_name in_order
data_18 = refl

-- EMPTY_BIG_MAP nat (ticket nat) | lambda | - | big_map nat (ticket nat)
data_19 : tree_type (prim (codes "EMPTY_BIG_MAP") [] (more (prim (codes "nat") [] none) (more (prim (codes "ticket") [] (more
    (prim (codes "nat") [] none) none)) none))) c.lambda [] ≡ goes ((k.big_map (k.simple s.Nat) (k.ticket (k.simple s.Nat))) ∷
    [])
unfolding primitive_names primitives code_of_name primitive_of_code primitive_of_name former_of_name word_of_name in_order
data_19 = refl

-- EMPTY_BIG_MAP nat operation | lambda | - | 2
data_20 : tree_type (prim (codes "EMPTY_BIG_MAP") [] (more (prim (codes "nat") [] none) (more (prim (codes "operation") []
    none) none))) c.lambda [] ≡ bad 2
unfolding primitive_names primitives code_of_name primitive_of_code primitive_of_name former_of_name word_of_name in_order
data_20 = refl

-- EMPTY_BIG_MAP nat (big_map nat nat) | lambda | - | 2
data_21 : tree_type (prim (codes "EMPTY_BIG_MAP") [] (more (prim (codes "nat") [] none) (more (prim (codes "big_map") [] (more
    (prim (codes "nat") [] none) (more (prim (codes "nat") [] none) none))) none))) c.lambda [] ≡ bad 2
unfolding primitive_names primitives code_of_name primitive_of_code primitive_of_name former_of_name word_of_name in_order
data_21 = refl

-- EMPTY_BIG_MAP nat | lambda | - | 0
data_22 : tree_type (prim (codes "EMPTY_BIG_MAP") [] (more (prim (codes "nat") [] none) none)) c.lambda [] ≡ bad 0
unfolding primitive_names primitives code_of_name primitive_of_code primitive_of_name former_of_name word_of_name in_order
data_22 = refl

-- SIZE | lambda | set nat, int | nat, int
data_23 : tree_type (prim (codes "SIZE") [] none) c.lambda ((k.set (k.simple s.Nat)) ∷ (k.simple s.Int) ∷ []) ≡ goes
    ((k.simple s.Nat) ∷ (k.simple s.Int) ∷ [])
unfolding primitive_names primitives code_of_name primitive_of_code primitive_of_name former_of_name word_of_name in_order
data_23 = refl

-- SIZE | lambda | map nat int | nat
data_24 : tree_type (prim (codes "SIZE") [] none) c.lambda ((k.map (k.simple s.Nat) (k.simple s.Int)) ∷ []) ≡ goes ((k.simple
    s.Nat) ∷ [])
unfolding primitive_names primitives code_of_name primitive_of_code primitive_of_name former_of_name word_of_name in_order
data_24 = refl

-- SIZE | lambda | list (ticket nat) | nat
data_25 : tree_type (prim (codes "SIZE") [] none) c.lambda ((k.list (k.ticket (k.simple s.Nat))) ∷ []) ≡ goes ((k.simple
    s.Nat) ∷ [])
unfolding primitive_names primitives code_of_name primitive_of_code primitive_of_name former_of_name word_of_name in_order
data_25 = refl

-- SIZE | lambda | string | nat
data_26 : tree_type (prim (codes "SIZE") [] none) c.lambda ((k.simple s.String) ∷ []) ≡ goes ((k.simple s.Nat) ∷ [])
unfolding primitive_names primitives code_of_name primitive_of_code primitive_of_name former_of_name word_of_name in_order
data_26 = refl

-- SIZE | lambda | bytes | nat
data_27 : tree_type (prim (codes "SIZE") [] none) c.lambda ((k.simple s.Bytes) ∷ []) ≡ goes ((k.simple s.Nat) ∷ [])
unfolding primitive_names primitives code_of_name primitive_of_code primitive_of_name former_of_name word_of_name in_order
data_27 = refl

-- SIZE | lambda | big_map nat nat | 0
data_28 : tree_type (prim (codes "SIZE") [] none) c.lambda ((k.big_map (k.simple s.Nat) (k.simple s.Nat)) ∷ []) ≡ bad 0
unfolding primitive_names primitives code_of_name primitive_of_code primitive_of_name former_of_name word_of_name in_order
data_28 = refl

-- SIZE | lambda | - | 0
data_29 : tree_type (prim (codes "SIZE") [] none) c.lambda [] ≡ bad 0
unfolding primitive_names primitives code_of_name primitive_of_code primitive_of_name former_of_name word_of_name in_order
data_29 = refl

-- MEM | lambda | nat, set nat, int | bool, int
data_30 : tree_type (prim (codes "MEM") [] none) c.lambda ((k.simple s.Nat) ∷ (k.set (k.simple s.Nat)) ∷ (k.simple s.Int) ∷
    []) ≡ goes ((k.simple s.Bool) ∷ (k.simple s.Int) ∷ [])
unfolding primitive_names primitives code_of_name primitive_of_code primitive_of_name former_of_name word_of_name in_order
data_30 = refl

-- MEM | lambda | nat, map nat (ticket nat) | bool
data_31 : tree_type (prim (codes "MEM") [] none) c.lambda ((k.simple s.Nat) ∷ (k.map (k.simple s.Nat) (k.ticket (k.simple
    s.Nat))) ∷ []) ≡ goes ((k.simple s.Bool) ∷ [])
unfolding primitive_names primitives code_of_name primitive_of_code primitive_of_name former_of_name word_of_name in_order
data_31 = refl

-- MEM | lambda | nat, big_map nat (ticket nat) | bool
data_32 : tree_type (prim (codes "MEM") [] none) c.lambda ((k.simple s.Nat) ∷ (k.big_map (k.simple s.Nat) (k.ticket (k.simple
    s.Nat))) ∷ []) ≡ goes ((k.simple s.Bool) ∷ [])
unfolding primitive_names primitives code_of_name primitive_of_code primitive_of_name former_of_name word_of_name in_order
data_32 = refl

-- MEM | lambda | int, set nat | 0
data_33 : tree_type (prim (codes "MEM") [] none) c.lambda ((k.simple s.Int) ∷ (k.set (k.simple s.Nat)) ∷ []) ≡ bad 0
unfolding primitive_names primitives code_of_name primitive_of_code primitive_of_name former_of_name word_of_name in_order
data_33 = refl

-- MEM | lambda | int, list nat | 0
data_34 : tree_type (prim (codes "MEM") [] none) c.lambda ((k.simple s.Int) ∷ (k.list (k.simple s.Nat)) ∷ []) ≡ bad 0
unfolding primitive_names primitives code_of_name primitive_of_code primitive_of_name former_of_name word_of_name in_order
data_34 = refl

-- GET | lambda | nat, map nat int, unit | option int, unit
data_35 : tree_type (prim (codes "GET") [] none) c.lambda ((k.simple s.Nat) ∷ (k.map (k.simple s.Nat) (k.simple s.Int)) ∷
    (k.simple s.Unit) ∷ []) ≡ goes ((k.option (k.simple s.Int)) ∷ (k.simple s.Unit) ∷ [])
unfolding primitive_names primitives code_of_name primitive_of_code primitive_of_name former_of_name word_of_name in_order
data_35 = refl

-- GET | lambda | nat, big_map nat int | option int
data_36 : tree_type (prim (codes "GET") [] none) c.lambda ((k.simple s.Nat) ∷ (k.big_map (k.simple s.Nat) (k.simple s.Int)) ∷
    []) ≡ goes ((k.option (k.simple s.Int)) ∷ [])
unfolding primitive_names primitives code_of_name primitive_of_code primitive_of_name former_of_name word_of_name in_order
data_36 = refl

-- GET | lambda | int, map nat int | 0
data_37 : tree_type (prim (codes "GET") [] none) c.lambda ((k.simple s.Int) ∷ (k.map (k.simple s.Nat) (k.simple s.Int)) ∷ [])
    ≡ bad 0
unfolding primitive_names primitives code_of_name primitive_of_code primitive_of_name former_of_name word_of_name in_order
data_37 = refl

-- GET | lambda | nat, map nat (ticket nat) | 0
data_38 : tree_type (prim (codes "GET") [] none) c.lambda ((k.simple s.Nat) ∷ (k.map (k.simple s.Nat) (k.ticket (k.simple
    s.Nat))) ∷ []) ≡ bad 0
unfolding primitive_names primitives code_of_name primitive_of_code primitive_of_name former_of_name word_of_name in_order
data_38 = refl

-- GET | lambda | nat, set nat | 0
data_39 : tree_type (prim (codes "GET") [] none) c.lambda ((k.simple s.Nat) ∷ (k.set (k.simple s.Nat)) ∷ []) ≡ bad 0
unfolding primitive_names primitives code_of_name primitive_of_code primitive_of_name former_of_name word_of_name in_order
data_39 = refl

-- UPDATE | lambda | nat, bool, set nat, int | set nat, int
data_40 : tree_type (prim (codes "UPDATE") [] none) c.lambda ((k.simple s.Nat) ∷ (k.simple s.Bool) ∷ (k.set (k.simple s.Nat))
    ∷ (k.simple s.Int) ∷ []) ≡ goes ((k.set (k.simple s.Nat)) ∷ (k.simple s.Int) ∷ [])
unfolding primitive_names primitives code_of_name primitive_of_code primitive_of_name former_of_name word_of_name in_order
data_40 = refl

-- UPDATE | lambda | nat, option int, map nat int | map nat int
data_41 : tree_type (prim (codes "UPDATE") [] none) c.lambda ((k.simple s.Nat) ∷ (k.option (k.simple s.Int)) ∷ (k.map
    (k.simple s.Nat) (k.simple s.Int)) ∷ []) ≡ goes ((k.map (k.simple s.Nat) (k.simple s.Int)) ∷ [])
unfolding primitive_names primitives code_of_name primitive_of_code primitive_of_name former_of_name word_of_name in_order
data_41 = refl

-- UPDATE | lambda | nat, option int, big_map nat int | big_map nat int
data_42 : tree_type (prim (codes "UPDATE") [] none) c.lambda ((k.simple s.Nat) ∷ (k.option (k.simple s.Int)) ∷ (k.big_map
    (k.simple s.Nat) (k.simple s.Int)) ∷ []) ≡ goes ((k.big_map (k.simple s.Nat) (k.simple s.Int)) ∷ [])
unfolding primitive_names primitives code_of_name primitive_of_code primitive_of_name former_of_name word_of_name in_order
data_42 = refl

-- UPDATE | lambda | nat, option nat, map nat int | 0
data_43 : tree_type (prim (codes "UPDATE") [] none) c.lambda ((k.simple s.Nat) ∷ (k.option (k.simple s.Nat)) ∷ (k.map
    (k.simple s.Nat) (k.simple s.Int)) ∷ []) ≡ bad 0
unfolding primitive_names primitives code_of_name primitive_of_code primitive_of_name former_of_name word_of_name in_order
data_43 = refl

-- UPDATE | lambda | int, option int, map nat int | 0
data_44 : tree_type (prim (codes "UPDATE") [] none) c.lambda ((k.simple s.Int) ∷ (k.option (k.simple s.Int)) ∷ (k.map
    (k.simple s.Nat) (k.simple s.Int)) ∷ []) ≡ bad 0
unfolding primitive_names primitives code_of_name primitive_of_code primitive_of_name former_of_name word_of_name in_order
data_44 = refl

-- UPDATE | lambda | nat, option int, set nat | 0
data_45 : tree_type (prim (codes "UPDATE") [] none) c.lambda ((k.simple s.Nat) ∷ (k.option (k.simple s.Int)) ∷ (k.set
    (k.simple s.Nat)) ∷ []) ≡ bad 0
unfolding primitive_names primitives code_of_name primitive_of_code primitive_of_name former_of_name word_of_name in_order
data_45 = refl

-- UPDATE | lambda | nat, bool, map nat bool | 0
data_46 : tree_type (prim (codes "UPDATE") [] none) c.lambda ((k.simple s.Nat) ∷ (k.simple s.Bool) ∷ (k.map (k.simple s.Nat)
    (k.simple s.Bool)) ∷ []) ≡ bad 0
unfolding primitive_names primitives code_of_name primitive_of_code primitive_of_name former_of_name word_of_name in_order
data_46 = refl

-- GET_AND_UPDATE | lambda | nat, option (ticket nat), map nat (ticket nat) | option (ticket nat), map nat (ticket nat)
data_47 : tree_type (prim (codes "GET_AND_UPDATE") [] none) c.lambda ((k.simple s.Nat) ∷ (k.option (k.ticket (k.simple
    s.Nat))) ∷ (k.map (k.simple s.Nat) (k.ticket (k.simple s.Nat))) ∷ []) ≡ goes ((k.option (k.ticket (k.simple s.Nat))) ∷
    (k.map (k.simple s.Nat) (k.ticket (k.simple s.Nat))) ∷ [])
unfolding primitive_names primitives code_of_name primitive_of_code primitive_of_name former_of_name word_of_name in_order
data_47 = refl

-- GET_AND_UPDATE | lambda | nat, option int, big_map nat int | option int, big_map nat int
data_48 : tree_type (prim (codes "GET_AND_UPDATE") [] none) c.lambda ((k.simple s.Nat) ∷ (k.option (k.simple s.Int)) ∷
    (k.big_map (k.simple s.Nat) (k.simple s.Int)) ∷ []) ≡ goes ((k.option (k.simple s.Int)) ∷ (k.big_map (k.simple s.Nat)
    (k.simple s.Int)) ∷ [])
unfolding primitive_names primitives code_of_name primitive_of_code primitive_of_name former_of_name word_of_name in_order
data_48 = refl

-- GET_AND_UPDATE | lambda | nat, bool, set nat | 0
data_49 : tree_type (prim (codes "GET_AND_UPDATE") [] none) c.lambda ((k.simple s.Nat) ∷ (k.simple s.Bool) ∷ (k.set (k.simple
    s.Nat)) ∷ []) ≡ bad 0
unfolding primitive_names primitives code_of_name primitive_of_code primitive_of_name former_of_name word_of_name in_order
data_49 = refl
