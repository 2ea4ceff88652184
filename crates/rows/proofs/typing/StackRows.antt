-- The order of the stack, pairs and combs.
use Rattle.std.specs.Prelude.{◌≡◌, refl, pos, negsuc, [], ◌∷◌, codes}
use Rattle.rules_text.specs.nodes.Tree.{int, str, prim, seq, none, more}
use Rattle.rules_text.specs.nodes.Primitives.{primitive_names, primitives, code_of_name, primitive_of_code, primitive_of_name}
use Rattle.rules_data.specs.declared.types.Simple.TheVariants as s
use Rattle.rules_data.specs.types.Kind as k
use Rattle.rules_data.specs.types.Reading.{former_of_name}
use Rattle.rules_data.specs.types.Entrypoints.{in_order}
use Rattle.rules_data.specs.values.Literals.{word_of_name}
use Rattle.rules_code.specs.instructions.Context as c
use Rattle.rules_code.specs.typing.Typing.{goes, bad}
use Rattle.rules_code.specs.typing.Nodes.{tree_type}

-- DROP | lambda | nat, int | int
stack_1 : tree_type (prim (codes "DROP") [] none) c.lambda ((k.simple s.Nat) ∷ (k.simple s.Int) ∷ []) ≡ goes ((k.simple s.Int)
    ∷ [])
unfolding primitive_names primitives code_of_name primitive_of_code primitive_of_name former_of_name word_of_name in_order
stack_1 = refl

-- DROP | lambda | - | 0
stack_2 : tree_type (prim (codes "DROP") [] none) c.lambda [] ≡ bad 0
unfolding primitive_names primitives code_of_name primitive_of_code primitive_of_name former_of_name word_of_name in_order
stack_2 = refl

-- DROP 0 | lambda | - | -
stack_3 : tree_type (prim (codes "DROP") [] (more (int (pos 0)) none)) c.lambda [] ≡ goes []
unfolding primitive_names primitives code_of_name primitive_of_code primitive_of_name former_of_name word_of_name in_order
stack_3 = refl

-- DROP 2 | lambda | nat, int, bool | bool
stack_4 : tree_type (prim (codes "DROP") [] (more (int (pos 2)) none)) c.lambda ((k.simple s.Nat) ∷ (k.simple s.Int) ∷
    (k.simple s.Bool) ∷ []) ≡ goes ((k.simple s.Bool) ∷ [])
unfolding primitive_names primitives code_of_name primitive_of_code primitive_of_name former_of_name word_of_name in_order
stack_4 = refl

-- DROP 2 | lambda | nat | 0
stack_5 : tree_type (prim (codes "DROP") [] (more (int (pos 2)) none)) c.lambda ((k.simple s.Nat) ∷ []) ≡ bad 0
unfolding primitive_names primitives code_of_name primitive_of_code primitive_of_name former_of_name word_of_name in_order
stack_5 = refl

-- DROP -1 | lambda | nat | 1
stack_6 : tree_type (prim (codes "DROP") [] (more (int (negsuc 0)) none)) c.lambda ((k.simple s.Nat) ∷ []) ≡ bad 1
unfolding primitive_names primitives code_of_name primitive_of_code primitive_of_name former_of_name word_of_name in_order
stack_6 = refl

-- DROP 1024 | lambda | nat | 1
stack_7 : tree_type (prim (codes "DROP") [] (more (int (pos 1024)) none)) c.lambda ((k.simple s.Nat) ∷ []) ≡ bad 1
unfolding primitive_names primitives code_of_name primitive_of_code primitive_of_name former_of_name word_of_name in_order
stack_7 = refl

-- DROP "a" | lambda | nat | 1
stack_8 : tree_type (prim (codes "DROP") [] (more (str (codes "a")) none)) c.lambda ((k.simple s.Nat) ∷ []) ≡ bad 1
unfolding primitive_names primitives code_of_name primitive_of_code primitive_of_name former_of_name word_of_name in_order
stack_8 = refl

-- DROP 1 1 | lambda | nat | 0
stack_9 : tree_type (prim (codes "DROP") [] (more (int (pos 1)) (more (int (pos 1)) none))) c.lambda ((k.simple s.Nat) ∷ []) ≡
    bad 0
unfolding primitive_names primitives code_of_name primitive_of_code primitive_of_name former_of_name word_of_name in_order
stack_9 = refl

-- DUP | lambda | nat | nat, nat
stack_10 : tree_type (prim (codes "DUP") [] none) c.lambda ((k.simple s.Nat) ∷ []) ≡ goes ((k.simple s.Nat) ∷ (k.simple s.Nat)
    ∷ [])
unfolding primitive_names primitives code_of_name primitive_of_code primitive_of_name former_of_name word_of_name in_order
stack_10 = refl

-- DUP 2 | lambda | nat, int | int, nat, int
stack_11 : tree_type (prim (codes "DUP") [] (more (int (pos 2)) none)) c.lambda ((k.simple s.Nat) ∷ (k.simple s.Int) ∷ []) ≡
    goes ((k.simple s.Int) ∷ (k.simple s.Nat) ∷ (k.simple s.Int) ∷ [])
unfolding primitive_names primitives code_of_name primitive_of_code primitive_of_name former_of_name word_of_name in_order
stack_11 = refl

-- DUP 0 | lambda | nat | 1
stack_12 : tree_type (prim (codes "DUP") [] (more (int (pos 0)) none)) c.lambda ((k.simple s.Nat) ∷ []) ≡ bad 1
unfolding primitive_names primitives code_of_name primitive_of_code primitive_of_name former_of_name word_of_name in_order
stack_12 = refl

-- DUP 3 | lambda | nat, int | 0
stack_13 : tree_type (prim (codes "DUP") [] (more (int (pos 3)) none)) c.lambda ((k.simple s.Nat) ∷ (k.simple s.Int) ∷ []) ≡
    bad 0
unfolding primitive_names primitives code_of_name primitive_of_code primitive_of_name former_of_name word_of_name in_order
stack_13 = refl

-- DUP | lambda | ticket nat | 0
stack_14 : tree_type (prim (codes "DUP") [] none) c.lambda ((k.ticket (k.simple s.Nat)) ∷ []) ≡ bad 0
unfolding primitive_names primitives code_of_name primitive_of_code primitive_of_name former_of_name word_of_name in_order
stack_14 = refl

-- DUP | lambda | list operation | list operation, list operation
stack_15 : tree_type (prim (codes "DUP") [] none) c.lambda ((k.list k.operation) ∷ []) ≡ goes ((k.list k.operation) ∷ (k.list
    k.operation) ∷ [])
unfolding primitive_names primitives code_of_name primitive_of_code primitive_of_name former_of_name word_of_name in_order
stack_15 = refl

-- DUP 2 | lambda | nat, pair int (ticket nat) | 0
stack_16 : tree_type (prim (codes "DUP") [] (more (int (pos 2)) none)) c.lambda ((k.simple s.Nat) ∷ (k.pair (k.simple s.Int)
    (k.ticket (k.simple s.Nat))) ∷ []) ≡ bad 0
unfolding primitive_names primitives code_of_name primitive_of_code primitive_of_name former_of_name word_of_name in_order
stack_16 = refl

-- SWAP | lambda | nat, int, bool | int, nat, bool
stack_17 : tree_type (prim (codes "SWAP") [] none) c.lambda ((k.simple s.Nat) ∷ (k.simple s.Int) ∷ (k.simple s.Bool) ∷ []) ≡
    goes ((k.simple s.Int) ∷ (k.simple s.Nat) ∷ (k.simple s.Bool) ∷ [])
unfolding primitive_names primitives code_of_name primitive_of_code primitive_of_name former_of_name word_of_name in_order
stack_17 = refl

-- SWAP | lambda | nat | 0
stack_18 : tree_type (prim (codes "SWAP") [] none) c.lambda ((k.simple s.Nat) ∷ []) ≡ bad 0
unfolding primitive_names primitives code_of_name primitive_of_code primitive_of_name former_of_name word_of_name in_order
stack_18 = refl

-- DIG 0 | lambda | nat, int | nat, int
stack_19 : tree_type (prim (codes "DIG") [] (more (int (pos 0)) none)) c.lambda ((k.simple s.Nat) ∷ (k.simple s.Int) ∷ []) ≡
    goes ((k.simple s.Nat) ∷ (k.simple s.Int) ∷ [])
unfolding primitive_names primitives code_of_name primitive_of_code primitive_of_name former_of_name word_of_name in_order
stack_19 = refl

-- DIG 2 | lambda | nat, int, bool, unit | bool, nat, int, unit
stack_20 : tree_type (prim (codes "DIG") [] (more (int (pos 2)) none)) c.lambda ((k.simple s.Nat) ∷ (k.simple s.Int) ∷
    (k.simple s.Bool) ∷ (k.simple s.Unit) ∷ []) ≡ goes ((k.simple s.Bool) ∷ (k.simple s.Nat) ∷ (k.simple s.Int) ∷ (k.simple
    s.Unit) ∷ [])
unfolding primitive_names primitives code_of_name primitive_of_code primitive_of_name former_of_name word_of_name in_order
stack_20 = refl

-- DIG 2 | lambda | nat, int | 0
stack_21 : tree_type (prim (codes "DIG") [] (more (int (pos 2)) none)) c.lambda ((k.simple s.Nat) ∷ (k.simple s.Int) ∷ []) ≡
    bad 0
unfolding primitive_names primitives code_of_name primitive_of_code primitive_of_name former_of_name word_of_name in_order
stack_21 = refl

-- DIG | lambda | nat | 0
stack_22 : tree_type (prim (codes "DIG") [] none) c.lambda ((k.simple s.Nat) ∷ []) ≡ bad 0
unfolding primitive_names primitives code_of_name primitive_of_code primitive_of_name former_of_name word_of_name in_order
stack_22 = refl

-- DUG 0 | lambda | nat, int | nat, int
stack_23 : tree_type (prim (codes "DUG") [] (more (int (pos 0)) none)) c.lambda ((k.simple s.Nat) ∷ (k.simple s.Int) ∷ []) ≡
    goes ((k.simple s.Nat) ∷ (k.simple s.Int) ∷ [])
unfolding primitive_names primitives code_of_name primitive_of_code primitive_of_name former_of_name word_of_name in_order
stack_23 = refl

-- DUG 2 | lambda | nat, int, bool, unit | int, bool, nat, unit
stack_24 : tree_type (prim (codes "DUG") [] (more (int (pos 2)) none)) c.lambda ((k.simple s.Nat) ∷ (k.simple s.Int) ∷
    (k.simple s.Bool) ∷ (k.simple s.Unit) ∷ []) ≡ goes ((k.simple s.Int) ∷ (k.simple s.Bool) ∷ (k.simple s.Nat) ∷ (k.simple
    s.Unit) ∷ [])
unfolding primitive_names primitives code_of_name primitive_of_code primitive_of_name former_of_name word_of_name in_order
stack_24 = refl

-- DUG 2 | lambda | nat, int | 0
stack_25 : tree_type (prim (codes "DUG") [] (more (int (pos 2)) none)) c.lambda ((k.simple s.Nat) ∷ (k.simple s.Int) ∷ []) ≡
    bad 0
unfolding primitive_names primitives code_of_name primitive_of_code primitive_of_name former_of_name word_of_name in_order
stack_25 = refl

-- DUG 0 | lambda | - | 0
stack_26 : tree_type (prim (codes "DUG") [] (more (int (pos 0)) none)) c.lambda [] ≡ bad 0
unfolding primitive_names primitives code_of_name primitive_of_code primitive_of_name former_of_name word_of_name in_order
stack_26 = refl

-- DUG 1023 | lambda | nat | 0
stack_27 : tree_type (prim (codes "DUG") [] (more (int (pos 1023)) none)) c.lambda ((k.simple s.Nat) ∷ []) ≡ bad 0
unfolding primitive_names primitives code_of_name primitive_of_code primitive_of_name former_of_name word_of_name in_order
stack_27 = refl

-- DUG 1024 | lambda | nat | 1
stack_28 : tree_type (prim (codes "DUG") [] (more (int (pos 1024)) none)) c.lambda ((k.simple s.Nat) ∷ []) ≡ bad 1
unfolding primitive_names primitives code_of_name primitive_of_code primitive_of_name former_of_name word_of_name in_order
stack_28 = refl

-- UNIT | lambda | nat | unit, nat
stack_29 : tree_type (prim (codes "UNIT") [] none) c.lambda ((k.simple s.Nat) ∷ []) ≡ goes ((k.simple s.Unit) ∷ (k.simple
    s.Nat) ∷ [])
unfolding primitive_names primitives code_of_name primitive_of_code primitive_of_name former_of_name word_of_name in_order
stack_29 = refl

-- UNIT {} | lambda | nat | 0
stack_30 : tree_type (prim (codes "UNIT") [] (more (seq none) none)) c.lambda ((k.simple s.Nat) ∷ []) ≡ bad 0
unfolding primitive_names primitives code_of_name primitive_of_code primitive_of_name former_of_name word_of_name in_order
stack_30 = refl

-- CAST nat | lambda | nat, int | nat, int
stack_31 : tree_type (prim (codes "CAST") [] (more (prim (codes "nat") [] none) none)) c.lambda ((k.simple s.Nat) ∷ (k.simple
    s.Int) ∷ []) ≡ goes ((k.simple s.Nat) ∷ (k.simple s.Int) ∷ [])
unfolding primitive_names primitives code_of_name primitive_of_code primitive_of_name former_of_name word_of_name in_order
stack_31 = refl

-- CAST (pair int nat int) | lambda | pair int (pair nat int) | pair int (pair nat int)
stack_32 : tree_type (prim (codes "CAST") [] (more (prim (codes "pair") [] (more (prim (codes "int") [] none) (more (prim
    (codes "nat") [] none) (more (prim (codes "int") [] none) none)))) none)) c.lambda ((k.pair (k.simple s.Int) (k.pair
    (k.simple s.Nat) (k.simple s.Int))) ∷ []) ≡ goes ((k.pair (k.simple s.Int) (k.pair (k.simple s.Nat) (k.simple s.Int))) ∷
    [])
unfolding primitive_names primitives code_of_name primitive_of_code primitive_of_name former_of_name word_of_name in_order
stack_32 = refl

-- CAST int | lambda | nat | 0
stack_33 : tree_type (prim (codes "CAST") [] (more (prim (codes "int") [] none) none)) c.lambda ((k.simple s.Nat) ∷ []) ≡ bad
    0
unfolding primitive_names primitives code_of_name primitive_of_code primitive_of_name former_of_name word_of_name in_order
stack_33 = refl

-- CAST foo | lambda | nat | 1
stack_34 : tree_type (prim (codes "CAST") [] (more (prim (codes "foo") [] none) none)) c.lambda ((k.simple s.Nat) ∷ []) ≡ bad
    1
unfolding primitive_names primitives code_of_name primitive_of_code primitive_of_name former_of_name word_of_name in_order
stack_34 = refl

-- CAST (pair int foo) | lambda | nat | 3
stack_35 : tree_type (prim (codes "CAST") [] (more (prim (codes "pair") [] (more (prim (codes "int") [] none) (more (prim
    (codes "foo") [] none) none))) none)) c.lambda ((k.simple s.Nat) ∷ []) ≡ bad 3
unfolding primitive_names primitives code_of_name primitive_of_code primitive_of_name former_of_name word_of_name in_order
stack_35 = refl

-- RENAME @x | lambda | nat | nat
stack_36 : tree_type (prim (codes "RENAME") ((codes "@x") ∷ []) none) c.lambda ((k.simple s.Nat) ∷ []) ≡ goes ((k.simple
    s.Nat) ∷ [])
unfolding primitive_names primitives code_of_name primitive_of_code primitive_of_name former_of_name word_of_name in_order
stack_36 = refl

-- RENAME | lambda | - | 0
stack_37 : tree_type (prim (codes "RENAME") [] none) c.lambda [] ≡ bad 0
unfolding primitive_names primitives code_of_name primitive_of_code primitive_of_name former_of_name word_of_name in_order
stack_37 = refl

-- PAIR | lambda | nat, int, bool | pair nat int, bool
stack_38 : tree_type (prim (codes "PAIR") [] none) c.lambda ((k.simple s.Nat) ∷ (k.simple s.Int) ∷ (k.simple s.Bool) ∷ []) ≡
    goes ((k.pair (k.simple s.Nat) (k.simple s.Int)) ∷ (k.simple s.Bool) ∷ [])
unfolding primitive_names primitives code_of_name primitive_of_code primitive_of_name former_of_name word_of_name in_order
stack_38 = refl

-- PAIR | lambda | nat | 0
stack_39 : tree_type (prim (codes "PAIR") [] none) c.lambda ((k.simple s.Nat) ∷ []) ≡ bad 0
unfolding primitive_names primitives code_of_name primitive_of_code primitive_of_name former_of_name word_of_name in_order
stack_39 = refl

-- PAIR 2 | lambda | nat, int | pair nat int
stack_40 : tree_type (prim (codes "PAIR") [] (more (int (pos 2)) none)) c.lambda ((k.simple s.Nat) ∷ (k.simple s.Int) ∷ []) ≡
    goes ((k.pair (k.simple s.Nat) (k.simple s.Int)) ∷ [])
unfolding primitive_names primitives code_of_name primitive_of_code primitive_of_name former_of_name word_of_name in_order
stack_40 = refl

-- PAIR 3 | lambda | nat, int, bool, unit | pair nat int bool, unit
stack_41 : tree_type (prim (codes "PAIR") [] (more (int (pos 3)) none)) c.lambda ((k.simple s.Nat) ∷ (k.simple s.Int) ∷
    (k.simple s.Bool) ∷ (k.simple s.Unit) ∷ []) ≡ goes ((k.pair (k.simple s.Nat) (k.pair (k.simple s.Int) (k.simple s.Bool)))
    ∷ (k.simple s.Unit) ∷ [])
unfolding primitive_names primitives code_of_name primitive_of_code primitive_of_name former_of_name word_of_name in_order
stack_41 = refl

-- PAIR 3 | lambda | nat, int | 0
stack_42 : tree_type (prim (codes "PAIR") [] (more (int (pos 3)) none)) c.lambda ((k.simple s.Nat) ∷ (k.simple s.Int) ∷ []) ≡
    bad 0
unfolding primitive_names primitives code_of_name primitive_of_code primitive_of_name former_of_name word_of_name in_order
stack_42 = refl

-- PAIR 1 | lambda | nat, int | 1
stack_43 : tree_type (prim (codes "PAIR") [] (more (int (pos 1)) none)) c.lambda ((k.simple s.Nat) ∷ (k.simple s.Int) ∷ []) ≡
    bad 1
unfolding primitive_names primitives code_of_name primitive_of_code primitive_of_name former_of_name word_of_name in_order
stack_43 = refl

-- UNPAIR | lambda | pair nat int, bool | nat, int, bool
stack_44 : tree_type (prim (codes "UNPAIR") [] none) c.lambda ((k.pair (k.simple s.Nat) (k.simple s.Int)) ∷ (k.simple s.Bool)
    ∷ []) ≡ goes ((k.simple s.Nat) ∷ (k.simple s.Int) ∷ (k.simple s.Bool) ∷ [])
unfolding primitive_names primitives code_of_name primitive_of_code primitive_of_name former_of_name word_of_name in_order
stack_44 = refl

-- UNPAIR | lambda | nat | 0
stack_45 : tree_type (prim (codes "UNPAIR") [] none) c.lambda ((k.simple s.Nat) ∷ []) ≡ bad 0
unfolding primitive_names primitives code_of_name primitive_of_code primitive_of_name former_of_name word_of_name in_order
stack_45 = refl

-- UNPAIR 3 | lambda | pair nat int bool unit | nat, int, pair bool unit
stack_46 : tree_type (prim (codes "UNPAIR") [] (more (int (pos 3)) none)) c.lambda ((k.pair (k.simple s.Nat) (k.pair (k.simple
    s.Int) (k.pair (k.simple s.Bool) (k.simple s.Unit)))) ∷ []) ≡ goes ((k.simple s.Nat) ∷ (k.simple s.Int) ∷ (k.pair
    (k.simple s.Bool) (k.simple s.Unit)) ∷ [])
unfolding primitive_names primitives code_of_name primitive_of_code primitive_of_name former_of_name word_of_name in_order
stack_46 = refl

-- UNPAIR 3 | lambda | pair nat int | 0
stack_47 : tree_type (prim (codes "UNPAIR") [] (more (int (pos 3)) none)) c.lambda ((k.pair (k.simple s.Nat) (k.simple s.Int))
    ∷ []) ≡ bad 0
unfolding primitive_names primitives code_of_name primitive_of_code primitive_of_name former_of_name word_of_name in_order
stack_47 = refl

-- UNPAIR 1 | lambda | pair nat int | 1
stack_48 : tree_type (prim (codes "UNPAIR") [] (more (int (pos 1)) none)) c.lambda ((k.pair (k.simple s.Nat) (k.simple s.Int))
    ∷ []) ≡ bad 1
unfolding primitive_names primitives code_of_name primitive_of_code primitive_of_name former_of_name word_of_name in_order
stack_48 = refl

-- CAR | lambda | pair nat int, bool | nat, bool
stack_49 : tree_type (prim (codes "CAR") [] none) c.lambda ((k.pair (k.simple s.Nat) (k.simple s.Int)) ∷ (k.simple s.Bool) ∷
    []) ≡ goes ((k.simple s.Nat) ∷ (k.simple s.Bool) ∷ [])
unfolding primitive_names primitives code_of_name primitive_of_code primitive_of_name former_of_name word_of_name in_order
stack_49 = refl

-- CAR | lambda | option nat | 0
stack_50 : tree_type (prim (codes "CAR") [] none) c.lambda ((k.option (k.simple s.Nat)) ∷ []) ≡ bad 0
unfolding primitive_names primitives code_of_name primitive_of_code primitive_of_name former_of_name word_of_name in_order
stack_50 = refl

-- CDR | lambda | pair nat int, bool | int, bool
stack_51 : tree_type (prim (codes "CDR") [] none) c.lambda ((k.pair (k.simple s.Nat) (k.simple s.Int)) ∷ (k.simple s.Bool) ∷
    []) ≡ goes ((k.simple s.Int) ∷ (k.simple s.Bool) ∷ [])
unfolding primitive_names primitives code_of_name primitive_of_code primitive_of_name former_of_name word_of_name in_order
stack_51 = refl

-- CDR | lambda | - | 0
stack_52 : tree_type (prim (codes "CDR") [] none) c.lambda [] ≡ bad 0
unfolding primitive_names primitives code_of_name primitive_of_code primitive_of_name former_of_name word_of_name in_order
stack_52 = refl

-- GET 0 | lambda | nat | nat
stack_53 : tree_type (prim (codes "GET") [] (more (int (pos 0)) none)) c.lambda ((k.simple s.Nat) ∷ []) ≡ goes ((k.simple
    s.Nat) ∷ [])
unfolding primitive_names primitives code_of_name primitive_of_code primitive_of_name former_of_name word_of_name in_order
stack_53 = refl

-- GET 1 | lambda | pair nat int bool | nat
stack_54 : tree_type (prim (codes "GET") [] (more (int (pos 1)) none)) c.lambda ((k.pair (k.simple s.Nat) (k.pair (k.simple
    s.Int) (k.simple s.Bool))) ∷ []) ≡ goes ((k.simple s.Nat) ∷ [])
unfolding primitive_names primitives code_of_name primitive_of_code primitive_of_name former_of_name word_of_name in_order
stack_54 = refl

-- GET 2 | lambda | pair nat int bool | pair int bool
stack_55 : tree_type (prim (codes "GET") [] (more (int (pos 2)) none)) c.lambda ((k.pair (k.simple s.Nat) (k.pair (k.simple
    s.Int) (k.simple s.Bool))) ∷ []) ≡ goes ((k.pair (k.simple s.Int) (k.simple s.Bool)) ∷ [])
unfolding primitive_names primitives code_of_name primitive_of_code primitive_of_name former_of_name word_of_name in_order
stack_55 = refl

-- GET 3 | lambda | pair nat int bool | int
stack_56 : tree_type (prim (codes "GET") [] (more (int (pos 3)) none)) c.lambda ((k.pair (k.simple s.Nat) (k.pair (k.simple
    s.Int) (k.simple s.Bool))) ∷ []) ≡ goes ((k.simple s.Int) ∷ [])
unfolding primitive_names primitives code_of_name primitive_of_code primitive_of_name former_of_name word_of_name in_order
stack_56 = refl

-- GET 4 | lambda | pair nat int bool | bool
stack_57 : tree_type (prim (codes "GET") [] (more (int (pos 4)) none)) c.lambda ((k.pair (k.simple s.Nat) (k.pair (k.simple
    s.Int) (k.simple s.Bool))) ∷ []) ≡ goes ((k.simple s.Bool) ∷ [])
unfolding primitive_names primitives code_of_name primitive_of_code primitive_of_name former_of_name word_of_name in_order
stack_57 = refl

-- GET 5 | lambda | pair nat int bool | 0
stack_58 : tree_type (prim (codes "GET") [] (more (int (pos 5)) none)) c.lambda ((k.pair (k.simple s.Nat) (k.pair (k.simple
    s.Int) (k.simple s.Bool))) ∷ []) ≡ bad 0
unfolding primitive_names primitives code_of_name primitive_of_code primitive_of_name former_of_name word_of_name in_order
stack_58 = refl

-- GET 2047 | lambda | pair nat int | 0
stack_59 : tree_type (prim (codes "GET") [] (more (int (pos 2047)) none)) c.lambda ((k.pair (k.simple s.Nat) (k.simple s.Int))
    ∷ []) ≡ bad 0
unfolding primitive_names primitives code_of_name primitive_of_code primitive_of_name former_of_name word_of_name in_order
stack_59 = refl

-- GET 2048 | lambda | pair nat int | 1
stack_60 : tree_type (prim (codes "GET") [] (more (int (pos 2048)) none)) c.lambda ((k.pair (k.simple s.Nat) (k.simple s.Int))
    ∷ []) ≡ bad 1
unfolding primitive_names primitives code_of_name primitive_of_code primitive_of_name former_of_name word_of_name in_order
stack_60 = refl

-- UPDATE 0 | lambda | string, nat, bool | string, bool
stack_61 : tree_type (prim (codes "UPDATE") [] (more (int (pos 0)) none)) c.lambda ((k.simple s.String) ∷ (k.simple s.Nat) ∷
    (k.simple s.Bool) ∷ []) ≡ goes ((k.simple s.String) ∷ (k.simple s.Bool) ∷ [])
unfolding primitive_names primitives code_of_name primitive_of_code primitive_of_name former_of_name word_of_name in_order
stack_61 = refl

-- UPDATE 1 | lambda | string, pair nat int bool | pair string int bool
stack_62 : tree_type (prim (codes "UPDATE") [] (more (int (pos 1)) none)) c.lambda ((k.simple s.String) ∷ (k.pair (k.simple
    s.Nat) (k.pair (k.simple s.Int) (k.simple s.Bool))) ∷ []) ≡ goes ((k.pair (k.simple s.String) (k.pair (k.simple s.Int)
    (k.simple s.Bool))) ∷ [])
unfolding primitive_names primitives code_of_name primitive_of_code primitive_of_name former_of_name word_of_name in_order
stack_62 = refl

-- UPDATE 2 | lambda | string, pair nat int bool | pair nat string
stack_63 : tree_type (prim (codes "UPDATE") [] (more (int (pos 2)) none)) c.lambda ((k.simple s.String) ∷ (k.pair (k.simple
    s.Nat) (k.pair (k.simple s.Int) (k.simple s.Bool))) ∷ []) ≡ goes ((k.pair (k.simple s.Nat) (k.simple s.String)) ∷ [])
unfolding primitive_names primitives code_of_name primitive_of_code primitive_of_name former_of_name word_of_name in_order
stack_63 = refl

-- UPDATE 3 | lambda | string, pair nat int bool | pair nat string bool
stack_64 : tree_type (prim (codes "UPDATE") [] (more (int (pos 3)) none)) c.lambda ((k.simple s.String) ∷ (k.pair (k.simple
    s.Nat) (k.pair (k.simple s.Int) (k.simple s.Bool))) ∷ []) ≡ goes ((k.pair (k.simple s.Nat) (k.pair (k.simple s.String)
    (k.simple s.Bool))) ∷ [])
unfolding primitive_names primitives code_of_name primitive_of_code primitive_of_name former_of_name word_of_name in_order
stack_64 = refl

-- UPDATE 4 | lambda | string, pair nat int bool | pair nat int string
stack_65 : tree_type (prim (codes "UPDATE") [] (more (int (pos 4)) none)) c.lambda ((k.simple s.String) ∷ (k.pair (k.simple
    s.Nat) (k.pair (k.simple s.Int) (k.simple s.Bool))) ∷ []) ≡ goes ((k.pair (k.simple s.Nat) (k.pair (k.simple s.Int)
    (k.simple s.String))) ∷ [])
unfolding primitive_names primitives code_of_name primitive_of_code primitive_of_name former_of_name word_of_name in_order
stack_65 = refl

-- UPDATE 5 | lambda | string, pair nat int bool | 0
stack_66 : tree_type (prim (codes "UPDATE") [] (more (int (pos 5)) none)) c.lambda ((k.simple s.String) ∷ (k.pair (k.simple
    s.Nat) (k.pair (k.simple s.Int) (k.simple s.Bool))) ∷ []) ≡ bad 0
unfolding primitive_names primitives code_of_name primitive_of_code primitive_of_name former_of_name word_of_name in_order
stack_66 = refl

-- UPDATE 1 | lambda | string | 0
stack_67 : tree_type (prim (codes "UPDATE") [] (more (int (pos 1)) none)) c.lambda ((k.simple s.String) ∷ []) ≡ bad 0
unfolding primitive_names primitives code_of_name primitive_of_code primitive_of_name former_of_name word_of_name in_order
stack_67 = refl
