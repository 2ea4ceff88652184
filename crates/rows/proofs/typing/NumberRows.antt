-- Arithmetic, logic and comparison.
use Rattle.std.specs.Prelude.{◌≡◌, refl, pos, [], ◌∷◌, codes}
use Rattle.rules_text.specs.nodes.Tree.{int, prim, none, more}
use Rattle.rules_text.specs.nodes.Primitives.{primitive_names, primitives, code_of_name, primitive_of_code, primitive_of_name}
use Rattle.rules_data.specs.declared.types.Simple.TheVariants as s
use Rattle.rules_data.specs.types.Kind as k
use Rattle.rules_data.specs.types.Reading.{former_of_name}
use Rattle.rules_data.specs.types.Entrypoints.{in_order}
use Rattle.rules_data.specs.values.Literals.{word_of_name}
use Rattle.rules_code.specs.instructions.Context as c
use Rattle.rules_code.specs.typing.Typing.{goes, bad}
use Rattle.rules_code.specs.typing.Nodes.{tree_type}

-- ADD | lambda | nat, nat | nat
number_1 : tree_type (prim (codes "ADD") [] none) c.lambda ((k.simple s.Nat) ∷ (k.simple s.Nat) ∷ []) ≡ goes ((k.simple s.Nat)
    ∷ [])
unfolding primitive_names primitives code_of_name primitive_of_code primitive_of_name former_of_name word_of_name in_order
number_1 = refl

-- ADD | lambda | nat, int | int
number_2 : tree_type (prim (codes "ADD") [] none) c.lambda ((k.simple s.Nat) ∷ (k.simple s.Int) ∷ []) ≡ goes ((k.simple s.Int)
    ∷ [])
unfolding primitive_names primitives code_of_name primitive_of_code primitive_of_name former_of_name word_of_name in_order
number_2 = refl

-- ADD | lambda | int, nat | int
number_3 : tree_type (prim (codes "ADD") [] none) c.lambda ((k.simple s.Int) ∷ (k.simple s.Nat) ∷ []) ≡ goes ((k.simple s.Int)
    ∷ [])
unfolding primitive_names primitives code_of_name primitive_of_code primitive_of_name former_of_name word_of_name in_order
number_3 = refl

-- ADD | lambda | int, int, unit | int, unit
number_4 : tree_type (prim (codes "ADD") [] none) c.lambda ((k.simple s.Int) ∷ (k.simple s.Int) ∷ (k.simple s.Unit) ∷ []) ≡
    goes ((k.simple s.Int) ∷ (k.simple s.Unit) ∷ [])
unfolding primitive_names primitives code_of_name primitive_of_code primitive_of_name former_of_name word_of_name in_order
number_4 = refl

-- ADD | lambda | timestamp, int | timestamp
number_5 : tree_type (prim (codes "ADD") [] none) c.lambda ((k.simple s.Timestamp) ∷ (k.simple s.Int) ∷ []) ≡ goes ((k.simple
    s.Timestamp) ∷ [])
unfolding primitive_names primitives code_of_name primitive_of_code primitive_of_name former_of_name word_of_name in_order
number_5 = refl

-- ADD | lambda | int, timestamp | timestamp
number_6 : tree_type (prim (codes "ADD") [] none) c.lambda ((k.simple s.Int) ∷ (k.simple s.Timestamp) ∷ []) ≡ goes ((k.simple
    s.Timestamp) ∷ [])
unfolding primitive_names primitives code_of_name primitive_of_code primitive_of_name former_of_name word_of_name in_order
number_6 = refl

-- ADD | lambda | mutez, mutez | mutez
number_7 : tree_type (prim (codes "ADD") [] none) c.lambda ((k.simple s.Mutez) ∷ (k.simple s.Mutez) ∷ []) ≡ goes ((k.simple
    s.Mutez) ∷ [])
unfolding primitive_names primitives code_of_name primitive_of_code primitive_of_name former_of_name word_of_name in_order
number_7 = refl

-- ADD | lambda | timestamp, nat | 0
number_8 : tree_type (prim (codes "ADD") [] none) c.lambda ((k.simple s.Timestamp) ∷ (k.simple s.Nat) ∷ []) ≡ bad 0
unfolding primitive_names primitives code_of_name primitive_of_code primitive_of_name former_of_name word_of_name in_order
number_8 = refl

-- ADD | lambda | timestamp, timestamp | 0
number_9 : tree_type (prim (codes "ADD") [] none) c.lambda ((k.simple s.Timestamp) ∷ (k.simple s.Timestamp) ∷ []) ≡ bad 0
unfolding primitive_names primitives code_of_name primitive_of_code primitive_of_name former_of_name word_of_name in_order
number_9 = refl

-- ADD | lambda | mutez, nat | 0
number_10 : tree_type (prim (codes "ADD") [] none) c.lambda ((k.simple s.Mutez) ∷ (k.simple s.Nat) ∷ []) ≡ bad 0
unfolding primitive_names primitives code_of_name primitive_of_code primitive_of_name former_of_name word_of_name in_order
number_10 = refl

-- ADD | lambda | nat, mutez | 0
number_11 : tree_type (prim (codes "ADD") [] none) c.lambda ((k.simple s.Nat) ∷ (k.simple s.Mutez) ∷ []) ≡ bad 0
unfolding primitive_names primitives code_of_name primitive_of_code primitive_of_name former_of_name word_of_name in_order
number_11 = refl

-- ADD | lambda | string, string | 0
number_12 : tree_type (prim (codes "ADD") [] none) c.lambda ((k.simple s.String) ∷ (k.simple s.String) ∷ []) ≡ bad 0
unfolding primitive_names primitives code_of_name primitive_of_code primitive_of_name former_of_name word_of_name in_order
number_12 = refl

-- ADD | lambda | nat | 0
number_13 : tree_type (prim (codes "ADD") [] none) c.lambda ((k.simple s.Nat) ∷ []) ≡ bad 0
unfolding primitive_names primitives code_of_name primitive_of_code primitive_of_name former_of_name word_of_name in_order
number_13 = refl

-- ADD 1 | lambda | nat, nat | 0
number_14 : tree_type (prim (codes "ADD") [] (more (int (pos 1)) none)) c.lambda ((k.simple s.Nat) ∷ (k.simple s.Nat) ∷ []) ≡
    bad 0
unfolding primitive_names primitives code_of_name primitive_of_code primitive_of_name former_of_name word_of_name in_order
number_14 = refl

-- SUB | lambda | nat, nat | int
number_15 : tree_type (prim (codes "SUB") [] none) c.lambda ((k.simple s.Nat) ∷ (k.simple s.Nat) ∷ []) ≡ goes ((k.simple
    s.Int) ∷ [])
unfolding primitive_names primitives code_of_name primitive_of_code primitive_of_name former_of_name word_of_name in_order
number_15 = refl

-- SUB | lambda | int, nat | int
number_16 : tree_type (prim (codes "SUB") [] none) c.lambda ((k.simple s.Int) ∷ (k.simple s.Nat) ∷ []) ≡ goes ((k.simple
    s.Int) ∷ [])
unfolding primitive_names primitives code_of_name primitive_of_code primitive_of_name former_of_name word_of_name in_order
number_16 = refl

-- SUB | lambda | nat, int | int
number_17 : tree_type (prim (codes "SUB") [] none) c.lambda ((k.simple s.Nat) ∷ (k.simple s.Int) ∷ []) ≡ goes ((k.simple
    s.Int) ∷ [])
unfolding primitive_names primitives code_of_name primitive_of_code primitive_of_name former_of_name word_of_name in_order
number_17 = refl

-- SUB | lambda | int, int | int
number_18 : tree_type (prim (codes "SUB") [] none) c.lambda ((k.simple s.Int) ∷ (k.simple s.Int) ∷ []) ≡ goes ((k.simple
    s.Int) ∷ [])
unfolding primitive_names primitives code_of_name primitive_of_code primitive_of_name former_of_name word_of_name in_order
number_18 = refl

-- SUB | lambda | timestamp, int | timestamp
number_19 : tree_type (prim (codes "SUB") [] none) c.lambda ((k.simple s.Timestamp) ∷ (k.simple s.Int) ∷ []) ≡ goes ((k.simple
    s.Timestamp) ∷ [])
unfolding primitive_names primitives code_of_name primitive_of_code primitive_of_name former_of_name word_of_name in_order
number_19 = refl

-- SUB | lambda | timestamp, timestamp | int
number_20 : tree_type (prim (codes "SUB") [] none) c.lambda ((k.simple s.Timestamp) ∷ (k.simple s.Timestamp) ∷ []) ≡ goes
    ((k.simple s.Int) ∷ [])
unfolding primitive_names primitives code_of_name primitive_of_code primitive_of_name former_of_name word_of_name in_order
number_20 = refl

-- SUB | lambda | int, timestamp | 0
number_21 : tree_type (prim (codes "SUB") [] none) c.lambda ((k.simple s.Int) ∷ (k.simple s.Timestamp) ∷ []) ≡ bad 0
unfolding primitive_names primitives code_of_name primitive_of_code primitive_of_name former_of_name word_of_name in_order
number_21 = refl

-- SUB | lambda | timestamp, nat | 0
number_22 : tree_type (prim (codes "SUB") [] none) c.lambda ((k.simple s.Timestamp) ∷ (k.simple s.Nat) ∷ []) ≡ bad 0
unfolding primitive_names primitives code_of_name primitive_of_code primitive_of_name former_of_name word_of_name in_order
number_22 = refl

-- SUB | lambda | mutez, mutez | 0
number_23 : tree_type (prim (codes "SUB") [] none) c.lambda ((k.simple s.Mutez) ∷ (k.simple s.Mutez) ∷ []) ≡ bad 0
unfolding primitive_names primitives code_of_name primitive_of_code primitive_of_name former_of_name word_of_name in_order
number_23 = refl

-- SUB_MUTEZ | lambda | mutez, mutez | option mutez
number_24 : tree_type (prim (codes "SUB_MUTEZ") [] none) c.lambda ((k.simple s.Mutez) ∷ (k.simple s.Mutez) ∷ []) ≡ goes
    ((k.option (k.simple s.Mutez)) ∷ [])
unfolding primitive_names primitives code_of_name primitive_of_code primitive_of_name former_of_name word_of_name in_order
number_24 = refl

-- SUB_MUTEZ | lambda | mutez, nat | 0
number_25 : tree_type (prim (codes "SUB_MUTEZ") [] none) c.lambda ((k.simple s.Mutez) ∷ (k.simple s.Nat) ∷ []) ≡ bad 0
unfolding primitive_names primitives code_of_name primitive_of_code primitive_of_name former_of_name word_of_name in_order
number_25 = refl

-- MUL | lambda | nat, nat | nat
number_26 : tree_type (prim (codes "MUL") [] none) c.lambda ((k.simple s.Nat) ∷ (k.simple s.Nat) ∷ []) ≡ goes ((k.simple
    s.Nat) ∷ [])
unfolding primitive_names primitives code_of_name primitive_of_code primitive_of_name former_of_name word_of_name in_order
number_26 = refl

-- MUL | lambda | nat, int | int
number_27 : tree_type (prim (codes "MUL") [] none) c.lambda ((k.simple s.Nat) ∷ (k.simple s.Int) ∷ []) ≡ goes ((k.simple
    s.Int) ∷ [])
unfolding primitive_names primitives code_of_name primitive_of_code primitive_of_name former_of_name word_of_name in_order
number_27 = refl

-- MUL | lambda | int, nat | int
number_28 : tree_type (prim (codes "MUL") [] none) c.lambda ((k.simple s.Int) ∷ (k.simple s.Nat) ∷ []) ≡ goes ((k.simple
    s.Int) ∷ [])
unfolding primitive_names primitives code_of_name primitive_of_code primitive_of_name former_of_name word_of_name in_order
number_28 = refl

-- MUL | lambda | int, int | int
number_29 : tree_type (prim (codes "MUL") [] none) c.lambda ((k.simple s.Int) ∷ (k.simple s.Int) ∷ []) ≡ goes ((k.simple
    s.Int) ∷ [])
unfolding primitive_names primitives code_of_name primitive_of_code primitive_of_name former_of_name word_of_name in_order
number_29 = refl

-- MUL | lambda | mutez, nat | mutez
number_30 : tree_type (prim (codes "MUL") [] none) c.lambda ((k.simple s.Mutez) ∷ (k.simple s.Nat) ∷ []) ≡ goes ((k.simple
    s.Mutez) ∷ [])
unfolding primitive_names primitives code_of_name primitive_of_code primitive_of_name former_of_name word_of_name in_order
number_30 = refl

-- MUL | lambda | nat, mutez | mutez
number_31 : tree_type (prim (codes "MUL") [] none) c.lambda ((k.simple s.Nat) ∷ (k.simple s.Mutez) ∷ []) ≡ goes ((k.simple
    s.Mutez) ∷ [])
unfolding primitive_names primitives code_of_name primitive_of_code primitive_of_name former_of_name word_of_name in_order
number_31 = refl

-- MUL | lambda | mutez, int | 0
number_32 : tree_type (prim (codes "MUL") [] none) c.lambda ((k.simple s.Mutez) ∷ (k.simple s.Int) ∷ []) ≡ bad 0
unfolding primitive_names primitives code_of_name primitive_of_code primitive_of_name former_of_name word_of_name in_order
number_32 = refl

-- MUL | lambda | int, mutez | 0
number_33 : tree_type (prim (codes "MUL") [] none) c.lambda ((k.simple s.Int) ∷ (k.simple s.Mutez) ∷ []) ≡ bad 0
unfolding primitive_names primitives code_of_name primitive_of_code primitive_of_name former_of_name word_of_name in_order
number_33 = refl

-- MUL | lambda | mutez, mutez | 0
number_34 : tree_type (prim (codes "MUL") [] none) c.lambda ((k.simple s.Mutez) ∷ (k.simple s.Mutez) ∷ []) ≡ bad 0
unfolding primitive_names primitives code_of_name primitive_of_code primitive_of_name former_of_name word_of_name in_order
number_34 = refl

-- MUL | lambda | timestamp, int | 0
number_35 : tree_type (prim (codes "MUL") [] none) c.lambda ((k.simple s.Timestamp) ∷ (k.simple s.Int) ∷ []) ≡ bad 0
unfolding primitive_names primitives code_of_name primitive_of_code primitive_of_name former_of_name word_of_name in_order
number_35 = refl

-- EDIV | lambda | nat, nat | option (pair nat nat)
number_36 : tree_type (prim (codes "EDIV") [] none) c.lambda ((k.simple s.Nat) ∷ (k.simple s.Nat) ∷ []) ≡ goes ((k.option
    (k.pair (k.simple s.Nat) (k.simple s.Nat))) ∷ [])
unfolding primitive_names primitives code_of_name primitive_of_code primitive_of_name former_of_name word_of_name in_order
number_36 = refl

-- EDIV | lambda | nat, int | option (pair int nat)
number_37 : tree_type (prim (codes "EDIV") [] none) c.lambda ((k.simple s.Nat) ∷ (k.simple s.Int) ∷ []) ≡ goes ((k.option
    (k.pair (k.simple s.Int) (k.simple s.Nat))) ∷ [])
unfolding primitive_names primitives code_of_name primitive_of_code primitive_of_name former_of_name word_of_name in_order
number_37 = refl

-- EDIV | lambda | int, nat | option (pair int nat)
number_38 : tree_type (prim (codes "EDIV") [] none) c.lambda ((k.simple s.Int) ∷ (k.simple s.Nat) ∷ []) ≡ goes ((k.option
    (k.pair (k.simple s.Int) (k.simple s.Nat))) ∷ [])
unfolding primitive_names primitives code_of_name primitive_of_code primitive_of_name former_of_name word_of_name in_order
number_38 = refl

-- EDIV | lambda | int, int | option (pair int nat)
number_39 : tree_type (prim (codes "EDIV") [] none) c.lambda ((k.simple s.Int) ∷ (k.simple s.Int) ∷ []) ≡ goes ((k.option
    (k.pair (k.simple s.Int) (k.simple s.Nat))) ∷ [])
unfolding primitive_names primitives code_of_name primitive_of_code primitive_of_name former_of_name word_of_name in_order
number_39 = refl

-- EDIV | lambda | mutez, nat | option (pair mutez mutez)
number_40 : tree_type (prim (codes "EDIV") [] none) c.lambda ((k.simple s.Mutez) ∷ (k.simple s.Nat) ∷ []) ≡ goes ((k.option
    (k.pair (k.simple s.Mutez) (k.simple s.Mutez))) ∷ [])
unfolding primitive_names primitives code_of_name primitive_of_code primitive_of_name former_of_name word_of_name in_order
number_40 = refl

-- EDIV | lambda | mutez, mutez | option (pair nat mutez)
number_41 : tree_type (prim (codes "EDIV") [] none) c.lambda ((k.simple s.Mutez) ∷ (k.simple s.Mutez) ∷ []) ≡ goes ((k.option
    (k.pair (k.simple s.Nat) (k.simple s.Mutez))) ∷ [])
unfolding primitive_names primitives code_of_name primitive_of_code primitive_of_name former_of_name word_of_name in_order
number_41 = refl

-- EDIV | lambda | nat, mutez | 0
number_42 : tree_type (prim (codes "EDIV") [] none) c.lambda ((k.simple s.Nat) ∷ (k.simple s.Mutez) ∷ []) ≡ bad 0
unfolding primitive_names primitives code_of_name primitive_of_code primitive_of_name former_of_name word_of_name in_order
number_42 = refl

-- EDIV | lambda | mutez, int | 0
number_43 : tree_type (prim (codes "EDIV") [] none) c.lambda ((k.simple s.Mutez) ∷ (k.simple s.Int) ∷ []) ≡ bad 0
unfolding primitive_names primitives code_of_name primitive_of_code primitive_of_name former_of_name word_of_name in_order
number_43 = refl

-- ABS | lambda | int | nat
number_44 : tree_type (prim (codes "ABS") [] none) c.lambda ((k.simple s.Int) ∷ []) ≡ goes ((k.simple s.Nat) ∷ [])
unfolding primitive_names primitives code_of_name primitive_of_code primitive_of_name former_of_name word_of_name in_order
number_44 = refl

-- ABS | lambda | nat | 0
number_45 : tree_type (prim (codes "ABS") [] none) c.lambda ((k.simple s.Nat) ∷ []) ≡ bad 0
unfolding primitive_names primitives code_of_name primitive_of_code primitive_of_name former_of_name word_of_name in_order
number_45 = refl

-- NEG | lambda | int | int
number_46 : tree_type (prim (codes "NEG") [] none) c.lambda ((k.simple s.Int) ∷ []) ≡ goes ((k.simple s.Int) ∷ [])
unfolding primitive_names primitives code_of_name primitive_of_code primitive_of_name former_of_name word_of_name in_order
number_46 = refl

-- NEG | lambda | nat | int
number_47 : tree_type (prim (codes "NEG") [] none) c.lambda ((k.simple s.Nat) ∷ []) ≡ goes ((k.simple s.Int) ∷ [])
unfolding primitive_names primitives code_of_name primitive_of_code primitive_of_name former_of_name word_of_name in_order
number_47 = refl

-- NEG | lambda | mutez | 0
number_48 : tree_type (prim (codes "NEG") [] none) c.lambda ((k.simple s.Mutez) ∷ []) ≡ bad 0
unfolding primitive_names primitives code_of_name primitive_of_code primitive_of_name former_of_name word_of_name in_order
number_48 = refl

-- INT | lambda | nat | int
number_49 : tree_type (prim (codes "INT") [] none) c.lambda ((k.simple s.Nat) ∷ []) ≡ goes ((k.simple s.Int) ∷ [])
unfolding primitive_names primitives code_of_name primitive_of_code primitive_of_name former_of_name word_of_name in_order
number_49 = refl

-- INT | lambda | int | 0
number_50 : tree_type (prim (codes "INT") [] none) c.lambda ((k.simple s.Int) ∷ []) ≡ bad 0
unfolding primitive_names primitives code_of_name primitive_of_code primitive_of_name former_of_name word_of_name in_order
number_50 = refl

-- INT | lambda | bytes | int
number_51 : tree_type (prim (codes "INT") [] none) c.lambda ((k.simple s.Bytes) ∷ []) ≡ goes ((k.simple s.Int) ∷ [])
unfolding primitive_names primitives code_of_name primitive_of_code primitive_of_name former_of_name word_of_name in_order
number_51 = refl

-- ISNAT | lambda | int | option nat
number_52 : tree_type (prim (codes "ISNAT") [] none) c.lambda ((k.simple s.Int) ∷ []) ≡ goes ((k.option (k.simple s.Nat)) ∷
    [])
unfolding primitive_names primitives code_of_name primitive_of_code primitive_of_name former_of_name word_of_name in_order
number_52 = refl

-- ISNAT | lambda | nat | 0
number_53 : tree_type (prim (codes "ISNAT") [] none) c.lambda ((k.simple s.Nat) ∷ []) ≡ bad 0
unfolding primitive_names primitives code_of_name primitive_of_code primitive_of_name former_of_name word_of_name in_order
number_53 = refl

-- LSL | lambda | nat, nat | nat
number_54 : tree_type (prim (codes "LSL") [] none) c.lambda ((k.simple s.Nat) ∷ (k.simple s.Nat) ∷ []) ≡ goes ((k.simple
    s.Nat) ∷ [])
unfolding primitive_names primitives code_of_name primitive_of_code primitive_of_name former_of_name word_of_name in_order
number_54 = refl

-- LSL | lambda | int, nat | 0
number_55 : tree_type (prim (codes "LSL") [] none) c.lambda ((k.simple s.Int) ∷ (k.simple s.Nat) ∷ []) ≡ bad 0
unfolding primitive_names primitives code_of_name primitive_of_code primitive_of_name former_of_name word_of_name in_order
number_55 = refl

-- LSR | lambda | nat, nat | nat
number_56 : tree_type (prim (codes "LSR") [] none) c.lambda ((k.simple s.Nat) ∷ (k.simple s.Nat) ∷ []) ≡ goes ((k.simple
    s.Nat) ∷ [])
unfolding primitive_names primitives code_of_name primitive_of_code primitive_of_name former_of_name word_of_name in_order
number_56 = refl

-- LSR | lambda | nat, int | 0
number_57 : tree_type (prim (codes "LSR") [] none) c.lambda ((k.simple s.Nat) ∷ (k.simple s.Int) ∷ []) ≡ bad 0
unfolding primitive_names primitives code_of_name primitive_of_code primitive_of_name former_of_name word_of_name in_order
number_57 = refl

-- AND | lambda | bool, bool | bool
number_58 : tree_type (prim (codes "AND") [] none) c.lambda ((k.simple s.Bool) ∷ (k.simple s.Bool) ∷ []) ≡ goes ((k.simple
    s.Bool) ∷ [])
unfolding primitive_names primitives code_of_name primitive_of_code primitive_of_name former_of_name word_of_name in_order
number_58 = refl

-- AND | lambda | nat, nat | nat
number_59 : tree_type (prim (codes "AND") [] none) c.lambda ((k.simple s.Nat) ∷ (k.simple s.Nat) ∷ []) ≡ goes ((k.simple
    s.Nat) ∷ [])
unfolding primitive_names primitives code_of_name primitive_of_code primitive_of_name former_of_name word_of_name in_order
number_59 = refl

-- AND | lambda | int, nat | nat
number_60 : tree_type (prim (codes "AND") [] none) c.lambda ((k.simple s.Int) ∷ (k.simple s.Nat) ∷ []) ≡ goes ((k.simple
    s.Nat) ∷ [])
unfolding primitive_names primitives code_of_name primitive_of_code primitive_of_name former_of_name word_of_name in_order
number_60 = refl

-- AND | lambda | nat, int | 0
number_61 : tree_type (prim (codes "AND") [] none) c.lambda ((k.simple s.Nat) ∷ (k.simple s.Int) ∷ []) ≡ bad 0
unfolding primitive_names primitives code_of_name primitive_of_code primitive_of_name former_of_name word_of_name in_order
number_61 = refl

-- AND | lambda | int, int | 0
number_62 : tree_type (prim (codes "AND") [] none) c.lambda ((k.simple s.Int) ∷ (k.simple s.Int) ∷ []) ≡ bad 0
unfolding primitive_names primitives code_of_name primitive_of_code primitive_of_name former_of_name word_of_name in_order
number_62 = refl

-- AND | lambda | bytes, bytes | 0
number_63 : tree_type (prim (codes "AND") [] none) c.lambda ((k.simple s.Bytes) ∷ (k.simple s.Bytes) ∷ []) ≡ bad 0
unfolding primitive_names primitives code_of_name primitive_of_code primitive_of_name former_of_name word_of_name in_order
number_63 = refl

-- OR | lambda | bool, bool | bool
number_64 : tree_type (prim (codes "OR") [] none) c.lambda ((k.simple s.Bool) ∷ (k.simple s.Bool) ∷ []) ≡ goes ((k.simple
    s.Bool) ∷ [])
unfolding primitive_names primitives code_of_name primitive_of_code primitive_of_name former_of_name word_of_name in_order
number_64 = refl

-- OR | lambda | nat, nat | nat
number_65 : tree_type (prim (codes "OR") [] none) c.lambda ((k.simple s.Nat) ∷ (k.simple s.Nat) ∷ []) ≡ goes ((k.simple s.Nat)
    ∷ [])
unfolding primitive_names primitives code_of_name primitive_of_code primitive_of_name former_of_name word_of_name in_order
number_65 = refl

-- OR | lambda | int, nat | 0
number_66 : tree_type (prim (codes "OR") [] none) c.lambda ((k.simple s.Int) ∷ (k.simple s.Nat) ∷ []) ≡ bad 0
unfolding primitive_names primitives code_of_name primitive_of_code primitive_of_name former_of_name word_of_name in_order
number_66 = refl

-- OR | lambda | bool, nat | 0
number_67 : tree_type (prim (codes "OR") [] none) c.lambda ((k.simple s.Bool) ∷ (k.simple s.Nat) ∷ []) ≡ bad 0
unfolding primitive_names primitives code_of_name primitive_of_code primitive_of_name former_of_name word_of_name in_order
number_67 = refl

-- XOR | lambda | bool, bool | bool
number_68 : tree_type (prim (codes "XOR") [] none) c.lambda ((k.simple s.Bool) ∷ (k.simple s.Bool) ∷ []) ≡ goes ((k.simple
    s.Bool) ∷ [])
unfolding primitive_names primitives code_of_name primitive_of_code primitive_of_name former_of_name word_of_name in_order
number_68 = refl

-- XOR | lambda | nat, nat | nat
number_69 : tree_type (prim (codes "XOR") [] none) c.lambda ((k.simple s.Nat) ∷ (k.simple s.Nat) ∷ []) ≡ goes ((k.simple
    s.Nat) ∷ [])
unfolding primitive_names primitives code_of_name primitive_of_code primitive_of_name former_of_name word_of_name in_order
number_69 = refl

-- XOR | lambda | nat, bool | 0
number_70 : tree_type (prim (codes "XOR") [] none) c.lambda ((k.simple s.Nat) ∷ (k.simple s.Bool) ∷ []) ≡ bad 0
unfolding primitive_names primitives code_of_name primitive_of_code primitive_of_name former_of_name word_of_name in_order
number_70 = refl

-- NOT | lambda | bool | bool
number_71 : tree_type (prim (codes "NOT") [] none) c.lambda ((k.simple s.Bool) ∷ []) ≡ goes ((k.simple s.Bool) ∷ [])
unfolding primitive_names primitives code_of_name primitive_of_code primitive_of_name former_of_name word_of_name in_order
number_71 = refl

-- NOT | lambda | nat | int
number_72 : tree_type (prim (codes "NOT") [] none) c.lambda ((k.simple s.Nat) ∷ []) ≡ goes ((k.simple s.Int) ∷ [])
unfolding primitive_names primitives code_of_name primitive_of_code primitive_of_name former_of_name word_of_name in_order
number_72 = refl

-- NOT | lambda | int | int
number_73 : tree_type (prim (codes "NOT") [] none) c.lambda ((k.simple s.Int) ∷ []) ≡ goes ((k.simple s.Int) ∷ [])
unfolding primitive_names primitives code_of_name primitive_of_code primitive_of_name former_of_name word_of_name in_order
number_73 = refl

-- NOT | lambda | string | 0
number_74 : tree_type (prim (codes "NOT") [] none) c.lambda ((k.simple s.String) ∷ []) ≡ bad 0
unfolding primitive_names primitives code_of_name primitive_of_code primitive_of_name former_of_name word_of_name in_order
number_74 = refl

-- COMPARE | lambda | nat, nat | int
number_75 : tree_type (prim (codes "COMPARE") [] none) c.lambda ((k.simple s.Nat) ∷ (k.simple s.Nat) ∷ []) ≡ goes ((k.simple
    s.Int) ∷ [])
unfolding primitive_names primitives code_of_name primitive_of_code primitive_of_name former_of_name word_of_name in_order
number_75 = refl

-- COMPARE | lambda | pair nat (option string), pair nat (option string) | int
number_76 : tree_type (prim (codes "COMPARE") [] none) c.lambda ((k.pair (k.simple s.Nat) (k.option (k.simple s.String))) ∷
    (k.pair (k.simple s.Nat) (k.option (k.simple s.String))) ∷ []) ≡ goes ((k.simple s.Int) ∷ [])
unfolding primitive_names primitives code_of_name primitive_of_code primitive_of_name former_of_name word_of_name in_order
number_76 = refl

-- COMPARE | lambda | nat, int | 0
number_77 : tree_type (prim (codes "COMPARE") [] none) c.lambda ((k.simple s.Nat) ∷ (k.simple s.Int) ∷ []) ≡ bad 0
unfolding primitive_names primitives code_of_name primitive_of_code primitive_of_name former_of_name word_of_name in_order
number_77 = refl

-- COMPARE | lambda | list nat, list nat | 0
number_78 : tree_type (prim (codes "COMPARE") [] none) c.lambda ((k.list (k.simple s.Nat)) ∷ (k.list (k.simple s.Nat)) ∷ []) ≡
    bad 0
unfolding primitive_names primitives code_of_name primitive_of_code primitive_of_name former_of_name word_of_name in_order
number_78 = refl

-- EQ | lambda | int, unit | bool, unit
number_79 : tree_type (prim (codes "EQ") [] none) c.lambda ((k.simple s.Int) ∷ (k.simple s.Unit) ∷ []) ≡ goes ((k.simple
    s.Bool) ∷ (k.simple s.Unit) ∷ [])
unfolding primitive_names primitives code_of_name primitive_of_code primitive_of_name former_of_name word_of_name in_order
number_79 = refl

-- EQ | lambda | nat | 0
number_80 : tree_type (prim (codes "EQ") [] none) c.lambda ((k.simple s.Nat) ∷ []) ≡ bad 0
unfolding primitive_names primitives code_of_name primitive_of_code primitive_of_name former_of_name word_of_name in_order
number_80 = refl

-- NEQ | lambda | int | bool
number_81 : tree_type (prim (codes "NEQ") [] none) c.lambda ((k.simple s.Int) ∷ []) ≡ goes ((k.simple s.Bool) ∷ [])
unfolding primitive_names primitives code_of_name primitive_of_code primitive_of_name former_of_name word_of_name in_order
number_81 = refl

-- LT | lambda | int | bool
number_82 : tree_type (prim (codes "LT") [] none) c.lambda ((k.simple s.Int) ∷ []) ≡ goes ((k.simple s.Bool) ∷ [])
unfolding primitive_names primitives code_of_name primitive_of_code primitive_of_name former_of_name word_of_name in_order
number_82 = refl

-- GT | lambda | int | bool
number_83 : tree_type (prim (codes "GT") [] none) c.lambda ((k.simple s.Int) ∷ []) ≡ goes ((k.simple s.Bool) ∷ [])
unfolding primitive_names primitives code_of_name primitive_of_code primitive_of_name former_of_name word_of_name in_order
number_83 = refl

-- LE | lambda | int | bool
number_84 : tree_type (prim (codes "LE") [] none) c.lambda ((k.simple s.Int) ∷ []) ≡ goes ((k.simple s.Bool) ∷ [])
unfolding primitive_names primitives code_of_name primitive_of_code primitive_of_name former_of_name word_of_name in_order
number_84 = refl

-- GE | lambda | int | bool
number_85 : tree_type (prim (codes "GE") [] none) c.lambda ((k.simple s.Int) ∷ []) ≡ goes ((k.simple s.Bool) ∷ [])
unfolding primitive_names primitives code_of_name primitive_of_code primitive_of_name former_of_name word_of_name in_order
number_85 = refl

-- GE | lambda | - | 0
number_86 : tree_type (prim (codes "GE") [] none) c.lambda [] ≡ bad 0
unfolding primitive_names primitives code_of_name primitive_of_code primitive_of_name former_of_name word_of_name in_order
number_86 = refl

-- BYTES | lambda | nat | bytes
number_87 : tree_type (prim (codes "BYTES") [] none) c.lambda ((k.simple s.Nat) ∷ []) ≡ goes ((k.simple s.Bytes) ∷ [])
unfolding primitive_names primitives code_of_name primitive_of_code primitive_of_name former_of_name word_of_name in_order
number_87 = refl

-- BYTES | lambda | int | bytes
number_88 : tree_type (prim (codes "BYTES") [] none) c.lambda ((k.simple s.Int) ∷ []) ≡ goes ((k.simple s.Bytes) ∷ [])
unfolding primitive_names primitives code_of_name primitive_of_code primitive_of_name former_of_name word_of_name in_order
number_88 = refl

-- BYTES | lambda | bytes | 0
number_89 : tree_type (prim (codes "BYTES") [] none) c.lambda ((k.simple s.Bytes) ∷ []) ≡ bad 0
unfolding primitive_names primitives code_of_name primitive_of_code primitive_of_name former_of_name word_of_name in_order
number_89 = refl

-- BYTES | lambda | timestamp | 0
number_90 : tree_type (prim (codes "BYTES") [] none) c.lambda ((k.simple s.Timestamp) ∷ []) ≡ bad 0
unfolding primitive_names primitives code_of_name primitive_of_code primitive_of_name former_of_name word_of_name in_order
number_90 = refl

-- BYTES | lambda | - | 0
number_91 : tree_type (prim (codes "BYTES") [] none) c.lambda [] ≡ bad 0
unfolding primitive_names primitives code_of_name primitive_of_code primitive_of_name former_of_name word_of_name in_order
number_91 = refl

-- NAT | lambda | bytes | nat
number_92 : tree_type (prim (codes "NAT") [] none) c.lambda ((k.simple s.Bytes) ∷ []) ≡ goes ((k.simple s.Nat) ∷ [])
unfolding primitive_names primitives code_of_name primitive_of_code primitive_of_name former_of_name word_of_name in_order
number_92 = refl

-- NAT | lambda | int | 0
number_93 : tree_type (prim (codes "NAT") [] none) c.lambda ((k.simple s.Int) ∷ []) ≡ bad 0
unfolding primitive_names primitives code_of_name primitive_of_code primitive_of_name former_of_name word_of_name in_order
number_93 = refl

-- NAT | lambda | string | 0
number_94 : tree_type (prim (codes "NAT") [] none) c.lambda ((k.simple s.String) ∷ []) ≡ bad 0
unfolding primitive_names primitives code_of_name primitive_of_code primitive_of_name former_of_name word_of_name in_order
number_94 = refl

-- NAT | lambda | - | 0
number_95 : tree_type (prim (codes "NAT") [] none) c.lambda [] ≡ bad 0
unfolding primitive_names primitives code_of_name primitive_of_code primitive_of_name former_of_name word_of_name in_order
number_95 = refl

-- INT | lambda | string | 0
number_96 : tree_type (prim (codes "INT") [] none) c.lambda ((k.simple s.String) ∷ []) ≡ bad 0
unfolding primitive_names primitives code_of_name primitive_of_code primitive_of_name former_of_name word_of_name in_order
number_96 = refl

-- INT | lambda | - | 0
number_97 : tree_type (prim (codes "INT") [] none) c.lambda [] ≡ bad 0
unfolding primitive_names primitives code_of_name primitive_of_code primitive_of_name former_of_name word_of_name in_order
number_97 = refl

-- BYTES 1 | lambda | nat | 0
number_98 : tree_type (prim (codes "BYTES") [] (more (int (pos 1)) none)) c.lambda ((k.simple s.Nat) ∷ []) ≡ bad 0
unfolding primitive_names primitives code_of_name primitive_of_code primitive_of_name former_of_name word_of_name in_order
number_98 = refl
