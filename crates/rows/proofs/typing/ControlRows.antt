-- Blocks, literals, bodies and scripts within code.
use Rattle.std.specs.Prelude.{◌≡◌, refl, pos, negsuc, [], ◌∷◌, codes}
use Rattle.rules_text.specs.nodes.Tree.{int, prim, seq, none, more}
use Rattle.rules_text.specs.nodes.Primitives.{primitive_names, primitives, code_of_name, primitive_of_code, primitive_of_name}
use Rattle.rules_data.specs.declared.types.Simple.TheVariants as s
use Rattle.rules_data.specs.types.Kind as k
use Rattle.rules_data.specs.types.Reading.{former_of_name}
use Rattle.rules_data.specs.types.Entrypoints.{in_order}
use Rattle.rules_data.specs.values.Literals.{word_of_name}
use Rattle.rules_code.specs.instructions.Context as c
use Rattle.rules_code.specs.typing.Typing.{goes, fails, bad}
use Rattle.rules_code.specs.typing.Nodes.{tree_type}
use Rattle.rows.specs.typing.Told.{main_entries}

-- {} | lambda | nat | nat
control_1 : tree_type (seq none) c.lambda ((k.simple s.Nat) ∷ []) ≡ goes ((k.simple s.Nat) ∷ [])
unfolding primitive_names primitives code_of_name primitive_of_code primitive_of_name former_of_name word_of_name in_order
control_1 = refl

-- { DROP ; UNIT } | lambda | nat, int | unit, int
control_2 : tree_type (seq (more (prim (codes "DROP") [] none) (more (prim (codes "UNIT") [] none) none))) c.lambda ((k.simple
    s.Nat) ∷ (k.simple s.Int) ∷ []) ≡ goes ((k.simple s.Unit) ∷ (k.simple s.Int) ∷ [])
unfolding primitive_names primitives code_of_name primitive_of_code primitive_of_name former_of_name word_of_name in_order
control_2 = refl

-- { DROP ; DROP ; UNIT } | lambda | nat | 2
control_3 : tree_type (seq (more (prim (codes "DROP") [] none) (more (prim (codes "DROP") [] none) (more (prim (codes "UNIT")
    [] none) none)))) c.lambda ((k.simple s.Nat) ∷ []) ≡ bad 2
unfolding primitive_names primitives code_of_name primitive_of_code primitive_of_name former_of_name word_of_name in_order
control_3 = refl

-- { DROP ; { UNIT ; 5 } } | lambda | nat | 4
control_4 : tree_type (seq (more (prim (codes "DROP") [] none) (more (seq (more (prim (codes "UNIT") [] none) (more (int (pos
    5)) none))) none))) c.lambda ((k.simple s.Nat) ∷ []) ≡ bad 4
unfolding primitive_names primitives code_of_name primitive_of_code primitive_of_name former_of_name word_of_name in_order
control_4 = refl

-- { FAILWITH } | lambda | nat | fails
control_5 : tree_type (seq (more (prim (codes "FAILWITH") [] none) none)) c.lambda ((k.simple s.Nat) ∷ []) ≡ fails
unfolding primitive_names primitives code_of_name primitive_of_code primitive_of_name former_of_name word_of_name in_order
control_5 = refl

-- { { FAILWITH } } | lambda | nat | fails
control_6 : tree_type (seq (more (seq (more (prim (codes "FAILWITH") [] none) none)) none)) c.lambda ((k.simple s.Nat) ∷ []) ≡
    fails
unfolding primitive_names primitives code_of_name primitive_of_code primitive_of_name former_of_name word_of_name in_order
control_6 = refl

-- { { FAILWITH } ; UNIT } | lambda | nat | 1
control_7 : tree_type (seq (more (seq (more (prim (codes "FAILWITH") [] none) none)) (more (prim (codes "UNIT") [] none)
    none))) c.lambda ((k.simple s.Nat) ∷ []) ≡ bad 1
unfolding primitive_names primitives code_of_name primitive_of_code primitive_of_name former_of_name word_of_name in_order
control_7 = refl

-- { FAILWITH ; UNIT } | lambda | nat | 1
control_8 : tree_type (seq (more (prim (codes "FAILWITH") [] none) (more (prim (codes "UNIT") [] none) none))) c.lambda
    ((k.simple s.Nat) ∷ []) ≡ bad 1
unfolding primitive_names primitives code_of_name primitive_of_code primitive_of_name former_of_name word_of_name in_order
control_8 = refl

-- { UNIT ; FAILWITH ; FOO } | lambda | nat | 2
control_9 : tree_type (seq (more (prim (codes "UNIT") [] none) (more (prim (codes "FAILWITH") [] none) (more (prim (codes
    "FOO") [] none) none)))) c.lambda ((k.simple s.Nat) ∷ []) ≡ bad 2
unfolding primitive_names primitives code_of_name primitive_of_code primitive_of_name former_of_name word_of_name in_order
control_9 = refl

-- PUSH nat 5 | lambda | unit | nat, unit
control_10 : tree_type (prim (codes "PUSH") [] (more (prim (codes "nat") [] none) (more (int (pos 5)) none))) c.lambda
    ((k.simple s.Unit) ∷ []) ≡ goes ((k.simple s.Nat) ∷ (k.simple s.Unit) ∷ [])
unfolding primitive_names primitives code_of_name primitive_of_code primitive_of_name former_of_name word_of_name in_order
control_10 = refl

-- PUSH nat -5 | lambda | unit | 2
control_11 : tree_type (prim (codes "PUSH") [] (more (prim (codes "nat") [] none) (more (int (negsuc 4)) none))) c.lambda
    ((k.simple s.Unit) ∷ []) ≡ bad 2
unfolding primitive_names primitives code_of_name primitive_of_code primitive_of_name former_of_name word_of_name in_order
control_11 = refl

-- PUSH (pair nat nat) (Pair 1 -1) | lambda | unit | 6
control_12 : tree_type (prim (codes "PUSH") [] (more (prim (codes "pair") [] (more (prim (codes "nat") [] none) (more (prim
    (codes "nat") [] none) none))) (more (prim (codes "Pair") [] (more (int (pos 1)) (more (int (negsuc 0)) none))) none)))
    c.lambda ((k.simple s.Unit) ∷ []) ≡ bad 6
unfolding primitive_names primitives code_of_name primitive_of_code primitive_of_name former_of_name word_of_name in_order
control_12 = refl

-- PUSH (list nat) { 1 ; -1 } | lambda | unit | 5
control_13 : tree_type (prim (codes "PUSH") [] (more (prim (codes "list") [] (more (prim (codes "nat") [] none) none)) (more
    (seq (more (int (pos 1)) (more (int (negsuc 0)) none))) none))) c.lambda ((k.simple s.Unit) ∷ []) ≡ bad 5
unfolding primitive_names primitives code_of_name primitive_of_code primitive_of_name former_of_name word_of_name in_order
control_13 = refl

-- PUSH operation 5 | lambda | unit | 1
control_14 : tree_type (prim (codes "PUSH") [] (more (prim (codes "operation") [] none) (more (int (pos 5)) none))) c.lambda
    ((k.simple s.Unit) ∷ []) ≡ bad 1
unfolding primitive_names primitives code_of_name primitive_of_code primitive_of_name former_of_name word_of_name in_order
control_14 = refl

-- PUSH (pair nat (contract unit)) 5 | lambda | unit | 1
control_15 : tree_type (prim (codes "PUSH") [] (more (prim (codes "pair") [] (more (prim (codes "nat") [] none) (more (prim
    (codes "contract") [] (more (prim (codes "unit") [] none) none)) none))) (more (int (pos 5)) none))) c.lambda ((k.simple
    s.Unit) ∷ []) ≡ bad 1
unfolding primitive_names primitives code_of_name primitive_of_code primitive_of_name former_of_name word_of_name in_order
control_15 = refl

-- PUSH (pair nat foo) 5 | lambda | unit | 3
control_16 : tree_type (prim (codes "PUSH") [] (more (prim (codes "pair") [] (more (prim (codes "nat") [] none) (more (prim
    (codes "foo") [] none) none))) (more (int (pos 5)) none))) c.lambda ((k.simple s.Unit) ∷ []) ≡ bad 3
unfolding primitive_names primitives code_of_name primitive_of_code primitive_of_name former_of_name word_of_name in_order
control_16 = refl

-- PUSH nat | lambda | unit | 0
control_17 : tree_type (prim (codes "PUSH") [] (more (prim (codes "nat") [] none) none)) c.lambda ((k.simple s.Unit) ∷ []) ≡
    bad 0
unfolding primitive_names primitives code_of_name primitive_of_code primitive_of_name former_of_name word_of_name in_order
control_17 = refl

-- PUSH (lambda nat nat) {} | lambda | unit | lambda nat nat, unit
control_18 : tree_type (prim (codes "PUSH") [] (more (prim (codes "lambda") [] (more (prim (codes "nat") [] none) (more (prim
    (codes "nat") [] none) none))) (more (seq none) none))) c.lambda ((k.simple s.Unit) ∷ []) ≡ goes ((k.lambda (k.simple
    s.Nat) (k.simple s.Nat)) ∷ (k.simple s.Unit) ∷ [])
unfolding primitive_names primitives code_of_name primitive_of_code primitive_of_name former_of_name word_of_name in_order
control_18 = refl

-- PUSH (lambda nat nat) { UNIT ; FAILWITH } | lambda | unit | lambda nat nat, unit
control_19 : tree_type (prim (codes "PUSH") [] (more (prim (codes "lambda") [] (more (prim (codes "nat") [] none) (more (prim
    (codes "nat") [] none) none))) (more (seq (more (prim (codes "UNIT") [] none) (more (prim (codes "FAILWITH") [] none)
    none))) none))) c.lambda ((k.simple s.Unit) ∷ []) ≡ goes ((k.lambda (k.simple s.Nat) (k.simple s.Nat)) ∷ (k.simple s.Unit)
    ∷ [])
unfolding primitive_names primitives code_of_name primitive_of_code primitive_of_name former_of_name word_of_name in_order
control_19 = refl

-- PUSH (lambda nat nat) { UNIT } | lambda | unit | 4
control_20 : tree_type (prim (codes "PUSH") [] (more (prim (codes "lambda") [] (more (prim (codes "nat") [] none) (more (prim
    (codes "nat") [] none) none))) (more (seq (more (prim (codes "UNIT") [] none) none)) none))) c.lambda ((k.simple s.Unit) ∷
    []) ≡ bad 4
unfolding primitive_names primitives code_of_name primitive_of_code primitive_of_name former_of_name word_of_name in_order
control_20 = refl

-- PUSH (lambda nat nat) { UNIT ; ADD } | lambda | unit | 6
control_21 : tree_type (prim (codes "PUSH") [] (more (prim (codes "lambda") [] (more (prim (codes "nat") [] none) (more (prim
    (codes "nat") [] none) none))) (more (seq (more (prim (codes "UNIT") [] none) (more (prim (codes "ADD") [] none) none)))
    none))) c.lambda ((k.simple s.Unit) ∷ []) ≡ bad 6
unfolding primitive_names primitives code_of_name primitive_of_code primitive_of_name former_of_name word_of_name in_order
control_21 = refl

-- PUSH (lambda nat nat) (Lambda_rec { DIP { DROP } }) | lambda | - | lambda nat nat
control_22 : tree_type (prim (codes "PUSH") [] (more (prim (codes "lambda") [] (more (prim (codes "nat") [] none) (more (prim
    (codes "nat") [] none) none))) (more (prim (codes "Lambda_rec") [] (more (seq (more (prim (codes "DIP") [] (more (seq
    (more (prim (codes "DROP") [] none) none)) none)) none)) none)) none))) c.lambda [] ≡ goes ((k.lambda (k.simple s.Nat)
    (k.simple s.Nat)) ∷ [])
unfolding primitive_names primitives code_of_name primitive_of_code primitive_of_name former_of_name word_of_name in_order
control_22 = refl

-- PUSH (lambda nat nat) (Lambda_rec { UNIT ; FOO }) | lambda | - | 7
control_23 : tree_type (prim (codes "PUSH") [] (more (prim (codes "lambda") [] (more (prim (codes "nat") [] none) (more (prim
    (codes "nat") [] none) none))) (more (prim (codes "Lambda_rec") [] (more (seq (more (prim (codes "UNIT") [] none) (more
    (prim (codes "FOO") [] none) none))) none)) none))) c.lambda [] ≡ bad 7
unfolding primitive_names primitives code_of_name primitive_of_code primitive_of_name former_of_name word_of_name in_order
control_23 = refl

-- PUSH (lambda nat nat) (Lambda_rec 5) | lambda | - | 5
control_24 : tree_type (prim (codes "PUSH") [] (more (prim (codes "lambda") [] (more (prim (codes "nat") [] none) (more (prim
    (codes "nat") [] none) none))) (more (prim (codes "Lambda_rec") [] (more (int (pos 5)) none)) none))) c.lambda [] ≡ bad 5
unfolding primitive_names primitives code_of_name primitive_of_code primitive_of_name former_of_name word_of_name in_order
control_24 = refl

-- PUSH (lambda nat nat) (Lambda_rec {} {}) | lambda | - | 4
control_25 : tree_type (prim (codes "PUSH") [] (more (prim (codes "lambda") [] (more (prim (codes "nat") [] none) (more (prim
    (codes "nat") [] none) none))) (more (prim (codes "Lambda_rec") [] (more (seq none) (more (seq none) none))) none)))
    c.lambda [] ≡ bad 4
unfolding primitive_names primitives code_of_name primitive_of_code primitive_of_name former_of_name word_of_name in_order
control_25 = refl

-- PUSH (pair (lambda nat nat) nat) (Pair { FOO } -1) | lambda | - | 9
control_26 : tree_type (prim (codes "PUSH") [] (more (prim (codes "pair") [] (more (prim (codes "lambda") [] (more (prim
    (codes "nat") [] none) (more (prim (codes "nat") [] none) none))) (more (prim (codes "nat") [] none) none))) (more (prim
    (codes "Pair") [] (more (seq (more (prim (codes "FOO") [] none) none)) (more (int (negsuc 0)) none))) none))) c.lambda []
    ≡ bad 9
unfolding primitive_names primitives code_of_name primitive_of_code primitive_of_name former_of_name word_of_name in_order
control_26 = refl

-- PUSH (pair (lambda nat nat) (lambda nat nat)) (Pair { DROP ; UNIT } { FOO }) | lambda | - | 9
control_27 : tree_type (prim (codes "PUSH") [] (more (prim (codes "pair") [] (more (prim (codes "lambda") [] (more (prim
    (codes "nat") [] none) (more (prim (codes "nat") [] none) none))) (more (prim (codes "lambda") [] (more (prim (codes
    "nat") [] none) (more (prim (codes "nat") [] none) none))) none))) (more (prim (codes "Pair") [] (more (seq (more (prim
    (codes "DROP") [] none) (more (prim (codes "UNIT") [] none) none))) (more (seq (more (prim (codes "FOO") [] none) none))
    none))) none))) c.lambda [] ≡ bad 9
unfolding primitive_names primitives code_of_name primitive_of_code primitive_of_name former_of_name word_of_name in_order
control_27 = refl

-- PUSH (pair (lambda nat nat) (lambda nat nat)) (Pair {} { FOO }) | lambda | - | 11
control_28 : tree_type (prim (codes "PUSH") [] (more (prim (codes "pair") [] (more (prim (codes "lambda") [] (more (prim
    (codes "nat") [] none) (more (prim (codes "nat") [] none) none))) (more (prim (codes "lambda") [] (more (prim (codes
    "nat") [] none) (more (prim (codes "nat") [] none) none))) none))) (more (prim (codes "Pair") [] (more (seq none) (more
    (seq (more (prim (codes "FOO") [] none) none)) none))) none))) c.lambda [] ≡ bad 11
unfolding primitive_names primitives code_of_name primitive_of_code primitive_of_name former_of_name word_of_name in_order
control_28 = refl

-- PUSH (lambda unit (lambda nat nat)) { DROP ; PUSH (lambda nat nat) { FOO } } | lambda | - | 13
control_29 : tree_type (prim (codes "PUSH") [] (more (prim (codes "lambda") [] (more (prim (codes "unit") [] none) (more (prim
    (codes "lambda") [] (more (prim (codes "nat") [] none) (more (prim (codes "nat") [] none) none))) none))) (more (seq (more
    (prim (codes "DROP") [] none) (more (prim (codes "PUSH") [] (more (prim (codes "lambda") [] (more (prim (codes "nat") []
    none) (more (prim (codes "nat") [] none) none))) (more (seq (more (prim (codes "FOO") [] none) none)) none))) none)))
    none))) c.lambda [] ≡ bad 13
unfolding primitive_names primitives code_of_name primitive_of_code primitive_of_name former_of_name word_of_name in_order
control_29 = refl

-- PUSH (lambda unit unit) { SELF ; DROP } | main | - | 5
control_30 : tree_type (prim (codes "PUSH") [] (more (prim (codes "lambda") [] (more (prim (codes "unit") [] none) (more (prim
    (codes "unit") [] none) none))) (more (seq (more (prim (codes "SELF") [] none) (more (prim (codes "DROP") [] none) none)))
    none))) main_entries [] ≡ bad 5
unfolding primitive_names primitives code_of_name primitive_of_code primitive_of_name former_of_name word_of_name in_order
control_30 = refl

-- DIP { UNIT } | lambda | nat, int | nat, unit, int
control_31 : tree_type (prim (codes "DIP") [] (more (seq (more (prim (codes "UNIT") [] none) none)) none)) c.lambda ((k.simple
    s.Nat) ∷ (k.simple s.Int) ∷ []) ≡ goes ((k.simple s.Nat) ∷ (k.simple s.Unit) ∷ (k.simple s.Int) ∷ [])
unfolding primitive_names primitives code_of_name primitive_of_code primitive_of_name former_of_name word_of_name in_order
control_31 = refl

-- DIP 2 { UNIT } | lambda | nat, int, bool | nat, int, unit, bool
control_32 : tree_type (prim (codes "DIP") [] (more (int (pos 2)) (more (seq (more (prim (codes "UNIT") [] none) none))
    none))) c.lambda ((k.simple s.Nat) ∷ (k.simple s.Int) ∷ (k.simple s.Bool) ∷ []) ≡ goes ((k.simple s.Nat) ∷ (k.simple
    s.Int) ∷ (k.simple s.Unit) ∷ (k.simple s.Bool) ∷ [])
unfolding primitive_names primitives code_of_name primitive_of_code primitive_of_name former_of_name word_of_name in_order
control_32 = refl

-- DIP 0 { UNIT } | lambda | - | unit
control_33 : tree_type (prim (codes "DIP") [] (more (int (pos 0)) (more (seq (more (prim (codes "UNIT") [] none) none))
    none))) c.lambda [] ≡ goes ((k.simple s.Unit) ∷ [])
unfolding primitive_names primitives code_of_name primitive_of_code primitive_of_name former_of_name word_of_name in_order
control_33 = refl

-- DIP { UNIT } | lambda | - | 0
control_34 : tree_type (prim (codes "DIP") [] (more (seq (more (prim (codes "UNIT") [] none) none)) none)) c.lambda [] ≡ bad 0
unfolding primitive_names primitives code_of_name primitive_of_code primitive_of_name former_of_name word_of_name in_order
control_34 = refl

-- DIP 2 { UNIT } | lambda | nat | 0
control_35 : tree_type (prim (codes "DIP") [] (more (int (pos 2)) (more (seq (more (prim (codes "UNIT") [] none) none))
    none))) c.lambda ((k.simple s.Nat) ∷ []) ≡ bad 0
unfolding primitive_names primitives code_of_name primitive_of_code primitive_of_name former_of_name word_of_name in_order
control_35 = refl

-- DIP 2 5 | lambda | nat | 0
control_36 : tree_type (prim (codes "DIP") [] (more (int (pos 2)) (more (int (pos 5)) none))) c.lambda ((k.simple s.Nat) ∷ [])
    ≡ bad 0
unfolding primitive_names primitives code_of_name primitive_of_code primitive_of_name former_of_name word_of_name in_order
control_36 = refl

-- DIP 2 5 | lambda | nat, nat | 2
control_37 : tree_type (prim (codes "DIP") [] (more (int (pos 2)) (more (int (pos 5)) none))) c.lambda ((k.simple s.Nat) ∷
    (k.simple s.Nat) ∷ []) ≡ bad 2
unfolding primitive_names primitives code_of_name primitive_of_code primitive_of_name former_of_name word_of_name in_order
control_37 = refl

-- DIP -1 5 | lambda | - | 1
control_38 : tree_type (prim (codes "DIP") [] (more (int (negsuc 0)) (more (int (pos 5)) none))) c.lambda [] ≡ bad 1
unfolding primitive_names primitives code_of_name primitive_of_code primitive_of_name former_of_name word_of_name in_order
control_38 = refl

-- DIP 1024 { UNIT } | lambda | - | 1
control_39 : tree_type (prim (codes "DIP") [] (more (int (pos 1024)) (more (seq (more (prim (codes "UNIT") [] none) none))
    none))) c.lambda [] ≡ bad 1
unfolding primitive_names primitives code_of_name primitive_of_code primitive_of_name former_of_name word_of_name in_order
control_39 = refl

-- DIP 5 | lambda | nat | 1
control_40 : tree_type (prim (codes "DIP") [] (more (int (pos 5)) none)) c.lambda ((k.simple s.Nat) ∷ []) ≡ bad 1
unfolding primitive_names primitives code_of_name primitive_of_code primitive_of_name former_of_name word_of_name in_order
control_40 = refl

-- DIP 5 | lambda | - | 0
control_41 : tree_type (prim (codes "DIP") [] (more (int (pos 5)) none)) c.lambda [] ≡ bad 0
unfolding primitive_names primitives code_of_name primitive_of_code primitive_of_name former_of_name word_of_name in_order
control_41 = refl

-- DIP { FOO } | lambda | nat | 2
control_42 : tree_type (prim (codes "DIP") [] (more (seq (more (prim (codes "FOO") [] none) none)) none)) c.lambda ((k.simple
    s.Nat) ∷ []) ≡ bad 2
unfolding primitive_names primitives code_of_name primitive_of_code primitive_of_name former_of_name word_of_name in_order
control_42 = refl

-- DIP 1 { FOO } | lambda | nat | 3
control_43 : tree_type (prim (codes "DIP") [] (more (int (pos 1)) (more (seq (more (prim (codes "FOO") [] none) none)) none)))
    c.lambda ((k.simple s.Nat) ∷ []) ≡ bad 3
unfolding primitive_names primitives code_of_name primitive_of_code primitive_of_name former_of_name word_of_name in_order
control_43 = refl

-- DIP { FAILWITH } | lambda | nat, nat | 0
control_44 : tree_type (prim (codes "DIP") [] (more (seq (more (prim (codes "FAILWITH") [] none) none)) none)) c.lambda
    ((k.simple s.Nat) ∷ (k.simple s.Nat) ∷ []) ≡ bad 0
unfolding primitive_names primitives code_of_name primitive_of_code primitive_of_name former_of_name word_of_name in_order
control_44 = refl

-- DIP {} {} | lambda | nat, nat | 1
control_45 : tree_type (prim (codes "DIP") [] (more (seq none) (more (seq none) none))) c.lambda ((k.simple s.Nat) ∷ (k.simple
    s.Nat) ∷ []) ≡ bad 1
unfolding primitive_names primitives code_of_name primitive_of_code primitive_of_name former_of_name word_of_name in_order
control_45 = refl

-- DIP | lambda | nat, nat | 0
control_46 : tree_type (prim (codes "DIP") [] none) c.lambda ((k.simple s.Nat) ∷ (k.simple s.Nat) ∷ []) ≡ bad 0
unfolding primitive_names primitives code_of_name primitive_of_code primitive_of_name former_of_name word_of_name in_order
control_46 = refl

-- LAMBDA nat int { INT } | lambda | unit | lambda nat int, unit
control_47 : tree_type (prim (codes "LAMBDA") [] (more (prim (codes "nat") [] none) (more (prim (codes "int") [] none) (more
    (seq (more (prim (codes "INT") [] none) none)) none)))) c.lambda ((k.simple s.Unit) ∷ []) ≡ goes ((k.lambda (k.simple
    s.Nat) (k.simple s.Int)) ∷ (k.simple s.Unit) ∷ [])
unfolding primitive_names primitives code_of_name primitive_of_code primitive_of_name former_of_name word_of_name in_order
control_47 = refl

-- LAMBDA nat int { UNIT ; FAILWITH } | lambda | - | lambda nat int
control_48 : tree_type (prim (codes "LAMBDA") [] (more (prim (codes "nat") [] none) (more (prim (codes "int") [] none) (more
    (seq (more (prim (codes "UNIT") [] none) (more (prim (codes "FAILWITH") [] none) none))) none)))) c.lambda [] ≡ goes
    ((k.lambda (k.simple s.Nat) (k.simple s.Int)) ∷ [])
unfolding primitive_names primitives code_of_name primitive_of_code primitive_of_name former_of_name word_of_name in_order
control_48 = refl

-- LAMBDA nat int {} | lambda | - | 0
control_49 : tree_type (prim (codes "LAMBDA") [] (more (prim (codes "nat") [] none) (more (prim (codes "int") [] none) (more
    (seq none) none)))) c.lambda [] ≡ bad 0
unfolding primitive_names primitives code_of_name primitive_of_code primitive_of_name former_of_name word_of_name in_order
control_49 = refl

-- LAMBDA nat int { INT ; FOO } | lambda | - | 5
control_50 : tree_type (prim (codes "LAMBDA") [] (more (prim (codes "nat") [] none) (more (prim (codes "int") [] none) (more
    (seq (more (prim (codes "INT") [] none) (more (prim (codes "FOO") [] none) none))) none)))) c.lambda [] ≡ bad 5
unfolding primitive_names primitives code_of_name primitive_of_code primitive_of_name former_of_name word_of_name in_order
control_50 = refl

-- LAMBDA nat foo { FOO } | lambda | - | 2
control_51 : tree_type (prim (codes "LAMBDA") [] (more (prim (codes "nat") [] none) (more (prim (codes "foo") [] none) (more
    (seq (more (prim (codes "FOO") [] none) none)) none)))) c.lambda [] ≡ bad 2
unfolding primitive_names primitives code_of_name primitive_of_code primitive_of_name former_of_name word_of_name in_order
control_51 = refl

-- LAMBDA foo foo { FOO } | lambda | - | 1
control_52 : tree_type (prim (codes "LAMBDA") [] (more (prim (codes "foo") [] none) (more (prim (codes "foo") [] none) (more
    (seq (more (prim (codes "FOO") [] none) none)) none)))) c.lambda [] ≡ bad 1
unfolding primitive_names primitives code_of_name primitive_of_code primitive_of_name former_of_name word_of_name in_order
control_52 = refl

-- LAMBDA nat int 5 | lambda | - | 3
control_53 : tree_type (prim (codes "LAMBDA") [] (more (prim (codes "nat") [] none) (more (prim (codes "int") [] none) (more
    (int (pos 5)) none)))) c.lambda [] ≡ bad 3
unfolding primitive_names primitives code_of_name primitive_of_code primitive_of_name former_of_name word_of_name in_order
control_53 = refl

-- LAMBDA nat int | lambda | - | 0
control_54 : tree_type (prim (codes "LAMBDA") [] (more (prim (codes "nat") [] none) (more (prim (codes "int") [] none) none)))
    c.lambda [] ≡ bad 0
unfolding primitive_names primitives code_of_name primitive_of_code primitive_of_name former_of_name word_of_name in_order
control_54 = refl

-- LAMBDA nat int { DROP ; SELF } | main | - | 5
control_55 : tree_type (prim (codes "LAMBDA") [] (more (prim (codes "nat") [] none) (more (prim (codes "int") [] none) (more
    (seq (more (prim (codes "DROP") [] none) (more (prim (codes "SELF") [] none) none))) none)))) main_entries [] ≡ bad 5
unfolding primitive_names primitives code_of_name primitive_of_code primitive_of_name former_of_name word_of_name in_order
control_55 = refl

-- LAMBDA_REC nat int { DIP { DROP } ; INT } | lambda | unit | lambda nat int, unit
control_56 : tree_type (prim (codes "LAMBDA_REC") [] (more (prim (codes "nat") [] none) (more (prim (codes "int") [] none)
    (more (seq (more (prim (codes "DIP") [] (more (seq (more (prim (codes "DROP") [] none) none)) none)) (more (prim (codes
    "INT") [] none) none))) none)))) c.lambda ((k.simple s.Unit) ∷ []) ≡ goes ((k.lambda (k.simple s.Nat) (k.simple s.Int)) ∷
    (k.simple s.Unit) ∷ [])
unfolding primitive_names primitives code_of_name primitive_of_code primitive_of_name former_of_name word_of_name in_order
control_56 = refl

-- LAMBDA_REC nat int { INT } | lambda | unit | 0
control_57 : tree_type (prim (codes "LAMBDA_REC") [] (more (prim (codes "nat") [] none) (more (prim (codes "int") [] none)
    (more (seq (more (prim (codes "INT") [] none) none)) none)))) c.lambda ((k.simple s.Unit) ∷ []) ≡ bad 0
unfolding primitive_names primitives code_of_name primitive_of_code primitive_of_name former_of_name word_of_name in_order
control_57 = refl

-- LAMBDA_REC nat int { EXEC } | lambda | unit | lambda nat int, unit
control_58 : tree_type (prim (codes "LAMBDA_REC") [] (more (prim (codes "nat") [] none) (more (prim (codes "int") [] none)
    (more (seq (more (prim (codes "EXEC") [] none) none)) none)))) c.lambda ((k.simple s.Unit) ∷ []) ≡ goes ((k.lambda
    (k.simple s.Nat) (k.simple s.Int)) ∷ (k.simple s.Unit) ∷ [])
unfolding primitive_names primitives code_of_name primitive_of_code primitive_of_name former_of_name word_of_name in_order
control_58 = refl

-- EXEC | lambda | nat, lambda nat int, unit | int, unit
control_59 : tree_type (prim (codes "EXEC") [] none) c.lambda ((k.simple s.Nat) ∷ (k.lambda (k.simple s.Nat) (k.simple s.Int))
    ∷ (k.simple s.Unit) ∷ []) ≡ goes ((k.simple s.Int) ∷ (k.simple s.Unit) ∷ [])
unfolding primitive_names primitives code_of_name primitive_of_code primitive_of_name former_of_name word_of_name in_order
control_59 = refl

-- EXEC | lambda | int, lambda nat int | 0
control_60 : tree_type (prim (codes "EXEC") [] none) c.lambda ((k.simple s.Int) ∷ (k.lambda (k.simple s.Nat) (k.simple s.Int))
    ∷ []) ≡ bad 0
unfolding primitive_names primitives code_of_name primitive_of_code primitive_of_name former_of_name word_of_name in_order
control_60 = refl

-- EXEC {} | lambda | nat, lambda nat int | 0
control_61 : tree_type (prim (codes "EXEC") [] (more (seq none) none)) c.lambda ((k.simple s.Nat) ∷ (k.lambda (k.simple s.Nat)
    (k.simple s.Int)) ∷ []) ≡ bad 0
unfolding primitive_names primitives code_of_name primitive_of_code primitive_of_name former_of_name word_of_name in_order
control_61 = refl

-- APPLY | lambda | nat, lambda (pair nat int) bool, unit | lambda int bool, unit
control_62 : tree_type (prim (codes "APPLY") [] none) c.lambda ((k.simple s.Nat) ∷ (k.lambda (k.pair (k.simple s.Nat)
    (k.simple s.Int)) (k.simple s.Bool)) ∷ (k.simple s.Unit) ∷ []) ≡ goes ((k.lambda (k.simple s.Int) (k.simple s.Bool)) ∷
    (k.simple s.Unit) ∷ [])
unfolding primitive_names primitives code_of_name primitive_of_code primitive_of_name former_of_name word_of_name in_order
control_62 = refl

-- APPLY | lambda | nat, lambda nat bool | 0
control_63 : tree_type (prim (codes "APPLY") [] none) c.lambda ((k.simple s.Nat) ∷ (k.lambda (k.simple s.Nat) (k.simple
    s.Bool)) ∷ []) ≡ bad 0
unfolding primitive_names primitives code_of_name primitive_of_code primitive_of_name former_of_name word_of_name in_order
control_63 = refl

-- APPLY | lambda | contract unit, lambda (pair (contract unit) int) bool | 0
control_64 : tree_type (prim (codes "APPLY") [] none) c.lambda ((k.contract (k.simple s.Unit)) ∷ (k.lambda (k.pair (k.contract
    (k.simple s.Unit)) (k.simple s.Int)) (k.simple s.Bool)) ∷ []) ≡ bad 0
unfolding primitive_names primitives code_of_name primitive_of_code primitive_of_name former_of_name word_of_name in_order
control_64 = refl

-- IF { UNIT } { UNIT } | lambda | bool, nat | unit, nat
control_65 : tree_type (prim (codes "IF") [] (more (seq (more (prim (codes "UNIT") [] none) none)) (more (seq (more (prim
    (codes "UNIT") [] none) none)) none))) c.lambda ((k.simple s.Bool) ∷ (k.simple s.Nat) ∷ []) ≡ goes ((k.simple s.Unit) ∷
    (k.simple s.Nat) ∷ [])
unfolding primitive_names primitives code_of_name primitive_of_code primitive_of_name former_of_name word_of_name in_order
control_65 = refl

-- IF { UNIT } { NONE nat } | lambda | bool | 0
control_66 : tree_type (prim (codes "IF") [] (more (seq (more (prim (codes "UNIT") [] none) none)) (more (seq (more (prim
    (codes "NONE") [] (more (prim (codes "nat") [] none) none)) none)) none))) c.lambda ((k.simple s.Bool) ∷ []) ≡ bad 0
unfolding primitive_names primitives code_of_name primitive_of_code primitive_of_name former_of_name word_of_name in_order
control_66 = refl

-- IF { FAILWITH } { DROP ; UNIT } | lambda | bool, nat | unit
control_67 : tree_type (prim (codes "IF") [] (more (seq (more (prim (codes "FAILWITH") [] none) none)) (more (seq (more (prim
    (codes "DROP") [] none) (more (prim (codes "UNIT") [] none) none))) none))) c.lambda ((k.simple s.Bool) ∷ (k.simple s.Nat)
    ∷ []) ≡ goes ((k.simple s.Unit) ∷ [])
unfolding primitive_names primitives code_of_name primitive_of_code primitive_of_name former_of_name word_of_name in_order
control_67 = refl

-- IF { DROP ; UNIT } { FAILWITH } | lambda | bool, nat | unit
control_68 : tree_type (prim (codes "IF") [] (more (seq (more (prim (codes "DROP") [] none) (more (prim (codes "UNIT") []
    none) none))) (more (seq (more (prim (codes "FAILWITH") [] none) none)) none))) c.lambda ((k.simple s.Bool) ∷ (k.simple
    s.Nat) ∷ []) ≡ goes ((k.simple s.Unit) ∷ [])
unfolding primitive_names primitives code_of_name primitive_of_code primitive_of_name former_of_name word_of_name in_order
control_68 = refl

-- IF { FAILWITH } { FAILWITH } | lambda | bool, nat | fails
control_69 : tree_type (prim (codes "IF") [] (more (seq (more (prim (codes "FAILWITH") [] none) none)) (more (seq (more (prim
    (codes "FAILWITH") [] none) none)) none))) c.lambda ((k.simple s.Bool) ∷ (k.simple s.Nat) ∷ []) ≡ fails
unfolding primitive_names primitives code_of_name primitive_of_code primitive_of_name former_of_name word_of_name in_order
control_69 = refl

-- { IF { FAILWITH } { FAILWITH } ; UNIT } | lambda | bool, nat | 1
control_70 : tree_type (seq (more (prim (codes "IF") [] (more (seq (more (prim (codes "FAILWITH") [] none) none)) (more (seq
    (more (prim (codes "FAILWITH") [] none) none)) none))) (more (prim (codes "UNIT") [] none) none))) c.lambda ((k.simple
    s.Bool) ∷ (k.simple s.Nat) ∷ []) ≡ bad 1
unfolding primitive_names primitives code_of_name primitive_of_code primitive_of_name former_of_name word_of_name in_order
control_70 = refl

-- IF { FOO } 5 | lambda | bool | 2
control_71 : tree_type (prim (codes "IF") [] (more (seq (more (prim (codes "FOO") [] none) none)) (more (int (pos 5)) none)))
    c.lambda ((k.simple s.Bool) ∷ []) ≡ bad 2
unfolding primitive_names primitives code_of_name primitive_of_code primitive_of_name former_of_name word_of_name in_order
control_71 = refl

-- IF {} 5 | lambda | bool | 2
control_72 : tree_type (prim (codes "IF") [] (more (seq none) (more (int (pos 5)) none))) c.lambda ((k.simple s.Bool) ∷ []) ≡
    bad 2
unfolding primitive_names primitives code_of_name primitive_of_code primitive_of_name former_of_name word_of_name in_order
control_72 = refl

-- IF 5 { FOO } | lambda | bool | 1
control_73 : tree_type (prim (codes "IF") [] (more (int (pos 5)) (more (seq (more (prim (codes "FOO") [] none) none)) none)))
    c.lambda ((k.simple s.Bool) ∷ []) ≡ bad 1
unfolding primitive_names primitives code_of_name primitive_of_code primitive_of_name former_of_name word_of_name in_order
control_73 = refl

-- IF { FOO } { FOO } | lambda | nat | 0
control_74 : tree_type (prim (codes "IF") [] (more (seq (more (prim (codes "FOO") [] none) none)) (more (seq (more (prim
    (codes "FOO") [] none) none)) none))) c.lambda ((k.simple s.Nat) ∷ []) ≡ bad 0
unfolding primitive_names primitives code_of_name primitive_of_code primitive_of_name former_of_name word_of_name in_order
control_74 = refl

-- IF { UNIT } { FOO } | lambda | bool | 4
control_75 : tree_type (prim (codes "IF") [] (more (seq (more (prim (codes "UNIT") [] none) none)) (more (seq (more (prim
    (codes "FOO") [] none) none)) none))) c.lambda ((k.simple s.Bool) ∷ []) ≡ bad 4
unfolding primitive_names primitives code_of_name primitive_of_code primitive_of_name former_of_name word_of_name in_order
control_75 = refl

-- IF {} | lambda | bool | 0
control_76 : tree_type (prim (codes "IF") [] (more (seq none) none)) c.lambda ((k.simple s.Bool) ∷ []) ≡ bad 0
unfolding primitive_names primitives code_of_name primitive_of_code primitive_of_name former_of_name word_of_name in_order
control_76 = refl

-- IF_NONE { UNIT } { DROP ; UNIT } | lambda | option nat, int | unit, int
control_77 : tree_type (prim (codes "IF_NONE") [] (more (seq (more (prim (codes "UNIT") [] none) none)) (more (seq (more (prim
    (codes "DROP") [] none) (more (prim (codes "UNIT") [] none) none))) none))) c.lambda ((k.option (k.simple s.Nat)) ∷
    (k.simple s.Int) ∷ []) ≡ goes ((k.simple s.Unit) ∷ (k.simple s.Int) ∷ [])
unfolding primitive_names primitives code_of_name primitive_of_code primitive_of_name former_of_name word_of_name in_order
control_77 = refl

-- IF_NONE { UNIT } {} | lambda | option nat, int | 0
control_78 : tree_type (prim (codes "IF_NONE") [] (more (seq (more (prim (codes "UNIT") [] none) none)) (more (seq none)
    none))) c.lambda ((k.option (k.simple s.Nat)) ∷ (k.simple s.Int) ∷ []) ≡ bad 0
unfolding primitive_names primitives code_of_name primitive_of_code primitive_of_name former_of_name word_of_name in_order
control_78 = refl

-- IF_NONE {} {} | lambda | nat | 0
control_79 : tree_type (prim (codes "IF_NONE") [] (more (seq none) (more (seq none) none))) c.lambda ((k.simple s.Nat) ∷ []) ≡
    bad 0
unfolding primitive_names primitives code_of_name primitive_of_code primitive_of_name former_of_name word_of_name in_order
control_79 = refl

-- IF_LEFT { INT } {} | lambda | or nat int, unit | int, unit
control_80 : tree_type (prim (codes "IF_LEFT") [] (more (seq (more (prim (codes "INT") [] none) none)) (more (seq none)
    none))) c.lambda ((k.or (k.simple s.Nat) (k.simple s.Int)) ∷ (k.simple s.Unit) ∷ []) ≡ goes ((k.simple s.Int) ∷ (k.simple
    s.Unit) ∷ [])
unfolding primitive_names primitives code_of_name primitive_of_code primitive_of_name former_of_name word_of_name in_order
control_80 = refl

-- IF_LEFT {} {} | lambda | or nat int | 0
control_81 : tree_type (prim (codes "IF_LEFT") [] (more (seq none) (more (seq none) none))) c.lambda ((k.or (k.simple s.Nat)
    (k.simple s.Int)) ∷ []) ≡ bad 0
unfolding primitive_names primitives code_of_name primitive_of_code primitive_of_name former_of_name word_of_name in_order
control_81 = refl

-- IF_CONS { DROP } { UNIT ; FAILWITH } | lambda | list nat | list nat
control_82 : tree_type (prim (codes "IF_CONS") [] (more (seq (more (prim (codes "DROP") [] none) none)) (more (seq (more (prim
    (codes "UNIT") [] none) (more (prim (codes "FAILWITH") [] none) none))) none))) c.lambda ((k.list (k.simple s.Nat)) ∷ [])
    ≡ goes ((k.list (k.simple s.Nat)) ∷ [])
unfolding primitive_names primitives code_of_name primitive_of_code primitive_of_name former_of_name word_of_name in_order
control_82 = refl

-- IF_CONS { DROP ; DROP } {} | lambda | list nat, unit | unit
control_83 : tree_type (prim (codes "IF_CONS") [] (more (seq (more (prim (codes "DROP") [] none) (more (prim (codes "DROP") []
    none) none))) (more (seq none) none))) c.lambda ((k.list (k.simple s.Nat)) ∷ (k.simple s.Unit) ∷ []) ≡ goes ((k.simple
    s.Unit) ∷ [])
unfolding primitive_names primitives code_of_name primitive_of_code primitive_of_name former_of_name word_of_name in_order
control_83 = refl

-- LOOP { PUSH bool True } | lambda | bool, nat | nat
control_84 : tree_type (prim (codes "LOOP") [] (more (seq (more (prim (codes "PUSH") [] (more (prim (codes "bool") [] none)
    (more (prim (codes "True") [] none) none))) none)) none)) c.lambda ((k.simple s.Bool) ∷ (k.simple s.Nat) ∷ []) ≡ goes
    ((k.simple s.Nat) ∷ [])
unfolding primitive_names primitives code_of_name primitive_of_code primitive_of_name former_of_name word_of_name in_order
control_84 = refl

-- LOOP { FAILWITH } | lambda | bool, nat | nat
control_85 : tree_type (prim (codes "LOOP") [] (more (seq (more (prim (codes "FAILWITH") [] none) none)) none)) c.lambda
    ((k.simple s.Bool) ∷ (k.simple s.Nat) ∷ []) ≡ goes ((k.simple s.Nat) ∷ [])
unfolding primitive_names primitives code_of_name primitive_of_code primitive_of_name former_of_name word_of_name in_order
control_85 = refl

-- LOOP {} | lambda | bool, bool | 0
control_86 : tree_type (prim (codes "LOOP") [] (more (seq none) none)) c.lambda ((k.simple s.Bool) ∷ (k.simple s.Bool) ∷ []) ≡
    bad 0
unfolding primitive_names primitives code_of_name primitive_of_code primitive_of_name former_of_name word_of_name in_order
control_86 = refl

-- LOOP {} | lambda | bool, nat | 0
control_87 : tree_type (prim (codes "LOOP") [] (more (seq none) none)) c.lambda ((k.simple s.Bool) ∷ (k.simple s.Nat) ∷ []) ≡
    bad 0
unfolding primitive_names primitives code_of_name primitive_of_code primitive_of_name former_of_name word_of_name in_order
control_87 = refl

-- LOOP 5 | lambda | bool | 1
control_88 : tree_type (prim (codes "LOOP") [] (more (int (pos 5)) none)) c.lambda ((k.simple s.Bool) ∷ []) ≡ bad 1
unfolding primitive_names primitives code_of_name primitive_of_code primitive_of_name former_of_name word_of_name in_order
control_88 = refl

-- LOOP 5 | lambda | nat | 0
control_89 : tree_type (prim (codes "LOOP") [] (more (int (pos 5)) none)) c.lambda ((k.simple s.Nat) ∷ []) ≡ bad 0
unfolding primitive_names primitives code_of_name primitive_of_code primitive_of_name former_of_name word_of_name in_order
control_89 = refl

-- LOOP_LEFT { RIGHT nat } | lambda | or nat int, unit | 0
control_90 : tree_type (prim (codes "LOOP_LEFT") [] (more (seq (more (prim (codes "RIGHT") [] (more (prim (codes "nat") []
    none) none)) none)) none)) c.lambda ((k.or (k.simple s.Nat) (k.simple s.Int)) ∷ (k.simple s.Unit) ∷ []) ≡ bad 0
unfolding primitive_names primitives code_of_name primitive_of_code primitive_of_name former_of_name word_of_name in_order
control_90 = refl

-- LOOP_LEFT { LEFT int } | lambda | or nat int, unit | int, unit
control_91 : tree_type (prim (codes "LOOP_LEFT") [] (more (seq (more (prim (codes "LEFT") [] (more (prim (codes "int") []
    none) none)) none)) none)) c.lambda ((k.or (k.simple s.Nat) (k.simple s.Int)) ∷ (k.simple s.Unit) ∷ []) ≡ goes ((k.simple
    s.Int) ∷ (k.simple s.Unit) ∷ [])
unfolding primitive_names primitives code_of_name primitive_of_code primitive_of_name former_of_name word_of_name in_order
control_91 = refl

-- LOOP_LEFT { FAILWITH } | lambda | or nat int | int
control_92 : tree_type (prim (codes "LOOP_LEFT") [] (more (seq (more (prim (codes "FAILWITH") [] none) none)) none)) c.lambda
    ((k.or (k.simple s.Nat) (k.simple s.Int)) ∷ []) ≡ goes ((k.simple s.Int) ∷ [])
unfolding primitive_names primitives code_of_name primitive_of_code primitive_of_name former_of_name word_of_name in_order
control_92 = refl

-- ITER { DROP } | lambda | list nat, unit | unit
control_93 : tree_type (prim (codes "ITER") [] (more (seq (more (prim (codes "DROP") [] none) none)) none)) c.lambda ((k.list
    (k.simple s.Nat)) ∷ (k.simple s.Unit) ∷ []) ≡ goes ((k.simple s.Unit) ∷ [])
unfolding primitive_names primitives code_of_name primitive_of_code primitive_of_name former_of_name word_of_name in_order
control_93 = refl

-- ITER { ADD } | lambda | set nat, nat | nat
control_94 : tree_type (prim (codes "ITER") [] (more (seq (more (prim (codes "ADD") [] none) none)) none)) c.lambda ((k.set
    (k.simple s.Nat)) ∷ (k.simple s.Nat) ∷ []) ≡ goes ((k.simple s.Nat) ∷ [])
unfolding primitive_names primitives code_of_name primitive_of_code primitive_of_name former_of_name word_of_name in_order
control_94 = refl

-- ITER { UNPAIR ; DROP 2 } | lambda | map nat int, unit | unit
control_95 : tree_type (prim (codes "ITER") [] (more (seq (more (prim (codes "UNPAIR") [] none) (more (prim (codes "DROP") []
    (more (int (pos 2)) none)) none))) none)) c.lambda ((k.map (k.simple s.Nat) (k.simple s.Int)) ∷ (k.simple s.Unit) ∷ []) ≡
    goes ((k.simple s.Unit) ∷ [])
unfolding primitive_names primitives code_of_name primitive_of_code primitive_of_name former_of_name word_of_name in_order
control_95 = refl

-- ITER { FAILWITH } | lambda | list nat, unit | unit
control_96 : tree_type (prim (codes "ITER") [] (more (seq (more (prim (codes "FAILWITH") [] none) none)) none)) c.lambda
    ((k.list (k.simple s.Nat)) ∷ (k.simple s.Unit) ∷ []) ≡ goes ((k.simple s.Unit) ∷ [])
unfolding primitive_names primitives code_of_name primitive_of_code primitive_of_name former_of_name word_of_name in_order
control_96 = refl

-- ITER {} | lambda | list nat, unit | 0
control_97 : tree_type (prim (codes "ITER") [] (more (seq none) none)) c.lambda ((k.list (k.simple s.Nat)) ∷ (k.simple s.Unit)
    ∷ []) ≡ bad 0
unfolding primitive_names primitives code_of_name primitive_of_code primitive_of_name former_of_name word_of_name in_order
control_97 = refl

-- ITER { DROP } | lambda | big_map nat nat | 0
control_98 : tree_type (prim (codes "ITER") [] (more (seq (more (prim (codes "DROP") [] none) none)) none)) c.lambda
    ((k.big_map (k.simple s.Nat) (k.simple s.Nat)) ∷ []) ≡ bad 0
unfolding primitive_names primitives code_of_name primitive_of_code primitive_of_name former_of_name word_of_name in_order
control_98 = refl

-- ITER 5 | lambda | list nat | 1
control_99 : tree_type (prim (codes "ITER") [] (more (int (pos 5)) none)) c.lambda ((k.list (k.simple s.Nat)) ∷ []) ≡ bad 1
unfolding primitive_names primitives code_of_name primitive_of_code primitive_of_name former_of_name word_of_name in_order
control_99 = refl

-- MAP { INT } | lambda | list nat, unit | list int, unit
control_100 : tree_type (prim (codes "MAP") [] (more (seq (more (prim (codes "INT") [] none) none)) none)) c.lambda ((k.list
    (k.simple s.Nat)) ∷ (k.simple s.Unit) ∷ []) ≡ goes ((k.list (k.simple s.Int)) ∷ (k.simple s.Unit) ∷ [])
unfolding primitive_names primitives code_of_name primitive_of_code primitive_of_name former_of_name word_of_name in_order
control_100 = refl

-- MAP { INT } | lambda | option nat | option int
control_101 : tree_type (prim (codes "MAP") [] (more (seq (more (prim (codes "INT") [] none) none)) none)) c.lambda ((k.option
    (k.simple s.Nat)) ∷ []) ≡ goes ((k.option (k.simple s.Int)) ∷ [])
unfolding primitive_names primitives code_of_name primitive_of_code primitive_of_name former_of_name word_of_name in_order
control_101 = refl

-- MAP { CDR ; NEG } | lambda | map nat int, unit | map nat int, unit
control_102 : tree_type (prim (codes "MAP") [] (more (seq (more (prim (codes "CDR") [] none) (more (prim (codes "NEG") []
    none) none))) none)) c.lambda ((k.map (k.simple s.Nat) (k.simple s.Int)) ∷ (k.simple s.Unit) ∷ []) ≡ goes ((k.map
    (k.simple s.Nat) (k.simple s.Int)) ∷ (k.simple s.Unit) ∷ [])
unfolding primitive_names primitives code_of_name primitive_of_code primitive_of_name former_of_name word_of_name in_order
control_102 = refl

-- MAP { DROP ; UNIT ; UNIT } | lambda | list nat, unit | 0
control_103 : tree_type (prim (codes "MAP") [] (more (seq (more (prim (codes "DROP") [] none) (more (prim (codes "UNIT") []
    none) (more (prim (codes "UNIT") [] none) none)))) none)) c.lambda ((k.list (k.simple s.Nat)) ∷ (k.simple s.Unit) ∷ []) ≡
    bad 0
unfolding primitive_names primitives code_of_name primitive_of_code primitive_of_name former_of_name word_of_name in_order
control_103 = refl

-- MAP { DROP } | lambda | list nat | 0
control_104 : tree_type (prim (codes "MAP") [] (more (seq (more (prim (codes "DROP") [] none) none)) none)) c.lambda ((k.list
    (k.simple s.Nat)) ∷ []) ≡ bad 0
unfolding primitive_names primitives code_of_name primitive_of_code primitive_of_name former_of_name word_of_name in_order
control_104 = refl

-- MAP { FAILWITH } | lambda | list nat | 0
control_105 : tree_type (prim (codes "MAP") [] (more (seq (more (prim (codes "FAILWITH") [] none) none)) none)) c.lambda
    ((k.list (k.simple s.Nat)) ∷ []) ≡ bad 0
unfolding primitive_names primitives code_of_name primitive_of_code primitive_of_name former_of_name word_of_name in_order
control_105 = refl

-- MAP { DROP ; DROP ; UNIT } | lambda | list nat, unit | 0
control_106 : tree_type (prim (codes "MAP") [] (more (seq (more (prim (codes "DROP") [] none) (more (prim (codes "DROP") []
    none) (more (prim (codes "UNIT") [] none) none)))) none)) c.lambda ((k.list (k.simple s.Nat)) ∷ (k.simple s.Unit) ∷ []) ≡
    bad 0
unfolding primitive_names primitives code_of_name primitive_of_code primitive_of_name former_of_name word_of_name in_order
control_106 = refl

-- MAP {} | lambda | set nat | 0
control_107 : tree_type (prim (codes "MAP") [] (more (seq none) none)) c.lambda ((k.set (k.simple s.Nat)) ∷ []) ≡ bad 0
unfolding primitive_names primitives code_of_name primitive_of_code primitive_of_name former_of_name word_of_name in_order
control_107 = refl

-- MAP { FOO } | lambda | list nat | 2
control_108 : tree_type (prim (codes "MAP") [] (more (seq (more (prim (codes "FOO") [] none) none)) none)) c.lambda ((k.list
    (k.simple s.Nat)) ∷ []) ≡ bad 2
unfolding primitive_names primitives code_of_name primitive_of_code primitive_of_name former_of_name word_of_name in_order
control_108 = refl

-- FAILWITH | lambda | nat, unit | fails
control_109 : tree_type (prim (codes "FAILWITH") [] none) c.lambda ((k.simple s.Nat) ∷ (k.simple s.Unit) ∷ []) ≡ fails
unfolding primitive_names primitives code_of_name primitive_of_code primitive_of_name former_of_name word_of_name in_order
control_109 = refl

-- FAILWITH | lambda | operation | 0
control_110 : tree_type (prim (codes "FAILWITH") [] none) c.lambda (k.operation ∷ []) ≡ bad 0
unfolding primitive_names primitives code_of_name primitive_of_code primitive_of_name former_of_name word_of_name in_order
control_110 = refl

-- FAILWITH | lambda | - | 0
control_111 : tree_type (prim (codes "FAILWITH") [] none) c.lambda [] ≡ bad 0
unfolding primitive_names primitives code_of_name primitive_of_code primitive_of_name former_of_name word_of_name in_order
control_111 = refl

-- NEVER | lambda | never, unit | fails
control_112 : tree_type (prim (codes "NEVER") [] none) c.lambda ((k.simple s.Never) ∷ (k.simple s.Unit) ∷ []) ≡ fails
unfolding primitive_names primitives code_of_name primitive_of_code primitive_of_name former_of_name word_of_name in_order
control_112 = refl

-- NEVER | lambda | nat | 0
control_113 : tree_type (prim (codes "NEVER") [] none) c.lambda ((k.simple s.Nat) ∷ []) ≡ bad 0
unfolding primitive_names primitives code_of_name primitive_of_code primitive_of_name former_of_name word_of_name in_order
control_113 = refl

-- SELF | main | unit | contract (or nat unit), unit
control_114 : tree_type (prim (codes "SELF") [] none) main_entries ((k.simple s.Unit) ∷ []) ≡ goes ((k.contract (k.or
    (k.simple s.Nat) (k.simple s.Unit))) ∷ (k.simple s.Unit) ∷ [])
unfolding primitive_names primitives code_of_name primitive_of_code primitive_of_name former_of_name word_of_name in_order
control_114 = refl

-- SELF %a | main | - | contract nat
control_115 : tree_type (prim (codes "SELF") ((codes "%a") ∷ []) none) main_entries [] ≡ goes ((k.contract (k.simple s.Nat)) ∷
    [])
unfolding primitive_names primitives code_of_name primitive_of_code primitive_of_name former_of_name word_of_name in_order
control_115 = refl

-- SELF %default | main | - | contract (or nat unit)
control_116 : tree_type (prim (codes "SELF") ((codes "%default") ∷ []) none) main_entries [] ≡ goes ((k.contract (k.or
    (k.simple s.Nat) (k.simple s.Unit))) ∷ [])
unfolding primitive_names primitives code_of_name primitive_of_code primitive_of_name former_of_name word_of_name in_order
control_116 = refl

-- SELF % %b | main | - | contract (or nat unit)
control_117 : tree_type (prim (codes "SELF") ((codes "%") ∷ (codes "%b") ∷ []) none) main_entries [] ≡ goes ((k.contract (k.or
    (k.simple s.Nat) (k.simple s.Unit))) ∷ [])
unfolding primitive_names primitives code_of_name primitive_of_code primitive_of_name former_of_name word_of_name in_order
control_117 = refl

-- SELF %b | main | - | 0
control_118 : tree_type (prim (codes "SELF") ((codes "%b") ∷ []) none) main_entries [] ≡ bad 0
unfolding primitive_names primitives code_of_name primitive_of_code primitive_of_name former_of_name word_of_name in_order
control_118 = refl

-- SELF | lambda | - | 0
control_119 : tree_type (prim (codes "SELF") [] none) c.lambda [] ≡ bad 0
unfolding primitive_names primitives code_of_name primitive_of_code primitive_of_name former_of_name word_of_name in_order
control_119 = refl

-- SELF | view | - | 0
control_120 : tree_type (prim (codes "SELF") [] none) c.view [] ≡ bad 0
unfolding primitive_names primitives code_of_name primitive_of_code primitive_of_name former_of_name word_of_name in_order
control_120 = refl

-- SELF 1 | main | - | 0
control_121 : tree_type (prim (codes "SELF") [] (more (int (pos 1)) none)) main_entries [] ≡ bad 0
unfolding primitive_names primitives code_of_name primitive_of_code primitive_of_name former_of_name word_of_name in_order
control_121 = refl

-- SELF %a2345678901234567890123456789012 | main | - | 0
control_122 : tree_type (prim (codes "SELF") ((codes "%a2345678901234567890123456789012") ∷ []) none) main_entries [] ≡ bad 0
unfolding primitive_names primitives code_of_name primitive_of_code primitive_of_name former_of_name word_of_name in_order
control_122 = refl

-- DIP { SELF %a } | main | unit | unit, contract nat
control_123 : tree_type (prim (codes "DIP") [] (more (seq (more (prim (codes "SELF") ((codes "%a") ∷ []) none) none)) none))
    main_entries ((k.simple s.Unit) ∷ []) ≡ goes ((k.simple s.Unit) ∷ (k.contract (k.simple s.Nat)) ∷ [])
unfolding primitive_names primitives code_of_name primitive_of_code primitive_of_name former_of_name word_of_name in_order
control_123 = refl

-- IF { SELF %a } { SELF %a } | main | bool | contract nat
control_124 : tree_type (prim (codes "IF") [] (more (seq (more (prim (codes "SELF") ((codes "%a") ∷ []) none) none)) (more
    (seq (more (prim (codes "SELF") ((codes "%a") ∷ []) none) none)) none))) main_entries ((k.simple s.Bool) ∷ []) ≡ goes
    ((k.contract (k.simple s.Nat)) ∷ [])
unfolding primitive_names primitives code_of_name primitive_of_code primitive_of_name former_of_name word_of_name in_order
control_124 = refl

-- LAMBDA (pair nat (contract nat)) operation { UNPAIR ; DIP { PUSH mutez 0 } ; TRANSFER_TOKENS } | view | - | lambda (pair nat (
control_125 : tree_type (prim (codes "LAMBDA") [] (more (prim (codes "pair") [] (more (prim (codes "nat") [] none) (more (prim
    (codes "contract") [] (more (prim (codes "nat") [] none) none)) none))) (more (prim (codes "operation") [] none) (more
    (seq (more (prim (codes "UNPAIR") [] none) (more (prim (codes "DIP") [] (more (seq (more (prim (codes "PUSH") [] (more
    (prim (codes "mutez") [] none) (more (int (pos 0)) none))) none)) none)) (more (prim (codes "TRANSFER_TOKENS") [] none)
    none)))) none)))) c.view [] ≡ goes ((k.lambda (k.pair (k.simple s.Nat) (k.contract (k.simple s.Nat))) k.operation) ∷ [])
unfolding primitive_names primitives code_of_name primitive_of_code primitive_of_name former_of_name word_of_name in_order
control_125 = refl

-- DIP { TRANSFER_TOKENS } | view | unit, nat, mutez, contract nat | 2
control_126 : tree_type (prim (codes "DIP") [] (more (seq (more (prim (codes "TRANSFER_TOKENS") [] none) none)) none)) c.view
    ((k.simple s.Unit) ∷ (k.simple s.Nat) ∷ (k.simple s.Mutez) ∷ (k.contract (k.simple s.Nat)) ∷ []) ≡ bad 2
unfolding primitive_names primitives code_of_name primitive_of_code primitive_of_name former_of_name word_of_name in_order
control_126 = refl

-- CREATE_CONTRACT { parameter unit ; storage nat ; code { CDR ; NIL operation ; PAIR } } | main | option key_hash, mutez, nat, u
control_127 : tree_type (prim (codes "CREATE_CONTRACT") [] (more (seq (more (prim (codes "parameter") [] (more (prim (codes
    "unit") [] none) none)) (more (prim (codes "storage") [] (more (prim (codes "nat") [] none) none)) (more (prim (codes
    "code") [] (more (seq (more (prim (codes "CDR") [] none) (more (prim (codes "NIL") [] (more (prim (codes "operation") []
    none) none)) (more (prim (codes "PAIR") [] none) none)))) none)) none)))) none)) main_entries ((k.option (k.simple
    s.KeyHash)) ∷ (k.simple s.Mutez) ∷ (k.simple s.Nat) ∷ (k.simple s.Unit) ∷ []) ≡ goes (k.operation ∷ (k.simple s.Address) ∷
    (k.simple s.Unit) ∷ [])
unfolding primitive_names primitives code_of_name primitive_of_code primitive_of_name former_of_name word_of_name in_order
control_127 = refl

-- CREATE_CONTRACT { parameter unit ; storage nat ; code { CDR ; NIL operation ; PAIR } } | lambda | option key_hash, mutez, nat
control_128 : tree_type (prim (codes "CREATE_CONTRACT") [] (more (seq (more (prim (codes "parameter") [] (more (prim (codes
    "unit") [] none) none)) (more (prim (codes "storage") [] (more (prim (codes "nat") [] none) none)) (more (prim (codes
    "code") [] (more (seq (more (prim (codes "CDR") [] none) (more (prim (codes "NIL") [] (more (prim (codes "operation") []
    none) none)) (more (prim (codes "PAIR") [] none) none)))) none)) none)))) none)) c.lambda ((k.option (k.simple s.KeyHash))
    ∷ (k.simple s.Mutez) ∷ (k.simple s.Nat) ∷ []) ≡ goes (k.operation ∷ (k.simple s.Address) ∷ [])
unfolding primitive_names primitives code_of_name primitive_of_code primitive_of_name former_of_name word_of_name in_order
control_128 = refl

-- CREATE_CONTRACT { parameter unit ; storage nat ; code { CDR ; NIL operation ; PAIR } } | view | option key_hash, mutez, nat |
control_129 : tree_type (prim (codes "CREATE_CONTRACT") [] (more (seq (more (prim (codes "parameter") [] (more (prim (codes
    "unit") [] none) none)) (more (prim (codes "storage") [] (more (prim (codes "nat") [] none) none)) (more (prim (codes
    "code") [] (more (seq (more (prim (codes "CDR") [] none) (more (prim (codes "NIL") [] (more (prim (codes "operation") []
    none) none)) (more (prim (codes "PAIR") [] none) none)))) none)) none)))) none)) c.view ((k.option (k.simple s.KeyHash)) ∷
    (k.simple s.Mutez) ∷ (k.simple s.Nat) ∷ []) ≡ bad 0
unfolding primitive_names primitives code_of_name primitive_of_code primitive_of_name former_of_name word_of_name in_order
control_129 = refl

-- CREATE_CONTRACT { parameter unit ; storage nat ; code { CDR ; NIL operation ; PAIR } } | main | option key_hash, mutez, int |
control_130 : tree_type (prim (codes "CREATE_CONTRACT") [] (more (seq (more (prim (codes "parameter") [] (more (prim (codes
    "unit") [] none) none)) (more (prim (codes "storage") [] (more (prim (codes "nat") [] none) none)) (more (prim (codes
    "code") [] (more (seq (more (prim (codes "CDR") [] none) (more (prim (codes "NIL") [] (more (prim (codes "operation") []
    none) none)) (more (prim (codes "PAIR") [] none) none)))) none)) none)))) none)) main_entries ((k.option (k.simple
    s.KeyHash)) ∷ (k.simple s.Mutez) ∷ (k.simple s.Int) ∷ []) ≡ bad 0
unfolding primitive_names primitives code_of_name primitive_of_code primitive_of_name former_of_name word_of_name in_order
control_130 = refl

-- CREATE_CONTRACT { parameter unit ; storage nat ; code { CDR ; FOO } } | main | option key_hash, mutez, operation | 9
control_131 : tree_type (prim (codes "CREATE_CONTRACT") [] (more (seq (more (prim (codes "parameter") [] (more (prim (codes
    "unit") [] none) none)) (more (prim (codes "storage") [] (more (prim (codes "nat") [] none) none)) (more (prim (codes
    "code") [] (more (seq (more (prim (codes "CDR") [] none) (more (prim (codes "FOO") [] none) none))) none)) none)))) none))
    main_entries ((k.option (k.simple s.KeyHash)) ∷ (k.simple s.Mutez) ∷ k.operation ∷ []) ≡ bad 9
unfolding primitive_names primitives code_of_name primitive_of_code primitive_of_name former_of_name word_of_name in_order
control_131 = refl

-- CREATE_CONTRACT { parameter unit ; storage nat ; code { CDR ; FOO } } | main | option key_hash, nat, nat | 0
control_132 : tree_type (prim (codes "CREATE_CONTRACT") [] (more (seq (more (prim (codes "parameter") [] (more (prim (codes
    "unit") [] none) none)) (more (prim (codes "storage") [] (more (prim (codes "nat") [] none) none)) (more (prim (codes
    "code") [] (more (seq (more (prim (codes "CDR") [] none) (more (prim (codes "FOO") [] none) none))) none)) none)))) none))
    main_entries ((k.option (k.simple s.KeyHash)) ∷ (k.simple s.Nat) ∷ (k.simple s.Nat) ∷ []) ≡ bad 0
unfolding primitive_names primitives code_of_name primitive_of_code primitive_of_name former_of_name word_of_name in_order
control_132 = refl

-- CREATE_CONTRACT { parameter unit ; storage nat } | main | option key_hash, mutez, nat | 1
control_133 : tree_type (prim (codes "CREATE_CONTRACT") [] (more (seq (more (prim (codes "parameter") [] (more (prim (codes
    "unit") [] none) none)) (more (prim (codes "storage") [] (more (prim (codes "nat") [] none) none)) none))) none))
    main_entries ((k.option (k.simple s.KeyHash)) ∷ (k.simple s.Mutez) ∷ (k.simple s.Nat) ∷ []) ≡ bad 1
unfolding primitive_names primitives code_of_name primitive_of_code primitive_of_name former_of_name word_of_name in_order
control_133 = refl

-- CREATE_CONTRACT { parameter unit ; storage nat ; code {} ; FOO } | main | option key_hash, mutez, nat | 8
control_134 : tree_type (prim (codes "CREATE_CONTRACT") [] (more (seq (more (prim (codes "parameter") [] (more (prim (codes
    "unit") [] none) none)) (more (prim (codes "storage") [] (more (prim (codes "nat") [] none) none)) (more (prim (codes
    "code") [] (more (seq none) none)) (more (prim (codes "FOO") [] none) none))))) none)) main_entries ((k.option (k.simple
    s.KeyHash)) ∷ (k.simple s.Mutez) ∷ (k.simple s.Nat) ∷ []) ≡ bad 8
unfolding primitive_names primitives code_of_name primitive_of_code primitive_of_name former_of_name word_of_name in_order
control_134 = refl

-- CREATE_CONTRACT 5 | main | option key_hash, mutez, nat | 1
control_135 : tree_type (prim (codes "CREATE_CONTRACT") [] (more (int (pos 5)) none)) main_entries ((k.option (k.simple
    s.KeyHash)) ∷ (k.simple s.Mutez) ∷ (k.simple s.Nat) ∷ []) ≡ bad 1
unfolding primitive_names primitives code_of_name primitive_of_code primitive_of_name former_of_name word_of_name in_order
control_135 = refl

-- CREATE_CONTRACT | main | option key_hash, mutez, nat | 0
control_136 : tree_type (prim (codes "CREATE_CONTRACT") [] none) main_entries ((k.option (k.simple s.KeyHash)) ∷ (k.simple
    s.Mutez) ∷ (k.simple s.Nat) ∷ []) ≡ bad 0
unfolding primitive_names primitives code_of_name primitive_of_code primitive_of_name former_of_name word_of_name in_order
control_136 = refl

-- CREATE_CONTRACT { parameter (nat %x) ; storage unit ; code { SELF %x ; DROP ; CDR ; NIL operation ; PAIR } } | main | option k
control_137 : tree_type (prim (codes "CREATE_CONTRACT") [] (more (seq (more (prim (codes "parameter") [] (more (prim (codes
    "nat") ((codes "%x") ∷ []) none) none)) (more (prim (codes "storage") [] (more (prim (codes "unit") [] none) none)) (more
    (prim (codes "code") [] (more (seq (more (prim (codes "SELF") ((codes "%x") ∷ []) none) (more (prim (codes "DROP") []
    none) (more (prim (codes "CDR") [] none) (more (prim (codes "NIL") [] (more (prim (codes "operation") [] none) none))
    (more (prim (codes "PAIR") [] none) none)))))) none)) none)))) none)) main_entries ((k.option (k.simple s.KeyHash)) ∷
    (k.simple s.Mutez) ∷ (k.simple s.Unit) ∷ []) ≡ goes (k.operation ∷ (k.simple s.Address) ∷ [])
unfolding primitive_names primitives code_of_name primitive_of_code primitive_of_name former_of_name word_of_name in_order
control_137 = refl
