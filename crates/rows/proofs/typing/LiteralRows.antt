-- Literals with their bodies tried.
use Rattle.std.specs.Prelude.{◌≡◌, refl, pos, negsuc, [], ◌∷◌, codes, Some, None}
use Rattle.rules_text.specs.nodes.Tree.{int, str, bytes, prim, seq, none, more}
use Rattle.rules_text.specs.nodes.Primitives.{primitive_names, primitives, code_of_name, primitive_of_code, primitive_of_name}
use Rattle.rules_data.specs.declared.types.Simple.TheVariants as s
use Rattle.rules_data.specs.types.Kind as k
use Rattle.rules_data.specs.types.Reading.{former_of_name}
use Rattle.rules_data.specs.types.Entrypoints.{in_order}
use Rattle.rules_data.specs.values.Literals.{word_of_name}
use Rattle.rules_code.specs.typing.Literals.{literal}
use Rattle.rows.specs.typing.Told.{fault_of}

-- { 2 ; 1 } : set int
literal_1 : fault_of (literal (k.set (k.simple s.Int)) (seq (more (int (pos 2)) (more (int (pos 1)) none)))) ≡ Some 2
unfolding primitive_names primitives code_of_name primitive_of_code primitive_of_name former_of_name word_of_name in_order
literal_1 = refl

-- { 1 ; 2 } : set int
literal_2 : fault_of (literal (k.set (k.simple s.Int)) (seq (more (int (pos 1)) (more (int (pos 2)) none)))) ≡ None
unfolding primitive_names primitives code_of_name primitive_of_code primitive_of_name former_of_name word_of_name in_order
literal_2 = refl

-- { 1 ; 1 } : set int
literal_3 : fault_of (literal (k.set (k.simple s.Int)) (seq (more (int (pos 1)) (more (int (pos 1)) none)))) ≡ Some 2
unfolding primitive_names primitives code_of_name primitive_of_code primitive_of_name former_of_name word_of_name in_order
literal_3 = refl

-- Pair 1 2 3 : pair int int
literal_4 : fault_of (literal (k.pair (k.simple s.Int) (k.simple s.Int)) (prim (codes "Pair") [] (more (int (pos 1)) (more
    (int (pos 2)) (more (int (pos 3)) none))))) ≡ Some 0
unfolding primitive_names primitives code_of_name primitive_of_code primitive_of_name former_of_name word_of_name in_order
literal_4 = refl

-- Pair "" 2 3 : pair int int
literal_5 : fault_of (literal (k.pair (k.simple s.Int) (k.simple s.Int)) (prim (codes "Pair") [] (more (str (codes "")) (more
    (int (pos 2)) (more (int (pos 3)) none))))) ≡ Some 1
unfolding primitive_names primitives code_of_name primitive_of_code primitive_of_name former_of_name word_of_name in_order
literal_5 = refl

-- { 1 ; 2 ; "a" } : pair int nat string
literal_6 : fault_of (literal (k.pair (k.simple s.Int) (k.pair (k.simple s.Nat) (k.simple s.String))) (seq (more (int (pos 1))
    (more (int (pos 2)) (more (str (codes "a")) none))))) ≡ None
unfolding primitive_names primitives code_of_name primitive_of_code primitive_of_name former_of_name word_of_name in_order
literal_6 = refl

-- { 1 ; 2 ; 3 } : pair int (list int)
literal_7 : fault_of (literal (k.pair (k.simple s.Int) (k.list (k.simple s.Int))) (seq (more (int (pos 1)) (more (int (pos 2))
    (more (int (pos 3)) none))))) ≡ Some 0
unfolding primitive_names primitives code_of_name primitive_of_code primitive_of_name former_of_name word_of_name in_order
literal_7 = refl

-- {} : lambda nat nat
literal_8 : fault_of (literal (k.lambda (k.simple s.Nat) (k.simple s.Nat)) (seq none)) ≡ None
unfolding primitive_names primitives code_of_name primitive_of_code primitive_of_name former_of_name word_of_name in_order
literal_8 = refl

-- { UNIT } : lambda nat nat
literal_9 : fault_of (literal (k.lambda (k.simple s.Nat) (k.simple s.Nat)) (seq (more (prim (codes "UNIT") [] none) none))) ≡
    Some 0
unfolding primitive_names primitives code_of_name primitive_of_code primitive_of_name former_of_name word_of_name in_order
literal_9 = refl

-- { UNIT ; FOO } : lambda nat nat
literal_10 : fault_of (literal (k.lambda (k.simple s.Nat) (k.simple s.Nat)) (seq (more (prim (codes "UNIT") [] none) (more
    (prim (codes "FOO") [] none) none)))) ≡ Some 2
unfolding primitive_names primitives code_of_name primitive_of_code primitive_of_name former_of_name word_of_name in_order
literal_10 = refl

-- Lambda_rec { DIP { DROP } } : lambda nat nat
literal_11 : fault_of (literal (k.lambda (k.simple s.Nat) (k.simple s.Nat)) (prim (codes "Lambda_rec") [] (more (seq (more
    (prim (codes "DIP") [] (more (seq (more (prim (codes "DROP") [] none) none)) none)) none)) none))) ≡ None
unfolding primitive_names primitives code_of_name primitive_of_code primitive_of_name former_of_name word_of_name in_order
literal_11 = refl

-- Lambda_rec {} : lambda nat nat
literal_12 : fault_of (literal (k.lambda (k.simple s.Nat) (k.simple s.Nat)) (prim (codes "Lambda_rec") [] (more (seq none)
    none))) ≡ Some 1
unfolding primitive_names primitives code_of_name primitive_of_code primitive_of_name former_of_name word_of_name in_order
literal_12 = refl

-- Lambda_rec { UNIT ; FOO } : lambda nat nat
literal_13 : fault_of (literal (k.lambda (k.simple s.Nat) (k.simple s.Nat)) (prim (codes "Lambda_rec") [] (more (seq (more
    (prim (codes "UNIT") [] none) (more (prim (codes "FOO") [] none) none))) none))) ≡ Some 3
unfolding primitive_names primitives code_of_name primitive_of_code primitive_of_name former_of_name word_of_name in_order
literal_13 = refl

-- { SELF } : lambda nat nat
literal_14 : fault_of (literal (k.lambda (k.simple s.Nat) (k.simple s.Nat)) (seq (more (prim (codes "SELF") [] none) none))) ≡
    Some 1
unfolding primitive_names primitives code_of_name primitive_of_code primitive_of_name former_of_name word_of_name in_order
literal_14 = refl

-- Pair { FOO } -1 : pair (lambda nat nat) nat
literal_15 : fault_of (literal (k.pair (k.lambda (k.simple s.Nat) (k.simple s.Nat)) (k.simple s.Nat)) (prim (codes "Pair") []
    (more (seq (more (prim (codes "FOO") [] none) none)) (more (int (negsuc 0)) none)))) ≡ Some 3
unfolding primitive_names primitives code_of_name primitive_of_code primitive_of_name former_of_name word_of_name in_order
literal_15 = refl

-- Pair {} { FOO } : pair (lambda nat nat) (lambda nat nat)
literal_16 : fault_of (literal (k.pair (k.lambda (k.simple s.Nat) (k.simple s.Nat)) (k.lambda (k.simple s.Nat) (k.simple
    s.Nat))) (prim (codes "Pair") [] (more (seq none) (more (seq (more (prim (codes "FOO") [] none) none)) none)))) ≡ Some 3
unfolding primitive_names primitives code_of_name primitive_of_code primitive_of_name former_of_name word_of_name in_order
literal_16 = refl

-- { {} ; {} ; { FOO } ; { FOO } } : list (lambda nat nat)
literal_17 : fault_of (literal (k.list (k.lambda (k.simple s.Nat) (k.simple s.Nat))) (seq (more (seq none) (more (seq none)
    (more (seq (more (prim (codes "FOO") [] none) none)) (more (seq (more (prim (codes "FOO") [] none) none)) none)))))) ≡
    Some 4
unfolding primitive_names primitives code_of_name primitive_of_code primitive_of_name former_of_name word_of_name in_order
literal_17 = refl

-- 0x01000000000000000100000000000000000000000000 : contract unit
literal_18 : fault_of (literal (k.contract (k.simple s.Unit)) (bytes (1 ∷ 0 ∷ 0 ∷ 0 ∷ 0 ∷ 0 ∷ 0 ∷ 0 ∷ 1 ∷ 0 ∷ 0 ∷ 0 ∷ 0 ∷ 0 ∷
    0 ∷ 0 ∷ 0 ∷ 0 ∷ 0 ∷ 0 ∷ 0 ∷ 0 ∷ []))) ≡ None
unfolding primitive_names primitives code_of_name primitive_of_code primitive_of_name former_of_name word_of_name in_order
literal_18 = refl

-- 0x0100 : contract unit
literal_19 : fault_of (literal (k.contract (k.simple s.Unit)) (bytes (1 ∷ 0 ∷ []))) ≡ Some 0
unfolding primitive_names primitives code_of_name primitive_of_code primitive_of_name former_of_name word_of_name in_order
literal_19 = refl

-- Pair 0x01000000000000000100000000000000000000000000 { FOO } : pair (contract unit) (lambda nat nat)
literal_20 : fault_of (literal (k.pair (k.contract (k.simple s.Unit)) (k.lambda (k.simple s.Nat) (k.simple s.Nat))) (prim
    (codes "Pair") [] (more (bytes (1 ∷ 0 ∷ 0 ∷ 0 ∷ 0 ∷ 0 ∷ 0 ∷ 0 ∷ 1 ∷ 0 ∷ 0 ∷ 0 ∷ 0 ∷ 0 ∷ 0 ∷ 0 ∷ 0 ∷ 0 ∷ 0 ∷ 0 ∷ 0 ∷ 0 ∷
    [])) (more (seq (more (prim (codes "FOO") [] none) none)) none)))) ≡ Some 3
unfolding primitive_names primitives code_of_name primitive_of_code primitive_of_name former_of_name word_of_name in_order
literal_20 = refl

-- 0 : operation
literal_21 : fault_of (literal k.operation (int (pos 0))) ≡ Some 0
unfolding primitive_names primitives code_of_name primitive_of_code primitive_of_name former_of_name word_of_name in_order
literal_21 = refl

-- 0 : ticket nat
literal_22 : fault_of (literal (k.ticket (k.simple s.Nat)) (int (pos 0))) ≡ Some 0
unfolding primitive_names primitives code_of_name primitive_of_code primitive_of_name former_of_name word_of_name in_order
literal_22 = refl

-- Unit : never
literal_23 : fault_of (literal (k.simple s.Never) (prim (codes "Unit") [] none)) ≡ Some 0
unfolding primitive_names primitives code_of_name primitive_of_code primitive_of_name former_of_name word_of_name in_order
literal_23 = refl
