-- Loops, lambdas, open blocks and new contracts.
use Rattle.std.specs.Prelude.{◌≡◌, refl, pos, negsuc, [], ◌∷◌, codes, None}
use Rattle.rules_text.specs.nodes.Tree.{int, str, prim, seq, none, more}
use Rattle.rules_text.specs.nodes.Primitives.{primitive_names, primitives, code_of_name, primitive_of_code, primitive_of_name}
use Rattle.rules_data.specs.numbers.Limits.{int_or_limit}
use Rattle.rules_data.specs.types.Reading.{former_of_name}
use Rattle.rules_data.specs.types.Entrypoints.{in_order}
use Rattle.rules_data.specs.values.Val as v
use Rattle.rules_data.specs.values.Val.{no_val, more_vals, no_pair, more_pairs}
use Rattle.rules_data.specs.values.Literals.{word_of_name}
use Rattle.rules_code.specs.steps.Failure as f
use Rattle.rules_code.specs.evaluation.Operations.{origination}
use Rattle.rows.specs.evaluation.Told.{ended, failure, ran, ran_under}

-- parameter unit ; storage unit ; code { CDR ; LAMBDA_REC unit unit { EXEC } ; UNIT ; EXEC ; DROP ; NIL operation ; PAIR } on
-- Unit and the storage Unit with the gas 13: with 99,990 open blocks the lambda opens ten more
depth_limit : ran_under 99990 (seq (more (prim (codes "parameter") [] (more (prim (codes "unit") [] none) none)) (more (prim
    (codes "storage") [] (more (prim (codes "unit") [] none) none)) (more (prim (codes "code") [] (more (seq (more (prim
    (codes "CDR") [] none) (more (prim (codes "LAMBDA_REC") [] (more (prim (codes "unit") [] none) (more (prim (codes "unit")
    [] none) (more (seq (more (prim (codes "EXEC") [] none) none)) none)))) (more (prim (codes "UNIT") [] none) (more (prim
    (codes "EXEC") [] none) (more (prim (codes "DROP") [] none) (more (prim (codes "NIL") [] (more (prim (codes "operation")
    [] none) none)) (more (prim (codes "PAIR") [] none) none)))))))) none)) none)))) (prim (codes "Unit") [] none) (prim
    (codes "Unit") [] none) 13 ≡ failure f.depth_limit
unfolding primitive_names primitives code_of_name primitive_of_code primitive_of_name former_of_name word_of_name in_order
    int_or_limit
depth_limit = refl

-- parameter unit ; storage unit ; code { CDR ; LAMBDA_REC unit unit { EXEC } ; UNIT ; EXEC ; DROP ; NIL operation ; PAIR } on
-- Unit and the storage Unit with the gas 12
out_of_gas_at_the_depth_limit : ran_under 99990 (seq (more (prim (codes "parameter") [] (more (prim (codes "unit") [] none)
    none)) (more (prim (codes "storage") [] (more (prim (codes "unit") [] none) none)) (more (prim (codes "code") [] (more
    (seq (more (prim (codes "CDR") [] none) (more (prim (codes "LAMBDA_REC") [] (more (prim (codes "unit") [] none) (more
    (prim (codes "unit") [] none) (more (seq (more (prim (codes "EXEC") [] none) none)) none)))) (more (prim (codes "UNIT") []
    none) (more (prim (codes "EXEC") [] none) (more (prim (codes "DROP") [] none) (more (prim (codes "NIL") [] (more (prim
    (codes "operation") [] none) none)) (more (prim (codes "PAIR") [] none) none)))))))) none)) none)))) (prim (codes "Unit")
    [] none) (prim (codes "Unit") [] none) 12 ≡ failure f.out_of_gas
unfolding primitive_names primitives code_of_name primitive_of_code primitive_of_name former_of_name word_of_name in_order
    int_or_limit
out_of_gas_at_the_depth_limit = refl

-- parameter unit ; storage int ; code { DROP ; LAMBDA int int { PUSH int 1 ; ADD } ; PUSH int 0 ; DUP ; PUSH int 10 ; COMPARE
-- ; GT ; LOOP { DIP { DUP } ; EXEC ; DUP ; PUSH int 10 ; COMPARE ; GT } ; DIP { DROP } ; NIL operation ; PAIR } on Unit
-- and the storage 0 with the gas 10000
ten_turns : ran (seq (more (prim (codes "parameter") [] (more (prim (codes "unit") [] none) none)) (more (prim (codes
    "storage") [] (more (prim (codes "int") [] none) none)) (more (prim (codes "code") [] (more (seq (more (prim (codes
    "DROP") [] none) (more (prim (codes "LAMBDA") [] (more (prim (codes "int") [] none) (more (prim (codes "int") [] none)
    (more (seq (more (prim (codes "PUSH") [] (more (prim (codes "int") [] none) (more (int (pos 1)) none))) (more (prim (codes
    "ADD") [] none) none))) none)))) (more (prim (codes "PUSH") [] (more (prim (codes "int") [] none) (more (int (pos 0))
    none))) (more (prim (codes "DUP") [] none) (more (prim (codes "PUSH") [] (more (prim (codes "int") [] none) (more (int
    (pos 10)) none))) (more (prim (codes "COMPARE") [] none) (more (prim (codes "GT") [] none) (more (prim (codes "LOOP") []
    (more (seq (more (prim (codes "DIP") [] (more (seq (more (prim (codes "DUP") [] none) none)) none)) (more (prim (codes
    "EXEC") [] none) (more (prim (codes "DUP") [] none) (more (prim (codes "PUSH") [] (more (prim (codes "int") [] none) (more
    (int (pos 10)) none))) (more (prim (codes "COMPARE") [] none) (more (prim (codes "GT") [] none) none))))))) none)) (more
    (prim (codes "DIP") [] (more (seq (more (prim (codes "DROP") [] none) none)) none)) (more (prim (codes "NIL") [] (more
    (prim (codes "operation") [] none) none)) (more (prim (codes "PAIR") [] none) none)))))))))))) none)) none)))) (prim
    (codes "Unit") [] none) (int (pos 0)) 10000 ≡ ended 159 [] no_val (int (pos 10)) []
unfolding primitive_names primitives code_of_name primitive_of_code primitive_of_name former_of_name word_of_name in_order
    int_or_limit
ten_turns = refl

-- parameter unit ; storage int ; code { DROP ; LAMBDA int int { PUSH int 1 ; ADD } ; PUSH int 0 ; DUP ; PUSH int 300 ;
-- COMPARE ; GT ; LOOP { DIP { DUP } ; EXEC ; DUP ; PUSH int 300 ; COMPARE ; GT } ; DIP { DROP } ; NIL operation ; PAIR }
-- on Unit and the storage 0 with the gas 10000
three_hundred_turns : ran (seq (more (prim (codes "parameter") [] (more (prim (codes "unit") [] none) none)) (more (prim
    (codes "storage") [] (more (prim (codes "int") [] none) none)) (more (prim (codes "code") [] (more (seq (more (prim (codes
    "DROP") [] none) (more (prim (codes "LAMBDA") [] (more (prim (codes "int") [] none) (more (prim (codes "int") [] none)
    (more (seq (more (prim (codes "PUSH") [] (more (prim (codes "int") [] none) (more (int (pos 1)) none))) (more (prim (codes
    "ADD") [] none) none))) none)))) (more (prim (codes "PUSH") [] (more (prim (codes "int") [] none) (more (int (pos 0))
    none))) (more (prim (codes "DUP") [] none) (more (prim (codes "PUSH") [] (more (prim (codes "int") [] none) (more (int
    (pos 300)) none))) (more (prim (codes "COMPARE") [] none) (more (prim (codes "GT") [] none) (more (prim (codes "LOOP") []
    (more (seq (more (prim (codes "DIP") [] (more (seq (more (prim (codes "DUP") [] none) none)) none)) (more (prim (codes
    "EXEC") [] none) (more (prim (codes "DUP") [] none) (more (prim (codes "PUSH") [] (more (prim (codes "int") [] none) (more
    (int (pos 300)) none))) (more (prim (codes "COMPARE") [] none) (more (prim (codes "GT") [] none) none))))))) none)) (more
    (prim (codes "DIP") [] (more (seq (more (prim (codes "DROP") [] none) none)) none)) (more (prim (codes "NIL") [] (more
    (prim (codes "operation") [] none) none)) (more (prim (codes "PAIR") [] none) none)))))))))))) none)) none)))) (prim
    (codes "Unit") [] none) (int (pos 0)) 10000 ≡ ended 4219 [] no_val (int (pos 300)) []
unfolding primitive_names primitives code_of_name primitive_of_code primitive_of_name former_of_name word_of_name in_order
    int_or_limit
three_hundred_turns = refl

-- parameter (list int) ; storage int ; code { UNPAIR ; MAP { PUSH int 2 ; MUL } ; ITER { ADD } ; NIL operation ; PAIR } on {
-- 1 ; 2 ; 3 } and the storage 10 with the gas 100
maps_and_iterates : ran (seq (more (prim (codes "parameter") [] (more (prim (codes "list") [] (more (prim (codes "int") []
    none) none)) none)) (more (prim (codes "storage") [] (more (prim (codes "int") [] none) none)) (more (prim (codes "code")
    [] (more (seq (more (prim (codes "UNPAIR") [] none) (more (prim (codes "MAP") [] (more (seq (more (prim (codes "PUSH") []
    (more (prim (codes "int") [] none) (more (int (pos 2)) none))) (more (prim (codes "MUL") [] none) none))) none)) (more
    (prim (codes "ITER") [] (more (seq (more (prim (codes "ADD") [] none) none)) none)) (more (prim (codes "NIL") [] (more
    (prim (codes "operation") [] none) none)) (more (prim (codes "PAIR") [] none) none)))))) none)) none)))) (seq (more (int
    (pos 1)) (more (int (pos 2)) (more (int (pos 3)) none)))) (int (pos 10)) 100 ≡ ended 23 [] no_val (int (pos 22)) []
unfolding primitive_names primitives code_of_name primitive_of_code primitive_of_name former_of_name word_of_name in_order
    int_or_limit
maps_and_iterates = refl

-- parameter (option nat) ; storage (option int) ; code { CAR ; MAP { INT } ; NIL operation ; PAIR } on Some 7 and the storage
-- None with the gas 100
maps_an_option : ran (seq (more (prim (codes "parameter") [] (more (prim (codes "option") [] (more (prim (codes "nat") []
    none) none)) none)) (more (prim (codes "storage") [] (more (prim (codes "option") [] (more (prim (codes "int") [] none)
    none)) none)) (more (prim (codes "code") [] (more (seq (more (prim (codes "CAR") [] none) (more (prim (codes "MAP") []
    (more (seq (more (prim (codes "INT") [] none) none)) none)) (more (prim (codes "NIL") [] (more (prim (codes "operation")
    [] none) none)) (more (prim (codes "PAIR") [] none) none))))) none)) none)))) (prim (codes "Some") [] (more (int (pos 7))
    none)) (prim (codes "None") [] none) 100 ≡ ended 6 [] no_val (prim (codes "Some") [] (more (int (pos 7)) none)) []
unfolding primitive_names primitives code_of_name primitive_of_code primitive_of_name former_of_name word_of_name in_order
    int_or_limit
maps_an_option = refl

-- parameter (map string int) ; storage (map string bool) ; code { CAR ; MAP { CDR ; GT } ; NIL operation ; PAIR } on { Elt
-- "a" 1 ; Elt "b" -1 } and the storage {} with the gas 100
maps_a_map : ran (seq (more (prim (codes "parameter") [] (more (prim (codes "map") [] (more (prim (codes "string") [] none)
    (more (prim (codes "int") [] none) none))) none)) (more (prim (codes "storage") [] (more (prim (codes "map") [] (more
    (prim (codes "string") [] none) (more (prim (codes "bool") [] none) none))) none)) (more (prim (codes "code") [] (more
    (seq (more (prim (codes "CAR") [] none) (more (prim (codes "MAP") [] (more (seq (more (prim (codes "CDR") [] none) (more
    (prim (codes "GT") [] none) none))) none)) (more (prim (codes "NIL") [] (more (prim (codes "operation") [] none) none))
    (more (prim (codes "PAIR") [] none) none))))) none)) none)))) (seq (more (prim (codes "Elt") [] (more (str (codes "a"))
    (more (int (pos 1)) none))) (more (prim (codes "Elt") [] (more (str (codes "b")) (more (int (negsuc 0)) none))) none)))
    (seq none) 100 ≡ ended 10 [] no_val (seq (more (prim (codes "Elt") [] (more (str (codes "a")) (more (prim (codes "True")
    [] none) none))) (more (prim (codes "Elt") [] (more (str (codes "b")) (more (prim (codes "False") [] none) none))) none)))
    []
unfolding primitive_names primitives code_of_name primitive_of_code primitive_of_name former_of_name word_of_name in_order
    int_or_limit
maps_a_map = refl

-- parameter int ; storage int ; code { CAR ; LEFT int ; LOOP_LEFT { PUSH int 3 ; ADD ; DUP ; PUSH int 10 ; COMPARE ; GT ; IF
-- { LEFT int } { RIGHT int } } ; NIL operation ; PAIR } on 1 and the storage 0 with the gas 200
goes_left : ran (seq (more (prim (codes "parameter") [] (more (prim (codes "int") [] none) none)) (more (prim (codes
    "storage") [] (more (prim (codes "int") [] none) none)) (more (prim (codes "code") [] (more (seq (more (prim (codes "CAR")
    [] none) (more (prim (codes "LEFT") [] (more (prim (codes "int") [] none) none)) (more (prim (codes "LOOP_LEFT") [] (more
    (seq (more (prim (codes "PUSH") [] (more (prim (codes "int") [] none) (more (int (pos 3)) none))) (more (prim (codes
    "ADD") [] none) (more (prim (codes "DUP") [] none) (more (prim (codes "PUSH") [] (more (prim (codes "int") [] none) (more
    (int (pos 10)) none))) (more (prim (codes "COMPARE") [] none) (more (prim (codes "GT") [] none) (more (prim (codes "IF")
    [] (more (seq (more (prim (codes "LEFT") [] (more (prim (codes "int") [] none) none)) none)) (more (seq (more (prim (codes
    "RIGHT") [] (more (prim (codes "int") [] none) none)) none)) none))) none)))))))) none)) (more (prim (codes "NIL") []
    (more (prim (codes "operation") [] none) none)) (more (prim (codes "PAIR") [] none) none)))))) none)) none)))) (int (pos
    1)) (int (pos 0)) 200 ≡ ended 41 [] no_val (int (pos 10)) []
unfolding primitive_names primitives code_of_name primitive_of_code primitive_of_name former_of_name word_of_name in_order
    int_or_limit
goes_left = refl

-- parameter int ; storage int ; code { CAR ; LAMBDA (pair int int) int { UNPAIR ; SUB } ; SWAP ; APPLY ; PUSH int 2 ; EXEC ;
-- NIL operation ; PAIR } on 9 and the storage 0 with the gas 200
captures_a_value : ran (seq (more (prim (codes "parameter") [] (more (prim (codes "int") [] none) none)) (more (prim (codes
    "storage") [] (more (prim (codes "int") [] none) none)) (more (prim (codes "code") [] (more (seq (more (prim (codes "CAR")
    [] none) (more (prim (codes "LAMBDA") [] (more (prim (codes "pair") [] (more (prim (codes "int") [] none) (more (prim
    (codes "int") [] none) none))) (more (prim (codes "int") [] none) (more (seq (more (prim (codes "UNPAIR") [] none) (more
    (prim (codes "SUB") [] none) none))) none)))) (more (prim (codes "SWAP") [] none) (more (prim (codes "APPLY") [] none)
    (more (prim (codes "PUSH") [] (more (prim (codes "int") [] none) (more (int (pos 2)) none))) (more (prim (codes "EXEC") []
    none) (more (prim (codes "NIL") [] (more (prim (codes "operation") [] none) none)) (more (prim (codes "PAIR") [] none)
    none))))))))) none)) none)))) (int (pos 9)) (int (pos 0)) 200 ≡ ended 15 [] no_val (int (pos 7)) []
unfolding primitive_names primitives code_of_name primitive_of_code primitive_of_name former_of_name word_of_name in_order
    int_or_limit
captures_a_value = refl

-- parameter int ; storage int ; code { CAR ; LAMBDA_REC (pair int int) int { UNPAIR ; SUB ; DIP { DROP } } ; SWAP ; APPLY ;
-- PUSH int 2 ; EXEC ; NIL operation ; PAIR } on 9 and the storage 0 with the gas 200
captures_a_value_for_a_recursive_lambda : ran (seq (more (prim (codes "parameter") [] (more (prim (codes "int") [] none)
    none)) (more (prim (codes "storage") [] (more (prim (codes "int") [] none) none)) (more (prim (codes "code") [] (more (seq
    (more (prim (codes "CAR") [] none) (more (prim (codes "LAMBDA_REC") [] (more (prim (codes "pair") [] (more (prim (codes
    "int") [] none) (more (prim (codes "int") [] none) none))) (more (prim (codes "int") [] none) (more (seq (more (prim
    (codes "UNPAIR") [] none) (more (prim (codes "SUB") [] none) (more (prim (codes "DIP") [] (more (seq (more (prim (codes
    "DROP") [] none) none)) none)) none)))) none)))) (more (prim (codes "SWAP") [] none) (more (prim (codes "APPLY") [] none)
    (more (prim (codes "PUSH") [] (more (prim (codes "int") [] none) (more (int (pos 2)) none))) (more (prim (codes "EXEC") []
    none) (more (prim (codes "NIL") [] (more (prim (codes "operation") [] none) none)) (more (prim (codes "PAIR") [] none)
    none))))))))) none)) none)))) (int (pos 9)) (int (pos 0)) 200 ≡ ended 21 [] no_val (int (pos 7)) []
unfolding primitive_names primitives code_of_name primitive_of_code primitive_of_name former_of_name word_of_name in_order
    int_or_limit
captures_a_value_for_a_recursive_lambda = refl

-- parameter unit ; storage unit ; code { DROP ; UNIT ; PUSH int 7 ; PUSH mutez 2 ; NONE key_hash ; CREATE_CONTRACT {
-- parameter int ; storage int ; code { CAR ; NIL operation ; PAIR } } ; DIP { DROP } ; NIL operation ; SWAP ; CONS ; PAIR
-- } on Unit and the storage Unit with the gas 100
creates_a_contract : ran (seq (more (prim (codes "parameter") [] (more (prim (codes "unit") [] none) none)) (more (prim (codes
    "storage") [] (more (prim (codes "unit") [] none) none)) (more (prim (codes "code") [] (more (seq (more (prim (codes
    "DROP") [] none) (more (prim (codes "UNIT") [] none) (more (prim (codes "PUSH") [] (more (prim (codes "int") [] none)
    (more (int (pos 7)) none))) (more (prim (codes "PUSH") [] (more (prim (codes "mutez") [] none) (more (int (pos 2)) none)))
    (more (prim (codes "NONE") [] (more (prim (codes "key_hash") [] none) none)) (more (prim (codes "CREATE_CONTRACT") []
    (more (seq (more (prim (codes "parameter") [] (more (prim (codes "int") [] none) none)) (more (prim (codes "storage") []
    (more (prim (codes "int") [] none) none)) (more (prim (codes "code") [] (more (seq (more (prim (codes "CAR") [] none)
    (more (prim (codes "NIL") [] (more (prim (codes "operation") [] none) none)) (more (prim (codes "PAIR") [] none) none))))
    none)) none)))) none)) (more (prim (codes "DIP") [] (more (seq (more (prim (codes "DROP") [] none) none)) none)) (more
    (prim (codes "NIL") [] (more (prim (codes "operation") [] none) none)) (more (prim (codes "SWAP") [] none) (more (prim
    (codes "CONS") [] none) (more (prim (codes "PAIR") [] none) none)))))))))))) none)) none)))) (prim (codes "Unit") [] none)
    (prim (codes "Unit") [] none) 100 ≡ ended 18 (record {
      number = 0;
      operation = origination None 2 (seq (more (prim (codes
          "parameter") [] (more (prim (codes "int") [] none) none)) (more (prim (codes "storage") [] (more (prim (codes "int") []
          none) none)) (more (prim (codes "code") [] (more (seq (more (prim (codes "CAR") [] none) (more (prim (codes "NIL") []
          (more (prim (codes "operation") [] none) none)) (more (prim (codes "PAIR") [] none) none)))) none)) none)))) (v.number
          (pos 7)) (0 ∷ 0 ∷ 0 ∷ 0 ∷ 0 ∷ 0 ∷ 0 ∷ 2 ∷ 0 ∷ 0 ∷ 0 ∷ 0 ∷ 0 ∷ 0 ∷ 0 ∷ 0 ∷ 0 ∷ 0 ∷ 0 ∷ 0 ∷ []);
    } ∷ []) (more_vals
    (v.operation 0) no_val) (prim (codes "Unit") [] none) []
unfolding primitive_names primitives code_of_name primitive_of_code primitive_of_name former_of_name word_of_name in_order
    int_or_limit
creates_a_contract = refl
