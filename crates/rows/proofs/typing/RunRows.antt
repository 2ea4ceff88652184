-- Scripts as they are originated in worked runs.
use Rattle.std.specs.Prelude.{◌≡◌, refl, pos, [], ◌∷◌, codes, Some, None}
use Rattle.rules_text.specs.nodes.Tree.{int, str, bytes, prim, seq, none, more}
use Rattle.rules_text.specs.nodes.Primitives.{primitive_names, primitives, code_of_name, primitive_of_code, primitive_of_name}
use Rattle.rules_data.specs.types.Reading.{former_of_name}
use Rattle.rules_data.specs.types.Entrypoints.{in_order}
use Rattle.rules_data.specs.values.Literals.{word_of_name}
use Rattle.rules_code.specs.typing.Nodes.{script}
use Rattle.rows.specs.typing.Told.{fault_of}

run_1 : fault_of (script (seq (more (prim (codes "parameter") [] (more (prim (codes "unit") [] none) none)) (more (prim (codes
    "storage") [] (more (prim (codes "int") [] none) none)) (more (prim (codes "view") [] (more (str (codes "v")) (more (prim
    (codes "int") [] none) (more (prim (codes "int") [] none) (more (seq (more (prim (codes "UNPAIR") [] none) (more (prim
    (codes "ADD") [] none) none))) none))))) (more (prim (codes "code") [] (more (seq (more (prim (codes "CDR") [] none) (more
    (prim (codes "SELF_ADDRESS") [] none) (more (prim (codes "PUSH") [] (more (prim (codes "int") [] none) (more (int (pos 4))
    none))) (more (prim (codes "VIEW") [] (more (str (codes "v")) (more (prim (codes "int") [] none) none))) (more (prim
    (codes "IF_NONE") [] (more (seq (more (prim (codes "UNIT") [] none) (more (prim (codes "FAILWITH") [] none) none))) (more
    (seq none) none))) (more (prim (codes "ADD") [] none) (more (prim (codes "NIL") [] (more (prim (codes "operation") []
    none) none)) (more (prim (codes "PAIR") [] none) none))))))))) none)) none)))))) ≡ None
unfolding primitive_names primitives code_of_name primitive_of_code primitive_of_name former_of_name word_of_name in_order
run_1 = refl

run_2 : fault_of (script (seq (more (prim (codes "parameter") [] (more (prim (codes "unit") [] none) none)) (more (prim (codes
    "storage") [] (more (prim (codes "int") [] none) none)) (more (prim (codes "view") [] (more (str (codes "v")) (more (prim
    (codes "int") [] none) (more (prim (codes "int") [] none) (more (seq (more (prim (codes "UNPAIR") [] none) (more (prim
    (codes "ADD") [] none) none))) none))))) (more (prim (codes "code") [] (more (seq (more (prim (codes "CDR") [] none) (more
    (prim (codes "SELF_ADDRESS") [] none) (more (prim (codes "PUSH") [] (more (prim (codes "int") [] none) (more (int (pos 4))
    none))) (more (prim (codes "VIEW") [] (more (str (codes "v")) (more (prim (codes "nat") [] none) none))) (more (prim
    (codes "IF_NONE") [] (more (seq (more (prim (codes "UNIT") [] none) (more (prim (codes "FAILWITH") [] none) none))) (more
    (seq none) none))) (more (prim (codes "ADD") [] none) (more (prim (codes "NIL") [] (more (prim (codes "operation") []
    none) none)) (more (prim (codes "PAIR") [] none) none))))))))) none)) none)))))) ≡ None
unfolding primitive_names primitives code_of_name primitive_of_code primitive_of_name former_of_name word_of_name in_order
run_2 = refl

run_3 : fault_of (script (seq (more (prim (codes "parameter") [] (more (prim (codes "unit") [] none) none)) (more (prim (codes
    "storage") [] (more (prim (codes "int") [] none) none)) (more (prim (codes "code") [] (more (seq (more (prim (codes
    "DROP") [] none) (more (prim (codes "LAMBDA") [] (more (prim (codes "int") [] none) (more (prim (codes "int") [] none)
    (more (seq (more (prim (codes "PUSH") [] (more (prim (codes "int") [] none) (more (int (pos 1)) none))) (more (prim (codes
    "ADD") [] none) none))) none)))) (more (prim (codes "PUSH") [] (more (prim (codes "int") [] none) (more (int (pos 0))
    none))) (more (prim (codes "DUP") [] none) (more (prim (codes "PUSH") [] (more (prim (codes "int") [] none) (more (int
    (pos 300)) none))) (more (prim (codes "COMPARE") [] none) (more (prim (codes "GT") [] none) (more (prim (codes "LOOP") []
    (more (seq (more (prim (codes "DIP") [] (more (seq (more (prim (codes "DUP") [] none) none)) none)) (more (prim (codes
    "EXEC") [] none) (more (prim (codes "DUP") [] none) (more (prim (codes "PUSH") [] (more (prim (codes "int") [] none) (more
    (int (pos 300)) none))) (more (prim (codes "COMPARE") [] none) (more (prim (codes "GT") [] none) none))))))) none)) (more
    (prim (codes "DIP") [] (more (seq (more (prim (codes "DROP") [] none) none)) none)) (more (prim (codes "NIL") [] (more
    (prim (codes "operation") [] none) none)) (more (prim (codes "PAIR") [] none) none)))))))))))) none)) none))))) ≡ None
unfolding primitive_names primitives code_of_name primitive_of_code primitive_of_name former_of_name word_of_name in_order
run_3 = refl

run_4 : fault_of (script (seq (more (prim (codes "parameter") [] (more (prim (codes "unit") [] none) none)) (more (prim (codes
    "storage") [] (more (prim (codes "unit") [] none) none)) (more (prim (codes "code") [] (more (seq (more (prim (codes
    "DROP") [] none) (more (prim (codes "PUSH") [] (more (prim (codes "bool") [] none) (more (prim (codes "True") [] none)
    none))) (more (prim (codes "LOOP") [] (more (seq (more (prim (codes "UNIT") [] none) (more (prim (codes "EMIT") [] none)
    (more (prim (codes "DROP") [] none) (more (prim (codes "PUSH") [] (more (prim (codes "bool") [] none) (more (prim (codes
    "True") [] none) none))) none))))) none)) (more (prim (codes "UNIT") [] none) (more (prim (codes "NIL") [] (more (prim
    (codes "operation") [] none) none)) (more (prim (codes "PAIR") [] none) none))))))) none)) none))))) ≡ None
unfolding primitive_names primitives code_of_name primitive_of_code primitive_of_name former_of_name word_of_name in_order
run_4 = refl

run_5 : fault_of (script (seq (more (prim (codes "parameter") [] (more (prim (codes "bytes") [] none) none)) (more (prim
    (codes "storage") [] (more (prim (codes "option") [] (more (prim (codes "lambda") [] (more (prim (codes "unit") [] none)
    (more (prim (codes "unit") [] none) none))) none)) none)) (more (prim (codes "code") [] (more (seq (more (prim (codes
    "CAR") [] none) (more (prim (codes "UNPACK") [] (more (prim (codes "lambda") [] (more (prim (codes "unit") [] none) (more
    (prim (codes "unit") [] none) none))) none)) (more (prim (codes "NIL") [] (more (prim (codes "operation") [] none) none))
    (more (prim (codes "PAIR") [] none) none))))) none)) none))))) ≡ None
unfolding primitive_names primitives code_of_name primitive_of_code primitive_of_name former_of_name word_of_name in_order
run_5 = refl

run_6 : fault_of (script (seq (more (prim (codes "parameter") [] (more (prim (codes "bytes") [] none) none)) (more (prim
    (codes "storage") [] (more (prim (codes "bytes") [] none) none)) (more (prim (codes "code") [] (more (seq (more (prim
    (codes "CAR") [] none) (more (prim (codes "NIL") [] (more (prim (codes "operation") [] none) none)) (more (prim (codes
    "PAIR") [] none) none)))) none)) none))))) ≡ None
unfolding primitive_names primitives code_of_name primitive_of_code primitive_of_name former_of_name word_of_name in_order
run_6 = refl

run_7 : fault_of (script (seq (more (prim (codes "parameter") [] (more (prim (codes "address") [] none) none)) (more (prim
    (codes "storage") [] (more (prim (codes "unit") [] none) none)) (more (prim (codes "code") [] (more (seq (more (prim
    (codes "CAR") [] none) (more (prim (codes "CONTRACT") [] (more (prim (codes "ticket") [] (more (prim (codes "nat") []
    none) none)) none)) (more (prim (codes "IF_NONE") [] (more (seq (more (prim (codes "UNIT") [] none) (more (prim (codes
    "FAILWITH") [] none) none))) (more (seq none) none))) (more (prim (codes "PUSH") [] (more (prim (codes "mutez") [] none)
    (more (int (pos 0)) none))) (more (prim (codes "PUSH") [] (more (prim (codes "nat") [] none) (more (int (pos 5)) none)))
    (more (prim (codes "PUSH") [] (more (prim (codes "nat") [] none) (more (int (pos 7)) none))) (more (prim (codes "TICKET")
    [] none) (more (prim (codes "IF_NONE") [] (more (seq (more (prim (codes "UNIT") [] none) (more (prim (codes "FAILWITH") []
    none) none))) (more (seq none) none))) (more (prim (codes "PUSH") [] (more (prim (codes "pair") [] (more (prim (codes
    "nat") [] none) (more (prim (codes "nat") [] none) none))) (more (prim (codes "Pair") [] (more (int (pos 2)) (more (int
    (pos 3)) none))) none))) (more (prim (codes "SWAP") [] none) (more (prim (codes "SPLIT_TICKET") [] none) (more (prim
    (codes "IF_NONE") [] (more (seq (more (prim (codes "UNIT") [] none) (more (prim (codes "FAILWITH") [] none) none))) (more
    (seq (more (prim (codes "UNPAIR") [] none) none)) none))) (more (prim (codes "DIP") [] (more (seq (more (prim (codes
    "DROP") [] none) none)) none)) (more (prim (codes "TRANSFER_TOKENS") [] none) (more (prim (codes "NIL") [] (more (prim
    (codes "operation") [] none) none)) (more (prim (codes "SWAP") [] none) (more (prim (codes "CONS") [] none) (more (prim
    (codes "UNIT") [] none) (more (prim (codes "SWAP") [] none) (more (prim (codes "PAIR") [] none) none)))))))))))))))))))))
    none)) none))))) ≡ None
unfolding primitive_names primitives code_of_name primitive_of_code primitive_of_name former_of_name word_of_name in_order
run_7 = refl

run_8 : fault_of (script (seq (more (prim (codes "parameter") [] (more (prim (codes "unit") [] none) none)) (more (prim (codes
    "storage") [] (more (prim (codes "pair") [] (more (prim (codes "nat") [] none) (more (prim (codes "option") [] (more (prim
    (codes "ticket") [] (more (prim (codes "nat") [] none) none)) none)) none))) none)) (more (prim (codes "view") [] (more
    (str (codes "n")) (more (prim (codes "unit") [] none) (more (prim (codes "nat") [] none) (more (seq (more (prim (codes
    "CDR") [] none) (more (prim (codes "CAR") [] none) none))) none))))) (more (prim (codes "code") [] (more (seq (more (prim
    (codes "CDR") [] none) (more (prim (codes "UNPAIR") [] none) (more (prim (codes "DIP") [] (more (seq (more (prim (codes
    "IF_NONE") [] (more (seq (more (prim (codes "PUSH") [] (more (prim (codes "nat") [] none) (more (int (pos 5)) none)))
    (more (prim (codes "PUSH") [] (more (prim (codes "nat") [] none) (more (int (pos 7)) none))) (more (prim (codes "TICKET")
    [] none) none)))) (more (seq (more (prim (codes "SOME") [] none) none)) none))) none)) none)) (more (prim (codes "PUSH")
    [] (more (prim (codes "nat") [] none) (more (int (pos 1)) none))) (more (prim (codes "ADD") [] none) (more (prim (codes
    "SELF_ADDRESS") [] none) (more (prim (codes "UNIT") [] none) (more (prim (codes "VIEW") [] (more (str (codes "n")) (more
    (prim (codes "nat") [] none) none))) (more (prim (codes "IF_NONE") [] (more (seq (more (prim (codes "UNIT") [] none) (more
    (prim (codes "FAILWITH") [] none) none))) (more (seq none) none))) (more (prim (codes "ADD") [] none) (more (prim (codes
    "PAIR") [] none) (more (prim (codes "NIL") [] (more (prim (codes "operation") [] none) none)) (more (prim (codes "PAIR")
    [] none) none)))))))))))))) none)) none)))))) ≡ None
unfolding primitive_names primitives code_of_name primitive_of_code primitive_of_name former_of_name word_of_name in_order
run_8 = refl

run_9 : fault_of (script (seq (more (prim (codes "parameter") [] (more (prim (codes "or") [] (more (prim (codes "pair")
    ((codes "%transfer") ∷ []) (more (prim (codes "address") ((codes "%from") ∷ []) none) (more (prim (codes "address")
    ((codes "%to") ∷ []) none) (more (prim (codes "nat") ((codes "%value") ∷ []) none) none)))) (more (prim (codes "pair")
    ((codes "%mint") ∷ []) (more (prim (codes "address") ((codes "%to") ∷ []) none) (more (prim (codes "nat") ((codes
    "%value") ∷ []) none) none))) none))) none)) (more (prim (codes "storage") [] (more (prim (codes "pair") [] (more (prim
    (codes "big_map") ((codes "%ledger") ∷ []) (more (prim (codes "address") [] none) (more (prim (codes "nat") [] none)
    none))) (more (prim (codes "nat") ((codes "%total") ∷ []) none) none))) none)) (more (prim (codes "view") [] (more (str
    (codes "balance_of")) (more (prim (codes "address") [] none) (more (prim (codes "nat") [] none) (more (seq (more (prim
    (codes "UNPAIR") [] none) (more (prim (codes "SWAP") [] none) (more (prim (codes "CAR") [] none) (more (prim (codes
    "SWAP") [] none) (more (prim (codes "GET") [] none) (more (prim (codes "IF_NONE") [] (more (seq (more (prim (codes "PUSH")
    [] (more (prim (codes "nat") [] none) (more (int (pos 0)) none))) none)) (more (seq none) none))) none))))))) none)))))
    (more (prim (codes "code") [] (more (seq (more (prim (codes "UNPAIR") [] none) (more (prim (codes "IF_LEFT") [] (more (seq
    (more (prim (codes "UNPAIR") [] none) (more (prim (codes "DUP") [] none) (more (prim (codes "SENDER") [] none) (more (prim
    (codes "COMPARE") [] none) (more (prim (codes "EQ") [] none) (more (prim (codes "IF") [] (more (seq none) (more (seq (more
    (prim (codes "PUSH") [] (more (prim (codes "string") [] none) (more (str (codes "NotOwner")) none))) (more (prim (codes
    "FAILWITH") [] none) none))) none))) (more (prim (codes "DIG") [] (more (int (pos 2)) none)) (more (prim (codes "UNPAIR")
    [] none) (more (prim (codes "DIG") [] (more (int (pos 3)) none)) (more (prim (codes "UNPAIR") [] none) (more (prim (codes
    "DUP") [] (more (int (pos 3)) none)) (more (prim (codes "DUP") [] (more (int (pos 6)) none)) (more (prim (codes "GET") []
    none) (more (prim (codes "IF_NONE") [] (more (seq (more (prim (codes "PUSH") [] (more (prim (codes "nat") [] none) (more
    (int (pos 0)) none))) none)) (more (seq none) none))) (more (prim (codes "DUP") [] (more (int (pos 3)) none)) (more (prim
    (codes "SWAP") [] none) (more (prim (codes "SUB") [] none) (more (prim (codes "ISNAT") [] none) (more (prim (codes
    "IF_NONE") [] (more (seq (more (prim (codes "PUSH") [] (more (prim (codes "string") [] none) (more (str (codes
    "NotEnoughBalance")) none))) (more (prim (codes "FAILWITH") [] none) none))) (more (seq none) none))) (more (prim (codes
    "SOME") [] none) (more (prim (codes "DIG") [] (more (int (pos 3)) none)) (more (prim (codes "SWAP") [] none) (more (prim
    (codes "DIG") [] (more (int (pos 5)) none)) (more (prim (codes "UPDATE") [] none) (more (prim (codes "DUP") [] none) (more
    (prim (codes "DUP") [] (more (int (pos 3)) none)) (more (prim (codes "GET") [] none) (more (prim (codes "IF_NONE") []
    (more (seq (more (prim (codes "PUSH") [] (more (prim (codes "nat") [] none) (more (int (pos 0)) none))) none)) (more (seq
    none) none))) (more (prim (codes "DIG") [] (more (int (pos 3)) none)) (more (prim (codes "ADD") [] none) (more (prim
    (codes "SOME") [] none) (more (prim (codes "DIG") [] (more (int (pos 2)) none)) (more (prim (codes "UPDATE") [] none)
    (more (prim (codes "PAIR") [] none) none))))))))))))))))))))))))))))))))))) (more (seq (more (prim (codes "UNPAIR") []
    none) (more (prim (codes "DIG") [] (more (int (pos 2)) none)) (more (prim (codes "UNPAIR") [] none) (more (prim (codes
    "DUP") [] none) (more (prim (codes "DUP") [] (more (int (pos 4)) none)) (more (prim (codes "GET") [] none) (more (prim
    (codes "IF_NONE") [] (more (seq (more (prim (codes "PUSH") [] (more (prim (codes "nat") [] none) (more (int (pos 0))
    none))) none)) (more (seq none) none))) (more (prim (codes "DUP") [] (more (int (pos 5)) none)) (more (prim (codes "ADD")
    [] none) (more (prim (codes "SOME") [] none) (more (prim (codes "DIG") [] (more (int (pos 3)) none)) (more (prim (codes
    "UPDATE") [] none) (more (prim (codes "DIP") [] (more (seq (more (prim (codes "ADD") [] none) none)) none)) (more (prim
    (codes "PAIR") [] none) none))))))))))))))) none))) (more (prim (codes "NIL") [] (more (prim (codes "operation") [] none)
    none)) (more (prim (codes "PAIR") [] none) none))))) none)) none)))))) ≡ None
unfolding primitive_names primitives code_of_name primitive_of_code primitive_of_name former_of_name word_of_name in_order
run_9 = refl

run_10 : fault_of (script (seq (more (prim (codes "parameter") [] (more (prim (codes "int") [] none) none)) (more (prim (codes
    "storage") [] (more (prim (codes "int") [] none) none)) (more (prim (codes "code") [] (more (seq (more (prim (codes "CAR")
    [] none) (more (prim (codes "PUSH") [] (more (prim (codes "int") [] none) (more (int (pos 1)) none))) (more (prim (codes
    "ADD") [] none) (more (prim (codes "NIL") [] (more (prim (codes "operation") [] none) none)) (more (prim (codes "PAIR") []
    none) none)))))) none)) none))))) ≡ None
unfolding primitive_names primitives code_of_name primitive_of_code primitive_of_name former_of_name word_of_name in_order
run_10 = refl

run_11 : fault_of (script (seq (more (prim (codes "parameter") [] (more (prim (codes "int") [] none) none)) (more (prim (codes
    "storage") [] (more (prim (codes "int") [] none) none)) (more (prim (codes "code") [] (more (seq (more (prim (codes "CAR")
    [] none) (more (prim (codes "FAILWITH") [] none) none))) none)) none))))) ≡ None
unfolding primitive_names primitives code_of_name primitive_of_code primitive_of_name former_of_name word_of_name in_order
run_11 = refl

run_12 : fault_of (script (seq (more (prim (codes "parameter") [] (more (prim (codes "int") [] none) none)) (more (prim (codes
    "storage") [] (more (prim (codes "int") [] none) none)) (more (prim (codes "code") [] (more (seq (more (prim (codes "CAR")
    [] none) (more (prim (codes "ADD") [] none) (more (prim (codes "NIL") [] (more (prim (codes "operation") [] none) none))
    (more (prim (codes "PAIR") [] none) none))))) none)) none))))) ≡ Some 8
unfolding primitive_names primitives code_of_name primitive_of_code primitive_of_name former_of_name word_of_name in_order
run_12 = refl

run_13 : fault_of (script (seq (more (prim (codes "parameter") [] (more (prim (codes "unit") [] none) none)) (more (prim
    (codes "storage") [] (more (prim (codes "unit") [] none) none)) (more (prim (codes "code") [] (more (seq (more (prim
    (codes "CAR") [] none) (more (prim (codes "DROP") [] none) (more (prim (codes "PUSH") [] (more (prim (codes "nat") []
    none) (more (int (pos 5)) none))) (more (prim (codes "PUSH") [] (more (prim (codes "nat") [] none) (more (int (pos 7))
    none))) (more (prim (codes "TICKET") [] none) (more (prim (codes "IF_NONE") [] (more (seq none) (more (seq (more (prim
    (codes "PUSH") [] (more (prim (codes "pair") [] (more (prim (codes "nat") [] none) (more (prim (codes "nat") [] none)
    none))) (more (prim (codes "Pair") [] (more (int (pos 0)) (more (int (pos 5)) none))) none))) (more (prim (codes "SWAP")
    [] none) (more (prim (codes "SPLIT_TICKET") [] none) (more (prim (codes "DROP") [] none) none))))) none))) (more (prim
    (codes "UNIT") [] none) (more (prim (codes "NIL") [] (more (prim (codes "operation") [] none) none)) (more (prim (codes
    "PAIR") [] none) none)))))))))) none)) none))))) ≡ None
unfolding primitive_names primitives code_of_name primitive_of_code primitive_of_name former_of_name word_of_name in_order
run_13 = refl

run_14 : fault_of (script (seq (more (prim (codes "parameter") [] (more (prim (codes "or") [] (more (prim (codes "int")
    ((codes "%a") ∷ []) none) (more (prim (codes "unit") ((codes "%b") ∷ []) none) none))) none)) (more (prim (codes
    "storage") [] (more (prim (codes "int") [] none) none)) (more (prim (codes "code") [] (more (seq (more (prim (codes "CDR")
    [] none) (more (prim (codes "NIL") [] (more (prim (codes "operation") [] none) none)) (more (prim (codes "PAIR") [] none)
    none)))) none)) none))))) ≡ None
unfolding primitive_names primitives code_of_name primitive_of_code primitive_of_name former_of_name word_of_name in_order
run_14 = refl

run_15 : fault_of (script (seq (more (prim (codes "parameter") [] (more (prim (codes "unit") [] none) none)) (more (prim
    (codes "storage") [] (more (prim (codes "set") [] (more (prim (codes "int") [] none) none)) none)) (more (prim (codes
    "code") [] (more (seq (more (prim (codes "CDR") [] none) (more (prim (codes "NIL") [] (more (prim (codes "operation") []
    none) none)) (more (prim (codes "PAIR") [] none) none)))) none)) none))))) ≡ None
unfolding primitive_names primitives code_of_name primitive_of_code primitive_of_name former_of_name word_of_name in_order
run_15 = refl

run_16 : fault_of (script (seq (more (prim (codes "parameter") [] (more (prim (codes "unit") [] none) none)) (more (prim
    (codes "storage") [] (more (prim (codes "unit") [] none) none)) (more (prim (codes "code") [] (more (seq (more (prim
    (codes "CDR") [] none) (more (prim (codes "PUSH") [] (more (prim (codes "nat") [] none) (more (int (pos 3)) none))) (more
    (prim (codes "PUSH") [] (more (prim (codes "nat") [] none) (more (int (pos 7)) none))) (more (prim (codes "TICKET") []
    none) (more (prim (codes "PUSH") [] (more (prim (codes "nat") [] none) (more (int (pos 5)) none))) (more (prim (codes
    "PUSH") [] (more (prim (codes "nat") [] none) (more (int (pos 7)) none))) (more (prim (codes "TICKET") [] none) (more
    (prim (codes "PAIR") [] none) (more (prim (codes "DROP") [] none) (more (prim (codes "NIL") [] (more (prim (codes
    "operation") [] none) none)) (more (prim (codes "PAIR") [] none) none)))))))))))) none)) none))))) ≡ None
unfolding primitive_names primitives code_of_name primitive_of_code primitive_of_name former_of_name word_of_name in_order
run_16 = refl

run_17 : fault_of (script (seq (more (prim (codes "parameter") [] (more (prim (codes "unit") [] none) none)) (more (prim
    (codes "storage") [] (more (prim (codes "pair") [] (more (prim (codes "int") [] none) (more (prim (codes "string") []
    none) (more (prim (codes "int") [] none) none)))) none)) (more (prim (codes "code") [] (more (seq (more (prim (codes
    "CDR") [] none) (more (prim (codes "PUSH") [] (more (prim (codes "string") [] none) (more (str (codes "x")) none))) (more
    (prim (codes "UPDATE") [] (more (int (pos 3)) none)) (more (prim (codes "NIL") [] (more (prim (codes "operation") [] none)
    none)) (more (prim (codes "PAIR") [] none) none)))))) none)) none))))) ≡ None
unfolding primitive_names primitives code_of_name primitive_of_code primitive_of_name former_of_name word_of_name in_order
run_17 = refl

run_18 : fault_of (script (seq (more (prim (codes "parameter") [] (more (prim (codes "unit") [] none) none)) (more (prim
    (codes "storage") [] (more (prim (codes "pair") [] (more (prim (codes "int") [] none) (more (prim (codes "string") []
    none) (more (prim (codes "int") [] none) none)))) none)) (more (prim (codes "code") [] (more (seq (more (prim (codes
    "DROP") [] none) (more (prim (codes "PUSH") [] (more (prim (codes "pair") [] (more (prim (codes "int") [] none) (more
    (prim (codes "int") [] none) (more (prim (codes "int") [] none) none)))) (more (prim (codes "Pair") [] (more (int (pos 1))
    (more (prim (codes "Pair") [] (more (int (pos 2)) (more (int (pos 3)) none))) none))) none))) (more (prim (codes "PUSH")
    [] (more (prim (codes "string") [] none) (more (str (codes "x")) none))) (more (prim (codes "UPDATE") [] (more (int (pos
    3)) none)) (more (prim (codes "NIL") [] (more (prim (codes "operation") [] none) none)) (more (prim (codes "PAIR") []
    none) none))))))) none)) none))))) ≡ None
unfolding primitive_names primitives code_of_name primitive_of_code primitive_of_name former_of_name word_of_name in_order
run_18 = refl

run_19 : fault_of (script (seq (more (prim (codes "parameter") [] (more (prim (codes "unit") [] none) none)) (more (prim
    (codes "storage") [] (more (prim (codes "option") [] (more (prim (codes "string") [] none) none)) none)) (more (prim
    (codes "code") [] (more (seq (more (prim (codes "DROP") [] none) (more (prim (codes "PUSH") [] (more (prim (codes
    "string") [] none) (more (str (codes "abc")) none))) (more (prim (codes "PUSH") [] (more (prim (codes "nat") [] none)
    (more (int (pos 0)) none))) (more (prim (codes "PUSH") [] (more (prim (codes "nat") [] none) (more (int (pos 3)) none)))
    (more (prim (codes "SLICE") [] none) (more (prim (codes "NIL") [] (more (prim (codes "operation") [] none) none)) (more
    (prim (codes "PAIR") [] none) none)))))))) none)) none))))) ≡ None
unfolding primitive_names primitives code_of_name primitive_of_code primitive_of_name former_of_name word_of_name in_order
run_19 = refl

run_20 : fault_of (script (seq (more (prim (codes "parameter") [] (more (prim (codes "unit") [] none) none)) (more (prim
    (codes "storage") [] (more (prim (codes "option") [] (more (prim (codes "mutez") [] none) none)) none)) (more (prim (codes
    "code") [] (more (seq (more (prim (codes "DROP") [] none) (more (prim (codes "PUSH") [] (more (prim (codes "mutez") []
    none) (more (int (pos 3)) none))) (more (prim (codes "PUSH") [] (more (prim (codes "mutez") [] none) (more (int (pos 2))
    none))) (more (prim (codes "SUB_MUTEZ") [] none) (more (prim (codes "NIL") [] (more (prim (codes "operation") [] none)
    none)) (more (prim (codes "PAIR") [] none) none))))))) none)) none))))) ≡ None
unfolding primitive_names primitives code_of_name primitive_of_code primitive_of_name former_of_name word_of_name in_order
run_20 = refl

run_21 : fault_of (script (seq (more (prim (codes "parameter") [] (more (prim (codes "unit") [] none) none)) (more (prim
    (codes "storage") [] (more (prim (codes "mutez") [] none) none)) (more (prim (codes "code") [] (more (seq (more (prim
    (codes "DROP") [] none) (more (prim (codes "PUSH") [] (more (prim (codes "mutez") [] none) (more (int (pos 1)) none)))
    (more (prim (codes "PUSH") [] (more (prim (codes "mutez") [] none) (more (int (pos 9223372036854775807)) none))) (more
    (prim (codes "ADD") [] none) (more (prim (codes "NIL") [] (more (prim (codes "operation") [] none) none)) (more (prim
    (codes "PAIR") [] none) none))))))) none)) none))))) ≡ None
unfolding primitive_names primitives code_of_name primitive_of_code primitive_of_name former_of_name word_of_name in_order
run_21 = refl

run_22 : fault_of (script (seq (more (prim (codes "parameter") [] (more (prim (codes "unit") [] none) none)) (more (prim
    (codes "storage") [] (more (prim (codes "unit") [] none) none)) (more (prim (codes "code") [] (more (seq (more (prim
    (codes "DROP") [] none) (more (prim (codes "UNIT") [] none) (more (prim (codes "PUSH") [] (more (prim (codes "int") []
    none) (more (int (pos 7)) none))) (more (prim (codes "PUSH") [] (more (prim (codes "mutez") [] none) (more (int (pos 2))
    none))) (more (prim (codes "NONE") [] (more (prim (codes "key_hash") [] none) none)) (more (prim (codes "CREATE_CONTRACT")
    [] (more (seq (more (prim (codes "parameter") [] (more (prim (codes "int") [] none) none)) (more (prim (codes "storage")
    [] (more (prim (codes "int") [] none) none)) (more (prim (codes "code") [] (more (seq (more (prim (codes "CAR") [] none)
    (more (prim (codes "NIL") [] (more (prim (codes "operation") [] none) none)) (more (prim (codes "PAIR") [] none) none))))
    none)) none)))) none)) (more (prim (codes "DIP") [] (more (seq (more (prim (codes "DROP") [] none) none)) none)) (more
    (prim (codes "NIL") [] (more (prim (codes "operation") [] none) none)) (more (prim (codes "SWAP") [] none) (more (prim
    (codes "CONS") [] none) (more (prim (codes "PAIR") [] none) none)))))))))))) none)) none))))) ≡ None
unfolding primitive_names primitives code_of_name primitive_of_code primitive_of_name former_of_name word_of_name in_order
run_22 = refl

run_23 : fault_of (script (seq (more (prim (codes "parameter") [] (more (prim (codes "unit") [] none) none)) (more (prim
    (codes "storage") [] (more (prim (codes "unit") [] none) none)) (more (prim (codes "code") [] (more (seq (more (prim
    (codes "DROP") [] none) (more (prim (codes "UNIT") [] none) (more (prim (codes "PUSH") [] (more (prim (codes "int") []
    none) (more (int (pos 7)) none))) (more (prim (codes "PUSH") [] (more (prim (codes "mutez") [] none) (more (int (pos 2))
    none))) (more (prim (codes "PUSH") [] (more (prim (codes "key_hash") [] none) (more (bytes (0 ∷ 0 ∷ 0 ∷ 0 ∷ 0 ∷ 0 ∷ 0 ∷ 0
    ∷ 0 ∷ 0 ∷ 0 ∷ 0 ∷ 0 ∷ 0 ∷ 0 ∷ 0 ∷ 0 ∷ 0 ∷ 0 ∷ 0 ∷ 1 ∷ [])) none))) (more (prim (codes "SOME") [] none) (more (prim (codes
    "CREATE_CONTRACT") [] (more (seq (more (prim (codes "parameter") [] (more (prim (codes "int") [] none) none)) (more (prim
    (codes "storage") [] (more (prim (codes "int") [] none) none)) (more (prim (codes "code") [] (more (seq (more (prim (codes
    "CAR") [] none) (more (prim (codes "NIL") [] (more (prim (codes "operation") [] none) none)) (more (prim (codes "PAIR") []
    none) none)))) none)) none)))) none)) (more (prim (codes "DIP") [] (more (seq (more (prim (codes "DROP") [] none) none))
    none)) (more (prim (codes "NIL") [] (more (prim (codes "operation") [] none) none)) (more (prim (codes "SWAP") [] none)
    (more (prim (codes "CONS") [] none) (more (prim (codes "PAIR") [] none) none))))))))))))) none)) none))))) ≡ None
unfolding primitive_names primitives code_of_name primitive_of_code primitive_of_name former_of_name word_of_name in_order
run_23 = refl

run_24 : fault_of (script (seq (more (prim (codes "parameter") [] (more (prim (codes "unit") [] none) none)) (more (prim
    (codes "storage") [] (more (prim (codes "unit") [] none) none)) (more (prim (codes "code") [] (more (seq (more (prim
    (codes "CAR") [] none) (more (prim (codes "FAILWITH") [] none) (more (prim (codes "UNIT") [] none) none)))) none))
    none))))) ≡ Some 8
unfolding primitive_names primitives code_of_name primitive_of_code primitive_of_name former_of_name word_of_name in_order
run_24 = refl

run_25 : fault_of (script (seq (more (prim (codes "parameter") [] (more (prim (codes "unit") [] none) none)) (more (prim
    (codes "storage") [] (more (prim (codes "int") [] none) none)) (more (prim (codes "code") [] (more (seq (more (prim (codes
    "CDR") [] none) (more (prim (codes "PUSH") [] (more (prim (codes "bool") [] none) (more (prim (codes "True") [] none)
    none))) (more (prim (codes "IF") [] (more (seq none) (more (seq (more (prim (codes "PUSH") [] (more (prim (codes "string")
    [] none) (more (str (codes "a")) none))) (more (prim (codes "ADD") [] none) none))) none))) (more (prim (codes "NIL") []
    (more (prim (codes "operation") [] none) none)) (more (prim (codes "PAIR") [] none) none)))))) none)) none))))) ≡ Some 17
unfolding primitive_names primitives code_of_name primitive_of_code primitive_of_name former_of_name word_of_name in_order
run_25 = refl

run_26 : fault_of (script (seq (more (prim (codes "parameter") [] (more (prim (codes "unit") [] none) none)) (more (prim
    (codes "storage") [] (more (prim (codes "unit") [] none) none)) (more (prim (codes "code") [] (more (seq (more (prim
    (codes "PUSH") [] (more (prim (codes "map") [] (more (prim (codes "int") [] none) (more (prim (codes "int") [] none)
    none))) (more (seq (more (prim (codes "Elt") [] (more (int (pos 2)) (more (int (pos 0)) none))) (more (prim (codes "Elt")
    [] (more (int (pos 1)) (more (int (pos 0)) none))) none))) none))) (more (prim (codes "DROP") [] none) (more (prim (codes
    "CDR") [] none) (more (prim (codes "NIL") [] (more (prim (codes "operation") [] none) none)) (more (prim (codes "PAIR") []
    none) none)))))) none)) none))))) ≡ Some 15
unfolding primitive_names primitives code_of_name primitive_of_code primitive_of_name former_of_name word_of_name in_order
run_26 = refl

run_27 : fault_of (script (seq (more (prim (codes "parameter") [] (more (prim (codes "unit") [] none) none)) (more (prim
    (codes "storage") [] (more (prim (codes "unit") [] none) none)) (more (prim (codes "code") [] (more (seq (more (prim
    (codes "PUSH") [] (more (prim (codes "map") [] (more (prim (codes "int") [] none) (more (prim (codes "int") [] none)
    none))) (more (seq (more (prim (codes "Elt") [] (more (int (pos 2)) (more (int (pos 0)) none))) (more (prim (codes "Elt")
    [] (more (int (pos 2)) (more (int (pos 0)) none))) none))) none))) (more (prim (codes "DROP") [] none) (more (prim (codes
    "CDR") [] none) (more (prim (codes "NIL") [] (more (prim (codes "operation") [] none) none)) (more (prim (codes "PAIR") []
    none) none)))))) none)) none))))) ≡ Some 15
unfolding primitive_names primitives code_of_name primitive_of_code primitive_of_name former_of_name word_of_name in_order
run_27 = refl

run_28 : fault_of (script (seq (more (prim (codes "parameter") [] (more (prim (codes "unit") [] none) none)) (more (prim
    (codes "storage") [] (more (prim (codes "unit") [] none) none)) (more (prim (codes "code") [] (more (seq (more (prim
    (codes "PUSH") [] (more (prim (codes "map") [] (more (prim (codes "int") [] none) (more (prim (codes "int") [] none)
    none))) (more (seq (more (prim (codes "Elt") [] (more (int (pos 1)) (more (int (pos 0)) none))) (more (prim (codes "Elt")
    [] (more (int (pos 2)) (more (int (pos 0)) none))) none))) none))) (more (prim (codes "DROP") [] none) (more (prim (codes
    "CDR") [] none) (more (prim (codes "NIL") [] (more (prim (codes "operation") [] none) none)) (more (prim (codes "PAIR") []
    none) none)))))) none)) none))))) ≡ None
unfolding primitive_names primitives code_of_name primitive_of_code primitive_of_name former_of_name word_of_name in_order
run_28 = refl

run_29 : fault_of (script (seq (more (prim (codes "parameter") [] (more (prim (codes "int") [] none) none)) (more (prim (codes
    "storage") [] (more (prim (codes "int") [] none) none)) (more (prim (codes "code") [] (more (seq (more (prim (codes "CAR")
    [] none) (more (prim (codes "NIL") [] (more (prim (codes "operation") [] none) none)) (more (prim (codes "PAIR") [] none)
    none)))) none)) none))))) ≡ None
unfolding primitive_names primitives code_of_name primitive_of_code primitive_of_name former_of_name word_of_name in_order
run_29 = refl

run_30 : fault_of (script (seq (more (prim (codes "parameter") [] (more (prim (codes "address") [] none) none)) (more (prim
    (codes "storage") [] (more (prim (codes "unit") [] none) none)) (more (prim (codes "code") [] (more (seq (more (prim
    (codes "CAR") [] none) (more (prim (codes "CONTRACT") [] (more (prim (codes "unit") [] none) none)) (more (prim (codes
    "IF_NONE") [] (more (seq (more (prim (codes "UNIT") [] none) (more (prim (codes "FAILWITH") [] none) none))) (more (seq
    none) none))) (more (prim (codes "PUSH") [] (more (prim (codes "mutez") [] none) (more (int (pos 0)) none))) (more (prim
    (codes "UNIT") [] none) (more (prim (codes "TRANSFER_TOKENS") [] none) (more (prim (codes "UNIT") [] none) (more (prim
    (codes "EMIT") ((codes "%c") ∷ []) none) (more (prim (codes "NIL") [] (more (prim (codes "operation") [] none) none))
    (more (prim (codes "SWAP") [] none) (more (prim (codes "CONS") [] none) (more (prim (codes "SWAP") [] none) (more (prim
    (codes "CONS") [] none) (more (prim (codes "UNIT") [] none) (more (prim (codes "SWAP") [] none) (more (prim (codes "PAIR")
    [] none) none))))))))))))))))) none)) none))))) ≡ None
unfolding primitive_names primitives code_of_name primitive_of_code primitive_of_name former_of_name word_of_name in_order
run_30 = refl

run_31 : fault_of (script (seq (more (prim (codes "parameter") [] (more (prim (codes "unit") [] none) none)) (more (prim
    (codes "storage") [] (more (prim (codes "unit") [] none) none)) (more (prim (codes "code") [] (more (seq (more (prim
    (codes "CDR") [] none) (more (prim (codes "UNIT") [] none) (more (prim (codes "EMIT") ((codes "%d") ∷ []) none) (more
    (prim (codes "NIL") [] (more (prim (codes "operation") [] none) none)) (more (prim (codes "SWAP") [] none) (more (prim
    (codes "CONS") [] none) (more (prim (codes "PAIR") [] none) none)))))))) none)) none))))) ≡ None
unfolding primitive_names primitives code_of_name primitive_of_code primitive_of_name former_of_name word_of_name in_order
run_31 = refl

run_32 : fault_of (script (seq (more (prim (codes "parameter") [] (more (prim (codes "address") [] none) none)) (more (prim
    (codes "storage") [] (more (prim (codes "unit") [] none) none)) (more (prim (codes "code") [] (more (seq (more (prim
    (codes "CAR") [] none) (more (prim (codes "CONTRACT") [] (more (prim (codes "ticket") [] (more (prim (codes "nat") []
    none) none)) none)) (more (prim (codes "IF_NONE") [] (more (seq (more (prim (codes "UNIT") [] none) (more (prim (codes
    "FAILWITH") [] none) none))) (more (seq none) none))) (more (prim (codes "PUSH") [] (more (prim (codes "mutez") [] none)
    (more (int (pos 0)) none))) (more (prim (codes "PUSH") [] (more (prim (codes "nat") [] none) (more (int (pos 5)) none)))
    (more (prim (codes "PUSH") [] (more (prim (codes "nat") [] none) (more (int (pos 7)) none))) (more (prim (codes "TICKET")
    [] none) (more (prim (codes "IF_NONE") [] (more (seq (more (prim (codes "UNIT") [] none) (more (prim (codes "FAILWITH") []
    none) none))) (more (seq none) none))) (more (prim (codes "TRANSFER_TOKENS") [] none) (more (prim (codes "DUP") [] none)
    (more (prim (codes "NIL") [] (more (prim (codes "operation") [] none) none)) (more (prim (codes "SWAP") [] none) (more
    (prim (codes "CONS") [] none) (more (prim (codes "SWAP") [] none) (more (prim (codes "CONS") [] none) (more (prim (codes
    "UNIT") [] none) (more (prim (codes "SWAP") [] none) (more (prim (codes "PAIR") [] none) none))))))))))))))))))) none))
    none))))) ≡ None
unfolding primitive_names primitives code_of_name primitive_of_code primitive_of_name former_of_name word_of_name in_order
run_32 = refl

run_33 : fault_of (script (seq (more (prim (codes "parameter") [] (more (prim (codes "unit") [] none) none)) (more (prim
    (codes "storage") [] (more (prim (codes "pair") [] (more (prim (codes "big_map") [] (more (prim (codes "nat") [] none)
    (more (prim (codes "nat") [] none) none))) (more (prim (codes "big_map") [] (more (prim (codes "nat") [] none) (more (prim
    (codes "nat") [] none) none))) none))) none)) (more (prim (codes "code") [] (more (seq (more (prim (codes "CDR") [] none)
    (more (prim (codes "CAR") [] none) (more (prim (codes "DUP") [] none) (more (prim (codes "PUSH") [] (more (prim (codes
    "option") [] (more (prim (codes "nat") [] none) none)) (more (prim (codes "Some") [] (more (int (pos 1)) none)) none)))
    (more (prim (codes "PUSH") [] (more (prim (codes "nat") [] none) (more (int (pos 0)) none))) (more (prim (codes "UPDATE")
    [] none) (more (prim (codes "SWAP") [] none) (more (prim (codes "PAIR") [] none) (more (prim (codes "NIL") [] (more (prim
    (codes "operation") [] none) none)) (more (prim (codes "PAIR") [] none) none))))))))))) none)) none))))) ≡ None
unfolding primitive_names primitives code_of_name primitive_of_code primitive_of_name former_of_name word_of_name in_order
run_33 = refl

run_34 : fault_of (script (seq (more (prim (codes "parameter") [] (more (prim (codes "bytes") [] none) none)) (more (prim
    (codes "storage") [] (more (prim (codes "option") [] (more (prim (codes "pair") [] (more (prim (codes "nat") [] none)
    (more (prim (codes "nat") [] none) (more (prim (codes "nat") [] none) none)))) none)) none)) (more (prim (codes "code") []
    (more (seq (more (prim (codes "CAR") [] none) (more (prim (codes "UNPACK") [] (more (prim (codes "pair") [] (more (prim
    (codes "nat") [] none) (more (prim (codes "nat") [] none) (more (prim (codes "nat") [] none) none)))) none)) (more (prim
    (codes "NIL") [] (more (prim (codes "operation") [] none) none)) (more (prim (codes "PAIR") [] none) none))))) none))
    none))))) ≡ None
unfolding primitive_names primitives code_of_name primitive_of_code primitive_of_name former_of_name word_of_name in_order
run_34 = refl

run_35 : fault_of (script (seq (more (prim (codes "parameter") [] (more (prim (codes "unit") [] none) none)) (more (prim
    (codes "storage") [] (more (prim (codes "unit") [] none) none)) (more (prim (codes "code") [] (more (seq (more (prim
    (codes "CDR") [] none) (more (prim (codes "LAMBDA_REC") [] (more (prim (codes "unit") [] none) (more (prim (codes "unit")
    [] none) (more (seq (more (prim (codes "EXEC") [] none) none)) none)))) (more (prim (codes "UNIT") [] none) (more (prim
    (codes "EXEC") [] none) (more (prim (codes "DROP") [] none) (more (prim (codes "NIL") [] (more (prim (codes "operation")
    [] none) none)) (more (prim (codes "PAIR") [] none) none)))))))) none)) none))))) ≡ None
unfolding primitive_names primitives code_of_name primitive_of_code primitive_of_name former_of_name word_of_name in_order
run_35 = refl
