-- A token as a compiler writes it.
use Rattle.std.specs.Prelude.{◌≡◌, refl, pos, [], ◌∷◌, codes}
use Rattle.rules_text.specs.nodes.Tree.{int, str, bytes, prim, seq, none, more}
use Rattle.rules_text.specs.nodes.Primitives.{primitive_names, primitives, code_of_name, primitive_of_code, primitive_of_name}
use Rattle.rules_data.specs.numbers.Limits.{int_or_limit}
use Rattle.rules_data.specs.declared.types.Simple.TheVariants as s
use Rattle.rules_data.specs.types.Kind as k
use Rattle.rules_data.specs.types.Reading.{former_of_name}
use Rattle.rules_data.specs.types.Entrypoints.{in_order}
use Rattle.rules_data.specs.values.Val as v
use Rattle.rules_data.specs.values.Val.{no_val, more_vals, no_pair, more_pairs}
use Rattle.rules_data.specs.values.Literals.{word_of_name}
use Rattle.rules_code.specs.steps.Failure as f
use Rattle.rows.specs.evaluation.Told.{ended, failure, ran}

-- parameter (or (pair %transfer (address %from) (address %to) (nat %value)) (pair %mint (address %to) (nat %value))) ;
-- storage (pair (big_map %ledger address nat) (nat %total)) ; view "balance_of" address nat { UNPAIR ; SWAP ; CAR ; SWAP
-- ; GET ; IF_NONE { PUSH nat 0 } {} } ; code { UNPAIR ; IF_LEFT { UNPAIR ; DUP ; SENDER ; COMPARE ; EQ ; IF {} { PUSH
-- string "NotOwner" ; FAILWITH } ; DIG 2 ; UNPAIR ; DIG 3 ; UNPAIR ; DUP 3 ; DUP 6 ; GET ; IF_NONE { PUSH nat 0 } {} ;
-- DUP 3 ; SWAP ; SUB ; ISNAT ; IF_NONE { PUSH string "NotEnoughBalance" ; FAILWITH } {} ; SOME ; DIG 3 ; SWAP ; DIG 5 ;
-- UPDATE ; DUP ; DUP 3 ; GET ; IF_NONE { PUSH nat 0 } {} ; DIG 3 ; ADD ; SOME ; DIG 2 ; UPDATE ; PAIR } { UNPAIR ; DIG 2
-- ; UNPAIR ; DUP ; DUP 4 ; GET ; IF_NONE { PUSH nat 0 } {} ; DUP 5 ; ADD ; SOME ; DIG 3 ; UPDATE ; DIP { ADD } ; PAIR } ;
-- NIL operation ; PAIR } on Right (Pair 0x00000000000000000000000000000000000000000001 100) and the storage Pair {} 0
-- with the gas 1000
mints_first : ran (seq (more (prim (codes "parameter") [] (more (prim (codes "or") [] (more (prim (codes "pair") ((codes
    "%transfer") ∷ []) (more (prim (codes "address") ((codes "%from") ∷ []) none) (more (prim (codes "address") ((codes "%to")
    ∷ []) none) (more (prim (codes "nat") ((codes "%value") ∷ []) none) none)))) (more (prim (codes "pair") ((codes "%mint") ∷
    []) (more (prim (codes "address") ((codes "%to") ∷ []) none) (more (prim (codes "nat") ((codes "%value") ∷ []) none)
    none))) none))) none)) (more (prim (codes "storage") [] (more (prim (codes "pair") [] (more (prim (codes "big_map")
    ((codes "%ledger") ∷ []) (more (prim (codes "address") [] none) (more (prim (codes "nat") [] none) none))) (more (prim
    (codes "nat") ((codes "%total") ∷ []) none) none))) none)) (more (prim (codes "view") [] (more (str (codes "balance_of"))
    (more (prim (codes "address") [] none) (more (prim (codes "nat") [] none) (more (seq (more (prim (codes "UNPAIR") [] none)
    (more (prim (codes "SWAP") [] none) (more (prim (codes "CAR") [] none) (more (prim (codes "SWAP") [] none) (more (prim
    (codes "GET") [] none) (more (prim (codes "IF_NONE") [] (more (seq (more (prim (codes "PUSH") [] (more (prim (codes "nat")
    [] none) (more (int (pos 0)) none))) none)) (more (seq none) none))) none))))))) none))))) (more (prim (codes "code") []
    (more (seq (more (prim (codes "UNPAIR") [] none) (more (prim (codes "IF_LEFT") [] (more (seq (more (prim (codes "UNPAIR")
    [] none) (more (prim (codes "DUP") [] none) (more (prim (codes "SENDER") [] none) (more (prim (codes "COMPARE") [] none)
    (more (prim (codes "EQ") [] none) (more (prim (codes "IF") [] (more (seq none) (more (seq (more (prim (codes "PUSH") []
    (more (prim (codes "string") [] none) (more (str (codes "NotOwner")) none))) (more (prim (codes "FAILWITH") [] none)
    none))) none))) (more (prim (codes "DIG") [] (more (int (pos 2)) none)) (more (prim (codes "UNPAIR") [] none) (more (prim
    (codes "DIG") [] (more (int (pos 3)) none)) (more (prim (codes "UNPAIR") [] none) (more (prim (codes "DUP") [] (more (int
    (pos 3)) none)) (more (prim (codes "DUP") [] (more (int (pos 6)) none)) (more (prim (codes "GET") [] none) (more (prim
    (codes "IF_NONE") [] (more (seq (more (prim (codes "PUSH") [] (more (prim (codes "nat") [] none) (more (int (pos 0))
    none))) none)) (more (seq none) none))) (more (prim (codes "DUP") [] (more (int (pos 3)) none)) (more (prim (codes "SWAP")
    [] none) (more (prim (codes "SUB") [] none) (more (prim (codes "ISNAT") [] none) (more (prim (codes "IF_NONE") [] (more
    (seq (more (prim (codes "PUSH") [] (more (prim (codes "string") [] none) (more (str (codes "NotEnoughBalance")) none)))
    (more (prim (codes "FAILWITH") [] none) none))) (more (seq none) none))) (more (prim (codes "SOME") [] none) (more (prim
    (codes "DIG") [] (more (int (pos 3)) none)) (more (prim (codes "SWAP") [] none) (more (prim (codes "DIG") [] (more (int
    (pos 5)) none)) (more (prim (codes "UPDATE") [] none) (more (prim (codes "DUP") [] none) (more (prim (codes "DUP") []
    (more (int (pos 3)) none)) (more (prim (codes "GET") [] none) (more (prim (codes "IF_NONE") [] (more (seq (more (prim
    (codes "PUSH") [] (more (prim (codes "nat") [] none) (more (int (pos 0)) none))) none)) (more (seq none) none))) (more
    (prim (codes "DIG") [] (more (int (pos 3)) none)) (more (prim (codes "ADD") [] none) (more (prim (codes "SOME") [] none)
    (more (prim (codes "DIG") [] (more (int (pos 2)) none)) (more (prim (codes "UPDATE") [] none) (more (prim (codes "PAIR")
    [] none) none))))))))))))))))))))))))))))))))))) (more (seq (more (prim (codes "UNPAIR") [] none) (more (prim (codes
    "DIG") [] (more (int (pos 2)) none)) (more (prim (codes "UNPAIR") [] none) (more (prim (codes "DUP") [] none) (more (prim
    (codes "DUP") [] (more (int (pos 4)) none)) (more (prim (codes "GET") [] none) (more (prim (codes "IF_NONE") [] (more (seq
    (more (prim (codes "PUSH") [] (more (prim (codes "nat") [] none) (more (int (pos 0)) none))) none)) (more (seq none)
    none))) (more (prim (codes "DUP") [] (more (int (pos 5)) none)) (more (prim (codes "ADD") [] none) (more (prim (codes
    "SOME") [] none) (more (prim (codes "DIG") [] (more (int (pos 3)) none)) (more (prim (codes "UPDATE") [] none) (more (prim
    (codes "DIP") [] (more (seq (more (prim (codes "ADD") [] none) none)) none)) (more (prim (codes "PAIR") [] none)
    none))))))))))))))) none))) (more (prim (codes "NIL") [] (more (prim (codes "operation") [] none) none)) (more (prim
    (codes "PAIR") [] none) none))))) none)) none))))) (prim (codes "Right") [] (more (prim (codes "Pair") [] (more (bytes (0
    ∷ 0 ∷ 0 ∷ 0 ∷ 0 ∷ 0 ∷ 0 ∷ 0 ∷ 0 ∷ 0 ∷ 0 ∷ 0 ∷ 0 ∷ 0 ∷ 0 ∷ 0 ∷ 0 ∷ 0 ∷ 0 ∷ 0 ∷ 0 ∷ 1 ∷ [])) (more (int (pos 100)) none)))
    none)) (prim (codes "Pair") [] (more (seq none) (more (int (pos 0)) none))) 1000 ≡ ended 24 [] no_val (prim (codes "Pair")
    [] (more (seq (more (prim (codes "Elt") [] (more (bytes (0 ∷ 0 ∷ 0 ∷ 0 ∷ 0 ∷ 0 ∷ 0 ∷ 0 ∷ 0 ∷ 0 ∷ 0 ∷ 0 ∷ 0 ∷ 0 ∷ 0 ∷ 0 ∷ 0
    ∷ 0 ∷ 0 ∷ 0 ∷ 0 ∷ 1 ∷ [])) (more (int (pos 100)) none))) none)) (more (int (pos 100)) none))) []
unfolding primitive_names primitives code_of_name primitive_of_code primitive_of_name former_of_name word_of_name in_order
    int_or_limit
mints_first = refl

-- parameter (or (pair %transfer (address %from) (address %to) (nat %value)) (pair %mint (address %to) (nat %value))) ;
-- storage (pair (big_map %ledger address nat) (nat %total)) ; view "balance_of" address nat { UNPAIR ; SWAP ; CAR ; SWAP
-- ; GET ; IF_NONE { PUSH nat 0 } {} } ; code { UNPAIR ; IF_LEFT { UNPAIR ; DUP ; SENDER ; COMPARE ; EQ ; IF {} { PUSH
-- string "NotOwner" ; FAILWITH } ; DIG 2 ; UNPAIR ; DIG 3 ; UNPAIR ; DUP 3 ; DUP 6 ; GET ; IF_NONE { PUSH nat 0 } {} ;
-- DUP 3 ; SWAP ; SUB ; ISNAT ; IF_NONE { PUSH string "NotEnoughBalance" ; FAILWITH } {} ; SOME ; DIG 3 ; SWAP ; DIG 5 ;
-- UPDATE ; DUP ; DUP 3 ; GET ; IF_NONE { PUSH nat 0 } {} ; DIG 3 ; ADD ; SOME ; DIG 2 ; UPDATE ; PAIR } { UNPAIR ; DIG 2
-- ; UNPAIR ; DUP ; DUP 4 ; GET ; IF_NONE { PUSH nat 0 } {} ; DUP 5 ; ADD ; SOME ; DIG 3 ; UPDATE ; DIP { ADD } ; PAIR } ;
-- NIL operation ; PAIR } on Right (Pair 0x00000000000000000000000000000000000000000001 100) and the storage Pair { Elt
-- 0x00000000000000000000000000000000000000000001 100 } 100 with the gas 1000
mints_again : ran (seq (more (prim (codes "parameter") [] (more (prim (codes "or") [] (more (prim (codes "pair") ((codes
    "%transfer") ∷ []) (more (prim (codes "address") ((codes "%from") ∷ []) none) (more (prim (codes "address") ((codes "%to")
    ∷ []) none) (more (prim (codes "nat") ((codes "%value") ∷ []) none) none)))) (more (prim (codes "pair") ((codes "%mint") ∷
    []) (more (prim (codes "address") ((codes "%to") ∷ []) none) (more (prim (codes "nat") ((codes "%value") ∷ []) none)
    none))) none))) none)) (more (prim (codes "storage") [] (more (prim (codes "pair") [] (more (prim (codes "big_map")
    ((codes "%ledger") ∷ []) (more (prim (codes "address") [] none) (more (prim (codes "nat") [] none) none))) (more (prim
    (codes "nat") ((codes "%total") ∷ []) none) none))) none)) (more (prim (codes "view") [] (more (str (codes "balance_of"))
    (more (prim (codes "address") [] none) (more (prim (codes "nat") [] none) (more (seq (more (prim (codes "UNPAIR") [] none)
    (more (prim (codes "SWAP") [] none) (more (prim (codes "CAR") [] none) (more (prim (codes "SWAP") [] none) (more (prim
    (codes "GET") [] none) (more (prim (codes "IF_NONE") [] (more (seq (more (prim (codes "PUSH") [] (more (prim (codes "nat")
    [] none) (more (int (pos 0)) none))) none)) (more (seq none) none))) none))))))) none))))) (more (prim (codes "code") []
    (more (seq (more (prim (codes "UNPAIR") [] none) (more (prim (codes "IF_LEFT") [] (more (seq (more (prim (codes "UNPAIR")
    [] none) (more (prim (codes "DUP") [] none) (more (prim (codes "SENDER") [] none) (more (prim (codes "COMPARE") [] none)
    (more (prim (codes "EQ") [] none) (more (prim (codes "IF") [] (more (seq none) (more (seq (more (prim (codes "PUSH") []
    (more (prim (codes "string") [] none) (more (str (codes "NotOwner")) none))) (more (prim (codes "FAILWITH") [] none)
    none))) none))) (more (prim (codes "DIG") [] (more (int (pos 2)) none)) (more (prim (codes "UNPAIR") [] none) (more (prim
    (codes "DIG") [] (more (int (pos 3)) none)) (more (prim (codes "UNPAIR") [] none) (more (prim (codes "DUP") [] (more (int
    (pos 3)) none)) (more (prim (codes "DUP") [] (more (int (pos 6)) none)) (more (prim (codes "GET") [] none) (more (prim
    (codes "IF_NONE") [] (more (seq (more (prim (codes "PUSH") [] (more (prim (codes "nat") [] none) (more (int (pos 0))
    none))) none)) (more (seq none) none))) (more (prim (codes "DUP") [] (more (int (pos 3)) none)) (more (prim (codes "SWAP")
    [] none) (more (prim (codes "SUB") [] none) (more (prim (codes "ISNAT") [] none) (more (prim (codes "IF_NONE") [] (more
    (seq (more (prim (codes "PUSH") [] (more (prim (codes "string") [] none) (more (str (codes "NotEnoughBalance")) none)))
    (more (prim (codes "FAILWITH") [] none) none))) (more (seq none) none))) (more (prim (codes "SOME") [] none) (more (prim
    (codes "DIG") [] (more (int (pos 3)) none)) (more (prim (codes "SWAP") [] none) (more (prim (codes "DIG") [] (more (int
    (pos 5)) none)) (more (prim (codes "UPDATE") [] none) (more (prim (codes "DUP") [] none) (more (prim (codes "DUP") []
    (more (int (pos 3)) none)) (more (prim (codes "GET") [] none) (more (prim (codes "IF_NONE") [] (more (seq (more (prim
    (codes "PUSH") [] (more (prim (codes "nat") [] none) (more (int (pos 0)) none))) none)) (more (seq none) none))) (more
    (prim (codes "DIG") [] (more (int (pos 3)) none)) (more (prim (codes "ADD") [] none) (more (prim (codes "SOME") [] none)
    (more (prim (codes "DIG") [] (more (int (pos 2)) none)) (more (prim (codes "UPDATE") [] none) (more (prim (codes "PAIR")
    [] none) none))))))))))))))))))))))))))))))))))) (more (seq (more (prim (codes "UNPAIR") [] none) (more (prim (codes
    "DIG") [] (more (int (pos 2)) none)) (more (prim (codes "UNPAIR") [] none) (more (prim (codes "DUP") [] none) (more (prim
    (codes "DUP") [] (more (int (pos 4)) none)) (more (prim (codes "GET") [] none) (more (prim (codes "IF_NONE") [] (more (seq
    (more (prim (codes "PUSH") [] (more (prim (codes "nat") [] none) (more (int (pos 0)) none))) none)) (more (seq none)
    none))) (more (prim (codes "DUP") [] (more (int (pos 5)) none)) (more (prim (codes "ADD") [] none) (more (prim (codes
    "SOME") [] none) (more (prim (codes "DIG") [] (more (int (pos 3)) none)) (more (prim (codes "UPDATE") [] none) (more (prim
    (codes "DIP") [] (more (seq (more (prim (codes "ADD") [] none) none)) none)) (more (prim (codes "PAIR") [] none)
    none))))))))))))))) none))) (more (prim (codes "NIL") [] (more (prim (codes "operation") [] none) none)) (more (prim
    (codes "PAIR") [] none) none))))) none)) none))))) (prim (codes "Right") [] (more (prim (codes "Pair") [] (more (bytes (0
    ∷ 0 ∷ 0 ∷ 0 ∷ 0 ∷ 0 ∷ 0 ∷ 0 ∷ 0 ∷ 0 ∷ 0 ∷ 0 ∷ 0 ∷ 0 ∷ 0 ∷ 0 ∷ 0 ∷ 0 ∷ 0 ∷ 0 ∷ 0 ∷ 1 ∷ [])) (more (int (pos 100)) none)))
    none)) (prim (codes "Pair") [] (more (seq (more (prim (codes "Elt") [] (more (bytes (0 ∷ 0 ∷ 0 ∷ 0 ∷ 0 ∷ 0 ∷ 0 ∷ 0 ∷ 0 ∷ 0
    ∷ 0 ∷ 0 ∷ 0 ∷ 0 ∷ 0 ∷ 0 ∷ 0 ∷ 0 ∷ 0 ∷ 0 ∷ 0 ∷ 1 ∷ [])) (more (int (pos 100)) none))) none)) (more (int (pos 100)) none)))
    1000 ≡ ended 23 [] no_val (prim (codes "Pair") [] (more (seq (more (prim (codes "Elt") [] (more (bytes (0 ∷ 0 ∷ 0 ∷ 0 ∷ 0
    ∷ 0 ∷ 0 ∷ 0 ∷ 0 ∷ 0 ∷ 0 ∷ 0 ∷ 0 ∷ 0 ∷ 0 ∷ 0 ∷ 0 ∷ 0 ∷ 0 ∷ 0 ∷ 0 ∷ 1 ∷ [])) (more (int (pos 200)) none))) none)) (more (int
    (pos 200)) none))) []
unfolding primitive_names primitives code_of_name primitive_of_code primitive_of_name former_of_name word_of_name in_order
    int_or_limit
mints_again = refl

-- parameter (or (pair %transfer (address %from) (address %to) (nat %value)) (pair %mint (address %to) (nat %value))) ;
-- storage (pair (big_map %ledger address nat) (nat %total)) ; view "balance_of" address nat { UNPAIR ; SWAP ; CAR ; SWAP
-- ; GET ; IF_NONE { PUSH nat 0 } {} } ; code { UNPAIR ; IF_LEFT { UNPAIR ; DUP ; SENDER ; COMPARE ; EQ ; IF {} { PUSH
-- string "NotOwner" ; FAILWITH } ; DIG 2 ; UNPAIR ; DIG 3 ; UNPAIR ; DUP 3 ; DUP 6 ; GET ; IF_NONE { PUSH nat 0 } {} ;
-- DUP 3 ; SWAP ; SUB ; ISNAT ; IF_NONE { PUSH string "NotEnoughBalance" ; FAILWITH } {} ; SOME ; DIG 3 ; SWAP ; DIG 5 ;
-- UPDATE ; DUP ; DUP 3 ; GET ; IF_NONE { PUSH nat 0 } {} ; DIG 3 ; ADD ; SOME ; DIG 2 ; UPDATE ; PAIR } { UNPAIR ; DIG 2
-- ; UNPAIR ; DUP ; DUP 4 ; GET ; IF_NONE { PUSH nat 0 } {} ; DUP 5 ; ADD ; SOME ; DIG 3 ; UPDATE ; DIP { ADD } ; PAIR } ;
-- NIL operation ; PAIR } on Left (Pair 0x00000000000000000000000000000000000000000001
-- 0x00000000000000000000000000000000000000000002 10) and the storage Pair { Elt
-- 0x00000000000000000000000000000000000000000001 2000 } 2000 with the gas 1000
transfers_first : ran (seq (more (prim (codes "parameter") [] (more (prim (codes "or") [] (more (prim (codes "pair") ((codes
    "%transfer") ∷ []) (more (prim (codes "address") ((codes "%from") ∷ []) none) (more (prim (codes "address") ((codes "%to")
    ∷ []) none) (more (prim (codes "nat") ((codes "%value") ∷ []) none) none)))) (more (prim (codes "pair") ((codes "%mint") ∷
    []) (more (prim (codes "address") ((codes "%to") ∷ []) none) (more (prim (codes "nat") ((codes "%value") ∷ []) none)
    none))) none))) none)) (more (prim (codes "storage") [] (more (prim (codes "pair") [] (more (prim (codes "big_map")
    ((codes "%ledger") ∷ []) (more (prim (codes "address") [] none) (more (prim (codes "nat") [] none) none))) (more (prim
    (codes "nat") ((codes "%total") ∷ []) none) none))) none)) (more (prim (codes "view") [] (more (str (codes "balance_of"))
    (more (prim (codes "address") [] none) (more (prim (codes "nat") [] none) (more (seq (more (prim (codes "UNPAIR") [] none)
    (more (prim (codes "SWAP") [] none) (more (prim (codes "CAR") [] none) (more (prim (codes "SWAP") [] none) (more (prim
    (codes "GET") [] none) (more (prim (codes "IF_NONE") [] (more (seq (more (prim (codes "PUSH") [] (more (prim (codes "nat")
    [] none) (more (int (pos 0)) none))) none)) (more (seq none) none))) none))))))) none))))) (more (prim (codes "code") []
    (more (seq (more (prim (codes "UNPAIR") [] none) (more (prim (codes "IF_LEFT") [] (more (seq (more (prim (codes "UNPAIR")
    [] none) (more (prim (codes "DUP") [] none) (more (prim (codes "SENDER") [] none) (more (prim (codes "COMPARE") [] none)
    (more (prim (codes "EQ") [] none) (more (prim (codes "IF") [] (more (seq none) (more (seq (more (prim (codes "PUSH") []
    (more (prim (codes "string") [] none) (more (str (codes "NotOwner")) none))) (more (prim (codes "FAILWITH") [] none)
    none))) none))) (more (prim (codes "DIG") [] (more (int (pos 2)) none)) (more (prim (codes "UNPAIR") [] none) (more (prim
    (codes "DIG") [] (more (int (pos 3)) none)) (more (prim (codes "UNPAIR") [] none) (more (prim (codes "DUP") [] (more (int
    (pos 3)) none)) (more (prim (codes "DUP") [] (more (int (pos 6)) none)) (more (prim (codes "GET") [] none) (more (prim
    (codes "IF_NONE") [] (more (seq (more (prim (codes "PUSH") [] (more (prim (codes "nat") [] none) (more (int (pos 0))
    none))) none)) (more (seq none) none))) (more (prim (codes "DUP") [] (more (int (pos 3)) none)) (more (prim (codes "SWAP")
    [] none) (more (prim (codes "SUB") [] none) (more (prim (codes "ISNAT") [] none) (more (prim (codes "IF_NONE") [] (more
    (seq (more (prim (codes "PUSH") [] (more (prim (codes "string") [] none) (more (str (codes "NotEnoughBalance")) none)))
    (more (prim (codes "FAILWITH") [] none) none))) (more (seq none) none))) (more (prim (codes "SOME") [] none) (more (prim
    (codes "DIG") [] (more (int (pos 3)) none)) (more (prim (codes "SWAP") [] none) (more (prim (codes "DIG") [] (more (int
    (pos 5)) none)) (more (prim (codes "UPDATE") [] none) (more (prim (codes "DUP") [] none) (more (prim (codes "DUP") []
    (more (int (pos 3)) none)) (more (prim (codes "GET") [] none) (more (prim (codes "IF_NONE") [] (more (seq (more (prim
    (codes "PUSH") [] (more (prim (codes "nat") [] none) (more (int (pos 0)) none))) none)) (more (seq none) none))) (more
    (prim (codes "DIG") [] (more (int (pos 3)) none)) (more (prim (codes "ADD") [] none) (more (prim (codes "SOME") [] none)
    (more (prim (codes "DIG") [] (more (int (pos 2)) none)) (more (prim (codes "UPDATE") [] none) (more (prim (codes "PAIR")
    [] none) none))))))))))))))))))))))))))))))))))) (more (seq (more (prim (codes "UNPAIR") [] none) (more (prim (codes
    "DIG") [] (more (int (pos 2)) none)) (more (prim (codes "UNPAIR") [] none) (more (prim (codes "DUP") [] none) (more (prim
    (codes "DUP") [] (more (int (pos 4)) none)) (more (prim (codes "GET") [] none) (more (prim (codes "IF_NONE") [] (more (seq
    (more (prim (codes "PUSH") [] (more (prim (codes "nat") [] none) (more (int (pos 0)) none))) none)) (more (seq none)
    none))) (more (prim (codes "DUP") [] (more (int (pos 5)) none)) (more (prim (codes "ADD") [] none) (more (prim (codes
    "SOME") [] none) (more (prim (codes "DIG") [] (more (int (pos 3)) none)) (more (prim (codes "UPDATE") [] none) (more (prim
    (codes "DIP") [] (more (seq (more (prim (codes "ADD") [] none) none)) none)) (more (prim (codes "PAIR") [] none)
    none))))))))))))))) none))) (more (prim (codes "NIL") [] (more (prim (codes "operation") [] none) none)) (more (prim
    (codes "PAIR") [] none) none))))) none)) none))))) (prim (codes "Left") [] (more (prim (codes "Pair") [] (more (bytes (0 ∷
    0 ∷ 0 ∷ 0 ∷ 0 ∷ 0 ∷ 0 ∷ 0 ∷ 0 ∷ 0 ∷ 0 ∷ 0 ∷ 0 ∷ 0 ∷ 0 ∷ 0 ∷ 0 ∷ 0 ∷ 0 ∷ 0 ∷ 0 ∷ 1 ∷ [])) (more (bytes (0 ∷ 0 ∷ 0 ∷ 0 ∷ 0 ∷
    0 ∷ 0 ∷ 0 ∷ 0 ∷ 0 ∷ 0 ∷ 0 ∷ 0 ∷ 0 ∷ 0 ∷ 0 ∷ 0 ∷ 0 ∷ 0 ∷ 0 ∷ 0 ∷ 2 ∷ [])) (more (int (pos 10)) none)))) none)) (prim (codes
    "Pair") [] (more (seq (more (prim (codes "Elt") [] (more (bytes (0 ∷ 0 ∷ 0 ∷ 0 ∷ 0 ∷ 0 ∷ 0 ∷ 0 ∷ 0 ∷ 0 ∷ 0 ∷ 0 ∷ 0 ∷ 0 ∷ 0
    ∷ 0 ∷ 0 ∷ 0 ∷ 0 ∷ 0 ∷ 0 ∷ 1 ∷ [])) (more (int (pos 2000)) none))) none)) (more (int (pos 2000)) none))) 1000 ≡ ended 47 []
    no_val (prim (codes "Pair") [] (more (seq (more (prim (codes "Elt") [] (more (bytes (0 ∷ 0 ∷ 0 ∷ 0 ∷ 0 ∷ 0 ∷ 0 ∷ 0 ∷ 0 ∷ 0
    ∷ 0 ∷ 0 ∷ 0 ∷ 0 ∷ 0 ∷ 0 ∷ 0 ∷ 0 ∷ 0 ∷ 0 ∷ 0 ∷ 1 ∷ [])) (more (int (pos 1990)) none))) (more (prim (codes "Elt") [] (more
    (bytes (0 ∷ 0 ∷ 0 ∷ 0 ∷ 0 ∷ 0 ∷ 0 ∷ 0 ∷ 0 ∷ 0 ∷ 0 ∷ 0 ∷ 0 ∷ 0 ∷ 0 ∷ 0 ∷ 0 ∷ 0 ∷ 0 ∷ 0 ∷ 0 ∷ 2 ∷ [])) (more (int (pos 10))
    none))) none))) (more (int (pos 2000)) none))) []
unfolding primitive_names primitives code_of_name primitive_of_code primitive_of_name former_of_name word_of_name in_order
    int_or_limit
transfers_first = refl

-- parameter (or (pair %transfer (address %from) (address %to) (nat %value)) (pair %mint (address %to) (nat %value))) ;
-- storage (pair (big_map %ledger address nat) (nat %total)) ; view "balance_of" address nat { UNPAIR ; SWAP ; CAR ; SWAP
-- ; GET ; IF_NONE { PUSH nat 0 } {} } ; code { UNPAIR ; IF_LEFT { UNPAIR ; DUP ; SENDER ; COMPARE ; EQ ; IF {} { PUSH
-- string "NotOwner" ; FAILWITH } ; DIG 2 ; UNPAIR ; DIG 3 ; UNPAIR ; DUP 3 ; DUP 6 ; GET ; IF_NONE { PUSH nat 0 } {} ;
-- DUP 3 ; SWAP ; SUB ; ISNAT ; IF_NONE { PUSH string "NotEnoughBalance" ; FAILWITH } {} ; SOME ; DIG 3 ; SWAP ; DIG 5 ;
-- UPDATE ; DUP ; DUP 3 ; GET ; IF_NONE { PUSH nat 0 } {} ; DIG 3 ; ADD ; SOME ; DIG 2 ; UPDATE ; PAIR } { UNPAIR ; DIG 2
-- ; UNPAIR ; DUP ; DUP 4 ; GET ; IF_NONE { PUSH nat 0 } {} ; DUP 5 ; ADD ; SOME ; DIG 3 ; UPDATE ; DIP { ADD } ; PAIR } ;
-- NIL operation ; PAIR } on Left (Pair 0x00000000000000000000000000000000000000000001
-- 0x00000000000000000000000000000000000000000002 10) and the storage Pair { Elt
-- 0x00000000000000000000000000000000000000000001 1990 ; Elt 0x00000000000000000000000000000000000000000002 10 } 2000 with
-- the gas 1000
transfers_again : ran (seq (more (prim (codes "parameter") [] (more (prim (codes "or") [] (more (prim (codes "pair") ((codes
    "%transfer") ∷ []) (more (prim (codes "address") ((codes "%from") ∷ []) none) (more (prim (codes "address") ((codes "%to")
    ∷ []) none) (more (prim (codes "nat") ((codes "%value") ∷ []) none) none)))) (more (prim (codes "pair") ((codes "%mint") ∷
    []) (more (prim (codes "address") ((codes "%to") ∷ []) none) (more (prim (codes "nat") ((codes "%value") ∷ []) none)
    none))) none))) none)) (more (prim (codes "storage") [] (more (prim (codes "pair") [] (more (prim (codes "big_map")
    ((codes "%ledger") ∷ []) (more (prim (codes "address") [] none) (more (prim (codes "nat") [] none) none))) (more (prim
    (codes "nat") ((codes "%total") ∷ []) none) none))) none)) (more (prim (codes "view") [] (more (str (codes "balance_of"))
    (more (prim (codes "address") [] none) (more (prim (codes "nat") [] none) (more (seq (more (prim (codes "UNPAIR") [] none)
    (more (prim (codes "SWAP") [] none) (more (prim (codes "CAR") [] none) (more (prim (codes "SWAP") [] none) (more (prim
    (codes "GET") [] none) (more (prim (codes "IF_NONE") [] (more (seq (more (prim (codes "PUSH") [] (more (prim (codes "nat")
    [] none) (more (int (pos 0)) none))) none)) (more (seq none) none))) none))))))) none))))) (more (prim (codes "code") []
    (more (seq (more (prim (codes "UNPAIR") [] none) (more (prim (codes "IF_LEFT") [] (more (seq (more (prim (codes "UNPAIR")
    [] none) (more (prim (codes "DUP") [] none) (more (prim (codes "SENDER") [] none) (more (prim (codes "COMPARE") [] none)
    (more (prim (codes "EQ") [] none) (more (prim (codes "IF") [] (more (seq none) (more (seq (more (prim (codes "PUSH") []
    (more (prim (codes "string") [] none) (more (str (codes "NotOwner")) none))) (more (prim (codes "FAILWITH") [] none)
    none))) none))) (more (prim (codes "DIG") [] (more (int (pos 2)) none)) (more (prim (codes "UNPAIR") [] none) (more (prim
    (codes "DIG") [] (more (int (pos 3)) none)) (more (prim (codes "UNPAIR") [] none) (more (prim (codes "DUP") [] (more (int
    (pos 3)) none)) (more (prim (codes "DUP") [] (more (int (pos 6)) none)) (more (prim (codes "GET") [] none) (more (prim
    (codes "IF_NONE") [] (more (seq (more (prim (codes "PUSH") [] (more (prim (codes "nat") [] none) (more (int (pos 0))
    none))) none)) (more (seq none) none))) (more (prim (codes "DUP") [] (more (int (pos 3)) none)) (more (prim (codes "SWAP")
    [] none) (more (prim (codes "SUB") [] none) (more (prim (codes "ISNAT") [] none) (more (prim (codes "IF_NONE") [] (more
    (seq (more (prim (codes "PUSH") [] (more (prim (codes "string") [] none) (more (str (codes "NotEnoughBalance")) none)))
    (more (prim (codes "FAILWITH") [] none) none))) (more (seq none) none))) (more (prim (codes "SOME") [] none) (more (prim
    (codes "DIG") [] (more (int (pos 3)) none)) (more (prim (codes "SWAP") [] none) (more (prim (codes "DIG") [] (more (int
    (pos 5)) none)) (more (prim (codes "UPDATE") [] none) (more (prim (codes "DUP") [] none) (more (prim (codes "DUP") []
    (more (int (pos 3)) none)) (more (prim (codes "GET") [] none) (more (prim (codes "IF_NONE") [] (more (seq (more (prim
    (codes "PUSH") [] (more (prim (codes "nat") [] none) (more (int (pos 0)) none))) none)) (more (seq none) none))) (more
    (prim (codes "DIG") [] (more (int (pos 3)) none)) (more (prim (codes "ADD") [] none) (more (prim (codes "SOME") [] none)
    (more (prim (codes "DIG") [] (more (int (pos 2)) none)) (more (prim (codes "UPDATE") [] none) (more (prim (codes "PAIR")
    [] none) none))))))))))))))))))))))))))))))))))) (more (seq (more (prim (codes "UNPAIR") [] none) (more (prim (codes
    "DIG") [] (more (int (pos 2)) none)) (more (prim (codes "UNPAIR") [] none) (more (prim (codes "DUP") [] none) (more (prim
    (codes "DUP") [] (more (int (pos 4)) none)) (more (prim (codes "GET") [] none) (more (prim (codes "IF_NONE") [] (more (seq
    (more (prim (codes "PUSH") [] (more (prim (codes "nat") [] none) (more (int (pos 0)) none))) none)) (more (seq none)
    none))) (more (prim (codes "DUP") [] (more (int (pos 5)) none)) (more (prim (codes "ADD") [] none) (more (prim (codes
    "SOME") [] none) (more (prim (codes "DIG") [] (more (int (pos 3)) none)) (more (prim (codes "UPDATE") [] none) (more (prim
    (codes "DIP") [] (more (seq (more (prim (codes "ADD") [] none) none)) none)) (more (prim (codes "PAIR") [] none)
    none))))))))))))))) none))) (more (prim (codes "NIL") [] (more (prim (codes "operation") [] none) none)) (more (prim
    (codes "PAIR") [] none) none))))) none)) none))))) (prim (codes "Left") [] (more (prim (codes "Pair") [] (more (bytes (0 ∷
    0 ∷ 0 ∷ 0 ∷ 0 ∷ 0 ∷ 0 ∷ 0 ∷ 0 ∷ 0 ∷ 0 ∷ 0 ∷ 0 ∷ 0 ∷ 0 ∷ 0 ∷ 0 ∷ 0 ∷ 0 ∷ 0 ∷ 0 ∷ 1 ∷ [])) (more (bytes (0 ∷ 0 ∷ 0 ∷ 0 ∷ 0 ∷
    0 ∷ 0 ∷ 0 ∷ 0 ∷ 0 ∷ 0 ∷ 0 ∷ 0 ∷ 0 ∷ 0 ∷ 0 ∷ 0 ∷ 0 ∷ 0 ∷ 0 ∷ 0 ∷ 2 ∷ [])) (more (int (pos 10)) none)))) none)) (prim (codes
    "Pair") [] (more (seq (more (prim (codes "Elt") [] (more (bytes (0 ∷ 0 ∷ 0 ∷ 0 ∷ 0 ∷ 0 ∷ 0 ∷ 0 ∷ 0 ∷ 0 ∷ 0 ∷ 0 ∷ 0 ∷ 0 ∷ 0
    ∷ 0 ∷ 0 ∷ 0 ∷ 0 ∷ 0 ∷ 0 ∷ 1 ∷ [])) (more (int (pos 1990)) none))) (more (prim (codes "Elt") [] (more (bytes (0 ∷ 0 ∷ 0 ∷ 0
    ∷ 0 ∷ 0 ∷ 0 ∷ 0 ∷ 0 ∷ 0 ∷ 0 ∷ 0 ∷ 0 ∷ 0 ∷ 0 ∷ 0 ∷ 0 ∷ 0 ∷ 0 ∷ 0 ∷ 0 ∷ 2 ∷ [])) (more (int (pos 10)) none))) none))) (more
    (int (pos 2000)) none))) 1000 ≡ ended 46 [] no_val (prim (codes "Pair") [] (more (seq (more (prim (codes "Elt") [] (more
    (bytes (0 ∷ 0 ∷ 0 ∷ 0 ∷ 0 ∷ 0 ∷ 0 ∷ 0 ∷ 0 ∷ 0 ∷ 0 ∷ 0 ∷ 0 ∷ 0 ∷ 0 ∷ 0 ∷ 0 ∷ 0 ∷ 0 ∷ 0 ∷ 0 ∷ 1 ∷ [])) (more (int (pos
    1980)) none))) (more (prim (codes "Elt") [] (more (bytes (0 ∷ 0 ∷ 0 ∷ 0 ∷ 0 ∷ 0 ∷ 0 ∷ 0 ∷ 0 ∷ 0 ∷ 0 ∷ 0 ∷ 0 ∷ 0 ∷ 0 ∷ 0 ∷
    0 ∷ 0 ∷ 0 ∷ 0 ∷ 0 ∷ 2 ∷ [])) (more (int (pos 20)) none))) none))) (more (int (pos 2000)) none))) []
unfolding primitive_names primitives code_of_name primitive_of_code primitive_of_name former_of_name word_of_name in_order
    int_or_limit
transfers_again = refl

-- parameter (or (pair %transfer (address %from) (address %to) (nat %value)) (pair %mint (address %to) (nat %value))) ;
-- storage (pair (big_map %ledger address nat) (nat %total)) ; view "balance_of" address nat { UNPAIR ; SWAP ; CAR ; SWAP
-- ; GET ; IF_NONE { PUSH nat 0 } {} } ; code { UNPAIR ; IF_LEFT { UNPAIR ; DUP ; SENDER ; COMPARE ; EQ ; IF {} { PUSH
-- string "NotOwner" ; FAILWITH } ; DIG 2 ; UNPAIR ; DIG 3 ; UNPAIR ; DUP 3 ; DUP 6 ; GET ; IF_NONE { PUSH nat 0 } {} ;
-- DUP 3 ; SWAP ; SUB ; ISNAT ; IF_NONE { PUSH string "NotEnoughBalance" ; FAILWITH } {} ; SOME ; DIG 3 ; SWAP ; DIG 5 ;
-- UPDATE ; DUP ; DUP 3 ; GET ; IF_NONE { PUSH nat 0 } {} ; DIG 3 ; ADD ; SOME ; DIG 2 ; UPDATE ; PAIR } { UNPAIR ; DIG 2
-- ; UNPAIR ; DUP ; DUP 4 ; GET ; IF_NONE { PUSH nat 0 } {} ; DUP 5 ; ADD ; SOME ; DIG 3 ; UPDATE ; DIP { ADD } ; PAIR } ;
-- NIL operation ; PAIR } on Left (Pair 0x00000000000000000000000000000000000000000001
-- 0x00000000000000000000000000000000000000000002 3000) and the storage Pair { Elt
-- 0x00000000000000000000000000000000000000000001 2000 } 2000 with the gas 1000
transfers_too_much : ran (seq (more (prim (codes "parameter") [] (more (prim (codes "or") [] (more (prim (codes "pair")
    ((codes "%transfer") ∷ []) (more (prim (codes "address") ((codes "%from") ∷ []) none) (more (prim (codes "address")
    ((codes "%to") ∷ []) none) (more (prim (codes "nat") ((codes "%value") ∷ []) none) none)))) (more (prim (codes "pair")
    ((codes "%mint") ∷ []) (more (prim (codes "address") ((codes "%to") ∷ []) none) (more (prim (codes "nat") ((codes
    "%value") ∷ []) none) none))) none))) none)) (more (prim (codes "storage") [] (more (prim (codes "pair") [] (more (prim
    (codes "big_map") ((codes "%ledger") ∷ []) (more (prim (codes "address") [] none) (more (prim (codes "nat") [] none)
    none))) (more (prim (codes "nat") ((codes "%total") ∷ []) none) none))) none)) (more (prim (codes "view") [] (more (str
    (codes "balance_of")) (more (prim (codes "address") [] none) (more (prim (codes "nat") [] none) (more (seq (more (prim
    (codes "UNPAIR") [] none) (more (prim (codes "SWAP") [] none) (more (prim (codes "CAR") [] none) (more (prim (codes
    "SWAP") [] none) (more (prim (codes "GET") [] none) (more (prim (codes "IF_NONE") [] (more (seq (more (prim (codes "PUSH")
    [] (more (prim (codes "nat") [] none) (more (int (pos 0)) none))) none)) (more (seq none) none))) none))))))) none)))))
    (more (prim (codes "code") [] (more (seq (more (prim (codes "UNPAIR") [] none) (more (prim (codes "IF_LEFT") [] (more (seq
    (more (prim (codes "UNPAIR") [] none) (more (prim (codes "DUP") [] none) (more (prim (codes "SENDER") [] none) (more (prim
    (codes "COMPARE") [] none) (more (prim (codes "EQ") [] none) (more (prim (codes "IF") [] (more (seq none) (more (seq (more
    (prim (codes "PUSH") [] (more (prim (codes "string") [] none) (more (str (codes "NotOwner")) none))) (more (prim (codes
    "FAILWITH") [] none) none))) none))) (more (prim (codes "DIG") [] (more (int (pos 2)) none)) (more (prim (codes "UNPAIR")
    [] none) (more (prim (codes "DIG") [] (more (int (pos 3)) none)) (more (prim (codes "UNPAIR") [] none) (more (prim (codes
    "DUP") [] (more (int (pos 3)) none)) (more (prim (codes "DUP") [] (more (int (pos 6)) none)) (more (prim (codes "GET") []
    none) (more (prim (codes "IF_NONE") [] (more (seq (more (prim (codes "PUSH") [] (more (prim (codes "nat") [] none) (more
    (int (pos 0)) none))) none)) (more (seq none) none))) (more (prim (codes "DUP") [] (more (int (pos 3)) none)) (more (prim
    (codes "SWAP") [] none) (more (prim (codes "SUB") [] none) (more (prim (codes "ISNAT") [] none) (more (prim (codes
    "IF_NONE") [] (more (seq (more (prim (codes "PUSH") [] (more (prim (codes "string") [] none) (more (str (codes
    "NotEnoughBalance")) none))) (more (prim (codes "FAILWITH") [] none) none))) (more (seq none) none))) (more (prim (codes
    "SOME") [] none) (more (prim (codes "DIG") [] (more (int (pos 3)) none)) (more (prim (codes "SWAP") [] none) (more (prim
    (codes "DIG") [] (more (int (pos 5)) none)) (more (prim (codes "UPDATE") [] none) (more (prim (codes "DUP") [] none) (more
    (prim (codes "DUP") [] (more (int (pos 3)) none)) (more (prim (codes "GET") [] none) (more (prim (codes "IF_NONE") []
    (more (seq (more (prim (codes "PUSH") [] (more (prim (codes "nat") [] none) (more (int (pos 0)) none))) none)) (more (seq
    none) none))) (more (prim (codes "DIG") [] (more (int (pos 3)) none)) (more (prim (codes "ADD") [] none) (more (prim
    (codes "SOME") [] none) (more (prim (codes "DIG") [] (more (int (pos 2)) none)) (more (prim (codes "UPDATE") [] none)
    (more (prim (codes "PAIR") [] none) none))))))))))))))))))))))))))))))))))) (more (seq (more (prim (codes "UNPAIR") []
    none) (more (prim (codes "DIG") [] (more (int (pos 2)) none)) (more (prim (codes "UNPAIR") [] none) (more (prim (codes
    "DUP") [] none) (more (prim (codes "DUP") [] (more (int (pos 4)) none)) (more (prim (codes "GET") [] none) (more (prim
    (codes "IF_NONE") [] (more (seq (more (prim (codes "PUSH") [] (more (prim (codes "nat") [] none) (more (int (pos 0))
    none))) none)) (more (seq none) none))) (more (prim (codes "DUP") [] (more (int (pos 5)) none)) (more (prim (codes "ADD")
    [] none) (more (prim (codes "SOME") [] none) (more (prim (codes "DIG") [] (more (int (pos 3)) none)) (more (prim (codes
    "UPDATE") [] none) (more (prim (codes "DIP") [] (more (seq (more (prim (codes "ADD") [] none) none)) none)) (more (prim
    (codes "PAIR") [] none) none))))))))))))))) none))) (more (prim (codes "NIL") [] (more (prim (codes "operation") [] none)
    none)) (more (prim (codes "PAIR") [] none) none))))) none)) none))))) (prim (codes "Left") [] (more (prim (codes "Pair")
    [] (more (bytes (0 ∷ 0 ∷ 0 ∷ 0 ∷ 0 ∷ 0 ∷ 0 ∷ 0 ∷ 0 ∷ 0 ∷ 0 ∷ 0 ∷ 0 ∷ 0 ∷ 0 ∷ 0 ∷ 0 ∷ 0 ∷ 0 ∷ 0 ∷ 0 ∷ 1 ∷ [])) (more (bytes
    (0 ∷ 0 ∷ 0 ∷ 0 ∷ 0 ∷ 0 ∷ 0 ∷ 0 ∷ 0 ∷ 0 ∷ 0 ∷ 0 ∷ 0 ∷ 0 ∷ 0 ∷ 0 ∷ 0 ∷ 0 ∷ 0 ∷ 0 ∷ 0 ∷ 2 ∷ [])) (more (int (pos 3000))
    none)))) none)) (prim (codes "Pair") [] (more (seq (more (prim (codes "Elt") [] (more (bytes (0 ∷ 0 ∷ 0 ∷ 0 ∷ 0 ∷ 0 ∷ 0 ∷
    0 ∷ 0 ∷ 0 ∷ 0 ∷ 0 ∷ 0 ∷ 0 ∷ 0 ∷ 0 ∷ 0 ∷ 0 ∷ 0 ∷ 0 ∷ 0 ∷ 1 ∷ [])) (more (int (pos 2000)) none))) none)) (more (int (pos
    2000)) none))) 1000 ≡ failure (f.failed_with (k.simple s.String) (v.text (codes "NotEnoughBalance")))
unfolding primitive_names primitives code_of_name primitive_of_code primitive_of_name former_of_name word_of_name in_order
    int_or_limit
transfers_too_much = refl

-- parameter (or (pair %transfer (address %from) (address %to) (nat %value)) (pair %mint (address %to) (nat %value))) ;
-- storage (pair (big_map %ledger address nat) (nat %total)) ; view "balance_of" address nat { UNPAIR ; SWAP ; CAR ; SWAP
-- ; GET ; IF_NONE { PUSH nat 0 } {} } ; code { UNPAIR ; IF_LEFT { UNPAIR ; DUP ; SENDER ; COMPARE ; EQ ; IF {} { PUSH
-- string "NotOwner" ; FAILWITH } ; DIG 2 ; UNPAIR ; DIG 3 ; UNPAIR ; DUP 3 ; DUP 6 ; GET ; IF_NONE { PUSH nat 0 } {} ;
-- DUP 3 ; SWAP ; SUB ; ISNAT ; IF_NONE { PUSH string "NotEnoughBalance" ; FAILWITH } {} ; SOME ; DIG 3 ; SWAP ; DIG 5 ;
-- UPDATE ; DUP ; DUP 3 ; GET ; IF_NONE { PUSH nat 0 } {} ; DIG 3 ; ADD ; SOME ; DIG 2 ; UPDATE ; PAIR } { UNPAIR ; DIG 2
-- ; UNPAIR ; DUP ; DUP 4 ; GET ; IF_NONE { PUSH nat 0 } {} ; DUP 5 ; ADD ; SOME ; DIG 3 ; UPDATE ; DIP { ADD } ; PAIR } ;
-- NIL operation ; PAIR } on Left (Pair 0x00000000000000000000000000000000000000000002
-- 0x00000000000000000000000000000000000000000001 10) and the storage Pair { Elt
-- 0x00000000000000000000000000000000000000000001 2000 } 2000 with the gas 1000
transfers_of_another : ran (seq (more (prim (codes "parameter") [] (more (prim (codes "or") [] (more (prim (codes "pair")
    ((codes "%transfer") ∷ []) (more (prim (codes "address") ((codes "%from") ∷ []) none) (more (prim (codes "address")
    ((codes "%to") ∷ []) none) (more (prim (codes "nat") ((codes "%value") ∷ []) none) none)))) (more (prim (codes "pair")
    ((codes "%mint") ∷ []) (more (prim (codes "address") ((codes "%to") ∷ []) none) (more (prim (codes "nat") ((codes
    "%value") ∷ []) none) none))) none))) none)) (more (prim (codes "storage") [] (more (prim (codes "pair") [] (more (prim
    (codes "big_map") ((codes "%ledger") ∷ []) (more (prim (codes "address") [] none) (more (prim (codes "nat") [] none)
    none))) (more (prim (codes "nat") ((codes "%total") ∷ []) none) none))) none)) (more (prim (codes "view") [] (more (str
    (codes "balance_of")) (more (prim (codes "address") [] none) (more (prim (codes "nat") [] none) (more (seq (more (prim
    (codes "UNPAIR") [] none) (more (prim (codes "SWAP") [] none) (more (prim (codes "CAR") [] none) (more (prim (codes
    "SWAP") [] none) (more (prim (codes "GET") [] none) (more (prim (codes "IF_NONE") [] (more (seq (more (prim (codes "PUSH")
    [] (more (prim (codes "nat") [] none) (more (int (pos 0)) none))) none)) (more (seq none) none))) none))))))) none)))))
    (more (prim (codes "code") [] (more (seq (more (prim (codes "UNPAIR") [] none) (more (prim (codes "IF_LEFT") [] (more (seq
    (more (prim (codes "UNPAIR") [] none) (more (prim (codes "DUP") [] none) (more (prim (codes "SENDER") [] none) (more (prim
    (codes "COMPARE") [] none) (more (prim (codes "EQ") [] none) (more (prim (codes "IF") [] (more (seq none) (more (seq (more
    (prim (codes "PUSH") [] (more (prim (codes "string") [] none) (more (str (codes "NotOwner")) none))) (more (prim (codes
    "FAILWITH") [] none) none))) none))) (more (prim (codes "DIG") [] (more (int (pos 2)) none)) (more (prim (codes "UNPAIR")
    [] none) (more (prim (codes "DIG") [] (more (int (pos 3)) none)) (more (prim (codes "UNPAIR") [] none) (more (prim (codes
    "DUP") [] (more (int (pos 3)) none)) (more (prim (codes "DUP") [] (more (int (pos 6)) none)) (more (prim (codes "GET") []
    none) (more (prim (codes "IF_NONE") [] (more (seq (more (prim (codes "PUSH") [] (more (prim (codes "nat") [] none) (more
    (int (pos 0)) none))) none)) (more (seq none) none))) (more (prim (codes "DUP") [] (more (int (pos 3)) none)) (more (prim
    (codes "SWAP") [] none) (more (prim (codes "SUB") [] none) (more (prim (codes "ISNAT") [] none) (more (prim (codes
    "IF_NONE") [] (more (seq (more (prim (codes "PUSH") [] (more (prim (codes "string") [] none) (more (str (codes
    "NotEnoughBalance")) none))) (more (prim (codes "FAILWITH") [] none) none))) (more (seq none) none))) (more (prim (codes
    "SOME") [] none) (more (prim (codes "DIG") [] (more (int (pos 3)) none)) (more (prim (codes "SWAP") [] none) (more (prim
    (codes "DIG") [] (more (int (pos 5)) none)) (more (prim (codes "UPDATE") [] none) (more (prim (codes "DUP") [] none) (more
    (prim (codes "DUP") [] (more (int (pos 3)) none)) (more (prim (codes "GET") [] none) (more (prim (codes "IF_NONE") []
    (more (seq (more (prim (codes "PUSH") [] (more (prim (codes "nat") [] none) (more (int (pos 0)) none))) none)) (more (seq
    none) none))) (more (prim (codes "DIG") [] (more (int (pos 3)) none)) (more (prim (codes "ADD") [] none) (more (prim
    (codes "SOME") [] none) (more (prim (codes "DIG") [] (more (int (pos 2)) none)) (more (prim (codes "UPDATE") [] none)
    (more (prim (codes "PAIR") [] none) none))))))))))))))))))))))))))))))))))) (more (seq (more (prim (codes "UNPAIR") []
    none) (more (prim (codes "DIG") [] (more (int (pos 2)) none)) (more (prim (codes "UNPAIR") [] none) (more (prim (codes
    "DUP") [] none) (more (prim (codes "DUP") [] (more (int (pos 4)) none)) (more (prim (codes "GET") [] none) (more (prim
    (codes "IF_NONE") [] (more (seq (more (prim (codes "PUSH") [] (more (prim (codes "nat") [] none) (more (int (pos 0))
    none))) none)) (more (seq none) none))) (more (prim (codes "DUP") [] (more (int (pos 5)) none)) (more (prim (codes "ADD")
    [] none) (more (prim (codes "SOME") [] none) (more (prim (codes "DIG") [] (more (int (pos 3)) none)) (more (prim (codes
    "UPDATE") [] none) (more (prim (codes "DIP") [] (more (seq (more (prim (codes "ADD") [] none) none)) none)) (more (prim
    (codes "PAIR") [] none) none))))))))))))))) none))) (more (prim (codes "NIL") [] (more (prim (codes "operation") [] none)
    none)) (more (prim (codes "PAIR") [] none) none))))) none)) none))))) (prim (codes "Left") [] (more (prim (codes "Pair")
    [] (more (bytes (0 ∷ 0 ∷ 0 ∷ 0 ∷ 0 ∷ 0 ∷ 0 ∷ 0 ∷ 0 ∷ 0 ∷ 0 ∷ 0 ∷ 0 ∷ 0 ∷ 0 ∷ 0 ∷ 0 ∷ 0 ∷ 0 ∷ 0 ∷ 0 ∷ 2 ∷ [])) (more (bytes
    (0 ∷ 0 ∷ 0 ∷ 0 ∷ 0 ∷ 0 ∷ 0 ∷ 0 ∷ 0 ∷ 0 ∷ 0 ∷ 0 ∷ 0 ∷ 0 ∷ 0 ∷ 0 ∷ 0 ∷ 0 ∷ 0 ∷ 0 ∷ 0 ∷ 1 ∷ [])) (more (int (pos 10))
    none)))) none)) (prim (codes "Pair") [] (more (seq (more (prim (codes "Elt") [] (more (bytes (0 ∷ 0 ∷ 0 ∷ 0 ∷ 0 ∷ 0 ∷ 0 ∷
    0 ∷ 0 ∷ 0 ∷ 0 ∷ 0 ∷ 0 ∷ 0 ∷ 0 ∷ 0 ∷ 0 ∷ 0 ∷ 0 ∷ 0 ∷ 0 ∷ 1 ∷ [])) (more (int (pos 2000)) none))) none)) (more (int (pos
    2000)) none))) 1000 ≡ failure (f.failed_with (k.simple s.String) (v.text (codes "NotOwner")))
unfolding primitive_names primitives code_of_name primitive_of_code primitive_of_name former_of_name word_of_name in_order
    int_or_limit
transfers_of_another = refl
