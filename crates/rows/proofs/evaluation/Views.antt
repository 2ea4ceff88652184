-- Big maps and views.
use Rattle.std.specs.Prelude.{◌≡◌, refl, pos, [], ◌∷◌, codes}
use Rattle.rules_text.specs.nodes.Tree.{int, str, bytes, prim, seq, none, more}
use Rattle.rules_text.specs.nodes.Primitives.{primitive_names, primitives, code_of_name, primitive_of_code, primitive_of_name}
use Rattle.rules_data.specs.numbers.Limits.{int_or_limit}
use Rattle.rules_data.specs.declared.types.Simple.TheVariants as s
use Rattle.rules_data.specs.types.Kind as k
use Rattle.rules_data.specs.types.Reading.{former_of_name}
use Rattle.rules_data.specs.types.Entrypoints.{in_order}
use Rattle.rules_data.specs.values.Val as v
use Rattle.rules_data.specs.values.Val.{no_val, more_vals, no_pair, more_pairs}
use Rattle.rules_data.specs.values.Literals.{word_of_name}
use Rattle.rules_code.specs.steps.Failure as f
use Rattle.rules_code.specs.steps.Changes.{minted}
use Rattle.rows.specs.evaluation.Told.{ended, failure, ran}

-- parameter unit ; storage (pair (big_map nat nat) (big_map nat nat)) ; code { CDR ; CAR ; DUP ; PUSH (option nat) (Some 1) ;
-- PUSH nat 0 ; UPDATE ; SWAP ; PAIR ; NIL operation ; PAIR } on Unit and the storage Pair { Elt 5 5 } {} with the gas 100
two_big_maps : ran (seq (more (prim (codes "parameter") [] (more (prim (codes "unit") [] none) none)) (more (prim (codes
    "storage") [] (more (prim (codes "pair") [] (more (prim (codes "big_map") [] (more (prim (codes "nat") [] none) (more
    (prim (codes "nat") [] none) none))) (more (prim (codes "big_map") [] (more (prim (codes "nat") [] none) (more (prim
    (codes "nat") [] none) none))) none))) none)) (more (prim (codes "code") [] (more (seq (more (prim (codes "CDR") [] none)
    (more (prim (codes "CAR") [] none) (more (prim (codes "DUP") [] none) (more (prim (codes "PUSH") [] (more (prim (codes
    "option") [] (more (prim (codes "nat") [] none) none)) (more (prim (codes "Some") [] (more (int (pos 1)) none)) none)))
    (more (prim (codes "PUSH") [] (more (prim (codes "nat") [] none) (more (int (pos 0)) none))) (more (prim (codes "UPDATE")
    [] none) (more (prim (codes "SWAP") [] none) (more (prim (codes "PAIR") [] none) (more (prim (codes "NIL") [] (more (prim
    (codes "operation") [] none) none)) (more (prim (codes "PAIR") [] none) none))))))))))) none)) none)))) (prim (codes
    "Unit") [] none) (prim (codes "Pair") [] (more (seq (more (prim (codes "Elt") [] (more (int (pos 5)) (more (int (pos 5))
    none))) none)) (more (seq none) none))) 100 ≡ ended 14 [] no_val (prim (codes "Pair") [] (more (seq (more (prim (codes
    "Elt") [] (more (int (pos 5)) (more (int (pos 5)) none))) none)) (more (seq (more (prim (codes "Elt") [] (more (int (pos
    0)) (more (int (pos 1)) none))) (more (prim (codes "Elt") [] (more (int (pos 5)) (more (int (pos 5)) none))) none)))
    none))) []
unfolding primitive_names primitives code_of_name primitive_of_code primitive_of_name former_of_name word_of_name in_order
    int_or_limit
two_big_maps = refl

-- parameter unit ; storage (pair nat (option (ticket nat))) ; view "n" unit nat { CDR ; CAR } ; code { CDR ; UNPAIR ; DIP {
-- IF_NONE { PUSH nat 5 ; PUSH nat 7 ; TICKET } { SOME } } ; PUSH nat 1 ; ADD ; SELF_ADDRESS ; UNIT ; VIEW "n" nat ;
-- IF_NONE { UNIT ; FAILWITH } {} ; ADD ; PAIR ; NIL operation ; PAIR } on Unit and the storage Pair 10 None with the gas
-- 100
a_view_of_its_own : ran (seq (more (prim (codes "parameter") [] (more (prim (codes "unit") [] none) none)) (more (prim (codes
    "storage") [] (more (prim (codes "pair") [] (more (prim (codes "nat") [] none) (more (prim (codes "option") [] (more (prim
    (codes "ticket") [] (more (prim (codes "nat") [] none) none)) none)) none))) none)) (more (prim (codes "view") [] (more
    (str (codes "n")) (more (prim (codes "unit") [] none) (more (prim (codes "nat") [] none) (more (seq (more (prim (codes
    "CDR") [] none) (more (prim (codes "CAR") [] none) none))) none))))) (more (prim (codes "code") [] (more (seq (more (prim
    (codes "CDR") [] none) (more (prim (codes "UNPAIR") [] none) (more (prim (codes "DIP") [] (more (seq (more (prim (codes
    "IF_NONE") [] (more (seq (more (prim (codes "PUSH") [] (more (prim (codes "nat") [] none) (more (int (pos 5)) none)))
    (more (prim (codes "PUSH") [] (more (prim (codes "nat") [] none) (more (int (pos 7)) none))) (more (prim (codes "TICKET")
    [] none) none)))) (more (seq (more (prim (codes "SOME") [] none) none)) none))) none)) none)) (more (prim (codes "PUSH")
    [] (more (prim (codes "nat") [] none) (more (int (pos 1)) none))) (more (prim (codes "ADD") [] none) (more (prim (codes
    "SELF_ADDRESS") [] none) (more (prim (codes "UNIT") [] none) (more (prim (codes "VIEW") [] (more (str (codes "n")) (more
    (prim (codes "nat") [] none) none))) (more (prim (codes "IF_NONE") [] (more (seq (more (prim (codes "UNIT") [] none) (more
    (prim (codes "FAILWITH") [] none) none))) (more (seq none) none))) (more (prim (codes "ADD") [] none) (more (prim (codes
    "PAIR") [] none) (more (prim (codes "NIL") [] (more (prim (codes "operation") [] none) none)) (more (prim (codes "PAIR")
    [] none) none)))))))))))))) none)) none))))) (prim (codes "Unit") [] none) (prim (codes "Pair") [] (more (int (pos 10))
    (more (prim (codes "None") [] none) none))) 100 ≡ ended 22 [] no_val (prim (codes "Pair") [] (more (int (pos 21)) (more
    (prim (codes "Some") [] (more (prim (codes "Ticket") [] (more (bytes (1 ∷ 0 ∷ 0 ∷ 0 ∷ 0 ∷ 0 ∷ 0 ∷ 0 ∷ 1 ∷ 0 ∷ 0 ∷ 0 ∷ 0 ∷
    0 ∷ 0 ∷ 0 ∷ 0 ∷ 0 ∷ 0 ∷ 0 ∷ 0 ∷ 0 ∷ [])) (more (prim (codes "nat") [] none) (more (int (pos 7)) (more (int (pos 5))
    none))))) none)) none))) (minted (record {
      issuer = (1 ∷ 0 ∷ 0 ∷ 0 ∷ 0 ∷ 0 ∷ 0 ∷ 0 ∷ 1 ∷ 0 ∷ 0 ∷ 0 ∷ 0 ∷ 0 ∷ 0 ∷ 0 ∷ 0 ∷ 0
          ∷ 0 ∷ 0 ∷ 0 ∷ 0 ∷ []);
      kind = (k.simple s.Nat);
      content = (v.number (pos 7));
      amount = pos 5;
    }) ∷ [])
unfolding primitive_names primitives code_of_name primitive_of_code primitive_of_name former_of_name word_of_name in_order
    int_or_limit
a_view_of_its_own = refl

-- parameter unit ; storage int ; view "v" int int { UNPAIR ; ADD } ; code { CDR ; SELF_ADDRESS ; PUSH int 4 ; VIEW "v" int ;
-- IF_NONE { UNIT ; FAILWITH } {} ; ADD ; NIL operation ; PAIR } on Unit and the storage 10 with the gas 100
a_view_adds : ran (seq (more (prim (codes "parameter") [] (more (prim (codes "unit") [] none) none)) (more (prim (codes
    "storage") [] (more (prim (codes "int") [] none) none)) (more (prim (codes "view") [] (more (str (codes "v")) (more (prim
    (codes "int") [] none) (more (prim (codes "int") [] none) (more (seq (more (prim (codes "UNPAIR") [] none) (more (prim
    (codes "ADD") [] none) none))) none))))) (more (prim (codes "code") [] (more (seq (more (prim (codes "CDR") [] none) (more
    (prim (codes "SELF_ADDRESS") [] none) (more (prim (codes "PUSH") [] (more (prim (codes "int") [] none) (more (int (pos 4))
    none))) (more (prim (codes "VIEW") [] (more (str (codes "v")) (more (prim (codes "int") [] none) none))) (more (prim
    (codes "IF_NONE") [] (more (seq (more (prim (codes "UNIT") [] none) (more (prim (codes "FAILWITH") [] none) none))) (more
    (seq none) none))) (more (prim (codes "ADD") [] none) (more (prim (codes "NIL") [] (more (prim (codes "operation") []
    none) none)) (more (prim (codes "PAIR") [] none) none))))))))) none)) none))))) (prim (codes "Unit") [] none) (int (pos
    10)) 100 ≡ ended 11 [] no_val (int (pos 24)) []
unfolding primitive_names primitives code_of_name primitive_of_code primitive_of_name former_of_name word_of_name in_order
    int_or_limit
a_view_adds = refl

-- parameter unit ; storage int ; view "v" int int { UNPAIR ; ADD } ; code { CDR ; SELF_ADDRESS ; PUSH int 4 ; VIEW "v" nat ;
-- IF_NONE { UNIT ; FAILWITH } {} ; ADD ; NIL operation ; PAIR } on Unit and the storage 10 with the gas 100
a_view_of_another_type : ran (seq (more (prim (codes "parameter") [] (more (prim (codes "unit") [] none) none)) (more (prim
    (codes "storage") [] (more (prim (codes "int") [] none) none)) (more (prim (codes "view") [] (more (str (codes "v")) (more
    (prim (codes "int") [] none) (more (prim (codes "int") [] none) (more (seq (more (prim (codes "UNPAIR") [] none) (more
    (prim (codes "ADD") [] none) none))) none))))) (more (prim (codes "code") [] (more (seq (more (prim (codes "CDR") [] none)
    (more (prim (codes "SELF_ADDRESS") [] none) (more (prim (codes "PUSH") [] (more (prim (codes "int") [] none) (more (int
    (pos 4)) none))) (more (prim (codes "VIEW") [] (more (str (codes "v")) (more (prim (codes "nat") [] none) none))) (more
    (prim (codes "IF_NONE") [] (more (seq (more (prim (codes "UNIT") [] none) (more (prim (codes "FAILWITH") [] none) none)))
    (more (seq none) none))) (more (prim (codes "ADD") [] none) (more (prim (codes "NIL") [] (more (prim (codes "operation")
    [] none) none)) (more (prim (codes "PAIR") [] none) none))))))))) none)) none))))) (prim (codes "Unit") [] none) (int (pos
    10)) 100 ≡ failure (f.failed_with (k.simple s.Unit) v.unit)
unfolding primitive_names primitives code_of_name primitive_of_code primitive_of_name former_of_name word_of_name in_order
    int_or_limit
a_view_of_another_type = refl
