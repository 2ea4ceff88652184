-- Tickets that are minted, split, sent and burnt.
use Rattle.std.specs.Prelude.{◌≡◌, refl, pos, [], ◌∷◌, codes}
use Rattle.rules_text.specs.nodes.Tree.{int, bytes, prim, seq, none, more}
use Rattle.rules_text.specs.nodes.Primitives.{primitive_names, primitives, code_of_name, primitive_of_code, primitive_of_name}
use Rattle.rules_data.specs.numbers.Limits.{int_or_limit}
use Rattle.rules_data.specs.declared.types.Simple.TheVariants as s
use Rattle.rules_data.specs.types.Kind as k
use Rattle.rules_data.specs.types.Reading.{former_of_name}
use Rattle.rules_data.specs.types.Entrypoints.{in_order}
use Rattle.rules_data.specs.values.Val as v
use Rattle.rules_data.specs.values.Val.{no_val, more_vals, no_pair, more_pairs}
use Rattle.rules_data.specs.values.Literals.{word_of_name}
use Rattle.rules_code.specs.steps.Changes.{minted, burnt}
use Rattle.rules_code.specs.evaluation.Operations.{transfer}
use Rattle.rows.specs.evaluation.Told.{ended, ran}

-- parameter address ; storage unit ; code { CAR ; CONTRACT (ticket nat) ; IF_NONE { UNIT ; FAILWITH } {} ; PUSH mutez 0 ;
-- PUSH nat 5 ; PUSH nat 7 ; TICKET ; IF_NONE { UNIT ; FAILWITH } {} ; TRANSFER_TOKENS ; DUP ; NIL operation ; SWAP ; CONS
-- ; SWAP ; CONS ; UNIT ; SWAP ; PAIR } on 0x00000000000000000000000000000000000000000002 and the storage Unit with the
-- gas 22: the operation is returned twice, which the end of the run refuses
an_operation_twice : ran (seq (more (prim (codes "parameter") [] (more (prim (codes "address") [] none) none)) (more (prim
    (codes "storage") [] (more (prim (codes "unit") [] none) none)) (more (prim (codes "code") [] (more (seq (more (prim
    (codes "CAR") [] none) (more (prim (codes "CONTRACT") [] (more (prim (codes "ticket") [] (more (prim (codes "nat") []
    none) none)) none)) (more (prim (codes "IF_NONE") [] (more (seq (more (prim (codes "UNIT") [] none) (more (prim (codes
    "FAILWITH") [] none) none))) (more (seq none) none))) (more (prim (codes "PUSH") [] (more (prim (codes "mutez") [] none)
    (more (int (pos 0)) none))) (more (prim (codes "PUSH") [] (more (prim (codes "nat") [] none) (more (int (pos 5)) none)))
    (more (prim (codes "PUSH") [] (more (prim (codes "nat") [] none) (more (int (pos 7)) none))) (more (prim (codes "TICKET")
    [] none) (more (prim (codes "IF_NONE") [] (more (seq (more (prim (codes "UNIT") [] none) (more (prim (codes "FAILWITH") []
    none) none))) (more (seq none) none))) (more (prim (codes "TRANSFER_TOKENS") [] none) (more (prim (codes "DUP") [] none)
    (more (prim (codes "NIL") [] (more (prim (codes "operation") [] none) none)) (more (prim (codes "SWAP") [] none) (more
    (prim (codes "CONS") [] none) (more (prim (codes "SWAP") [] none) (more (prim (codes "CONS") [] none) (more (prim (codes
    "UNIT") [] none) (more (prim (codes "SWAP") [] none) (more (prim (codes "PAIR") [] none) none))))))))))))))))))) none))
    none)))) (bytes (0 ∷ 0 ∷ 0 ∷ 0 ∷ 0 ∷ 0 ∷ 0 ∷ 0 ∷ 0 ∷ 0 ∷ 0 ∷ 0 ∷ 0 ∷ 0 ∷ 0 ∷ 0 ∷ 0 ∷ 0 ∷ 0 ∷ 0 ∷ 0 ∷ 2 ∷ [])) (prim (codes
    "Unit") [] none) 22 ≡ ended 22 (record {
      number = 0;
      operation = transfer (v.ticket (1 ∷ 0 ∷ 0 ∷ 0 ∷ 0 ∷ 0 ∷ 0 ∷ 0 ∷ 1 ∷ 0
          ∷ 0 ∷ 0 ∷ 0 ∷ 0 ∷ 0 ∷ 0 ∷ 0 ∷ 0 ∷ 0 ∷ 0 ∷ 0 ∷ 0 ∷ []) (k.simple s.Nat) (v.number (pos 7)) (pos 5)) 0 (0 ∷ 0 ∷ 0 ∷ 0 ∷ 0 ∷
          0 ∷ 0 ∷ 0 ∷ 0 ∷ 0 ∷ 0 ∷ 0 ∷ 0 ∷ 0 ∷ 0 ∷ 0 ∷ 0 ∷ 0 ∷ 0 ∷ 0 ∷ 0 ∷ 2 ∷ []);
    } ∷ []) (more_vals (v.operation 0) (more_vals
    (v.operation 0) no_val)) (prim (codes "Unit") [] none) (minted (record {
      issuer = (1 ∷ 0 ∷ 0 ∷ 0 ∷ 0 ∷ 0 ∷ 0 ∷ 0 ∷ 1 ∷ 0 ∷
          0 ∷ 0 ∷ 0 ∷ 0 ∷ 0 ∷ 0 ∷ 0 ∷ 0 ∷ 0 ∷ 0 ∷ 0 ∷ 0 ∷ []);
      kind = (k.simple s.Nat);
      content = (v.number (pos 7));
      amount = pos 5;
    }) ∷ [])
unfolding primitive_names primitives code_of_name primitive_of_code primitive_of_name former_of_name word_of_name in_order
    int_or_limit
an_operation_twice = refl

-- parameter address ; storage unit ; code { CAR ; CONTRACT (ticket nat) ; IF_NONE { UNIT ; FAILWITH } {} ; PUSH mutez 0 ;
-- PUSH nat 5 ; PUSH nat 7 ; TICKET ; IF_NONE { UNIT ; FAILWITH } {} ; PUSH (pair nat nat) (Pair 2 3) ; SWAP ;
-- SPLIT_TICKET ; IF_NONE { UNIT ; FAILWITH } { UNPAIR } ; DIP { DROP } ; TRANSFER_TOKENS ; NIL operation ; SWAP ; CONS ;
-- UNIT ; SWAP ; PAIR } on 0x00000000000000000000000000000000000000000002 and the storage Unit with the gas 100
a_ticket_is_split_and_sent : ran (seq (more (prim (codes "parameter") [] (more (prim (codes "address") [] none) none)) (more
    (prim (codes "storage") [] (more (prim (codes "unit") [] none) none)) (more (prim (codes "code") [] (more (seq (more (prim
    (codes "CAR") [] none) (more (prim (codes "CONTRACT") [] (more (prim (codes "ticket") [] (more (prim (codes "nat") []
    none) none)) none)) (more (prim (codes "IF_NONE") [] (more (seq (more (prim (codes "UNIT") [] none) (more (prim (codes
    "FAILWITH") [] none) none))) (more (seq none) none))) (more (prim (codes "PUSH") [] (more (prim (codes "mutez") [] none)
    (more (int (pos 0)) none))) (more (prim (codes "PUSH") [] (more (prim (codes "nat") [] none) (more (int (pos 5)) none)))
    (more (prim (codes "PUSH") [] (more (prim (codes "nat") [] none) (more (int (pos 7)) none))) (more (prim (codes "TICKET")
    [] none) (more (prim (codes "IF_NONE") [] (more (seq (more (prim (codes "UNIT") [] none) (more (prim (codes "FAILWITH") []
    none) none))) (more (seq none) none))) (more (prim (codes "PUSH") [] (more (prim (codes "pair") [] (more (prim (codes
    "nat") [] none) (more (prim (codes "nat") [] none) none))) (more (prim (codes "Pair") [] (more (int (pos 2)) (more (int
    (pos 3)) none))) none))) (more (prim (codes "SWAP") [] none) (more (prim (codes "SPLIT_TICKET") [] none) (more (prim
    (codes "IF_NONE") [] (more (seq (more (prim (codes "UNIT") [] none) (more (prim (codes "FAILWITH") [] none) none))) (more
    (seq (more (prim (codes "UNPAIR") [] none) none)) none))) (more (prim (codes "DIP") [] (more (seq (more (prim (codes
    "DROP") [] none) none)) none)) (more (prim (codes "TRANSFER_TOKENS") [] none) (more (prim (codes "NIL") [] (more (prim
    (codes "operation") [] none) none)) (more (prim (codes "SWAP") [] none) (more (prim (codes "CONS") [] none) (more (prim
    (codes "UNIT") [] none) (more (prim (codes "SWAP") [] none) (more (prim (codes "PAIR") [] none) none)))))))))))))))))))))
    none)) none)))) (bytes (0 ∷ 0 ∷ 0 ∷ 0 ∷ 0 ∷ 0 ∷ 0 ∷ 0 ∷ 0 ∷ 0 ∷ 0 ∷ 0 ∷ 0 ∷ 0 ∷ 0 ∷ 0 ∷ 0 ∷ 0 ∷ 0 ∷ 0 ∷ 0 ∷ 2 ∷ [])) (prim
    (codes "Unit") [] none) 100 ≡ ended 29 (record {
      number = 0;
      operation = transfer (v.ticket (1 ∷ 0 ∷ 0 ∷ 0 ∷ 0 ∷ 0 ∷ 0 ∷ 0
          ∷ 1 ∷ 0 ∷ 0 ∷ 0 ∷ 0 ∷ 0 ∷ 0 ∷ 0 ∷ 0 ∷ 0 ∷ 0 ∷ 0 ∷ 0 ∷ 0 ∷ []) (k.simple s.Nat) (v.number (pos 7)) (pos 2)) 0 (0 ∷ 0 ∷ 0 ∷
          0 ∷ 0 ∷ 0 ∷ 0 ∷ 0 ∷ 0 ∷ 0 ∷ 0 ∷ 0 ∷ 0 ∷ 0 ∷ 0 ∷ 0 ∷ 0 ∷ 0 ∷ 0 ∷ 0 ∷ 0 ∷ 2 ∷ []);
    } ∷ []) (more_vals (v.operation 0) no_val)
    (prim (codes "Unit") [] none) (minted (record {
      issuer = (1 ∷ 0 ∷ 0 ∷ 0 ∷ 0 ∷ 0 ∷ 0 ∷ 0 ∷ 1 ∷ 0 ∷ 0 ∷ 0 ∷ 0 ∷ 0 ∷ 0 ∷ 0 ∷
          0 ∷ 0 ∷ 0 ∷ 0 ∷ 0 ∷ 0 ∷ []);
      kind = (k.simple s.Nat);
      content = (v.number (pos 7));
      amount = pos 5;
    }) ∷ burnt (record {
      issuer = (1 ∷ 0 ∷ 0 ∷ 0 ∷ 0 ∷ 0 ∷ 0 ∷ 0 ∷ 1 ∷ 0 ∷ 0 ∷ 0 ∷ 0 ∷ 0 ∷ 0 ∷ 0 ∷ 0 ∷ 0 ∷ 0 ∷ 0 ∷ 0 ∷ 0 ∷ []);
      kind = (k.simple
          s.Nat);
      content = (v.number (pos 7));
      amount = pos 3;
    }) ∷ [])
unfolding primitive_names primitives code_of_name primitive_of_code primitive_of_name former_of_name word_of_name in_order
    int_or_limit
a_ticket_is_split_and_sent = refl

-- parameter unit ; storage unit ; code { CAR ; DROP ; PUSH nat 5 ; PUSH nat 7 ; TICKET ; IF_NONE {} { PUSH (pair nat nat)
-- (Pair 0 5) ; SWAP ; SPLIT_TICKET ; DROP } ; UNIT ; NIL operation ; PAIR } on Unit and the storage Unit with the gas 100
a_ticket_in_parts_that_do_not_sum : ran (seq (more (prim (codes "parameter") [] (more (prim (codes "unit") [] none) none))
    (more (prim (codes "storage") [] (more (prim (codes "unit") [] none) none)) (more (prim (codes "code") [] (more (seq (more
    (prim (codes "CAR") [] none) (more (prim (codes "DROP") [] none) (more (prim (codes "PUSH") [] (more (prim (codes "nat")
    [] none) (more (int (pos 5)) none))) (more (prim (codes "PUSH") [] (more (prim (codes "nat") [] none) (more (int (pos 7))
    none))) (more (prim (codes "TICKET") [] none) (more (prim (codes "IF_NONE") [] (more (seq none) (more (seq (more (prim
    (codes "PUSH") [] (more (prim (codes "pair") [] (more (prim (codes "nat") [] none) (more (prim (codes "nat") [] none)
    none))) (more (prim (codes "Pair") [] (more (int (pos 0)) (more (int (pos 5)) none))) none))) (more (prim (codes "SWAP")
    [] none) (more (prim (codes "SPLIT_TICKET") [] none) (more (prim (codes "DROP") [] none) none))))) none))) (more (prim
    (codes "UNIT") [] none) (more (prim (codes "NIL") [] (more (prim (codes "operation") [] none) none)) (more (prim (codes
    "PAIR") [] none) none)))))))))) none)) none)))) (prim (codes "Unit") [] none) (prim (codes "Unit") [] none) 100 ≡ ended 20
    [] no_val (prim (codes "Unit") [] none) (minted (record {
      issuer = (1 ∷ 0 ∷ 0 ∷ 0 ∷ 0 ∷ 0 ∷ 0 ∷ 0 ∷ 1 ∷ 0 ∷ 0 ∷ 0 ∷ 0 ∷ 0
          ∷ 0 ∷ 0 ∷ 0 ∷ 0 ∷ 0 ∷ 0 ∷ 0 ∷ 0 ∷ []);
      kind = (k.simple s.Nat);
      content = (v.number (pos 7));
      amount = pos 5;
    }) ∷ burnt
    (record {
      issuer = (1 ∷ 0 ∷ 0 ∷ 0 ∷ 0 ∷ 0 ∷ 0 ∷ 0 ∷ 1 ∷ 0 ∷ 0 ∷ 0 ∷ 0 ∷ 0 ∷ 0 ∷ 0 ∷ 0 ∷ 0 ∷ 0 ∷ 0 ∷ 0 ∷ 0 ∷ []);
      kind =
          (k.simple s.Nat);
      content = (v.number (pos 7));
      amount = pos 5;
    }) ∷ [])
unfolding primitive_names primitives code_of_name primitive_of_code primitive_of_name former_of_name word_of_name in_order
    int_or_limit
a_ticket_in_parts_that_do_not_sum = refl
