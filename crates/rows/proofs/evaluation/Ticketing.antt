-- Tickets, and what is discarded.
use Rattle.std.specs.Prelude.{◌≡◌, refl, pos, [], ◌∷◌, codes}
use Rattle.rules_text.specs.nodes.Tree.{int, str, bytes, prim, seq, none, more}
use Rattle.rules_text.specs.nodes.Primitives.{primitive_names, primitives, code_of_name, name_of_code, primitive_of_code, primitive_of_name}
use Rattle.rules_text.specs.binary.Spelling.{groups, integer, field, application}
use Rattle.rules_text.specs.binary.Reading.{byte_at, field_at, narrow_field_at, integer_at, string_at, bytes_at, annotations_at, any_annotations_at, name_at, nodes_at, application_at, many_at, node_by, tags_in_order, tag_at, node_at, decoded}
use Rattle.rules_data.specs.numbers.Limits.{int_or_limit, mutez_or_limit}
use Rattle.rules_data.specs.numbers.Integers.{division, shifted_left, shifted_right}
use Rattle.rules_data.specs.declared.types.Simple.TheVariants as s
use Rattle.rules_data.specs.types.Kind as k
use Rattle.rules_data.specs.types.Reading.{former_of_name}
use Rattle.rules_data.specs.types.Entrypoints.{in_order}
use Rattle.rules_data.specs.values.Val as v
use Rattle.rules_data.specs.values.Val.{no_val, more_vals, no_pair, more_pairs}
use Rattle.rules_data.specs.values.Literals.{word_of_name}
use Rattle.rules_code.specs.steps.Changes.{minted, burnt}
use Rattle.rows.specs.evaluation.Told.{did, gave}

-- TICKET | nat, nat | 7, 5 | Some (Ticket 0x01000000000000000100000000000000000000000000 nat 7 5) | 1
ticket_1 : did (prim (codes "TICKET") [] none) ((k.simple s.Nat) ∷ (k.simple s.Nat) ∷ []) ((v.number (pos 7)) ∷ (v.number (pos
    5)) ∷ []) ≡ gave 1 ((prim (codes "Some") [] (more (prim (codes "Ticket") [] (more (bytes (1 ∷ 0 ∷ 0 ∷ 0 ∷ 0 ∷ 0 ∷ 0 ∷ 0 ∷
    1 ∷ 0 ∷ 0 ∷ 0 ∷ 0 ∷ 0 ∷ 0 ∷ 0 ∷ 0 ∷ 0 ∷ 0 ∷ 0 ∷ 0 ∷ 0 ∷ [])) (more (prim (codes "nat") [] none) (more (int (pos 7)) (more
    (int (pos 5)) none))))) none)) ∷ []) [] (minted (record {
      issuer = (1 ∷ 0 ∷ 0 ∷ 0 ∷ 0 ∷ 0 ∷ 0 ∷ 0 ∷ 1 ∷ 0 ∷ 0 ∷ 0 ∷ 0 ∷ 0
          ∷ 0 ∷ 0 ∷ 0 ∷ 0 ∷ 0 ∷ 0 ∷ 0 ∷ 0 ∷ []);
      kind = (k.simple s.Nat);
      content = (v.number (pos 7));
      amount = pos 5;
    }) ∷ [])
unfolding primitive_names primitives code_of_name primitive_of_code primitive_of_name former_of_name word_of_name in_order
    int_or_limit mutez_or_limit division shifted_left shifted_right groups integer field application byte_at field_at
    narrow_field_at integer_at string_at bytes_at annotations_at any_annotations_at name_at name_of_code nodes_at
    application_at many_at node_by tags_in_order tag_at node_at decoded
ticket_1 = refl

-- TICKET | nat, nat | 7, 0 | None | 1
ticket_2 : did (prim (codes "TICKET") [] none) ((k.simple s.Nat) ∷ (k.simple s.Nat) ∷ []) ((v.number (pos 7)) ∷ (v.number (pos
    0)) ∷ []) ≡ gave 1 ((prim (codes "None") [] none) ∷ []) [] []
unfolding primitive_names primitives code_of_name primitive_of_code primitive_of_name former_of_name word_of_name in_order
    int_or_limit mutez_or_limit division shifted_left shifted_right groups integer field application byte_at field_at
    narrow_field_at integer_at string_at bytes_at annotations_at any_annotations_at name_at name_of_code nodes_at
    application_at many_at node_by tags_in_order tag_at node_at decoded
ticket_2 = refl

-- READ_TICKET | ticket nat | (Ticket 0x01000000000000000100000000000000000000000000 nat 7 5) | Pair
-- 0x01000000000000000100000000000000000000000000 (Pair 7 5), (Ticket 0x01000000000000000100000000000000000000000000 nat 7
-- 5) | 1
ticket_3 : did (prim (codes "READ_TICKET") [] none) ((k.ticket (k.simple s.Nat)) ∷ []) ((v.ticket (1 ∷ 0 ∷ 0 ∷ 0 ∷ 0 ∷ 0 ∷ 0 ∷
    0 ∷ 1 ∷ 0 ∷ 0 ∷ 0 ∷ 0 ∷ 0 ∷ 0 ∷ 0 ∷ 0 ∷ 0 ∷ 0 ∷ 0 ∷ 0 ∷ 0 ∷ []) (k.simple s.Nat) (v.number (pos 7)) (pos 5)) ∷ []) ≡ gave
    1 ((prim (codes "Pair") [] (more (bytes (1 ∷ 0 ∷ 0 ∷ 0 ∷ 0 ∷ 0 ∷ 0 ∷ 0 ∷ 1 ∷ 0 ∷ 0 ∷ 0 ∷ 0 ∷ 0 ∷ 0 ∷ 0 ∷ 0 ∷ 0 ∷ 0 ∷ 0 ∷ 0
    ∷ 0 ∷ [])) (more (prim (codes "Pair") [] (more (int (pos 7)) (more (int (pos 5)) none))) none))) ∷ (prim (codes "Ticket")
    [] (more (bytes (1 ∷ 0 ∷ 0 ∷ 0 ∷ 0 ∷ 0 ∷ 0 ∷ 0 ∷ 1 ∷ 0 ∷ 0 ∷ 0 ∷ 0 ∷ 0 ∷ 0 ∷ 0 ∷ 0 ∷ 0 ∷ 0 ∷ 0 ∷ 0 ∷ 0 ∷ [])) (more (prim
    (codes "nat") [] none) (more (int (pos 7)) (more (int (pos 5)) none))))) ∷ []) [] []
unfolding primitive_names primitives code_of_name primitive_of_code primitive_of_name former_of_name word_of_name in_order
    int_or_limit mutez_or_limit division shifted_left shifted_right groups integer field application byte_at field_at
    narrow_field_at integer_at string_at bytes_at annotations_at any_annotations_at name_at name_of_code nodes_at
    application_at many_at node_by tags_in_order tag_at node_at decoded
ticket_3 = refl

-- SPLIT_TICKET | ticket nat, pair nat nat | (Ticket 0x01000000000000000100000000000000000000000000 nat 7 5), Pair 2 3 | Some
-- (Pair (Ticket 0x01000000000000000100000000000000000000000000 nat 7 2) (Ticket
-- 0x01000000000000000100000000000000000000000000 nat 7 3)) | 1
ticket_4 : did (prim (codes "SPLIT_TICKET") [] none) ((k.ticket (k.simple s.Nat)) ∷ (k.pair (k.simple s.Nat) (k.simple s.Nat))
    ∷ []) ((v.ticket (1 ∷ 0 ∷ 0 ∷ 0 ∷ 0 ∷ 0 ∷ 0 ∷ 0 ∷ 1 ∷ 0 ∷ 0 ∷ 0 ∷ 0 ∷ 0 ∷ 0 ∷ 0 ∷ 0 ∷ 0 ∷ 0 ∷ 0 ∷ 0 ∷ 0 ∷ []) (k.simple
    s.Nat) (v.number (pos 7)) (pos 5)) ∷ (v.both (v.number (pos 2)) (v.number (pos 3))) ∷ []) ≡ gave 1 ((prim (codes "Some")
    [] (more (prim (codes "Pair") [] (more (prim (codes "Ticket") [] (more (bytes (1 ∷ 0 ∷ 0 ∷ 0 ∷ 0 ∷ 0 ∷ 0 ∷ 0 ∷ 1 ∷ 0 ∷ 0 ∷
    0 ∷ 0 ∷ 0 ∷ 0 ∷ 0 ∷ 0 ∷ 0 ∷ 0 ∷ 0 ∷ 0 ∷ 0 ∷ [])) (more (prim (codes "nat") [] none) (more (int (pos 7)) (more (int (pos
    2)) none))))) (more (prim (codes "Ticket") [] (more (bytes (1 ∷ 0 ∷ 0 ∷ 0 ∷ 0 ∷ 0 ∷ 0 ∷ 0 ∷ 1 ∷ 0 ∷ 0 ∷ 0 ∷ 0 ∷ 0 ∷ 0 ∷ 0
    ∷ 0 ∷ 0 ∷ 0 ∷ 0 ∷ 0 ∷ 0 ∷ [])) (more (prim (codes "nat") [] none) (more (int (pos 7)) (more (int (pos 3)) none)))))
    none))) none)) ∷ []) [] []
unfolding primitive_names primitives code_of_name primitive_of_code primitive_of_name former_of_name word_of_name in_order
    int_or_limit mutez_or_limit division shifted_left shifted_right groups integer field application byte_at field_at
    narrow_field_at integer_at string_at bytes_at annotations_at any_annotations_at name_at name_of_code nodes_at
    application_at many_at node_by tags_in_order tag_at node_at decoded
ticket_4 = refl

-- SPLIT_TICKET | ticket nat, pair nat nat | (Ticket 0x01000000000000000100000000000000000000000000 nat 7 5), Pair 2 2 | None
-- | 1
ticket_5 : did (prim (codes "SPLIT_TICKET") [] none) ((k.ticket (k.simple s.Nat)) ∷ (k.pair (k.simple s.Nat) (k.simple s.Nat))
    ∷ []) ((v.ticket (1 ∷ 0 ∷ 0 ∷ 0 ∷ 0 ∷ 0 ∷ 0 ∷ 0 ∷ 1 ∷ 0 ∷ 0 ∷ 0 ∷ 0 ∷ 0 ∷ 0 ∷ 0 ∷ 0 ∷ 0 ∷ 0 ∷ 0 ∷ 0 ∷ 0 ∷ []) (k.simple
    s.Nat) (v.number (pos 7)) (pos 5)) ∷ (v.both (v.number (pos 2)) (v.number (pos 2))) ∷ []) ≡ gave 1 ((prim (codes "None")
    [] none) ∷ []) [] (burnt (record {
      issuer = (1 ∷ 0 ∷ 0 ∷ 0 ∷ 0 ∷ 0 ∷ 0 ∷ 0 ∷ 1 ∷ 0 ∷ 0 ∷ 0 ∷ 0 ∷ 0 ∷ 0 ∷ 0 ∷ 0 ∷ 0 ∷ 0 ∷ 0
          ∷ 0 ∷ 0 ∷ []);
      kind = (k.simple s.Nat);
      content = (v.number (pos 7));
      amount = pos 5;
    }) ∷ [])
unfolding primitive_names primitives code_of_name primitive_of_code primitive_of_name former_of_name word_of_name in_order
    int_or_limit mutez_or_limit division shifted_left shifted_right groups integer field application byte_at field_at
    narrow_field_at integer_at string_at bytes_at annotations_at any_annotations_at name_at name_of_code nodes_at
    application_at many_at node_by tags_in_order tag_at node_at decoded
ticket_5 = refl

-- JOIN_TICKETS | pair (ticket nat) (ticket nat) | Pair (Ticket 0x01000000000000000100000000000000000000000000 nat 7 5)
-- (Ticket 0x01000000000000000100000000000000000000000000 nat 7 3) | Some (Ticket
-- 0x01000000000000000100000000000000000000000000 nat 7 8) | 1
ticket_6 : did (prim (codes "JOIN_TICKETS") [] none) ((k.pair (k.ticket (k.simple s.Nat)) (k.ticket (k.simple s.Nat))) ∷ [])
    ((v.both (v.ticket (1 ∷ 0 ∷ 0 ∷ 0 ∷ 0 ∷ 0 ∷ 0 ∷ 0 ∷ 1 ∷ 0 ∷ 0 ∷ 0 ∷ 0 ∷ 0 ∷ 0 ∷ 0 ∷ 0 ∷ 0 ∷ 0 ∷ 0 ∷ 0 ∷ 0 ∷ []) (k.simple
    s.Nat) (v.number (pos 7)) (pos 5)) (v.ticket (1 ∷ 0 ∷ 0 ∷ 0 ∷ 0 ∷ 0 ∷ 0 ∷ 0 ∷ 1 ∷ 0 ∷ 0 ∷ 0 ∷ 0 ∷ 0 ∷ 0 ∷ 0 ∷ 0 ∷ 0 ∷ 0 ∷
    0 ∷ 0 ∷ 0 ∷ []) (k.simple s.Nat) (v.number (pos 7)) (pos 3))) ∷ []) ≡ gave 1 ((prim (codes "Some") [] (more (prim (codes
    "Ticket") [] (more (bytes (1 ∷ 0 ∷ 0 ∷ 0 ∷ 0 ∷ 0 ∷ 0 ∷ 0 ∷ 1 ∷ 0 ∷ 0 ∷ 0 ∷ 0 ∷ 0 ∷ 0 ∷ 0 ∷ 0 ∷ 0 ∷ 0 ∷ 0 ∷ 0 ∷ 0 ∷ []))
    (more (prim (codes "nat") [] none) (more (int (pos 7)) (more (int (pos 8)) none))))) none)) ∷ []) [] []
unfolding primitive_names primitives code_of_name primitive_of_code primitive_of_name former_of_name word_of_name in_order
    int_or_limit mutez_or_limit division shifted_left shifted_right groups integer field application byte_at field_at
    narrow_field_at integer_at string_at bytes_at annotations_at any_annotations_at name_at name_of_code nodes_at
    application_at many_at node_by tags_in_order tag_at node_at decoded
ticket_6 = refl

-- JOIN_TICKETS | pair (ticket nat) (ticket nat) | Pair (Ticket 0x01000000000000000100000000000000000000000000 nat 7 5)
-- (Ticket 0x01000000000000000100000000000000000000000000 nat 8 9) | None | 1
ticket_7 : did (prim (codes "JOIN_TICKETS") [] none) ((k.pair (k.ticket (k.simple s.Nat)) (k.ticket (k.simple s.Nat))) ∷ [])
    ((v.both (v.ticket (1 ∷ 0 ∷ 0 ∷ 0 ∷ 0 ∷ 0 ∷ 0 ∷ 0 ∷ 1 ∷ 0 ∷ 0 ∷ 0 ∷ 0 ∷ 0 ∷ 0 ∷ 0 ∷ 0 ∷ 0 ∷ 0 ∷ 0 ∷ 0 ∷ 0 ∷ []) (k.simple
    s.Nat) (v.number (pos 7)) (pos 5)) (v.ticket (1 ∷ 0 ∷ 0 ∷ 0 ∷ 0 ∷ 0 ∷ 0 ∷ 0 ∷ 1 ∷ 0 ∷ 0 ∷ 0 ∷ 0 ∷ 0 ∷ 0 ∷ 0 ∷ 0 ∷ 0 ∷ 0 ∷
    0 ∷ 0 ∷ 0 ∷ []) (k.simple s.Nat) (v.number (pos 8)) (pos 9))) ∷ []) ≡ gave 1 ((prim (codes "None") [] none) ∷ []) []
    (burnt (record {
      issuer = (1 ∷ 0 ∷ 0 ∷ 0 ∷ 0 ∷ 0 ∷ 0 ∷ 0 ∷ 1 ∷ 0 ∷ 0 ∷ 0 ∷ 0 ∷ 0 ∷ 0 ∷ 0 ∷ 0 ∷ 0 ∷ 0 ∷ 0 ∷ 0 ∷ 0 ∷ []);
      kind = (k.simple s.Nat);
      content = (v.number (pos 7));
      amount = pos 5;
    }) ∷ burnt (record {
      issuer = (1 ∷ 0 ∷ 0 ∷ 0 ∷ 0 ∷ 0
          ∷ 0 ∷ 0 ∷ 1 ∷ 0 ∷ 0 ∷ 0 ∷ 0 ∷ 0 ∷ 0 ∷ 0 ∷ 0 ∷ 0 ∷ 0 ∷ 0 ∷ 0 ∷ 0 ∷ []);
      kind = (k.simple s.Nat);
      content = (v.number (pos
          8));
      amount = pos 9;
    }) ∷ [])
unfolding primitive_names primitives code_of_name primitive_of_code primitive_of_name former_of_name word_of_name in_order
    int_or_limit mutez_or_limit division shifted_left shifted_right groups integer field application byte_at field_at
    narrow_field_at integer_at string_at bytes_at annotations_at any_annotations_at name_at name_of_code nodes_at
    application_at many_at node_by tags_in_order tag_at node_at decoded
ticket_7 = refl

-- DROP | pair (ticket nat) (list (ticket nat)) | Pair (Ticket 0x01000000000000000100000000000000000000000000 nat 7 5) {
-- (Ticket 0x01000000000000000100000000000000000000000000 nat 7 3) ; (Ticket
-- 0x01000000000000000100000000000000000000000000 nat 8 9) } | - | 6
ticket_8 : did (prim (codes "DROP") [] none) ((k.pair (k.ticket (k.simple s.Nat)) (k.list (k.ticket (k.simple s.Nat)))) ∷ [])
    ((v.both (v.ticket (1 ∷ 0 ∷ 0 ∷ 0 ∷ 0 ∷ 0 ∷ 0 ∷ 0 ∷ 1 ∷ 0 ∷ 0 ∷ 0 ∷ 0 ∷ 0 ∷ 0 ∷ 0 ∷ 0 ∷ 0 ∷ 0 ∷ 0 ∷ 0 ∷ 0 ∷ []) (k.simple
    s.Nat) (v.number (pos 7)) (pos 5)) (v.list (more_vals (v.ticket (1 ∷ 0 ∷ 0 ∷ 0 ∷ 0 ∷ 0 ∷ 0 ∷ 0 ∷ 1 ∷ 0 ∷ 0 ∷ 0 ∷ 0 ∷ 0 ∷ 0
    ∷ 0 ∷ 0 ∷ 0 ∷ 0 ∷ 0 ∷ 0 ∷ 0 ∷ []) (k.simple s.Nat) (v.number (pos 7)) (pos 3)) (more_vals (v.ticket (1 ∷ 0 ∷ 0 ∷ 0 ∷ 0 ∷ 0
    ∷ 0 ∷ 0 ∷ 1 ∷ 0 ∷ 0 ∷ 0 ∷ 0 ∷ 0 ∷ 0 ∷ 0 ∷ 0 ∷ 0 ∷ 0 ∷ 0 ∷ 0 ∷ 0 ∷ []) (k.simple s.Nat) (v.number (pos 8)) (pos 9))
    no_val)))) ∷ []) ≡ gave 6 [] [] (burnt (record {
      issuer = (1 ∷ 0 ∷ 0 ∷ 0 ∷ 0 ∷ 0 ∷ 0 ∷ 0 ∷ 1 ∷ 0 ∷ 0 ∷ 0 ∷ 0 ∷ 0 ∷ 0 ∷ 0 ∷
          0 ∷ 0 ∷ 0 ∷ 0 ∷ 0 ∷ 0 ∷ []);
      kind = (k.simple s.Nat);
      content = (v.number (pos 7));
      amount = pos 5;
    }) ∷ burnt (record {
      issuer = (1 ∷ 0 ∷ 0 ∷ 0 ∷ 0 ∷ 0 ∷ 0 ∷ 0 ∷ 1 ∷ 0 ∷ 0 ∷ 0 ∷ 0 ∷ 0 ∷ 0 ∷ 0 ∷ 0 ∷ 0 ∷ 0 ∷ 0 ∷ 0 ∷ 0 ∷ []);
      kind = (k.simple
          s.Nat);
      content = (v.number (pos 7));
      amount = pos 3;
    }) ∷ burnt (record {
      issuer = (1 ∷ 0 ∷ 0 ∷ 0 ∷ 0 ∷ 0 ∷ 0 ∷ 0 ∷ 1 ∷ 0
          ∷ 0 ∷ 0 ∷ 0 ∷ 0 ∷ 0 ∷ 0 ∷ 0 ∷ 0 ∷ 0 ∷ 0 ∷ 0 ∷ 0 ∷ []);
      kind = (k.simple s.Nat);
      content = (v.number (pos 8));
      amount = pos
          9;
    }) ∷ [])
unfolding primitive_names primitives code_of_name primitive_of_code primitive_of_name former_of_name word_of_name in_order
    int_or_limit mutez_or_limit division shifted_left shifted_right groups integer field application byte_at field_at
    narrow_field_at integer_at string_at bytes_at annotations_at any_annotations_at name_at name_of_code nodes_at
    application_at many_at node_by tags_in_order tag_at node_at decoded
ticket_8 = refl

-- DROP 2 | ticket nat, ticket nat | (Ticket 0x01000000000000000100000000000000000000000000 nat 7 5), (Ticket
-- 0x01000000000000000100000000000000000000000000 nat 8 9) | - | 3
ticket_9 : did (prim (codes "DROP") [] (more (int (pos 2)) none)) ((k.ticket (k.simple s.Nat)) ∷ (k.ticket (k.simple s.Nat)) ∷
    []) ((v.ticket (1 ∷ 0 ∷ 0 ∷ 0 ∷ 0 ∷ 0 ∷ 0 ∷ 0 ∷ 1 ∷ 0 ∷ 0 ∷ 0 ∷ 0 ∷ 0 ∷ 0 ∷ 0 ∷ 0 ∷ 0 ∷ 0 ∷ 0 ∷ 0 ∷ 0 ∷ []) (k.simple
    s.Nat) (v.number (pos 7)) (pos 5)) ∷ (v.ticket (1 ∷ 0 ∷ 0 ∷ 0 ∷ 0 ∷ 0 ∷ 0 ∷ 0 ∷ 1 ∷ 0 ∷ 0 ∷ 0 ∷ 0 ∷ 0 ∷ 0 ∷ 0 ∷ 0 ∷ 0 ∷ 0
    ∷ 0 ∷ 0 ∷ 0 ∷ []) (k.simple s.Nat) (v.number (pos 8)) (pos 9)) ∷ []) ≡ gave 3 [] [] (burnt (record {
      issuer = (1 ∷ 0 ∷ 0 ∷
          0 ∷ 0 ∷ 0 ∷ 0 ∷ 0 ∷ 1 ∷ 0 ∷ 0 ∷ 0 ∷ 0 ∷ 0 ∷ 0 ∷ 0 ∷ 0 ∷ 0 ∷ 0 ∷ 0 ∷ 0 ∷ 0 ∷ []);
      kind = (k.simple s.Nat);
      content =
          (v.number (pos 7));
      amount = pos 5;
    }) ∷ burnt (record {
      issuer = (1 ∷ 0 ∷ 0 ∷ 0 ∷ 0 ∷ 0 ∷ 0 ∷ 0 ∷ 1 ∷ 0 ∷ 0 ∷ 0 ∷ 0 ∷ 0 ∷
          0 ∷ 0 ∷ 0 ∷ 0 ∷ 0 ∷ 0 ∷ 0 ∷ 0 ∷ []);
      kind = (k.simple s.Nat);
      content = (v.number (pos 8));
      amount = pos 9;
    }) ∷ [])
unfolding primitive_names primitives code_of_name primitive_of_code primitive_of_name former_of_name word_of_name in_order
    int_or_limit mutez_or_limit division shifted_left shifted_right groups integer field application byte_at field_at
    narrow_field_at integer_at string_at bytes_at annotations_at any_annotations_at name_at name_of_code nodes_at
    application_at many_at node_by tags_in_order tag_at node_at decoded
ticket_9 = refl

-- SIZE | map int (ticket nat) | { Elt 1 (Ticket 0x01000000000000000100000000000000000000000000 nat 7 5) ; Elt 2 (Ticket
-- 0x01000000000000000100000000000000000000000000 nat 8 9) } | 2 | 1
ticket_10 : did (prim (codes "SIZE") [] none) ((k.map (k.simple s.Int) (k.ticket (k.simple s.Nat))) ∷ []) ((v.table
    (more_pairs (v.number (pos 1)) (v.ticket (1 ∷ 0 ∷ 0 ∷ 0 ∷ 0 ∷ 0 ∷ 0 ∷ 0 ∷ 1 ∷ 0 ∷ 0 ∷ 0 ∷ 0 ∷ 0 ∷ 0 ∷ 0 ∷ 0 ∷ 0 ∷ 0 ∷ 0 ∷
    0 ∷ 0 ∷ []) (k.simple s.Nat) (v.number (pos 7)) (pos 5)) (more_pairs (v.number (pos 2)) (v.ticket (1 ∷ 0 ∷ 0 ∷ 0 ∷ 0 ∷ 0 ∷
    0 ∷ 0 ∷ 1 ∷ 0 ∷ 0 ∷ 0 ∷ 0 ∷ 0 ∷ 0 ∷ 0 ∷ 0 ∷ 0 ∷ 0 ∷ 0 ∷ 0 ∷ 0 ∷ []) (k.simple s.Nat) (v.number (pos 8)) (pos 9))
    no_pair))) ∷ []) ≡ gave 1 ((int (pos 2)) ∷ []) [] (burnt (record {
      issuer = (1 ∷ 0 ∷ 0 ∷ 0 ∷ 0 ∷ 0 ∷ 0 ∷ 0 ∷ 1 ∷ 0 ∷ 0 ∷ 0
          ∷ 0 ∷ 0 ∷ 0 ∷ 0 ∷ 0 ∷ 0 ∷ 0 ∷ 0 ∷ 0 ∷ 0 ∷ []);
      kind = (k.simple s.Nat);
      content = (v.number (pos 7));
      amount = pos 5;
    }) ∷
    burnt (record {
      issuer = (1 ∷ 0 ∷ 0 ∷ 0 ∷ 0 ∷ 0 ∷ 0 ∷ 0 ∷ 1 ∷ 0 ∷ 0 ∷ 0 ∷ 0 ∷ 0 ∷ 0 ∷ 0 ∷ 0 ∷ 0 ∷ 0 ∷ 0 ∷ 0 ∷ 0 ∷ []);
      kind = (k.simple s.Nat);
      content = (v.number (pos 8));
      amount = pos 9;
    }) ∷ [])
unfolding primitive_names primitives code_of_name primitive_of_code primitive_of_name former_of_name word_of_name in_order
    int_or_limit mutez_or_limit division shifted_left shifted_right groups integer field application byte_at field_at
    narrow_field_at integer_at string_at bytes_at annotations_at any_annotations_at name_at name_of_code nodes_at
    application_at many_at node_by tags_in_order tag_at node_at decoded
ticket_10 = refl

-- MEM | int, map int (ticket nat) | 1, { Elt 1 (Ticket 0x01000000000000000100000000000000000000000000 nat 7 5) ; Elt 2
-- (Ticket 0x01000000000000000100000000000000000000000000 nat 8 9) } | True | 1
ticket_11 : did (prim (codes "MEM") [] none) ((k.simple s.Int) ∷ (k.map (k.simple s.Int) (k.ticket (k.simple s.Nat))) ∷ [])
    ((v.number (pos 1)) ∷ (v.table (more_pairs (v.number (pos 1)) (v.ticket (1 ∷ 0 ∷ 0 ∷ 0 ∷ 0 ∷ 0 ∷ 0 ∷ 0 ∷ 1 ∷ 0 ∷ 0 ∷ 0 ∷ 0
    ∷ 0 ∷ 0 ∷ 0 ∷ 0 ∷ 0 ∷ 0 ∷ 0 ∷ 0 ∷ 0 ∷ []) (k.simple s.Nat) (v.number (pos 7)) (pos 5)) (more_pairs (v.number (pos 2))
    (v.ticket (1 ∷ 0 ∷ 0 ∷ 0 ∷ 0 ∷ 0 ∷ 0 ∷ 0 ∷ 1 ∷ 0 ∷ 0 ∷ 0 ∷ 0 ∷ 0 ∷ 0 ∷ 0 ∷ 0 ∷ 0 ∷ 0 ∷ 0 ∷ 0 ∷ 0 ∷ []) (k.simple s.Nat)
    (v.number (pos 8)) (pos 9)) no_pair))) ∷ []) ≡ gave 1 ((prim (codes "True") [] none) ∷ []) [] (burnt (record {
      issuer = (1
          ∷ 0 ∷ 0 ∷ 0 ∷ 0 ∷ 0 ∷ 0 ∷ 0 ∷ 1 ∷ 0 ∷ 0 ∷ 0 ∷ 0 ∷ 0 ∷ 0 ∷ 0 ∷ 0 ∷ 0 ∷ 0 ∷ 0 ∷ 0 ∷ 0 ∷ []);
      kind = (k.simple s.Nat);
      content = (v.number (pos 7));
      amount = pos 5;
    }) ∷ burnt (record {
      issuer = (1 ∷ 0 ∷ 0 ∷ 0 ∷ 0 ∷ 0 ∷ 0 ∷ 0 ∷ 1 ∷ 0 ∷ 0 ∷ 0
          ∷ 0 ∷ 0 ∷ 0 ∷ 0 ∷ 0 ∷ 0 ∷ 0 ∷ 0 ∷ 0 ∷ 0 ∷ []);
      kind = (k.simple s.Nat);
      content = (v.number (pos 8));
      amount = pos 9;
    }) ∷
    [])
unfolding primitive_names primitives code_of_name primitive_of_code primitive_of_name former_of_name word_of_name in_order
    int_or_limit mutez_or_limit division shifted_left shifted_right groups integer field application byte_at field_at
    narrow_field_at integer_at string_at bytes_at annotations_at any_annotations_at name_at name_of_code nodes_at
    application_at many_at node_by tags_in_order tag_at node_at decoded
ticket_11 = refl

-- CAR | pair (ticket nat) (ticket nat) | Pair (Ticket 0x01000000000000000100000000000000000000000000 nat 7 5) (Ticket
-- 0x01000000000000000100000000000000000000000000 nat 8 9) | (Ticket 0x01000000000000000100000000000000000000000000 nat 7
-- 5) | 1
ticket_12 : did (prim (codes "CAR") [] none) ((k.pair (k.ticket (k.simple s.Nat)) (k.ticket (k.simple s.Nat))) ∷ []) ((v.both
    (v.ticket (1 ∷ 0 ∷ 0 ∷ 0 ∷ 0 ∷ 0 ∷ 0 ∷ 0 ∷ 1 ∷ 0 ∷ 0 ∷ 0 ∷ 0 ∷ 0 ∷ 0 ∷ 0 ∷ 0 ∷ 0 ∷ 0 ∷ 0 ∷ 0 ∷ 0 ∷ []) (k.simple s.Nat)
    (v.number (pos 7)) (pos 5)) (v.ticket (1 ∷ 0 ∷ 0 ∷ 0 ∷ 0 ∷ 0 ∷ 0 ∷ 0 ∷ 1 ∷ 0 ∷ 0 ∷ 0 ∷ 0 ∷ 0 ∷ 0 ∷ 0 ∷ 0 ∷ 0 ∷ 0 ∷ 0 ∷ 0 ∷
    0 ∷ []) (k.simple s.Nat) (v.number (pos 8)) (pos 9))) ∷ []) ≡ gave 1 ((prim (codes "Ticket") [] (more (bytes (1 ∷ 0 ∷ 0 ∷
    0 ∷ 0 ∷ 0 ∷ 0 ∷ 0 ∷ 1 ∷ 0 ∷ 0 ∷ 0 ∷ 0 ∷ 0 ∷ 0 ∷ 0 ∷ 0 ∷ 0 ∷ 0 ∷ 0 ∷ 0 ∷ 0 ∷ [])) (more (prim (codes "nat") [] none) (more
    (int (pos 7)) (more (int (pos 5)) none))))) ∷ []) [] (burnt (record {
      issuer = (1 ∷ 0 ∷ 0 ∷ 0 ∷ 0 ∷ 0 ∷ 0 ∷ 0 ∷ 1 ∷ 0 ∷ 0
          ∷ 0 ∷ 0 ∷ 0 ∷ 0 ∷ 0 ∷ 0 ∷ 0 ∷ 0 ∷ 0 ∷ 0 ∷ 0 ∷ []);
      kind = (k.simple s.Nat);
      content = (v.number (pos 8));
      amount = pos 9;
    }) ∷ [])
unfolding primitive_names primitives code_of_name primitive_of_code primitive_of_name former_of_name word_of_name in_order
    int_or_limit mutez_or_limit division shifted_left shifted_right groups integer field application byte_at field_at
    narrow_field_at integer_at string_at bytes_at annotations_at any_annotations_at name_at name_of_code nodes_at
    application_at many_at node_by tags_in_order tag_at node_at decoded
ticket_12 = refl

-- CDR | pair (ticket nat) (ticket nat) | Pair (Ticket 0x01000000000000000100000000000000000000000000 nat 7 5) (Ticket
-- 0x01000000000000000100000000000000000000000000 nat 8 9) | (Ticket 0x01000000000000000100000000000000000000000000 nat 8
-- 9) | 1
ticket_13 : did (prim (codes "CDR") [] none) ((k.pair (k.ticket (k.simple s.Nat)) (k.ticket (k.simple s.Nat))) ∷ []) ((v.both
    (v.ticket (1 ∷ 0 ∷ 0 ∷ 0 ∷ 0 ∷ 0 ∷ 0 ∷ 0 ∷ 1 ∷ 0 ∷ 0 ∷ 0 ∷ 0 ∷ 0 ∷ 0 ∷ 0 ∷ 0 ∷ 0 ∷ 0 ∷ 0 ∷ 0 ∷ 0 ∷ []) (k.simple s.Nat)
    (v.number (pos 7)) (pos 5)) (v.ticket (1 ∷ 0 ∷ 0 ∷ 0 ∷ 0 ∷ 0 ∷ 0 ∷ 0 ∷ 1 ∷ 0 ∷ 0 ∷ 0 ∷ 0 ∷ 0 ∷ 0 ∷ 0 ∷ 0 ∷ 0 ∷ 0 ∷ 0 ∷ 0 ∷
    0 ∷ []) (k.simple s.Nat) (v.number (pos 8)) (pos 9))) ∷ []) ≡ gave 1 ((prim (codes "Ticket") [] (more (bytes (1 ∷ 0 ∷ 0 ∷
    0 ∷ 0 ∷ 0 ∷ 0 ∷ 0 ∷ 1 ∷ 0 ∷ 0 ∷ 0 ∷ 0 ∷ 0 ∷ 0 ∷ 0 ∷ 0 ∷ 0 ∷ 0 ∷ 0 ∷ 0 ∷ 0 ∷ [])) (more (prim (codes "nat") [] none) (more
    (int (pos 8)) (more (int (pos 9)) none))))) ∷ []) [] (burnt (record {
      issuer = (1 ∷ 0 ∷ 0 ∷ 0 ∷ 0 ∷ 0 ∷ 0 ∷ 0 ∷ 1 ∷ 0 ∷ 0
          ∷ 0 ∷ 0 ∷ 0 ∷ 0 ∷ 0 ∷ 0 ∷ 0 ∷ 0 ∷ 0 ∷ 0 ∷ 0 ∷ []);
      kind = (k.simple s.Nat);
      content = (v.number (pos 7));
      amount = pos 5;
    }) ∷ [])
unfolding primitive_names primitives code_of_name primitive_of_code primitive_of_name former_of_name word_of_name in_order
    int_or_limit mutez_or_limit division shifted_left shifted_right groups integer field application byte_at field_at
    narrow_field_at integer_at string_at bytes_at annotations_at any_annotations_at name_at name_of_code nodes_at
    application_at many_at node_by tags_in_order tag_at node_at decoded
ticket_13 = refl

-- GET 3 | pair (ticket nat) (ticket nat) (ticket nat) | Pair (Ticket 0x01000000000000000100000000000000000000000000 nat 7 5)
-- (Ticket 0x01000000000000000100000000000000000000000000 nat 7 3) (Ticket 0x01000000000000000100000000000000000000000000
-- nat 8 9) | (Ticket 0x01000000000000000100000000000000000000000000 nat 7 3) | 1
ticket_14 : did (prim (codes "GET") [] (more (int (pos 3)) none)) ((k.pair (k.ticket (k.simple s.Nat)) (k.pair (k.ticket
    (k.simple s.Nat)) (k.ticket (k.simple s.Nat)))) ∷ []) ((v.both (v.ticket (1 ∷ 0 ∷ 0 ∷ 0 ∷ 0 ∷ 0 ∷ 0 ∷ 0 ∷ 1 ∷ 0 ∷ 0 ∷ 0 ∷
    0 ∷ 0 ∷ 0 ∷ 0 ∷ 0 ∷ 0 ∷ 0 ∷ 0 ∷ 0 ∷ 0 ∷ []) (k.simple s.Nat) (v.number (pos 7)) (pos 5)) (v.both (v.ticket (1 ∷ 0 ∷ 0 ∷ 0
    ∷ 0 ∷ 0 ∷ 0 ∷ 0 ∷ 1 ∷ 0 ∷ 0 ∷ 0 ∷ 0 ∷ 0 ∷ 0 ∷ 0 ∷ 0 ∷ 0 ∷ 0 ∷ 0 ∷ 0 ∷ 0 ∷ []) (k.simple s.Nat) (v.number (pos 7)) (pos 3))
    (v.ticket (1 ∷ 0 ∷ 0 ∷ 0 ∷ 0 ∷ 0 ∷ 0 ∷ 0 ∷ 1 ∷ 0 ∷ 0 ∷ 0 ∷ 0 ∷ 0 ∷ 0 ∷ 0 ∷ 0 ∷ 0 ∷ 0 ∷ 0 ∷ 0 ∷ 0 ∷ []) (k.simple s.Nat)
    (v.number (pos 8)) (pos 9)))) ∷ []) ≡ gave 1 ((prim (codes "Ticket") [] (more (bytes (1 ∷ 0 ∷ 0 ∷ 0 ∷ 0 ∷ 0 ∷ 0 ∷ 0 ∷ 1 ∷
    0 ∷ 0 ∷ 0 ∷ 0 ∷ 0 ∷ 0 ∷ 0 ∷ 0 ∷ 0 ∷ 0 ∷ 0 ∷ 0 ∷ 0 ∷ [])) (more (prim (codes "nat") [] none) (more (int (pos 7)) (more (int
    (pos 3)) none))))) ∷ []) [] (burnt (record {
      issuer = (1 ∷ 0 ∷ 0 ∷ 0 ∷ 0 ∷ 0 ∷ 0 ∷ 0 ∷ 1 ∷ 0 ∷ 0 ∷ 0 ∷ 0 ∷ 0 ∷ 0 ∷ 0 ∷ 0 ∷
          0 ∷ 0 ∷ 0 ∷ 0 ∷ 0 ∷ []);
      kind = (k.simple s.Nat);
      content = (v.number (pos 7));
      amount = pos 5;
    }) ∷ burnt (record {
      issuer
          = (1 ∷ 0 ∷ 0 ∷ 0 ∷ 0 ∷ 0 ∷ 0 ∷ 0 ∷ 1 ∷ 0 ∷ 0 ∷ 0 ∷ 0 ∷ 0 ∷ 0 ∷ 0 ∷ 0 ∷ 0 ∷ 0 ∷ 0 ∷ 0 ∷ 0 ∷ []);
      kind = (k.simple s.Nat);
      content = (v.number (pos 8));
      amount = pos 9;
    }) ∷ [])
unfolding primitive_names primitives code_of_name primitive_of_code primitive_of_name former_of_name word_of_name in_order
    int_or_limit mutez_or_limit division shifted_left shifted_right groups integer field application byte_at field_at
    narrow_field_at integer_at string_at bytes_at annotations_at any_annotations_at name_at name_of_code nodes_at
    application_at many_at node_by tags_in_order tag_at node_at decoded
ticket_14 = refl

-- UPDATE 1 | unit, pair (ticket nat) (ticket nat) | Unit, Pair (Ticket 0x01000000000000000100000000000000000000000000 nat 7
-- 5) (Ticket 0x01000000000000000100000000000000000000000000 nat 8 9) | Pair Unit (Ticket
-- 0x01000000000000000100000000000000000000000000 nat 8 9) | 1
ticket_15 : did (prim (codes "UPDATE") [] (more (int (pos 1)) none)) ((k.simple s.Unit) ∷ (k.pair (k.ticket (k.simple s.Nat))
    (k.ticket (k.simple s.Nat))) ∷ []) (v.unit ∷ (v.both (v.ticket (1 ∷ 0 ∷ 0 ∷ 0 ∷ 0 ∷ 0 ∷ 0 ∷ 0 ∷ 1 ∷ 0 ∷ 0 ∷ 0 ∷ 0 ∷ 0 ∷ 0
    ∷ 0 ∷ 0 ∷ 0 ∷ 0 ∷ 0 ∷ 0 ∷ 0 ∷ []) (k.simple s.Nat) (v.number (pos 7)) (pos 5)) (v.ticket (1 ∷ 0 ∷ 0 ∷ 0 ∷ 0 ∷ 0 ∷ 0 ∷ 0 ∷
    1 ∷ 0 ∷ 0 ∷ 0 ∷ 0 ∷ 0 ∷ 0 ∷ 0 ∷ 0 ∷ 0 ∷ 0 ∷ 0 ∷ 0 ∷ 0 ∷ []) (k.simple s.Nat) (v.number (pos 8)) (pos 9))) ∷ []) ≡ gave 1
    ((prim (codes "Pair") [] (more (prim (codes "Unit") [] none) (more (prim (codes "Ticket") [] (more (bytes (1 ∷ 0 ∷ 0 ∷ 0 ∷
    0 ∷ 0 ∷ 0 ∷ 0 ∷ 1 ∷ 0 ∷ 0 ∷ 0 ∷ 0 ∷ 0 ∷ 0 ∷ 0 ∷ 0 ∷ 0 ∷ 0 ∷ 0 ∷ 0 ∷ 0 ∷ [])) (more (prim (codes "nat") [] none) (more (int
    (pos 8)) (more (int (pos 9)) none))))) none))) ∷ []) [] (burnt (record {
      issuer = (1 ∷ 0 ∷ 0 ∷ 0 ∷ 0 ∷ 0 ∷ 0 ∷ 0 ∷ 1 ∷ 0 ∷
          0 ∷ 0 ∷ 0 ∷ 0 ∷ 0 ∷ 0 ∷ 0 ∷ 0 ∷ 0 ∷ 0 ∷ 0 ∷ 0 ∷ []);
      kind = (k.simple s.Nat);
      content = (v.number (pos 7));
      amount = pos 5;
    }) ∷ [])
unfolding primitive_names primitives code_of_name primitive_of_code primitive_of_name former_of_name word_of_name in_order
    int_or_limit mutez_or_limit division shifted_left shifted_right groups integer field application byte_at field_at
    narrow_field_at integer_at string_at bytes_at annotations_at any_annotations_at name_at name_of_code nodes_at
    application_at many_at node_by tags_in_order tag_at node_at decoded
ticket_15 = refl

-- UPDATE | int, option (ticket nat), map int (ticket nat) | 1, Some (Ticket 0x01000000000000000100000000000000000000000000
-- nat 7 3), { Elt 1 (Ticket 0x01000000000000000100000000000000000000000000 nat 7 5) } | { Elt 1 (Ticket
-- 0x01000000000000000100000000000000000000000000 nat 7 3) } | 1
ticket_16 : did (prim (codes "UPDATE") [] none) ((k.simple s.Int) ∷ (k.option (k.ticket (k.simple s.Nat))) ∷ (k.map (k.simple
    s.Int) (k.ticket (k.simple s.Nat))) ∷ []) ((v.number (pos 1)) ∷ (v.some (v.ticket (1 ∷ 0 ∷ 0 ∷ 0 ∷ 0 ∷ 0 ∷ 0 ∷ 0 ∷ 1 ∷ 0 ∷
    0 ∷ 0 ∷ 0 ∷ 0 ∷ 0 ∷ 0 ∷ 0 ∷ 0 ∷ 0 ∷ 0 ∷ 0 ∷ 0 ∷ []) (k.simple s.Nat) (v.number (pos 7)) (pos 3))) ∷ (v.table (more_pairs
    (v.number (pos 1)) (v.ticket (1 ∷ 0 ∷ 0 ∷ 0 ∷ 0 ∷ 0 ∷ 0 ∷ 0 ∷ 1 ∷ 0 ∷ 0 ∷ 0 ∷ 0 ∷ 0 ∷ 0 ∷ 0 ∷ 0 ∷ 0 ∷ 0 ∷ 0 ∷ 0 ∷ 0 ∷ [])
    (k.simple s.Nat) (v.number (pos 7)) (pos 5)) no_pair)) ∷ []) ≡ gave 1 ((seq (more (prim (codes "Elt") [] (more (int (pos
    1)) (more (prim (codes "Ticket") [] (more (bytes (1 ∷ 0 ∷ 0 ∷ 0 ∷ 0 ∷ 0 ∷ 0 ∷ 0 ∷ 1 ∷ 0 ∷ 0 ∷ 0 ∷ 0 ∷ 0 ∷ 0 ∷ 0 ∷ 0 ∷ 0 ∷
    0 ∷ 0 ∷ 0 ∷ 0 ∷ [])) (more (prim (codes "nat") [] none) (more (int (pos 7)) (more (int (pos 3)) none))))) none))) none)) ∷
    []) [] (burnt (record {
      issuer = (1 ∷ 0 ∷ 0 ∷ 0 ∷ 0 ∷ 0 ∷ 0 ∷ 0 ∷ 1 ∷ 0 ∷ 0 ∷ 0 ∷ 0 ∷ 0 ∷ 0 ∷ 0 ∷ 0 ∷ 0 ∷ 0 ∷ 0 ∷ 0 ∷ 0 ∷
          []);
      kind = (k.simple s.Nat);
      content = (v.number (pos 7));
      amount = pos 5;
    }) ∷ [])
unfolding primitive_names primitives code_of_name primitive_of_code primitive_of_name former_of_name word_of_name in_order
    int_or_limit mutez_or_limit division shifted_left shifted_right groups integer field application byte_at field_at
    narrow_field_at integer_at string_at bytes_at annotations_at any_annotations_at name_at name_of_code nodes_at
    application_at many_at node_by tags_in_order tag_at node_at decoded
ticket_16 = refl

-- GET_AND_UPDATE | int, option (ticket nat), map int (ticket nat) | 1, Some (Ticket
-- 0x01000000000000000100000000000000000000000000 nat 7 3), { Elt 1 (Ticket 0x01000000000000000100000000000000000000000000
-- nat 7 5) } | Some (Ticket 0x01000000000000000100000000000000000000000000 nat 7 5), { Elt 1 (Ticket
-- 0x01000000000000000100000000000000000000000000 nat 7 3) } | 1
ticket_17 : did (prim (codes "GET_AND_UPDATE") [] none) ((k.simple s.Int) ∷ (k.option (k.ticket (k.simple s.Nat))) ∷ (k.map
    (k.simple s.Int) (k.ticket (k.simple s.Nat))) ∷ []) ((v.number (pos 1)) ∷ (v.some (v.ticket (1 ∷ 0 ∷ 0 ∷ 0 ∷ 0 ∷ 0 ∷ 0 ∷ 0
    ∷ 1 ∷ 0 ∷ 0 ∷ 0 ∷ 0 ∷ 0 ∷ 0 ∷ 0 ∷ 0 ∷ 0 ∷ 0 ∷ 0 ∷ 0 ∷ 0 ∷ []) (k.simple s.Nat) (v.number (pos 7)) (pos 3))) ∷ (v.table
    (more_pairs (v.number (pos 1)) (v.ticket (1 ∷ 0 ∷ 0 ∷ 0 ∷ 0 ∷ 0 ∷ 0 ∷ 0 ∷ 1 ∷ 0 ∷ 0 ∷ 0 ∷ 0 ∷ 0 ∷ 0 ∷ 0 ∷ 0 ∷ 0 ∷ 0 ∷ 0 ∷
    0 ∷ 0 ∷ []) (k.simple s.Nat) (v.number (pos 7)) (pos 5)) no_pair)) ∷ []) ≡ gave 1 ((prim (codes "Some") [] (more (prim
    (codes "Ticket") [] (more (bytes (1 ∷ 0 ∷ 0 ∷ 0 ∷ 0 ∷ 0 ∷ 0 ∷ 0 ∷ 1 ∷ 0 ∷ 0 ∷ 0 ∷ 0 ∷ 0 ∷ 0 ∷ 0 ∷ 0 ∷ 0 ∷ 0 ∷ 0 ∷ 0 ∷ 0 ∷
    [])) (more (prim (codes "nat") [] none) (more (int (pos 7)) (more (int (pos 5)) none))))) none)) ∷ (seq (more (prim (codes
    "Elt") [] (more (int (pos 1)) (more (prim (codes "Ticket") [] (more (bytes (1 ∷ 0 ∷ 0 ∷ 0 ∷ 0 ∷ 0 ∷ 0 ∷ 0 ∷ 1 ∷ 0 ∷ 0 ∷ 0
    ∷ 0 ∷ 0 ∷ 0 ∷ 0 ∷ 0 ∷ 0 ∷ 0 ∷ 0 ∷ 0 ∷ 0 ∷ [])) (more (prim (codes "nat") [] none) (more (int (pos 7)) (more (int (pos 3))
    none))))) none))) none)) ∷ []) [] []
unfolding primitive_names primitives code_of_name primitive_of_code primitive_of_name former_of_name word_of_name in_order
    int_or_limit mutez_or_limit division shifted_left shifted_right groups integer field application byte_at field_at
    narrow_field_at integer_at string_at bytes_at annotations_at any_annotations_at name_at name_of_code nodes_at
    application_at many_at node_by tags_in_order tag_at node_at decoded
ticket_17 = refl

-- VIEW "n" nat | ticket nat, address | (Ticket 0x01000000000000000100000000000000000000000000 nat 7 5),
-- 0x01000000000000000100000000000000000000000000 | None | 1
ticket_18 : did (prim (codes "VIEW") [] (more (str (codes "n")) (more (prim (codes "nat") [] none) none))) ((k.ticket
    (k.simple s.Nat)) ∷ (k.simple s.Address) ∷ []) ((v.ticket (1 ∷ 0 ∷ 0 ∷ 0 ∷ 0 ∷ 0 ∷ 0 ∷ 0 ∷ 1 ∷ 0 ∷ 0 ∷ 0 ∷ 0 ∷ 0 ∷ 0 ∷ 0 ∷
    0 ∷ 0 ∷ 0 ∷ 0 ∷ 0 ∷ 0 ∷ []) (k.simple s.Nat) (v.number (pos 7)) (pos 5)) ∷ (v.bytes (1 ∷ 0 ∷ 0 ∷ 0 ∷ 0 ∷ 0 ∷ 0 ∷ 0 ∷ 1 ∷ 0
    ∷ 0 ∷ 0 ∷ 0 ∷ 0 ∷ 0 ∷ 0 ∷ 0 ∷ 0 ∷ 0 ∷ 0 ∷ 0 ∷ 0 ∷ [])) ∷ []) ≡ gave 1 ((prim (codes "None") [] none) ∷ []) [] (burnt
    (record {
      issuer = (1 ∷ 0 ∷ 0 ∷ 0 ∷ 0 ∷ 0 ∷ 0 ∷ 0 ∷ 1 ∷ 0 ∷ 0 ∷ 0 ∷ 0 ∷ 0 ∷ 0 ∷ 0 ∷ 0 ∷ 0 ∷ 0 ∷ 0 ∷ 0 ∷ 0 ∷ []);
      kind =
          (k.simple s.Nat);
      content = (v.number (pos 7));
      amount = pos 5;
    }) ∷ [])
unfolding primitive_names primitives code_of_name primitive_of_code primitive_of_name former_of_name word_of_name in_order
    int_or_limit mutez_or_limit division shifted_left shifted_right groups integer field application byte_at field_at
    narrow_field_at integer_at string_at bytes_at annotations_at any_annotations_at name_at name_of_code nodes_at
    application_at many_at node_by tags_in_order tag_at node_at decoded
ticket_18 = refl

-- ITER { DROP } | list (ticket nat) | { (Ticket 0x01000000000000000100000000000000000000000000 nat 7 5) ; (Ticket
-- 0x01000000000000000100000000000000000000000000 nat 8 9) } | - | 7
ticket_19 : did (prim (codes "ITER") [] (more (seq (more (prim (codes "DROP") [] none) none)) none)) ((k.list (k.ticket
    (k.simple s.Nat))) ∷ []) ((v.list (more_vals (v.ticket (1 ∷ 0 ∷ 0 ∷ 0 ∷ 0 ∷ 0 ∷ 0 ∷ 0 ∷ 1 ∷ 0 ∷ 0 ∷ 0 ∷ 0 ∷ 0 ∷ 0 ∷ 0 ∷ 0
    ∷ 0 ∷ 0 ∷ 0 ∷ 0 ∷ 0 ∷ []) (k.simple s.Nat) (v.number (pos 7)) (pos 5)) (more_vals (v.ticket (1 ∷ 0 ∷ 0 ∷ 0 ∷ 0 ∷ 0 ∷ 0 ∷ 0
    ∷ 1 ∷ 0 ∷ 0 ∷ 0 ∷ 0 ∷ 0 ∷ 0 ∷ 0 ∷ 0 ∷ 0 ∷ 0 ∷ 0 ∷ 0 ∷ 0 ∷ []) (k.simple s.Nat) (v.number (pos 8)) (pos 9)) no_val))) ∷ [])
    ≡ gave 7 [] [] (burnt (record {
      issuer = (1 ∷ 0 ∷ 0 ∷ 0 ∷ 0 ∷ 0 ∷ 0 ∷ 0 ∷ 1 ∷ 0 ∷ 0 ∷ 0 ∷ 0 ∷ 0 ∷ 0 ∷ 0 ∷ 0 ∷ 0 ∷ 0 ∷ 0 ∷
          0 ∷ 0 ∷ []);
      kind = (k.simple s.Nat);
      content = (v.number (pos 7));
      amount = pos 5;
    }) ∷ burnt (record {
      issuer = (1 ∷ 0 ∷
          0 ∷ 0 ∷ 0 ∷ 0 ∷ 0 ∷ 0 ∷ 1 ∷ 0 ∷ 0 ∷ 0 ∷ 0 ∷ 0 ∷ 0 ∷ 0 ∷ 0 ∷ 0 ∷ 0 ∷ 0 ∷ 0 ∷ 0 ∷ []);
      kind = (k.simple s.Nat);
      content =
          (v.number (pos 8));
      amount = pos 9;
    }) ∷ [])
unfolding primitive_names primitives code_of_name primitive_of_code primitive_of_name former_of_name word_of_name in_order
    int_or_limit mutez_or_limit division shifted_left shifted_right groups integer field application byte_at field_at
    narrow_field_at integer_at string_at bytes_at annotations_at any_annotations_at name_at name_of_code nodes_at
    application_at many_at node_by tags_in_order tag_at node_at decoded
ticket_19 = refl

-- MAP { PUSH int 1 ; PAIR } | list (ticket nat) | { (Ticket 0x01000000000000000100000000000000000000000000 nat 7 5) } | {
-- Pair 1 (Ticket 0x01000000000000000100000000000000000000000000 nat 7 5) } | 5
ticket_20 : did (prim (codes "MAP") [] (more (seq (more (prim (codes "PUSH") [] (more (prim (codes "int") [] none) (more (int
    (pos 1)) none))) (more (prim (codes "PAIR") [] none) none))) none)) ((k.list (k.ticket (k.simple s.Nat))) ∷ []) ((v.list
    (more_vals (v.ticket (1 ∷ 0 ∷ 0 ∷ 0 ∷ 0 ∷ 0 ∷ 0 ∷ 0 ∷ 1 ∷ 0 ∷ 0 ∷ 0 ∷ 0 ∷ 0 ∷ 0 ∷ 0 ∷ 0 ∷ 0 ∷ 0 ∷ 0 ∷ 0 ∷ 0 ∷ [])
    (k.simple s.Nat) (v.number (pos 7)) (pos 5)) no_val)) ∷ []) ≡ gave 5 ((seq (more (prim (codes "Pair") [] (more (int (pos
    1)) (more (prim (codes "Ticket") [] (more (bytes (1 ∷ 0 ∷ 0 ∷ 0 ∷ 0 ∷ 0 ∷ 0 ∷ 0 ∷ 1 ∷ 0 ∷ 0 ∷ 0 ∷ 0 ∷ 0 ∷ 0 ∷ 0 ∷ 0 ∷ 0 ∷
    0 ∷ 0 ∷ 0 ∷ 0 ∷ [])) (more (prim (codes "nat") [] none) (more (int (pos 7)) (more (int (pos 5)) none))))) none))) none)) ∷
    []) [] []
unfolding primitive_names primitives code_of_name primitive_of_code primitive_of_name former_of_name word_of_name in_order
    int_or_limit mutez_or_limit division shifted_left shifted_right groups integer field application byte_at field_at
    narrow_field_at integer_at string_at bytes_at annotations_at any_annotations_at name_at name_of_code nodes_at
    application_at many_at node_by tags_in_order tag_at node_at decoded
ticket_20 = refl
