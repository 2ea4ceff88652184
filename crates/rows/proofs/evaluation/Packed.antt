-- Packed values.
use Rattle.std.specs.Prelude.{◌≡◌, refl, pos, negsuc, [], ◌∷◌, codes, Some, None, true}
use Rattle.rules_text.specs.nodes.Primitives.{primitive_names, code_of_name, name_of_code}
use Rattle.rules_text.specs.binary.Spelling.{groups, integer, field, application}
use Rattle.rules_text.specs.binary.Reading.{byte_at, field_at, narrow_field_at, integer_at, string_at, bytes_at, annotations_at, any_annotations_at, name_at, nodes_at, application_at, many_at, node_by, tags_in_order, tag_at, node_at, decoded}
use Rattle.rules_data.specs.declared.types.Simple.TheVariants as s
use Rattle.rules_data.specs.types.Kind as k
use Rattle.rules_data.specs.values.Val as v
use Rattle.rules_data.specs.values.Val.{no_val, more_vals, no_pair, more_pairs}
use Rattle.rules_code.specs.steps.Packing.{packed, unpacked}

packs_minus_one : packed (v.number (negsuc 0)) ≡ (5 ∷ 0 ∷ 65 ∷ [])
unfolding primitive_names code_of_name name_of_code groups integer field application byte_at field_at narrow_field_at
    integer_at string_at bytes_at annotations_at any_annotations_at name_at nodes_at application_at many_at node_by
    tags_in_order tag_at node_at decoded
packs_minus_one = refl

packs_sixty_four : packed (v.number (pos 64)) ≡ (5 ∷ 0 ∷ 128 ∷ 1 ∷ [])
unfolding primitive_names code_of_name name_of_code groups integer field application byte_at field_at narrow_field_at
    integer_at string_at bytes_at annotations_at any_annotations_at name_at nodes_at application_at many_at node_by
    tags_in_order tag_at node_at decoded
packs_sixty_four = refl

packs_a_pair : packed (v.both (v.number (pos 1)) (v.text (codes "a"))) ≡ (5 ∷ 7 ∷ 7 ∷ 0 ∷ 1 ∷ 1 ∷ 0 ∷ 0 ∷ 0 ∷ 1 ∷ 97 ∷ [])
unfolding primitive_names code_of_name name_of_code groups integer field application byte_at field_at narrow_field_at
    integer_at string_at bytes_at annotations_at any_annotations_at name_at nodes_at application_at many_at node_by
    tags_in_order tag_at node_at decoded
packs_a_pair = refl

unpacks_a_comb_as_a_sequence : unpacked (λ p. true) (k.pair (k.simple s.Nat) (k.pair (k.simple s.Nat) (k.simple s.Nat))) (5 ∷
    2 ∷ 0 ∷ 0 ∷ 0 ∷ 6 ∷ 0 ∷ 1 ∷ 0 ∷ 2 ∷ 0 ∷ 3 ∷ []) ≡ Some (v.both (v.number (pos 1)) (v.both (v.number (pos 2)) (v.number
    (pos 3))))
unfolding primitive_names code_of_name name_of_code groups integer field application byte_at field_at narrow_field_at
    integer_at string_at bytes_at annotations_at any_annotations_at name_at nodes_at application_at many_at node_by
    tags_in_order tag_at node_at decoded
unpacks_a_comb_as_a_sequence = refl

unpacks_no_further_byte : unpacked (λ p. true) (k.pair (k.simple s.Nat) (k.pair (k.simple s.Nat) (k.simple s.Nat))) (5 ∷ 2 ∷ 0
    ∷ 0 ∷ 0 ∷ 6 ∷ 0 ∷ 1 ∷ 0 ∷ 2 ∷ 0 ∷ 3 ∷ 0 ∷ []) ≡ None
unfolding primitive_names code_of_name name_of_code groups integer field application byte_at field_at narrow_field_at
    integer_at string_at bytes_at annotations_at any_annotations_at name_at nodes_at application_at many_at node_by
    tags_in_order tag_at node_at decoded
unpacks_no_further_byte = refl
