-- Scripts, with the order of their faults.
use Rattle.std.specs.Prelude.{◌≡◌, refl, pos, [], ◌∷◌, codes, Some, None}
use Rattle.rules_text.specs.nodes.Tree.{int, str, prim, seq, none, more}
use Rattle.rules_text.specs.nodes.Primitives.{primitive_names, primitives, code_of_name, primitive_of_code, primitive_of_name}
use Rattle.rules_data.specs.types.Reading.{former_of_name}
use Rattle.rules_data.specs.types.Entrypoints.{in_order}
use Rattle.rules_data.specs.values.Literals.{word_of_name}
use Rattle.rules_code.specs.typing.Nodes.{script}
use Rattle.rows.specs.typing.Told.{fault_of, wide}

instruction_behind_a_failure : fault_of (script (seq (more (prim (codes "parameter") [] (more (prim (codes "unit") [] none)
    none)) (more (prim (codes "storage") [] (more (prim (codes "unit") [] none) none)) (more (prim (codes "code") [] (more
    (seq (more (prim (codes "CAR") [] none) (more (prim (codes "FAILWITH") [] none) (more (prim (codes "UNIT") [] none)
    none)))) none)) none))))) ≡ Some 8
unfolding primitive_names primitives code_of_name primitive_of_code primitive_of_name former_of_name word_of_name in_order
instruction_behind_a_failure = refl

branch_that_is_not_taken : fault_of (script (seq (more (prim (codes "parameter") [] (more (prim (codes "unit") [] none) none))
    (more (prim (codes "storage") [] (more (prim (codes "int") [] none) none)) (more (prim (codes "code") [] (more (seq (more
    (prim (codes "CDR") [] none) (more (prim (codes "PUSH") [] (more (prim (codes "bool") [] none) (more (prim (codes "True")
    [] none) none))) (more (prim (codes "IF") [] (more (seq none) (more (seq (more (prim (codes "PUSH") [] (more (prim (codes
    "string") [] none) (more (str (codes "a")) none))) (more (prim (codes "ADD") [] none) none))) none))) (more (prim (codes
    "NIL") [] (more (prim (codes "operation") [] none) none)) (more (prim (codes "PAIR") [] none) none)))))) none)) none)))))
    ≡ Some 17
unfolding primitive_names primitives code_of_name primitive_of_code primitive_of_name former_of_name word_of_name in_order
branch_that_is_not_taken = refl

keys_out_of_order : fault_of (script (seq (more (prim (codes "parameter") [] (more (prim (codes "unit") [] none) none)) (more
    (prim (codes "storage") [] (more (prim (codes "unit") [] none) none)) (more (prim (codes "code") [] (more (seq (more (prim
    (codes "PUSH") [] (more (prim (codes "map") [] (more (prim (codes "int") [] none) (more (prim (codes "int") [] none)
    none))) (more (seq (more (prim (codes "Elt") [] (more (int (pos 2)) (more (int (pos 0)) none))) (more (prim (codes "Elt")
    [] (more (int (pos 1)) (more (int (pos 0)) none))) none))) none))) (more (prim (codes "DROP") [] none) (more (prim (codes
    "CDR") [] none) (more (prim (codes "NIL") [] (more (prim (codes "operation") [] none) none)) (more (prim (codes "PAIR") []
    none) none)))))) none)) none))))) ≡ Some 15
unfolding primitive_names primitives code_of_name primitive_of_code primitive_of_name former_of_name word_of_name in_order
keys_out_of_order = refl

equal_keys : fault_of (script (seq (more (prim (codes "parameter") [] (more (prim (codes "unit") [] none) none)) (more (prim
    (codes "storage") [] (more (prim (codes "unit") [] none) none)) (more (prim (codes "code") [] (more (seq (more (prim
    (codes "PUSH") [] (more (prim (codes "map") [] (more (prim (codes "int") [] none) (more (prim (codes "int") [] none)
    none))) (more (seq (more (prim (codes "Elt") [] (more (int (pos 2)) (more (int (pos 0)) none))) (more (prim (codes "Elt")
    [] (more (int (pos 2)) (more (int (pos 0)) none))) none))) none))) (more (prim (codes "DROP") [] none) (more (prim (codes
    "CDR") [] none) (more (prim (codes "NIL") [] (more (prim (codes "operation") [] none) none)) (more (prim (codes "PAIR") []
    none) none)))))) none)) none))))) ≡ Some 15
unfolding primitive_names primitives code_of_name primitive_of_code primitive_of_name former_of_name word_of_name in_order
equal_keys = refl

keys_in_order : fault_of (script (seq (more (prim (codes "parameter") [] (more (prim (codes "unit") [] none) none)) (more
    (prim (codes "storage") [] (more (prim (codes "unit") [] none) none)) (more (prim (codes "code") [] (more (seq (more (prim
    (codes "PUSH") [] (more (prim (codes "map") [] (more (prim (codes "int") [] none) (more (prim (codes "int") [] none)
    none))) (more (seq (more (prim (codes "Elt") [] (more (int (pos 1)) (more (int (pos 0)) none))) (more (prim (codes "Elt")
    [] (more (int (pos 2)) (more (int (pos 0)) none))) none))) none))) (more (prim (codes "DROP") [] none) (more (prim (codes
    "CDR") [] none) (more (prim (codes "NIL") [] (more (prim (codes "operation") [] none) none)) (more (prim (codes "PAIR") []
    none) none)))))) none)) none))))) ≡ None
unfolding primitive_names primitives code_of_name primitive_of_code primitive_of_name former_of_name word_of_name in_order
keys_in_order = refl

add_on_one_int : fault_of (script (seq (more (prim (codes "parameter") [] (more (prim (codes "int") [] none) none)) (more
    (prim (codes "storage") [] (more (prim (codes "int") [] none) none)) (more (prim (codes "code") [] (more (seq (more (prim
    (codes "CAR") [] none) (more (prim (codes "ADD") [] none) (more (prim (codes "NIL") [] (more (prim (codes "operation") []
    none) none)) (more (prim (codes "PAIR") [] none) none))))) none)) none))))) ≡ Some 8
unfolding primitive_names primitives code_of_name primitive_of_code primitive_of_name former_of_name word_of_name in_order
add_on_one_int = refl

a_set_as_storage : fault_of (script (seq (more (prim (codes "parameter") [] (more (prim (codes "unit") [] none) none)) (more
    (prim (codes "storage") [] (more (prim (codes "set") [] (more (prim (codes "int") [] none) none)) none)) (more (prim
    (codes "code") [] (more (seq (more (prim (codes "CDR") [] none) (more (prim (codes "NIL") [] (more (prim (codes
    "operation") [] none) none)) (more (prim (codes "PAIR") [] none) none)))) none)) none))))) ≡ None
unfolding primitive_names primitives code_of_name primitive_of_code primitive_of_name former_of_name word_of_name in_order
a_set_as_storage = refl

empty : fault_of (script (seq none)) ≡ Some 0
unfolding primitive_names primitives code_of_name primitive_of_code primitive_of_name former_of_name word_of_name in_order
empty = refl

no_section : fault_of (script (seq (more (int (pos 5)) none))) ≡ Some 1
unfolding primitive_names primitives code_of_name primitive_of_code primitive_of_name former_of_name word_of_name in_order
no_section = refl

section_after_block : fault_of (script (seq (more (seq none) (more (prim (codes "parameter") [] (more (prim (codes "unit") []
    none) none)) none)))) ≡ Some 1
unfolding primitive_names primitives code_of_name primitive_of_code primitive_of_name former_of_name word_of_name in_order
section_after_block = refl

unknown_section : fault_of (script (seq (more (prim (codes "parameter") [] (more (prim (codes "unit") [] none) none)) (more
    (prim (codes "storage") [] (more (prim (codes "unit") [] none) none)) (more (prim (codes "foo") [] none) (more (prim
    (codes "code") [] (more (seq (more (prim (codes "FOO") [] none) none)) none)) none)))))) ≡ Some 5
unfolding primitive_names primitives code_of_name primitive_of_code primitive_of_name former_of_name word_of_name in_order
unknown_section = refl

missing_code : fault_of (script (seq (more (prim (codes "parameter") [] (more (prim (codes "unit") [] none) none)) (more (prim
    (codes "storage") [] (more (prim (codes "foo") [] none) none)) none)))) ≡ Some 0
unfolding primitive_names primitives code_of_name primitive_of_code primitive_of_name former_of_name word_of_name in_order
missing_code = refl

missing_storage : fault_of (script (seq (more (prim (codes "code") [] (more (seq (more (prim (codes "FOO") [] none) none))
    none)) (more (prim (codes "parameter") [] (more (prim (codes "foo") [] none) none)) none)))) ≡ Some 0
unfolding primitive_names primitives code_of_name primitive_of_code primitive_of_name former_of_name word_of_name in_order
missing_storage = refl

repeated_parameter : fault_of (script (seq (more (prim (codes "parameter") [] (more (prim (codes "unit") [] none) none)) (more
    (prim (codes "parameter") [] (more (prim (codes "foo") [] none) none)) (more (prim (codes "storage") [] (more (prim (codes
    "unit") [] none) none)) none))))) ≡ Some 3
unfolding primitive_names primitives code_of_name primitive_of_code primitive_of_name former_of_name word_of_name in_order
repeated_parameter = refl

repeated_code : fault_of (script (seq (more (prim (codes "parameter") [] (more (prim (codes "unit") [] none) none)) (more
    (prim (codes "storage") [] (more (prim (codes "unit") [] none) none)) (more (prim (codes "code") [] (more (seq none)
    none)) (more (prim (codes "code") [] (more (seq none) none)) none)))))) ≡ Some 7
unfolding primitive_names primitives code_of_name primitive_of_code primitive_of_name former_of_name word_of_name in_order
repeated_code = refl

code_is_no_sequence : fault_of (script (seq (more (prim (codes "parameter") [] (more (prim (codes "unit") [] none) none))
    (more (prim (codes "storage") [] (more (prim (codes "unit") [] none) none)) (more (prim (codes "code") [] (more (int (pos
    5)) none)) none))))) ≡ Some 5
unfolding primitive_names primitives code_of_name primitive_of_code primitive_of_name former_of_name word_of_name in_order
code_is_no_sequence = refl

two_codes_in_one : fault_of (script (seq (more (prim (codes "parameter") [] (more (prim (codes "unit") [] none) none)) (more
    (prim (codes "storage") [] (more (prim (codes "unit") [] none) none)) (more (prim (codes "code") [] (more (seq none) (more
    (seq none) none))) none))))) ≡ Some 5
unfolding primitive_names primitives code_of_name primitive_of_code primitive_of_name former_of_name word_of_name in_order
two_codes_in_one = refl

parameter_of_two : fault_of (script (seq (more (prim (codes "parameter") [] (more (prim (codes "unit") [] none) (more (prim
    (codes "unit") [] none) none))) (more (prim (codes "storage") [] (more (prim (codes "foo") [] none) none)) (more (prim
    (codes "code") [] (more (int (pos 5)) none)) none))))) ≡ Some 1
unfolding primitive_names primitives code_of_name primitive_of_code primitive_of_name former_of_name word_of_name in_order
parameter_of_two = refl

any_order : fault_of (script (seq (more (prim (codes "code") [] (more (seq (more (prim (codes "CDR") [] none) (more (prim
    (codes "NIL") [] (more (prim (codes "operation") [] none) none)) (more (prim (codes "PAIR") [] none) none)))) none)) (more
    (prim (codes "storage") [] (more (prim (codes "unit") [] none) none)) (more (prim (codes "parameter") [] (more (prim
    (codes "unit") [] none) none)) none))))) ≡ None
unfolding primitive_names primitives code_of_name primitive_of_code primitive_of_name former_of_name word_of_name in_order
any_order = refl

view_name_no_string : fault_of (script (seq (more (prim (codes "parameter") [] (more (prim (codes "foo") [] none) none)) (more
    (prim (codes "view") [] (more (prim (codes "v") [] none) (more (prim (codes "unit") [] none) (more (prim (codes "unit") []
    none) (more (seq none) none))))) (more (prim (codes "storage") [] (more (prim (codes "foo") [] none) none)) (more (prim
    (codes "code") [] (more (seq none) none)) none)))))) ≡ Some 3
unfolding primitive_names primitives code_of_name primitive_of_code primitive_of_name former_of_name word_of_name in_order
view_name_no_string = refl

view_name_bad : fault_of (script (seq (more (prim (codes "parameter") [] (more (prim (codes "foo") [] none) none)) (more (prim
    (codes "view") [] (more (str (codes "a-b")) (more (prim (codes "unit") [] none) (more (prim (codes "unit") [] none) (more
    (seq none) none))))) (more (prim (codes "storage") [] (more (prim (codes "foo") [] none) none)) (more (prim (codes "code")
    [] (more (seq none) none)) none)))))) ≡ Some 3
unfolding primitive_names primitives code_of_name primitive_of_code primitive_of_name former_of_name word_of_name in_order
view_name_bad = refl

view_name_long : fault_of (script (seq (more (prim (codes "parameter") [] (more (prim (codes "foo") [] none) none)) (more
    (prim (codes "view") [] (more (str (codes "a2345678901234567890123456789012")) (more (prim (codes "unit") [] none) (more
    (prim (codes "unit") [] none) (more (seq none) none))))) (more (prim (codes "storage") [] (more (prim (codes "foo") []
    none) none)) (more (prim (codes "code") [] (more (seq none) none)) none)))))) ≡ Some 3
unfolding primitive_names primitives code_of_name primitive_of_code primitive_of_name former_of_name word_of_name in_order
view_name_long = refl

view_no_sequence : fault_of (script (seq (more (prim (codes "parameter") [] (more (prim (codes "foo") [] none) none)) (more
    (prim (codes "view") [] (more (str (codes "v")) (more (prim (codes "unit") [] none) (more (prim (codes "unit") [] none)
    (more (int (pos 5)) none))))) (more (prim (codes "storage") [] (more (prim (codes "foo") [] none) none)) (more (prim
    (codes "code") [] (more (seq none) none)) none)))))) ≡ Some 3
unfolding primitive_names primitives code_of_name primitive_of_code primitive_of_name former_of_name word_of_name in_order
view_no_sequence = refl

view_repeated : fault_of (script (seq (more (prim (codes "parameter") [] (more (prim (codes "foo") [] none) none)) (more (prim
    (codes "view") [] (more (str (codes "v")) (more (prim (codes "unit") [] none) (more (prim (codes "unit") [] none) (more
    (seq none) none))))) (more (prim (codes "view") [] (more (str (codes "v")) (more (prim (codes "foo") [] none) (more (prim
    (codes "foo") [] none) (more (seq (more (prim (codes "FOO") [] none) none)) none))))) (more (prim (codes "storage") []
    (more (prim (codes "foo") [] none) none)) (more (prim (codes "code") [] (more (seq none) none)) none))))))) ≡ Some 8
unfolding primitive_names primitives code_of_name primitive_of_code primitive_of_name former_of_name word_of_name in_order
view_repeated = refl

view_name_empty : fault_of (script (seq (more (prim (codes "parameter") [] (more (prim (codes "unit") [] none) none)) (more
    (prim (codes "storage") [] (more (prim (codes "unit") [] none) none)) (more (prim (codes "view") [] (more (str (codes ""))
    (more (prim (codes "unit") [] none) (more (prim (codes "unit") [] none) (more (seq (more (prim (codes "CAR") [] none)
    none)) none))))) (more (prim (codes "code") [] (more (seq (more (prim (codes "CDR") [] none) (more (prim (codes "NIL") []
    (more (prim (codes "operation") [] none) none)) (more (prim (codes "PAIR") [] none) none)))) none)) none)))))) ≡ None
unfolding primitive_names primitives code_of_name primitive_of_code primitive_of_name former_of_name word_of_name in_order
view_name_empty = refl

parameter_first : fault_of (script (seq (more (prim (codes "view") [] (more (str (codes "v")) (more (prim (codes "foo") []
    none) (more (prim (codes "foo") [] none) (more (seq (more (prim (codes "FOO") [] none) none)) none))))) (more (prim (codes
    "code") [] (more (seq (more (prim (codes "FOO") [] none) none)) none)) (more (prim (codes "storage") [] (more (prim (codes
    "foo") [] none) none)) (more (prim (codes "parameter") [] (more (prim (codes "list") [] (more (prim (codes "foo") [] none)
    none)) none)) none)))))) ≡ Some 14
unfolding primitive_names primitives code_of_name primitive_of_code primitive_of_name former_of_name word_of_name in_order
parameter_first = refl

parameter_not_passable : fault_of (script (seq (more (prim (codes "storage") [] (more (prim (codes "foo") [] none) none))
    (more (prim (codes "parameter") [] (more (prim (codes "list") [] (more (prim (codes "operation") [] none) none)) none))
    (more (prim (codes "code") [] (more (seq (more (prim (codes "FOO") [] none) none)) none)) none))))) ≡ Some 4
unfolding primitive_names primitives code_of_name primitive_of_code primitive_of_name former_of_name word_of_name in_order
parameter_not_passable = refl

entrypoint_repeated : fault_of (script (seq (more (prim (codes "storage") [] (more (prim (codes "foo") [] none) none)) (more
    (prim (codes "parameter") [] (more (prim (codes "or") [] (more (prim (codes "int") ((codes "%a") ∷ []) none) (more (prim
    (codes "or") [] (more (prim (codes "nat") ((codes "%a") ∷ []) none) (more (prim (codes "unit") [] none) none))) none)))
    none)) (more (prim (codes "code") [] (more (seq (more (prim (codes "FOO") [] none) none)) none)) none))))) ≡ Some 7
unfolding primitive_names primitives code_of_name primitive_of_code primitive_of_name former_of_name word_of_name in_order
entrypoint_repeated = refl

root_name_repeated : fault_of (script (seq (more (prim (codes "parameter") ((codes "%a") ∷ []) (more (prim (codes "or") []
    (more (prim (codes "int") ((codes "%a") ∷ []) none) (more (prim (codes "nat") [] none) none))) none)) (more (prim (codes
    "storage") [] (more (prim (codes "foo") [] none) none)) (more (prim (codes "code") [] (more (seq none) none)) none))))) ≡
    Some 3
unfolding primitive_names primitives code_of_name primitive_of_code primitive_of_name former_of_name word_of_name in_order
root_name_repeated = refl

root_name_long : fault_of (script (seq (more (prim (codes "parameter") ((codes "%a2345678901234567890123456789012") ∷ [])
    (more (prim (codes "nat") [] none) none)) (more (prim (codes "storage") [] (more (prim (codes "foo") [] none) none)) (more
    (prim (codes "code") [] (more (seq none) none)) none))))) ≡ Some 1
unfolding primitive_names primitives code_of_name primitive_of_code primitive_of_name former_of_name word_of_name in_order
root_name_long = refl

storage_second : fault_of (script (seq (more (prim (codes "view") [] (more (str (codes "v")) (more (prim (codes "foo") []
    none) (more (prim (codes "foo") [] none) (more (seq (more (prim (codes "FOO") [] none) none)) none))))) (more (prim (codes
    "code") [] (more (seq (more (prim (codes "FOO") [] none) none)) none)) (more (prim (codes "storage") [] (more (prim (codes
    "foo") [] none) none)) (more (prim (codes "parameter") [] (more (prim (codes "unit") [] none) none)) none)))))) ≡ Some 11
unfolding primitive_names primitives code_of_name primitive_of_code primitive_of_name former_of_name word_of_name in_order
storage_second = refl

storage_not_storable : fault_of (script (seq (more (prim (codes "view") [] (more (str (codes "v")) (more (prim (codes "foo")
    [] none) (more (prim (codes "foo") [] none) (more (seq (more (prim (codes "FOO") [] none) none)) none))))) (more (prim
    (codes "code") [] (more (seq (more (prim (codes "FOO") [] none) none)) none)) (more (prim (codes "storage") [] (more (prim
    (codes "contract") [] (more (prim (codes "unit") [] none) none)) none)) (more (prim (codes "parameter") [] (more (prim
    (codes "unit") [] none) none)) none)))))) ≡ Some 11
unfolding primitive_names primitives code_of_name primitive_of_code primitive_of_name former_of_name word_of_name in_order
storage_not_storable = refl

views_third : fault_of (script (seq (more (prim (codes "view") [] (more (str (codes "v")) (more (prim (codes "unit") [] none)
    (more (prim (codes "foo") [] none) (more (seq (more (prim (codes "FOO") [] none) none)) none))))) (more (prim (codes
    "code") [] (more (seq (more (prim (codes "FOO") [] none) none)) none)) (more (prim (codes "storage") [] (more (prim (codes
    "unit") [] none) none)) (more (prim (codes "parameter") [] (more (prim (codes "unit") [] none) none)) none)))))) ≡ Some 4
unfolding primitive_names primitives code_of_name primitive_of_code primitive_of_name former_of_name word_of_name in_order
views_third = refl

view_not_packable : fault_of (script (seq (more (prim (codes "view") [] (more (str (codes "v")) (more (prim (codes "big_map")
    [] (more (prim (codes "nat") [] none) (more (prim (codes "nat") [] none) none))) (more (prim (codes "foo") [] none) (more
    (seq (more (prim (codes "FOO") [] none) none)) none))))) (more (prim (codes "code") [] (more (seq (more (prim (codes
    "FOO") [] none) none)) none)) (more (prim (codes "storage") [] (more (prim (codes "unit") [] none) none)) (more (prim
    (codes "parameter") [] (more (prim (codes "unit") [] none) none)) none)))))) ≡ Some 3
unfolding primitive_names primitives code_of_name primitive_of_code primitive_of_name former_of_name word_of_name in_order
view_not_packable = refl

view_output_not_packable : fault_of (script (seq (more (prim (codes "view") [] (more (str (codes "v")) (more (prim (codes
    "unit") [] none) (more (prim (codes "ticket") [] (more (prim (codes "nat") [] none) none)) (more (seq (more (prim (codes
    "FOO") [] none) none)) none))))) (more (prim (codes "code") [] (more (seq (more (prim (codes "FOO") [] none) none)) none))
    (more (prim (codes "storage") [] (more (prim (codes "unit") [] none) none)) (more (prim (codes "parameter") [] (more (prim
    (codes "unit") [] none) none)) none)))))) ≡ Some 4
unfolding primitive_names primitives code_of_name primitive_of_code primitive_of_name former_of_name word_of_name in_order
view_output_not_packable = refl

code_fourth : fault_of (script (seq (more (prim (codes "view") [] (more (str (codes "v")) (more (prim (codes "unit") [] none)
    (more (prim (codes "unit") [] none) (more (seq (more (prim (codes "FOO") [] none) none)) none))))) (more (prim (codes
    "code") [] (more (seq (more (prim (codes "FOO") [] none) none)) none)) (more (prim (codes "storage") [] (more (prim (codes
    "unit") [] none) none)) (more (prim (codes "parameter") [] (more (prim (codes "unit") [] none) none)) none)))))) ≡ Some 9
unfolding primitive_names primitives code_of_name primitive_of_code primitive_of_name former_of_name word_of_name in_order
code_fourth = refl

view_bodies_last : fault_of (script (seq (more (prim (codes "view") [] (more (str (codes "v")) (more (prim (codes "unit") []
    none) (more (prim (codes "unit") [] none) (more (seq (more (prim (codes "FOO") [] none) none)) none))))) (more (prim
    (codes "view") [] (more (str (codes "w")) (more (prim (codes "foo") [] none) (more (prim (codes "unit") [] none) (more
    (seq (more (prim (codes "FOO") [] none) none)) none))))) (more (prim (codes "code") [] (more (seq (more (prim (codes
    "CDR") [] none) (more (prim (codes "NIL") [] (more (prim (codes "operation") [] none) none)) (more (prim (codes "PAIR") []
    none) none)))) none)) (more (prim (codes "storage") [] (more (prim (codes "unit") [] none) none)) (more (prim (codes
    "parameter") [] (more (prim (codes "unit") [] none) none)) none))))))) ≡ Some 9
unfolding primitive_names primitives code_of_name primitive_of_code primitive_of_name former_of_name word_of_name in_order
view_bodies_last = refl

view_body : fault_of (script (seq (more (prim (codes "view") [] (more (str (codes "v")) (more (prim (codes "unit") [] none)
    (more (prim (codes "unit") [] none) (more (seq (more (prim (codes "FOO") [] none) none)) none))))) (more (prim (codes
    "code") [] (more (seq (more (prim (codes "CDR") [] none) (more (prim (codes "NIL") [] (more (prim (codes "operation") []
    none) none)) (more (prim (codes "PAIR") [] none) none)))) none)) (more (prim (codes "storage") [] (more (prim (codes
    "unit") [] none) none)) (more (prim (codes "parameter") [] (more (prim (codes "unit") [] none) none)) none)))))) ≡ Some 6
unfolding primitive_names primitives code_of_name primitive_of_code primitive_of_name former_of_name word_of_name in_order
view_body = refl

code_end : fault_of (script (seq (more (prim (codes "parameter") [] (more (prim (codes "unit") [] none) none)) (more (prim
    (codes "storage") [] (more (prim (codes "unit") [] none) none)) (more (prim (codes "code") [] (more (seq (more (prim
    (codes "CDR") [] none) none)) none)) none))))) ≡ Some 6
unfolding primitive_names primitives code_of_name primitive_of_code primitive_of_name former_of_name word_of_name in_order
code_end = refl

code_fails : fault_of (script (seq (more (prim (codes "parameter") [] (more (prim (codes "unit") [] none) none)) (more (prim
    (codes "storage") [] (more (prim (codes "unit") [] none) none)) (more (prim (codes "code") [] (more (seq (more (prim
    (codes "FAILWITH") [] none) none)) none)) none))))) ≡ None
unfolding primitive_names primitives code_of_name primitive_of_code primitive_of_name former_of_name word_of_name in_order
code_fails = refl

view_end : fault_of (script (seq (more (prim (codes "parameter") [] (more (prim (codes "unit") [] none) none)) (more (prim
    (codes "storage") [] (more (prim (codes "unit") [] none) none)) (more (prim (codes "code") [] (more (seq (more (prim
    (codes "CDR") [] none) (more (prim (codes "NIL") [] (more (prim (codes "operation") [] none) none)) (more (prim (codes
    "PAIR") [] none) none)))) none)) (more (prim (codes "view") [] (more (str (codes "v")) (more (prim (codes "nat") [] none)
    (more (prim (codes "int") [] none) (more (seq (more (prim (codes "CAR") [] none) none)) none))))) none)))))) ≡ Some 15
unfolding primitive_names primitives code_of_name primitive_of_code primitive_of_name former_of_name word_of_name in_order
view_end = refl

view_fails : fault_of (script (seq (more (prim (codes "parameter") [] (more (prim (codes "unit") [] none) none)) (more (prim
    (codes "storage") [] (more (prim (codes "unit") [] none) none)) (more (prim (codes "code") [] (more (seq (more (prim
    (codes "CDR") [] none) (more (prim (codes "NIL") [] (more (prim (codes "operation") [] none) none)) (more (prim (codes
    "PAIR") [] none) none)))) none)) (more (prim (codes "view") [] (more (str (codes "v")) (more (prim (codes "nat") [] none)
    (more (prim (codes "int") [] none) (more (seq (more (prim (codes "CAR") [] none) (more (prim (codes "FAILWITH") [] none)
    none))) none))))) none)))))) ≡ None
unfolding primitive_names primitives code_of_name primitive_of_code primitive_of_name former_of_name word_of_name in_order
view_fails = refl

parameter_too_large : fault_of (script (seq (more (prim (codes "storage") [] (more (prim (codes "foo") [] none) none)) (more
    (prim (codes "parameter") [] (more (prim (codes "list") [] (more (prim (codes "list") [] (more (wide 1000) none)) none))
    none)) (more (prim (codes "code") [] (more (seq (more (prim (codes "FOO") [] none) none)) none)) none))))) ≡ Some 4
unfolding primitive_names primitives code_of_name primitive_of_code primitive_of_name former_of_name word_of_name in_order
parameter_too_large = refl

storage_too_large : fault_of (script (seq (more (prim (codes "parameter") [] (more (prim (codes "unit") [] none) none)) (more
    (prim (codes "storage") [] (more (wide 1001) none)) (more (prim (codes "code") [] (more (seq (more (prim (codes "FOO") []
    none) none)) none)) none))))) ≡ Some 4
unfolding primitive_names primitives code_of_name primitive_of_code primitive_of_name former_of_name word_of_name in_order
storage_too_large = refl

parameter_with_storage : fault_of (script (seq (more (prim (codes "view") [] (more (str (codes "v")) (more (prim (codes "foo")
    [] none) (more (prim (codes "unit") [] none) (more (seq none) none))))) (more (prim (codes "parameter") [] (more (wide
    600) none)) (more (prim (codes "storage") [] (more (wide 600) none)) (more (prim (codes "code") [] (more (seq (more (prim
    (codes "FOO") [] none) none)) none)) none)))))) ≡ Some 3
unfolding primitive_names primitives code_of_name primitive_of_code primitive_of_name former_of_name word_of_name in_order
parameter_with_storage = refl

parameter_with_storage_at_the_body : fault_of (script (seq (more (prim (codes "parameter") [] (more (wide 600) none)) (more
    (prim (codes "storage") [] (more (wide 600) none)) (more (prim (codes "code") [] (more (seq (more (prim (codes "FOO") []
    none) none)) none)) (more (prim (codes "view") [] (more (str (codes "v")) (more (prim (codes "unit") [] none) (more (prim
    (codes "unit") [] none) (more (seq (more (prim (codes "FOO") [] none) none)) none))))) none)))))) ≡ Some 1206
unfolding primitive_names primitives code_of_name primitive_of_code primitive_of_name former_of_name word_of_name in_order
parameter_with_storage_at_the_body = refl

operations_with_storage : fault_of (script (seq (more (prim (codes "parameter") [] (more (prim (codes "unit") [] none) none))
    (more (prim (codes "storage") [] (more (prim (codes "list") [] (more (wide 999) none)) none)) (more (prim (codes "code")
    [] (more (seq (more (prim (codes "FOO") [] none) none)) none)) none))))) ≡ Some 1006
unfolding primitive_names primitives code_of_name primitive_of_code primitive_of_name former_of_name word_of_name in_order
operations_with_storage = refl

view_with_storage : fault_of (script (seq (more (prim (codes "parameter") [] (more (prim (codes "unit") [] none) none)) (more
    (prim (codes "storage") [] (more (wide 600) none)) (more (prim (codes "code") [] (more (seq (more (prim (codes "CDR") []
    none) (more (prim (codes "NIL") [] (more (prim (codes "operation") [] none) none)) (more (prim (codes "PAIR") [] none)
    none)))) none)) (more (prim (codes "view") [] (more (str (codes "v")) (more (wide 600) (more (prim (codes "unit") [] none)
    (more (seq (more (prim (codes "FOO") [] none) none)) none))))) none)))))) ≡ Some 1215
unfolding primitive_names primitives code_of_name primitive_of_code primitive_of_name former_of_name word_of_name in_order
view_with_storage = refl

self_of_a_large_parameter : fault_of (script (seq (more (prim (codes "parameter") [] (more (prim (codes "list") [] (more (wide
    990) none)) none)) (more (prim (codes "storage") [] (more (prim (codes "unit") [] none) none)) (more (prim (codes "code")
    [] (more (seq (more (prim (codes "SELF") [] none) (more (prim (codes "DROP") [] none) (more (prim (codes "CDR") [] none)
    (more (prim (codes "NIL") [] (more (prim (codes "operation") [] none) none)) (more (prim (codes "PAIR") [] none)
    none)))))) none)) none))))) ≡ None
unfolding primitive_names primitives code_of_name primitive_of_code primitive_of_name former_of_name word_of_name in_order
self_of_a_large_parameter = refl

self_in_a_lambda : fault_of (script (seq (more (prim (codes "parameter") [] (more (prim (codes "unit") [] none) none)) (more
    (prim (codes "storage") [] (more (prim (codes "unit") [] none) none)) (more (prim (codes "code") [] (more (seq (more (prim
    (codes "LAMBDA") [] (more (prim (codes "unit") [] none) (more (prim (codes "unit") [] none) (more (seq (more (prim (codes
    "SELF") [] none) (more (prim (codes "DROP") [] none) none))) none)))) (more (prim (codes "DROP") [] none) (more (prim
    (codes "CDR") [] none) (more (prim (codes "NIL") [] (more (prim (codes "operation") [] none) none)) (more (prim (codes
    "PAIR") [] none) none)))))) none)) none))))) ≡ Some 11
unfolding primitive_names primitives code_of_name primitive_of_code primitive_of_name former_of_name word_of_name in_order
self_in_a_lambda = refl

self_in_code : fault_of (script (seq (more (prim (codes "parameter") [] (more (prim (codes "unit") [] none) none)) (more (prim
    (codes "storage") [] (more (prim (codes "unit") [] none) none)) (more (prim (codes "code") [] (more (seq (more (prim
    (codes "SELF") [] none) (more (prim (codes "DROP") [] none) (more (prim (codes "CDR") [] none) (more (prim (codes "NIL")
    [] (more (prim (codes "operation") [] none) none)) (more (prim (codes "PAIR") [] none) none)))))) none)) none))))) ≡ None
unfolding primitive_names primitives code_of_name primitive_of_code primitive_of_name former_of_name word_of_name in_order
self_in_code = refl

self_in_a_view : fault_of (script (seq (more (prim (codes "parameter") [] (more (prim (codes "unit") [] none) none)) (more
    (prim (codes "storage") [] (more (prim (codes "unit") [] none) none)) (more (prim (codes "code") [] (more (seq (more (prim
    (codes "CDR") [] none) (more (prim (codes "NIL") [] (more (prim (codes "operation") [] none) none)) (more (prim (codes
    "PAIR") [] none) none)))) none)) (more (prim (codes "view") [] (more (str (codes "v")) (more (prim (codes "unit") [] none)
    (more (prim (codes "unit") [] none) (more (seq (more (prim (codes "SELF") [] none) (more (prim (codes "DROP") [] none)
    (more (prim (codes "CAR") [] none) none)))) none))))) none)))))) ≡ Some 16
unfolding primitive_names primitives code_of_name primitive_of_code primitive_of_name former_of_name word_of_name in_order
self_in_a_view = refl

transfer_in_a_view : fault_of (script (seq (more (prim (codes "parameter") [] (more (prim (codes "unit") [] none) none)) (more
    (prim (codes "storage") [] (more (prim (codes "unit") [] none) none)) (more (prim (codes "code") [] (more (seq (more (prim
    (codes "CDR") [] none) (more (prim (codes "NIL") [] (more (prim (codes "operation") [] none) none)) (more (prim (codes
    "PAIR") [] none) none)))) none)) (more (prim (codes "view") [] (more (str (codes "v")) (more (prim (codes "unit") [] none)
    (more (prim (codes "unit") [] none) (more (seq (more (prim (codes "DROP") [] none) (more (prim (codes "SENDER") [] none)
    (more (prim (codes "CONTRACT") [] (more (prim (codes "unit") [] none) none)) (more (prim (codes "IF_NONE") [] (more (seq
    (more (prim (codes "UNIT") [] none) (more (prim (codes "FAILWITH") [] none) none))) (more (seq none) none))) (more (prim
    (codes "PUSH") [] (more (prim (codes "mutez") [] none) (more (int (pos 0)) none))) (more (prim (codes "UNIT") [] none)
    (more (prim (codes "TRANSFER_TOKENS") [] none) (more (prim (codes "FAILWITH") [] none) none))))))))) none))))) none))))))
    ≡ Some 29
unfolding primitive_names primitives code_of_name primitive_of_code primitive_of_name former_of_name word_of_name in_order
transfer_in_a_view = refl

transfer_in_a_lambda_of_a_view : fault_of (script (seq (more (prim (codes "parameter") [] (more (prim (codes "unit") [] none)
    none)) (more (prim (codes "storage") [] (more (prim (codes "unit") [] none) none)) (more (prim (codes "code") [] (more
    (seq (more (prim (codes "CDR") [] none) (more (prim (codes "NIL") [] (more (prim (codes "operation") [] none) none)) (more
    (prim (codes "PAIR") [] none) none)))) none)) (more (prim (codes "view") [] (more (str (codes "v")) (more (prim (codes
    "unit") [] none) (more (prim (codes "unit") [] none) (more (seq (more (prim (codes "CAR") [] none) (more (prim (codes
    "LAMBDA") [] (more (prim (codes "contract") [] (more (prim (codes "unit") [] none) none)) (more (prim (codes "operation")
    [] none) (more (seq (more (prim (codes "PUSH") [] (more (prim (codes "mutez") [] none) (more (int (pos 0)) none))) (more
    (prim (codes "UNIT") [] none) (more (prim (codes "TRANSFER_TOKENS") [] none) none)))) none)))) (more (prim (codes "DROP")
    [] none) none)))) none))))) none)))))) ≡ None
unfolding primitive_names primitives code_of_name primitive_of_code primitive_of_name former_of_name word_of_name in_order
transfer_in_a_lambda_of_a_view = refl

two_entrypoints : fault_of (script (seq (more (prim (codes "parameter") [] (more (prim (codes "or") [] (more (prim (codes
    "int") ((codes "%a") ∷ []) none) (more (prim (codes "unit") ((codes "%b") ∷ []) none) none))) none)) (more (prim (codes
    "storage") [] (more (prim (codes "int") [] none) none)) (more (prim (codes "code") [] (more (seq (more (prim (codes "CDR")
    [] none) (more (prim (codes "SELF") ((codes "%a") ∷ []) none) (more (prim (codes "DROP") [] none) (more (prim (codes
    "NIL") [] (more (prim (codes "operation") [] none) none)) (more (prim (codes "PAIR") [] none) none)))))) none)) none)))))
    ≡ None
unfolding primitive_names primitives code_of_name primitive_of_code primitive_of_name former_of_name word_of_name in_order
two_entrypoints = refl

mint_of_a_generated_run : fault_of (script (seq (more (prim (codes "parameter") [] (more (prim (codes "pair") [] (more (prim
    (codes "address") [] none) (more (prim (codes "nat") [] none) (more (prim (codes "nat") [] none) none)))) none)) (more
    (prim (codes "storage") [] (more (prim (codes "unit") [] none) none)) (more (prim (codes "code") [] (more (seq (more (prim
    (codes "CAR") [] none) (more (prim (codes "UNPAIR") [] (more (int (pos 3)) none)) (more (prim (codes "CONTRACT") [] (more
    (prim (codes "ticket") [] (more (prim (codes "nat") [] none) none)) none)) (more (prim (codes "IF_NONE") [] (more (seq
    (more (prim (codes "UNIT") [] none) (more (prim (codes "FAILWITH") [] none) none))) (more (seq none) none))) (more (prim
    (codes "DUG") [] (more (int (pos 2)) none)) (more (prim (codes "TICKET") [] none) (more (prim (codes "IF_NONE") [] (more
    (seq (more (prim (codes "UNIT") [] none) (more (prim (codes "FAILWITH") [] none) none))) (more (seq none) none))) (more
    (prim (codes "PUSH") [] (more (prim (codes "mutez") [] none) (more (int (pos 0)) none))) (more (prim (codes "SWAP") []
    none) (more (prim (codes "TRANSFER_TOKENS") [] none) (more (prim (codes "NIL") [] (more (prim (codes "operation") [] none)
    none)) (more (prim (codes "SWAP") [] none) (more (prim (codes "CONS") [] none) (more (prim (codes "UNIT") [] none) (more
    (prim (codes "SWAP") [] none) (more (prim (codes "PAIR") [] none) none))))))))))))))))) none)) none))))) ≡ None
unfolding primitive_names primitives code_of_name primitive_of_code primitive_of_name former_of_name word_of_name in_order
mint_of_a_generated_run = refl

wallet_of_a_generated_run : fault_of (script (seq (more (prim (codes "parameter") [] (more (prim (codes "ticket") [] (more
    (prim (codes "nat") [] none) none)) none)) (more (prim (codes "storage") [] (more (prim (codes "option") [] (more (prim
    (codes "ticket") [] (more (prim (codes "nat") [] none) none)) none)) none)) (more (prim (codes "code") [] (more (seq (more
    (prim (codes "UNPAIR") [] none) (more (prim (codes "SWAP") [] none) (more (prim (codes "IF_NONE") [] (more (seq none)
    (more (seq (more (prim (codes "PAIR") [] none) (more (prim (codes "JOIN_TICKETS") [] none) (more (prim (codes "IF_NONE")
    [] (more (seq (more (prim (codes "UNIT") [] none) (more (prim (codes "FAILWITH") [] none) none))) (more (seq none) none)))
    none)))) none))) (more (prim (codes "SOME") [] none) (more (prim (codes "NIL") [] (more (prim (codes "operation") [] none)
    none)) (more (prim (codes "PAIR") [] none) none))))))) none)) none))))) ≡ None
unfolding primitive_names primitives code_of_name primitive_of_code primitive_of_name former_of_name word_of_name in_order
wallet_of_a_generated_run = refl

no_such_entrypoint : fault_of (script (seq (more (prim (codes "parameter") [] (more (prim (codes "or") [] (more (prim (codes
    "int") ((codes "%a") ∷ []) none) (more (prim (codes "unit") ((codes "%b") ∷ []) none) none))) none)) (more (prim (codes
    "storage") [] (more (prim (codes "int") [] none) none)) (more (prim (codes "code") [] (more (seq (more (prim (codes "CDR")
    [] none) (more (prim (codes "SELF") ((codes "%c") ∷ []) none) (more (prim (codes "DROP") [] none) (more (prim (codes
    "NIL") [] (more (prim (codes "operation") [] none) none)) (more (prim (codes "PAIR") [] none) none)))))) none)) none)))))
    ≡ Some 10
unfolding primitive_names primitives code_of_name primitive_of_code primitive_of_name former_of_name word_of_name in_order
no_such_entrypoint = refl
