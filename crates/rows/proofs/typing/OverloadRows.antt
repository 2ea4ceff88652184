-- The rules of overloaded instructions, by their operands alone.
use Rattle.std.specs.Prelude.{◌≡◌, refl, [], ◌∷◌, Some, None}
use Rattle.rules_text.specs.nodes.Primitives.{primitive_names, primitives, code_of_name, primitive_of_code, primitive_of_name}
use Rattle.rules_data.specs.declared.types.Simple.TheVariants as s
use Rattle.rules_data.specs.types.Kind as k
use Rattle.rules_data.specs.types.Reading.{former_of_name}
use Rattle.rules_data.specs.types.Entrypoints.{in_order}
use Rattle.rules_data.specs.values.Literals.{word_of_name}
use Rattle.rules_code.specs.instructions.Rules.{row_of}
use Rattle.rules_code.specs.instructions.Instructions.{overloaded}
use Rattle.rules_code.specs.instructions.Overloads as o
use Rattle.rules_code.specs.instructions.Straight.{on_stack, on_pairs, on_unions, on_collections, on_numbers, on_truth, on_text, on_hashes, on_operations, on_tickets}
use Rattle.rules_code.specs.instructions.Straight as i

-- add | nat, int | on_numbers i.add_numbers : int
overload_1 : row_of (overloaded o.add) ((k.simple s.Nat) ∷ (k.simple s.Int) ∷ []) ≡ Some record {
  rule = on_numbers
      i.add_numbers;
  result = (k.simple s.Int);
}
unfolding primitive_names primitives code_of_name primitive_of_code primitive_of_name former_of_name word_of_name in_order
overload_1 = refl

-- add | mutez, mutez | on_numbers i.add_amounts : mutez
overload_2 : row_of (overloaded o.add) ((k.simple s.Mutez) ∷ (k.simple s.Mutez) ∷ []) ≡ Some record {
  rule = on_numbers
      i.add_amounts;
  result = (k.simple s.Mutez);
}
unfolding primitive_names primitives code_of_name primitive_of_code primitive_of_name former_of_name word_of_name in_order
overload_2 = refl

-- add | nat, int, nat | none
overload_3 : row_of (overloaded o.add) ((k.simple s.Nat) ∷ (k.simple s.Int) ∷ (k.simple s.Nat) ∷ []) ≡ None
unfolding primitive_names primitives code_of_name primitive_of_code primitive_of_name former_of_name word_of_name in_order
overload_3 = refl

-- add | mutez, nat | none
overload_4 : row_of (overloaded o.add) ((k.simple s.Mutez) ∷ (k.simple s.Nat) ∷ []) ≡ None
unfolding primitive_names primitives code_of_name primitive_of_code primitive_of_name former_of_name word_of_name in_order
overload_4 = refl

-- add | nat | none
overload_5 : row_of (overloaded o.add) ((k.simple s.Nat) ∷ []) ≡ None
unfolding primitive_names primitives code_of_name primitive_of_code primitive_of_name former_of_name word_of_name in_order
overload_5 = refl

-- mul | nat, mutez | on_numbers i.mul_amounts : mutez
overload_6 : row_of (overloaded o.mul) ((k.simple s.Nat) ∷ (k.simple s.Mutez) ∷ []) ≡ Some record {
  rule = on_numbers
      i.mul_amounts;
  result = (k.simple s.Mutez);
}
unfolding primitive_names primitives code_of_name primitive_of_code primitive_of_name former_of_name word_of_name in_order
overload_6 = refl

-- size | set nat | on_collections i.size_set : nat
overload_7 : row_of (overloaded o.size) ((k.set (k.simple s.Nat)) ∷ []) ≡ Some record {
  rule = on_collections i.size_set;
  result = (k.simple s.Nat);
}
unfolding primitive_names primitives code_of_name primitive_of_code primitive_of_name former_of_name word_of_name in_order
overload_7 = refl

-- mem | nat, big_map nat nat | on_collections i.mem_big_map : bool
overload_8 : row_of (overloaded o.mem) ((k.simple s.Nat) ∷ (k.big_map (k.simple s.Nat) (k.simple s.Nat)) ∷ []) ≡ Some record {
  rule = on_collections i.mem_big_map;
  result = (k.simple s.Bool);
}
unfolding primitive_names primitives code_of_name primitive_of_code primitive_of_name former_of_name word_of_name in_order
overload_8 = refl

-- get | nat, map nat (ticket nat) | none
overload_9 : row_of (overloaded o.get) ((k.simple s.Nat) ∷ (k.map (k.simple s.Nat) (k.ticket (k.simple s.Nat))) ∷ []) ≡ None
unfolding primitive_names primitives code_of_name primitive_of_code primitive_of_name former_of_name word_of_name in_order
overload_9 = refl

-- update | nat, option nat, map nat nat | on_collections i.update_map : map nat nat
overload_10 : row_of (overloaded o.update) ((k.simple s.Nat) ∷ (k.option (k.simple s.Nat)) ∷ (k.map (k.simple s.Nat) (k.simple
    s.Nat)) ∷ []) ≡ Some record { rule = on_collections i.update_map; result = (k.map (k.simple s.Nat) (k.simple s.Nat)) }
unfolding primitive_names primitives code_of_name primitive_of_code primitive_of_name former_of_name word_of_name in_order
overload_10 = refl

-- get_and_update | nat, option nat, map nat nat | on_collections i.get_and_update_map : option nat
overload_11 : row_of (overloaded o.get_and_update) ((k.simple s.Nat) ∷ (k.option (k.simple s.Nat)) ∷ (k.map (k.simple s.Nat)
    (k.simple s.Nat)) ∷ []) ≡ Some record { rule = on_collections i.get_and_update_map; result = (k.option (k.simple s.Nat)) }
unfolding primitive_names primitives code_of_name primitive_of_code primitive_of_name former_of_name word_of_name in_order
overload_11 = refl

-- and | int, nat | on_truth i.and_numbers : nat
overload_12 : row_of (overloaded o.and) ((k.simple s.Int) ∷ (k.simple s.Nat) ∷ []) ≡ Some record {
  rule = on_truth
      i.and_numbers;
  result = (k.simple s.Nat);
}
unfolding primitive_names primitives code_of_name primitive_of_code primitive_of_name former_of_name word_of_name in_order
overload_12 = refl

-- concat | list bytes | on_text i.concat_bytes_list : bytes
overload_13 : row_of (overloaded o.concat) ((k.list (k.simple s.Bytes)) ∷ []) ≡ Some record {
  rule = on_text
      i.concat_bytes_list;
  result = (k.simple s.Bytes);
}
unfolding primitive_names primitives code_of_name primitive_of_code primitive_of_name former_of_name word_of_name in_order
overload_13 = refl

-- slice | nat, nat, string | on_text i.slice_string : option string
overload_14 : row_of (overloaded o.slice) ((k.simple s.Nat) ∷ (k.simple s.Nat) ∷ (k.simple s.String) ∷ []) ≡ Some record {
  rule = on_text i.slice_string;
  result = (k.option (k.simple s.String));
}
unfolding primitive_names primitives code_of_name primitive_of_code primitive_of_name former_of_name word_of_name in_order
overload_14 = refl

-- ticket | nat, nat | on_tickets (i.ticket NAT) : option (ticket nat)
overload_15 : row_of (overloaded o.ticket) ((k.simple s.Nat) ∷ (k.simple s.Nat) ∷ []) ≡ Some record {
  rule = on_tickets
      (i.ticket (k.simple s.Nat));
  result = (k.option (k.ticket (k.simple s.Nat)));
}
unfolding primitive_names primitives code_of_name primitive_of_code primitive_of_name former_of_name word_of_name in_order
overload_15 = refl
