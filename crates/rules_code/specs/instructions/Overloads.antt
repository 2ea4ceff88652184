-- The instructions that are several rules, of which the types on the stack choose one (Michelson reference, "Instructions").
use Rattle.std.specs.Prelude.{ℕ, List, ◌∷◌, Option, Some, None}
use Rattle.rules_data.specs.types.Kind.{Kind, list, set, map, big_map}
use Rattle.rules_code.specs.instructions.Types.{bool, int, nat, string, bytes, mutez}
use Rattle.rules_code.specs.instructions.Straight.{Straight, on_collections, on_numbers, on_truth, on_text, on_operations, on_tickets}
use Rattle.rules_code.specs.instructions.Straight as i

pub data Overloaded : Type 0 where
  size : Overloaded
  mem : Overloaded
  get : Overloaded
  update : Overloaded
  get_and_update : Overloaded
  add : Overloaded
  mul : Overloaded
  to_int : Overloaded
  to_bytes : Overloaded
  and : Overloaded
  or : Overloaded
  xor : Overloaded
  not : Overloaded
  concat : Overloaded
  slice : Overloaded
  -- what takes a type from the stack: EMIT with its tag, VIEW with its name and output type, TICKET
  emit : List ℕ → Overloaded
  view : List ℕ → Kind → Overloaded
  ticket : Overloaded

-- The rule that the types choose, if there is one. They are those of the operands, with whatever is below them; whether
-- all of them fit the rule its effect says.
abbrev pub overload : Overloaded → List Kind → Option Straight
overload size (list a ∷ A) = Some (on_collections i.size_list)
overload size (set k ∷ A) = Some (on_collections i.size_set)
overload size (map k v ∷ A) = Some (on_collections i.size_map)
overload size (string ∷ A) = Some (on_text i.size_string)
overload size (bytes ∷ A) = Some (on_text i.size_bytes)
overload mem (j ∷ set k ∷ A) = Some (on_collections i.mem_set)
overload mem (j ∷ map k v ∷ A) = Some (on_collections i.mem_map)
overload mem (j ∷ big_map k v ∷ A) = Some (on_collections i.mem_big_map)
overload get (j ∷ map k v ∷ A) = Some (on_collections i.get_map)
overload get (j ∷ big_map k v ∷ A) = Some (on_collections i.get_big_map)
overload update (j ∷ w ∷ set k ∷ A) = Some (on_collections i.update_set)
overload update (j ∷ w ∷ map k v ∷ A) = Some (on_collections i.update_map)
overload update (j ∷ w ∷ big_map k v ∷ A) = Some (on_collections i.update_big_map)
overload get_and_update (j ∷ w ∷ map k v ∷ A) = Some (on_collections i.get_and_update_map)
overload get_and_update (j ∷ w ∷ big_map k v ∷ A) = Some (on_collections i.get_and_update_big_map)
overload add (mutez ∷ A) = Some (on_numbers i.add_amounts)
overload add (a ∷ A) = Some (on_numbers i.add_numbers)
overload mul (mutez ∷ A) = Some (on_numbers i.mul_amounts)
overload mul (a ∷ mutez ∷ A) = Some (on_numbers i.mul_amounts)
overload mul (a ∷ b ∷ A) = Some (on_numbers i.mul_numbers)
overload to_int (nat ∷ A) = Some (on_numbers i.int)
overload to_int (bytes ∷ A) = Some (on_numbers i.bytes_to_int)
overload to_bytes (nat ∷ A) = Some (on_numbers i.nat_to_bytes)
overload to_bytes (int ∷ A) = Some (on_numbers i.int_to_bytes)
overload and (bool ∷ A) = Some (on_truth i.and_bools)
overload and (a ∷ A) = Some (on_truth i.and_numbers)
overload or (bool ∷ A) = Some (on_truth i.or_bools)
overload or (a ∷ A) = Some (on_truth i.or_numbers)
overload xor (bool ∷ A) = Some (on_truth i.xor_bools)
overload xor (a ∷ A) = Some (on_truth i.xor_numbers)
overload not (bool ∷ A) = Some (on_truth i.not_bool)
overload not (a ∷ A) = Some (on_truth i.not_number)
overload concat (string ∷ A) = Some (on_text i.concat_strings)
overload concat (bytes ∷ A) = Some (on_text i.concat_bytes)
overload concat (list string ∷ A) = Some (on_text i.concat_string_list)
overload concat (list bytes ∷ A) = Some (on_text i.concat_bytes_list)
overload slice (a ∷ b ∷ string ∷ A) = Some (on_text i.slice_string)
overload slice (a ∷ b ∷ bytes ∷ A) = Some (on_text i.slice_bytes)
overload (emit tag) (a ∷ A) = Some (on_operations (i.emit tag a))
overload (view name t) (a ∷ A) = Some (on_operations (i.view name a t))
overload ticket (k ∷ A) = Some (on_tickets (i.ticket k))
overload o A = None
