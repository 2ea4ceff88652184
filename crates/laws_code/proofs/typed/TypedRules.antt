-- The rows that are taken make types.
use Rattle.std.proofs.Common.{◌≡◌, ℕ, nat_le, Bool, true, false, List, [], ◌∷◌, ◌++◌, Option, Some, None, refl}
use Rattle.std.specs.Prelude.{if◌then◌else◌}
use Rattle.std.specs.List.{list_all}
use Rattle.std.proofs.lemmas.Bool.{and_parts, leb-true}
use Rattle.rules_text.specs.nodes.Limits.{type_limit}
use Rattle.rules_text.specs.nodes.Tree.{Trees}
use Rattle.rules_text.specs.declared.nodes.Primitive.{Primitive}
use Rattle.rules_data.specs.types.Kind.{Kind, nodes}
use Rattle.rules_data.specs.types.Kind as k
use Rattle.rules_code.specs.instructions.Types as ty
use Rattle.rules_code.specs.instructions.Straight.{Straight}
use Rattle.rules_code.specs.instructions.Overloads.{Overloaded, overload}
use Rattle.rules_code.specs.instructions.Overloads as o
use Rattle.rules_code.specs.instructions.Arguments.{Found, found, fault}
use Rattle.rules_code.specs.instructions.Instructions.{Instruction, row, overloaded, choose, instruction}
use Rattle.rules_code.specs.instructions.Change.{Change, after, is_within_limit}
use Rattle.rules_code.specs.instructions.Effect.{change}
use Rattle.rules_code.specs.instructions.Rules.{Ruled, ruled, faulty, with_change, with_row, with_instruction, rule}
use Rattle.laws_code.specs.stacks.Sound.{AllTypes}
use Rattle.laws_code.proofs.typed.TypedData.{RowTypes, AllWell, ChangeTypes}
use Rattle.laws_code.proofs.typed.TypedRows.{change_types}
use Rattle.laws_code.proofs.typed.Carried.{FoundHas, Carries, instruction_carries}

-- ---- the rows that are chosen

abbrev pub RowIf : Option Straight → Type 0
RowIf None = Unit {0}
RowIf (Some r) = RowTypes r

overload_carries : (w : Overloaded) (A : List Kind) → Carries (overloaded w) → RowIf (overload w A)
overload_carries o.size (k.list a ∷ A) h = tt
overload_carries o.size (k.set c ∷ A) h = tt
overload_carries o.size (k.map c v ∷ A) h = tt
overload_carries o.size (ty.string ∷ A) h = tt
overload_carries o.size (ty.bytes ∷ A) h = tt
overload_carries o.mem (j ∷ k.set c ∷ A) h = tt
overload_carries o.mem (j ∷ k.map c v ∷ A) h = tt
overload_carries o.mem (j ∷ k.big_map c v ∷ A) h = tt
overload_carries o.get (j ∷ k.map c v ∷ A) h = tt
overload_carries o.get (j ∷ k.big_map c v ∷ A) h = tt
overload_carries o.update (j ∷ w ∷ k.set c ∷ A) h = tt
overload_carries o.update (j ∷ w ∷ k.map c v ∷ A) h = tt
overload_carries o.update (j ∷ w ∷ k.big_map c v ∷ A) h = tt
overload_carries o.get_and_update (j ∷ w ∷ k.map c v ∷ A) h = tt
overload_carries o.get_and_update (j ∷ w ∷ k.big_map c v ∷ A) h = tt
overload_carries o.add (ty.mutez ∷ A) h = tt
overload_carries o.add (a ∷ A) h = tt
overload_carries o.mul (ty.mutez ∷ A) h = tt
overload_carries o.mul (a ∷ ty.mutez ∷ A) h = tt
overload_carries o.mul (a ∷ b ∷ A) h = tt
overload_carries o.to_int (ty.nat ∷ A) h = tt
overload_carries o.to_int (ty.bytes ∷ A) h = tt
overload_carries o.to_bytes (ty.nat ∷ A) h = tt
overload_carries o.to_bytes (ty.int ∷ A) h = tt
overload_carries o.and (ty.bool ∷ A) h = tt
overload_carries o.and (a ∷ A) h = tt
overload_carries o.or (ty.bool ∷ A) h = tt
overload_carries o.or (a ∷ A) h = tt
overload_carries o.xor (ty.bool ∷ A) h = tt
overload_carries o.xor (a ∷ A) h = tt
overload_carries o.not (ty.bool ∷ A) h = tt
overload_carries o.not (a ∷ A) h = tt
overload_carries o.concat (ty.string ∷ A) h = tt
overload_carries o.concat (ty.bytes ∷ A) h = tt
overload_carries o.concat (k.list ty.string ∷ A) h = tt
overload_carries o.concat (k.list ty.bytes ∷ A) h = tt
overload_carries o.slice (a ∷ b ∷ ty.string ∷ A) h = tt
overload_carries o.slice (a ∷ b ∷ ty.bytes ∷ A) h = tt
overload_carries (o.emit tag) (a ∷ A) h = tt
overload_carries (o.view name t) (a ∷ A) h = h
overload_carries o.ticket (c ∷ A) h = tt
overload_carries _ _ h = tt

choose_carries : (w : Instruction) (A : List Kind) → Carries w → RowIf (choose w A)
choose_carries (row r) A h = h
choose_carries (overloaded w) A h = overload_carries w A h

-- ---- the rows that are taken

limited_types : (A : List Kind) → AllWell A → list_all (λ a. nat_le (nodes a) type_limit) A ≡ true → AllTypes A
limited_types [] h e = tt
limited_types (a ∷ A) h e = let f = and_parts _ _ e in ((h.0, leb-true (nodes a) type_limit f.0), limited_types A h.1 f.1)

both_types : (A B : List Kind) → AllTypes A → AllTypes B → AllTypes (A ++ B)
both_types [] B h g = g
both_types (a ∷ A) B h g = (h.0, both_types A B h.1 g)

-- a row that is taken carries types, and changes the types of the stack by its effect, within the limit
pub record Taken (r : Straight) (A B : List Kind) : Type 0 where
  pub carries : RowTypes r
  pub effect : Change
  pub changes : change r A ≡ Some effect
  pub stack : B ≡ after effect
  pub types : AllTypes B

abbrev pub RuledTypes : Ruled → List Kind → Type 0
RuledTypes (ruled r B) A = Taken r A B
RuledTypes (faulty l) A = Unit {0}

changed : (r : Straight) (o : Option Change) (A : List Kind) → RowTypes r → ChangeTypes o → change r A ≡ o →
    RuledTypes (with_change r o) A
changed r None A t h e = tt
changed r (Some c) A t h e = by_test (is_within_limit c) refl
  where
    by_test : (b : Bool) → is_within_limit c ≡ b → RuledTypes (if b then ruled r (after c) else faulty 0) A
    by_test true f = record {
      carries = t;
      effect = c;
      changes = e;
      stack = refl;
      types = both_types c.made c.kept
          (limited_types c.made h.0 f) h.1;
    }
    by_test false f = tt

row_taken : (o : Option Straight) (A : List Kind) → RowIf o → AllTypes A → RuledTypes (with_row o A) A
row_taken None A t h = tt
row_taken (Some r) A t h = changed r (change r A) A t (change_types r A t h) refl

instruction_taken : (x : Found Instruction) (A : List Kind) → FoundHas Carries x → AllTypes A →
    RuledTypes (with_instruction x A) A
instruction_taken (found w) A t h = row_taken (choose w A) A (choose_carries w A t) h
instruction_taken (fault l) A t h = tt

pub rule_taken : (name : Option Primitive) (annots : List (List ℕ)) (ts : Trees) (A : List Kind) → AllTypes A →
    RuledTypes (rule name annots ts A) A
rule_taken name annots ts A h = instruction_taken (instruction name annots ts) A (instruction_carries name annots ts) h
