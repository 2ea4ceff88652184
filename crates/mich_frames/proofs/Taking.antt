-- The row of an instruction without bodies is the one that typing takes.
use Rattle.std.proofs.Common.{◌≡◌, ℕ, List, subst}
use Rattle.rules_text.specs.nodes.Tree.{Tree, Trees}
use Rattle.rules_text.specs.nodes.Primitives.{primitive_of_name}
use Rattle.rules_data.specs.types.Kind.{Kind}
use Rattle.rules_code.specs.instructions.Context.{Context}
use Rattle.rules_code.specs.instructions.Rules.{rule, ruled}
use Rattle.rules_code.specs.instructions.Straight.{Straight}
use Rattle.laws_code.specs.stacks.Sound.{AllTypes}
use Rattle.laws_code.proofs.typed.ForCallers.{Taken, RuledTypes, rule_taken}
use Rattle.mich_instr.specs.Code as made
use Rattle.mich_instr.specs.Typed.{IsCode, is_straight, is_transfer}

pub taken_by : (name : List ℕ) (annots : List (List ℕ)) (ts : Trees) (r : Straight) (A B : List Kind) → AllTypes A → rule (primitive_of_name name) annots ts A ≡ ruled r B → Taken r A B
taken_by name annots ts r A B types e = subst (λ x. RuledTypes x A) e (rule_taken (primitive_of_name name) annots ts A types)

-- typing takes the row
pub row_taken : {c : Context} {n app : Tree} {r : Straight} {A B : List Kind} → IsCode c n (made.straight r app) A B → AllTypes A → Taken r A B
row_taken (is_straight {name = name} {annots = annots} {ts = ts} {r = r} {A = A} {B = B} form e) types = taken_by name annots ts r A B types e
row_taken (is_transfer {name = name} {annots = annots} {ts = ts} {r = r} {A = A} {B = B} form e goes_is) types = taken_by name annots ts r A B types e
