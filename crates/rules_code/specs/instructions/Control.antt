-- What is read of the arguments of an instruction that has bodies or a literal, apart from these (Michelson reference,
-- "Instructions"). Locations are counted in pre-order from the instruction, which is 0.
use Rattle.std.specs.Prelude.{ℕ, ◌+◌, List, [], ◌∷◌, Bool, true, false}
use Rattle.rules_text.specs.nodes.Limits.{count_limit}
use Rattle.rules_text.specs.nodes.Tree.{Tree, Trees, none, more, size}
use Rattle.rules_data.specs.forms.Spelling.{default_name}
use Rattle.rules_data.specs.types.Kind.{Kind, lambda}
use Rattle.rules_data.specs.types.Attributes.{pushable}
use Rattle.rules_data.specs.types.Reading.{any_kind}
use Rattle.rules_code.specs.instructions.Arguments.{Found, found, fault, and_then, no_argument, type_argument, count_argument, annotated}

-- PUSH: the type, and the literal with its location
pub record Pushed : Type 0 where
  pub kind : Kind
  pub location : ℕ
  pub literal : Tree

abbrev pub push_of : Trees → Found Pushed
push_of (more t (more x none)) = and_then (type_argument pushable 1 t) (λ a. found record { kind = a; location = 1 + size t; literal = x })
push_of ts = fault 0

-- DIP: how many values are left as they are
abbrev pub dip_of : Trees → Found ℕ
dip_of (more b none) = found 1
dip_of (more n (more b none)) = count_argument 0 count_limit 1 n
dip_of ts = fault 0

-- LAMBDA and LAMBDA_REC: the types of the argument and of the result
pub record Arrow : Type 0 where
  pub argument : Kind
  pub result : Kind

abbrev pub lambda_of : Trees → Found Arrow
lambda_of (more a (more r (more b none))) =
    and_then (type_argument any_kind 1 a) (λ t. and_then (type_argument any_kind (1 + size a) r) (λ u. found record { argument = t; result = u }))
lambda_of ts = fault 0

-- the stack that a lambda's body begins with: the argument, and below it a recursive lambda itself
abbrev pub call_kinds : Kind → Kind → Bool → List Kind
call_kinds a r true = a ∷ lambda a r ∷ []
call_kinds a r false = a ∷ []

-- SELF: the name of the entrypoint
abbrev pub self_of : List (List ℕ) → Trees → Found (List ℕ)
self_of annots ts = and_then (annotated default_name annots) (λ name. no_argument ts name)
