-- What an instruction changes of the types of the stack. Stacks are written with the top first.
use Rattle.std.specs.Prelude.{Bool, nat_le, if◌then◌else◌, List, [], ◌∷◌, ◌++◌, Option, Some, None}
use Rattle.std.specs.List.{list_all}
use Rattle.rules_text.specs.nodes.Limits.{type_limit}
use Rattle.rules_data.specs.types.Kind.{Kind, nodes}

-- the types that an instruction makes, and below them those that it leaves as they are, or moves
pub record Change : Type 0 where
  pub made : List Kind
  pub kept : List Kind

abbrev pub after : Change → List Kind
after c = c.made ++ c.kept

-- makes one type on a stack
abbrev pub makes : Kind → List Kind → Option Change
makes a A = Some record { made = a ∷ []; kept = A }

abbrev pub keeps : List Kind → Option Change
keeps A = Some record { made = []; kept = A }

abbrev pub where_true : Bool → Option Change → Option Change
where_true b c = if b then c else None

-- whether the types that it makes are within the limit of types
abbrev pub is_within_limit : Change → Bool
is_within_limit c = list_all (λ a. nat_le (nodes a) type_limit) c.made
