-- What `pack` answers to a node, `Pack type literal` (Michelson reference, "PACK").
use Rattle.std.specs.Prelude.{ℕ, ◌+◌, nat_le, List, [], ◌∷◌, length, codes, None, Some, if◌then◌else◌}
use Rattle.std.specs.declared.option.Option.{Option}
use Rattle.std.specs.Str.{bytes_eq}
use Rattle.rules_text.specs.nodes.Limits.{byte_limit}
use Rattle.rules_text.specs.nodes.Tree.{Tree, size}
use Rattle.rules_data.specs.types.Kind.{Kind}
use Rattle.rules_data.specs.types.Attributes.{packable}
use Rattle.rules_data.specs.types.Reading.{Reading, a_type, bad_type, too_large, type_at}
use Rattle.rules_data.specs.values.Val.{Val}
use Rattle.rules_data.specs.values.Literals.{Pending, body, claim, read}
use Rattle.rules_code.specs.instructions.Arguments.{Found, found, fault}
use Rattle.rules_code.specs.typing.Literals.{Checked, of_reading}
use Rattle.rules_code.specs.steps.Packing.{packed}
use Rattle.rules_files.specs.statements.Statements.{named}
use Rattle.rules_files.specs.commands.Answers.{Answer, done_with, refused_with}
use Rattle.rules_files.specs.commands.Codec.{bytes_line}

abbrev pub ill_typed_at : ℕ → Answer
ill_typed_at location = refused_with (codes "IllTyped") location

abbrev pub packed_answer : List ℕ → Answer
packed_answer b = if nat_le (length b) byte_limit then done_with (bytes_line b) else refused_with (codes "SizeLimit") 0

-- the location of the first contract that a literal names: none is there
abbrev pub first_claim : List Pending → Option ℕ
first_claim [] = None
first_claim (claim at address a ∷ rest) = Some at
first_claim (body at a b recursive t ∷ rest) = first_claim rest

abbrev pub unless_claimed : Option ℕ → Val → Answer
unless_claimed (Some location) v = ill_typed_at location
unless_claimed None v = packed_answer (packed v)

abbrev pub literal_answer : Found Checked → Answer
literal_answer (found c) = unless_claimed (first_claim c.claims) c.value
literal_answer (fault location) = ill_typed_at location

-- the literal of a type at a location
abbrev pub pack_literal : Kind → ℕ → Tree → Answer
pack_literal a at n = if packable a then literal_answer (of_reading (read a at n)) else ill_typed_at 1

-- the type stands at 1 and the literal behind it
abbrev pub packing_answer : Reading → Tree → Tree → Answer
packing_answer (a_type a) t n = pack_literal a (1 + size t) n
packing_answer (bad_type location) t n = ill_typed_at location
packing_answer too_large t n = ill_typed_at 1

abbrev pub pack_fields : List Tree → Option Answer
pack_fields (t ∷ n ∷ []) = Some (packing_answer (type_at 1 t) t n)
pack_fields _ = None

abbrev pub pack_by : List ℕ → List Tree → Option Answer
pack_by name fields = if bytes_eq name (codes "Pack") then pack_fields fields else None

-- the answer to a node, where it has the form
abbrev pub pack_node : Tree → Option Answer
pack_node t = named pack_by t
