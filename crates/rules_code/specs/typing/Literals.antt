-- Literals whose lambdas are typed (Michelson reference, "Types", the literals of each). The node is read, and then the
-- bodies in it are tried in pre-order; the contracts that it names are handed back.
use Rattle.std.specs.Prelude.{ℕ, Bool, List, Option, Some, None}
use Rattle.rules_text.specs.nodes.Tree.{Tree}
use Rattle.rules_data.specs.types.Kind.{Kind}
use Rattle.rules_data.specs.values.Val.{Val}
use Rattle.rules_data.specs.values.Literals.{Literal, Pending, good, bad, read, claims}
use Rattle.rules_code.specs.instructions.Context as place
use Rattle.rules_code.specs.instructions.Arguments.{Found, found, fault}
use Rattle.rules_code.specs.instructions.Control.{call_kinds}
use Rattle.rules_code.specs.typing.Typing.{shift}
use Rattle.rules_code.specs.typing.Bodies.{body_fault, bodies_fault}
use Rattle.rules_code.specs.typing.Nodes.{tree_type}

-- the value of a literal, with the contracts that are still to be looked up
pub record Checked : Type 0 where
  pub value : Val
  pub claims : List Pending

-- the first fault of bodies at their locations
abbrev pub fault_of_bodies : List Pending → Option ℕ
fault_of_bodies ps = bodies_fault (λ l t c A. shift l (tree_type t c A)) ps

abbrev pub checked : Val → List Pending → Option ℕ → Found Checked
checked x ps (Some l) = fault l
checked x ps None = found record { value = x; claims = claims ps }

abbrev pub of_reading : Literal Val → Found Checked
of_reading (good x ps) = checked x ps (fault_of_bodies ps)
of_reading (bad l) = fault l

abbrev pub literal : Kind → Tree → Found Checked
literal a t = of_reading (read a 0 t)

-- the fault of a node as the body of a lambda of these types, which may be recursive
abbrev pub lambda_fault : Kind → Kind → Bool → Tree → Option ℕ
lambda_fault a r recursive t = body_fault 0 (tree_type t place.lambda (call_kinds a r recursive)) r
