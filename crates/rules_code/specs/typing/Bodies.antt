-- The bodies of lambdas in literals, which are tried when the literal has been read (Michelson reference, "lambda").
use Rattle.std.specs.Prelude.{ℕ, if◌then◌else◌, List, [], ◌∷◌, Option, Some, None}
use Rattle.rules_text.specs.nodes.Tree.{Tree}
use Rattle.rules_data.specs.types.Kind.{Kind}
use Rattle.rules_data.specs.values.Literals.{Pending, body, claim}
use Rattle.rules_code.specs.instructions.Same.{same_kinds}
use Rattle.rules_code.specs.instructions.Context as place
use Rattle.rules_code.specs.instructions.Control.{call_kinds}
use Rattle.rules_code.specs.typing.Typing.{Typing, goes, fails, bad, Typer}

-- the fault of a body at a location that should end with one value of a type, or fail; another end is at the body
abbrev pub body_fault : ℕ → Typing → Kind → Option ℕ
body_fault at (goes B) r = if same_kinds B (r ∷ []) then None else Some at
body_fault at fails r = None
body_fault at (bad l) r = Some l

abbrev pub first_fault : Option ℕ → Option ℕ → Option ℕ
first_fault (Some l) later = Some l
first_fault None later = later

-- the first fault of the bodies, by the typing of the body at each location
abbrev pub bodies_fault : (ℕ → Tree → Typer) → List Pending → Option ℕ
bodies_fault typing [] = None
bodies_fault typing (body at a r recursive t ∷ ps) = first_fault (body_fault at (typing at t place.lambda (call_kinds a r recursive)) r) (bodies_fault typing ps)
bodies_fault typing (claim at b a ∷ ps) = bodies_fault typing ps
