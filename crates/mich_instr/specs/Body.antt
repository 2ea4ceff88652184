-- The bodies of lambdas with their typed code (Michelson reference, "LAMBDA" and "LAMBDA_REC").
use Rattle.std.specs.Prelude.{Bool, List, [], ◌∷◌, ◌++◌, Option, Some, None}
use Rattle.rules_text.specs.nodes.Tree.{Tree, seq, Trees, none}
use Rattle.rules_code.specs.instructions.Context as place
use Rattle.rules_code.specs.instructions.Control.{call_kinds}
use Rattle.mich_base.specs.TypeView.{kind}
use Rattle.mich_base.specs.View.{tree}
use Rattle.mich_base.specs.declared.node.Node.{Node}
use Rattle.mich_base.specs.declared.ty.Ty.{Ty}
use Rattle.mich_instr.specs.Code.{Code, Codes}
use Rattle.mich_instr.specs.Code as made
use Rattle.mich_instr.specs.Typed.{AreCode}
use Rattle.mich_instr.specs.View.{codes}
use Rattle.mich_instr.specs.declared.instr.Instr.{Instr}

-- the instructions in a sequence
abbrev pub inside : Tree → Trees
inside (seq ts) = ts
inside t = none

-- the code is the typed code of the node as the body of a lambda of these types, which may be recursive
abbrev pub IsBody : Ty → Ty → Bool → Node → List Instr → Type 0
IsBody arg ret recursive node is = AreCode place.lambda (inside (tree node)) (codes is) (call_kinds (kind arg) (kind ret) recursive) (kind ret ∷ [])

-- the code of a lambda is the typed code of its body
abbrev pub IsHeld : Code → Type 0
IsHeld (made.lambda recursive a r written t is) = AreCode place.lambda (inside t) is (call_kinds a r recursive) (r ∷ [])
IsHeld i = Unit {0}

abbrev pub AllHeld : Codes → Type 0
AllHeld made.none = Unit {0}
AllHeld (made.more i is) = IsHeld i × AllHeld is

-- the body of a lambda, if it is one
abbrev pub body_of : Code → List Tree
body_of (made.lambda recursive a r written t is) = t ∷ []
body_of i = []

-- the bodies of the lambdas
abbrev pub bodies_in : Codes → List Tree
bodies_in made.none = []
bodies_in (made.more i is) = body_of i ++ bodies_in is

abbrev pub bodies_if : Option Node → List Tree
bodies_if (Some n) = tree n ∷ []
bodies_if None = []
