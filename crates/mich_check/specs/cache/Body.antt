-- The bodies of lambdas (Michelson reference, "LAMBDA" and "LAMBDA_REC").
use Rattle.std.specs.Prelude.{Bool, List, Ok}
use Rattle.mich_base.specs.TypeView.{kind}
use Rattle.mich_base.specs.View.{tree}
use Rattle.mich_base.specs.declared.node.Node.{Node}
use Rattle.mich_base.specs.declared.ty.Ty.{Ty}
use Rattle.mich_control.specs.Answers.{IsLambda}
use Rattle.mich_instr.specs.declared.instr.Instr.{Instr}

-- the node goes from the first type to the second, and this is its typed code
abbrev pub IsBody : Ty → Ty → Bool → Node → List Instr → Type 0
IsBody arg ret recursive node is = IsLambda (kind arg) (kind ret) recursive (tree node) (Ok is)
