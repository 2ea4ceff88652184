-- Lambdas on top of a stack, the values that their bodies begin with, and the bodies of lambdas that capture a value.
use Rattle.std.specs.Prelude.{Bool, true, false, List, [], ◌∷◌, codes}
use Rattle.rules_text.specs.nodes.Tree.{Tree, seq, none, trees_of}
use Rattle.rules_data.specs.types.Kind.{Kind}
use Rattle.rules_data.specs.types.Printing.{named}
use Rattle.rules_code.specs.evaluation.Calls.{push_node}
use Rattle.rules_data.specs.values.Val.{Val}
use Rattle.rules_data.specs.values.Val as v

-- a lambda on top, whose body is a sequence
abbrev pub HasLambda : List Val → Type 0
HasLambda (v.lambda (seq body) recursive ∷ V) = Unit {0}
HasLambda _ = ⊥

-- the argument, and below it a recursive lambda itself
abbrev pub called : Val → Tree → Bool → List Val
called x body true = x ∷ v.lambda body true ∷ []
called x body false = x ∷ []

-- a body that pushes a value of a type, pairs it with what is there, and goes on with another body
abbrev pub capturing : Kind → Val → Tree → Tree
capturing a x body = seq (trees_of (push_node a x ∷ named (codes "PAIR") none ∷ body ∷ []))
