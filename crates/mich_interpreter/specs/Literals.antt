-- The literals of PUSH, with the lambdas in them (Michelson reference, "PUSH").
use Rattle.std.specs.Prelude.{◌≡◌, ℕ, Bool, List, [], ◌∷◌}
use Rattle.rules_text.specs.nodes.Tree.{Tree, Trees, none, seq}
use Rattle.rules_data.specs.types.Kind.{Kind}
use Rattle.rules_data.specs.values.Val.{Val, lambda}
use Rattle.rules_data.specs.values.Literals.{Pending, good, read}
use Rattle.rules_code.specs.instructions.Context as place
use Rattle.rules_code.specs.instructions.Control.{call_kinds}
use Rattle.mich_instr.specs.Code.{Codes}
use Rattle.mich_instr.specs.Code as made
use Rattle.mich_instr.specs.Typed.{AreCode, AreHeld}

-- the literal at a location has a value, and these are the lambdas in it
abbrev pub HoldsLiteral : ℕ → Kind → Tree → Codes → Type 0
HoldsLiteral at a t is = (x : Val) × (ps : List Pending) × (read a at t ≡ good x ps) × AreHeld ps is

-- the value is a lambda of these types, and this is its code
abbrev pub IsLiteralOf : Kind → Kind → Val → Codes → Type 0
IsLiteralOf a r x is =
    (recursive : Bool) × (ts : Trees) × (js : Codes) × (x ≡ lambda (seq ts) recursive) ×
    (is ≡ made.more (made.lambda recursive a r none (seq ts) js) made.none) × AreCode place.lambda ts js (call_kinds a r recursive) (r ∷ [])
