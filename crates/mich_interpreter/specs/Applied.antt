-- The typed code of what APPLY makes (Michelson reference, "APPLY").
use Rattle.std.specs.Prelude.{◌≡◌, ℕ, Bool, true, false, ◌&&◌, [], ◌∷◌, codes}
use Rattle.rules_text.specs.nodes.Tree.{Tree, seq, none, more}
use Rattle.rules_data.specs.types.Kind.{Kind}
use Rattle.rules_data.specs.types.Kind as k
use Rattle.rules_data.specs.types.Attributes.{pushable}
use Rattle.rules_data.specs.types.Printing.{named, node_of}
use Rattle.rules_data.specs.values.Val.{Val}
use Rattle.rules_data.specs.values.Canonical.{canonical}
use Rattle.rules_data.specs.values.Literals.{read}
use Rattle.rules_code.specs.instructions.Context as place
use Rattle.rules_code.specs.instructions.Straight.{on_pairs, on_stack}
use Rattle.rules_code.specs.instructions.Straight as i
use Rattle.rules_code.specs.typing.Typing.{goes}
use Rattle.rules_code.specs.typing.Nodes.{tree_type}
use Rattle.rules_code.specs.evaluation.Calls.{push_node, applied}
use Rattle.laws_data.specs.values.Laws.{Gives}
use Rattle.laws_code.specs.evaluation.Laws.{IsType}
use Rattle.mich_instr.specs.Body.{inside}
use Rattle.mich_instr.specs.Code.{Code, Codes}
use Rattle.mich_instr.specs.Code as made

-- no literal of the type has lambdas in it
abbrev pub has_no_lambda : Kind → Bool
has_no_lambda (k.simple s) = true
has_no_lambda (k.option a) = has_no_lambda a
has_no_lambda (k.or a b) = has_no_lambda a && has_no_lambda b
has_no_lambda (k.pair a b) = has_no_lambda a && has_no_lambda b
has_no_lambda (k.list a) = has_no_lambda a
has_no_lambda (k.set a) = has_no_lambda a
has_no_lambda (k.map a b) = has_no_lambda a && has_no_lambda b
has_no_lambda (k.big_map a b) = has_no_lambda a && has_no_lambda b
has_no_lambda (k.lambda a b) = false
has_no_lambda (k.contract a) = false
has_no_lambda k.operation = true
has_no_lambda (k.ticket a) = false

abbrev pub push_code : Kind → Tree → Codes → Code
push_code a literal is = made.push a (node_of a) literal is

abbrev pub pair_code : Code
pair_code = made.straight (on_pairs (i.pair 2)) (named (codes "PAIR") none)

abbrev pub swap_code : Code
swap_code = made.straight (on_stack i.swap) (named (codes "SWAP") none)

abbrev pub rec_code : Kind → Kind → Tree → Codes → Code
rec_code a r t is = made.lambda true a r (more (node_of a) (more (node_of r) none)) t is

-- what calls a body of this code on the pair
abbrev pub call_codes : Kind → Kind → Tree → Bool → Codes → Codes
call_codes a r t false is = made.more (made.seq is) made.none
call_codes a r t true is = made.more (rec_code a r t is) (made.more swap_code (made.more (made.exec a r) made.none))

-- what pushes a literal with these lambdas, pairs, and calls a body of this code on the pair
abbrev pub pushing_codes : Kind → Tree → Codes → Kind → Kind → Tree → Bool → Codes → Codes
pushing_codes a literal held c r t recursive is = made.more (push_code a literal held) (made.more pair_code (call_codes c r t recursive is))

-- of a body of this code, where the literal of what is captured has these lambdas in it
abbrev pub made_codes : Kind → Kind → Kind → Tree → Codes → Tree → Bool → Codes → Codes
made_codes a b r literal held t recursive is =
    pushing_codes a literal held (k.pair a b) r t recursive is

-- the value is one of this type, which can be pushed
abbrev pub CapturesValue : Kind → Val → Type 0
CapturesValue a x = (pushable a ≡ true) × ((at : ℕ) → Gives (read a at (canonical x)) x)

-- a value of the first type is captured: its literal, the body, whether that is recursive, and the node that is made
pub record Captures (a b r : Kind) (x : Val) (literal body : Tree) (recursive : Bool) (node : Tree) : Type 0 where
  pub pushes : pushable a ≡ true
  pub gives : (at : ℕ) → Gives (read a at (canonical x)) x
  pub whole : IsType (k.lambda (k.pair a b) r)
  pub typed : tree_type (push_node a x) place.lambda (b ∷ []) ≡ goes (a ∷ b ∷ [])
  pub spelled : literal ≡ canonical x
  pub sequence : body ≡ seq (inside body)
  pub made : node ≡ applied a b r x body recursive
