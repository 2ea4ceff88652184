-- What is still to be tried of literals.
use Rattle.std.specs.Prelude.{◌≡◌, ℕ, ◌+◌, max, option_map, Bool, List, [], ◌∷◌, Option, Some, None, Result, Ok, Err}
use Rattle.rules_text.specs.nodes.Tree.{Tree, seq, size}
use Rattle.rules_data.specs.types.Kind.{Kind}
use Rattle.rules_data.specs.values.Val.{Val}
use Rattle.rules_data.specs.values.Literals.{Pending, body, claim, Literal, good, bad}
use Rattle.rules_code.specs.instructions.Arguments.{Found, found, fault}
use Rattle.rules_code.specs.instructions.Context.{lambda}
use Rattle.rules_code.specs.instructions.Control.{call_kinds}
use Rattle.rules_code.specs.typing.Typing.{shift}
use Rattle.rules_code.specs.typing.Bodies.{body_fault}
use Rattle.rules_code.specs.typing.Nodes.{tree_type}
use Rattle.rules_code.specs.typing.Literals.{Checked}
use Rattle.mich_instr.specs.Body.{inside}
use Rattle.mich_instr.specs.Code.{Codes}
use Rattle.mich_instr.specs.Code as made
use Rattle.mich_instr.specs.View.{code}
use Rattle.mich_instr.specs.declared.instr.Instr.{Instr}
use Rattle.mich_term.specs.ValueView.{val}
use Rattle.mich_data.specs.View.{all_pending}
use Rattle.mich_data.specs.declared.pending.Read.{Read}
use Rattle.mich_typed.specs.declared.error.CheckError.{CheckError}
use Rattle.mich_typed.specs.declared.error.CheckError.TheVariants as error
use Rattle.mich_check.specs.declared.literals.Checked.{Checked as CodeChecked}

-- the greatest location behind a body
abbrev pub reach : List Pending → ℕ
reach [] = 0
reach (body l a r recursive t ∷ ps) = max (l + size t) (reach ps)
reach (claim l b a ∷ ps) = reach ps

-- the size of the largest body
abbrev pub largest : List Pending → ℕ
largest [] = 0
largest (body l a r recursive t ∷ ps) = max (size t) (largest ps)
largest (claim l b a ∷ ps) = largest ps

-- each body is a sequence
abbrev pub AreSequences : List Pending → Type 0
AreSequences [] = Unit {0}
AreSequences (body l a r recursive t ∷ ps) = (t ≡ seq (inside t)) × AreSequences ps
AreSequences (claim l b a ∷ ps) = AreSequences ps

-- an instruction, if there is one, as a list
abbrev pub codes_if : Option Instr → Codes
codes_if None = made.none
codes_if (Some i) = made.more (code i) made.none

-- a fault counted from a location
abbrev pub moved : ℕ → Option ℕ → Option ℕ
moved at o = option_map (λ m. at + m) o

-- a fault is the answer, if there is one
abbrev pub IsFaulty : {T : Type 0} → Option ℕ → Result T CheckError → Type 0
IsFaulty o (Ok u) = o ≡ None
IsFaulty o (Err (error.IllTyped l)) = o ≡ Some l
IsFaulty o (Err error.Memory) = Unit {0}

-- the fault of a node at a location as the body of a lambda
abbrev pub called_fault : ℕ → Kind → Kind → Bool → Tree → Option ℕ
called_fault at a r recursive t = body_fault at (shift at (tree_type t lambda (call_kinds a r recursive))) r

-- the fault of what is pending, if it is a body
abbrev pub item_fault : Pending → Option ℕ
item_fault (body l a r recursive t) = called_fault l a r recursive t
item_fault (claim l b a) = None

-- a literal of a type at a location, read from one node, counted from another at which it stands
abbrev pub IsRead : ℕ → Literal Val → Result Read CheckError → Type 0
IsRead at r (Ok x) = r ≡ good (val x.value) (all_pending x.pending)
IsRead at r (Err (error.IllTyped l)) = (m : ℕ) × (r ≡ bad m) × (l ≡ at + m)
IsRead at r (Err error.Memory) = Unit {0}

-- what is read has this value
abbrev pub HasValue : Val → Literal Val → Type 0
HasValue y (good x ps) = y ≡ x
HasValue y (bad l) = ⊥

abbrev pub checked : CodeChecked → Checked
checked c = record { value = val c.value; claims = all_pending c.claims }

-- a literal has this value, or its first fault is here
abbrev pub IsChecked : Found Checked → Result CodeChecked CheckError → Type 0
IsChecked f (Ok c) = f ≡ found (checked c)
IsChecked f (Err (error.IllTyped l)) = f ≡ fault l
IsChecked f (Err error.Memory) = Unit {0}
