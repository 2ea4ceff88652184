-- What a walk over a node knows of it as a type, without the type itself.
use Rattle.std.specs.Prelude.{ℕ, ◌+◌, min, Bool, true, false, ◌&&◌, if◌then◌else◌, List, [], ◌∷◌, Result, Ok, Err}
use Rattle.rules_text.specs.nodes.Tree.{Tree, int, str, bytes, prim, seq, Trees, none, more, size}
use Rattle.rules_data.specs.declared.types.OneArgument.{OneArgument}
use Rattle.rules_data.specs.declared.types.OneArgument.TheVariants as one
use Rattle.rules_data.specs.declared.types.TwoArguments.{TwoArguments}
use Rattle.rules_data.specs.declared.types.TwoArguments.TheVariants as two
use Rattle.rules_data.specs.types.Reading.{Former, simple_type, operation_type, one_argument, two_arguments, pair_type, no_type, former_of_name}
use Rattle.mich_types.specs.declared.scan.Summary.{Summary}

abbrev pub nodes_over : ℕ → ℕ → ℕ
nodes_over a b = min (a + b + 1) 2001

abbrev pub summary_of : ℕ → Bool → Bool → Bool → Summary
summary_of n c p b = record { nodes = n; comparable = c; passable = p; big_value = b }

abbrev pub of_simple : Summary
of_simple = summary_of 1 true true true

abbrev pub of_operation : Summary
of_operation = summary_of 1 false false false

abbrev pub asked_of_argument : OneArgument → Summary → Bool
asked_of_argument one.Option s = true
asked_of_argument one.List s = true
asked_of_argument one.Set s = s.comparable
asked_of_argument one.Contract s = s.passable
asked_of_argument one.Ticket s = s.comparable

abbrev pub of_argument : OneArgument → Summary → Summary
of_argument one.Option s = summary_of (nodes_over s.nodes 0) s.comparable s.passable s.big_value
of_argument one.List s = summary_of (nodes_over s.nodes 0) false s.passable s.big_value
of_argument one.Set s = summary_of (nodes_over s.nodes 0) false s.passable s.big_value
of_argument one.Contract s = summary_of (nodes_over s.nodes 0) false true false
of_argument one.Ticket s = summary_of (nodes_over s.nodes 0) false true true

abbrev pub asked_of_first : TwoArguments → Summary → Bool
asked_of_first two.Or s = true
asked_of_first two.Map s = s.comparable
asked_of_first two.BigMap s = s.comparable
asked_of_first two.Lambda s = true

abbrev pub asked_of_second : TwoArguments → Summary → Bool
asked_of_second two.Or s = true
asked_of_second two.Map s = true
asked_of_second two.BigMap s = s.big_value
asked_of_second two.Lambda s = true

abbrev pub of_pair : Summary → Summary → Summary
of_pair s u = summary_of (nodes_over s.nodes u.nodes) (s.comparable && u.comparable) (s.passable && u.passable) (s.big_value && u.big_value)

abbrev pub of_arguments : TwoArguments → Summary → Summary → Summary
of_arguments two.Or s u = of_pair s u
of_arguments two.Map s u = summary_of (nodes_over s.nodes u.nodes) false (s.passable && u.passable) (s.big_value && u.big_value)
of_arguments two.BigMap s u = summary_of (nodes_over s.nodes u.nodes) false (s.passable && u.passable) false
of_arguments two.Lambda s u = summary_of (nodes_over s.nodes u.nodes) false true true

-- an argument: its location, and its summary or the location of its fault
pub data Part : Type 0 where
  part : ℕ → Result Summary ℕ → Part

abbrev pub with_part : (Summary → Bool) → Part → (Summary → Result Summary ℕ) → Result Summary ℕ
with_part asked (part at (Ok s)) next = if asked s then next s else Err at
with_part asked (part at (Err l)) next = Err l

abbrev pub joined : Summary → Result Summary ℕ → Result Summary ℕ
joined s (Ok u) = Ok (of_pair s u)
joined s (Err l) = Err l

-- the pair of a part and those behind it
abbrev pub chained : Result Summary ℕ → List Part → Result Summary ℕ
chained (Err l) ps = Err l
chained (Ok s) [] = Ok s
chained (Ok s) (part at r ∷ ps) = chained (joined s r) ps

abbrev pub bare : Summary → ℕ → List Part → Result Summary ℕ
bare s at [] = Ok s
bare s at (q ∷ qs) = Err at

abbrev pub over_one : OneArgument → ℕ → List Part → Result Summary ℕ
over_one f at [] = Err at
over_one f at (q ∷ []) = with_part (asked_of_argument f) q (λ s. Ok (of_argument f s))
over_one f at (q ∷ r ∷ rs) = Err at

abbrev pub over_two : TwoArguments → ℕ → List Part → Result Summary ℕ
over_two f at [] = Err at
over_two f at (q ∷ []) = Err at
over_two f at (q ∷ r ∷ []) = with_part (asked_of_first f) q (λ s. with_part (asked_of_second f) r (λ u. Ok (of_arguments f s u)))
over_two f at (q ∷ r ∷ t ∷ ts) = Err at

abbrev pub over_pair : ℕ → List Part → Result Summary ℕ
over_pair at [] = Err at
over_pair at (q ∷ []) = Err at
over_pair at (part l r ∷ q ∷ qs) = chained r (q ∷ qs)

abbrev pub over : Former → ℕ → List Part → Result Summary ℕ
over (simple_type s) = bare of_simple
over operation_type = bare of_operation
over (one_argument f) = over_one f
over (two_arguments f) = over_two f
over pair_type = over_pair
over no_type = λ at ps. Err at

abbrev mutual
  pub scanned : ℕ → Tree → Result Summary ℕ
  scanned at (int n) = Err at
  scanned at (str s) = Err at
  scanned at (bytes b) = Err at
  scanned at (seq ts) = Err at
  scanned at (prim name annots args) = over (former_of_name name) at (scans (at + 1) args)

  pub scans : ℕ → Trees → List Part
  scans at none = []
  scans at (more t ts) = part at (scanned at t) ∷ scans (at + size t) ts
