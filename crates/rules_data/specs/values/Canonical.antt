-- The canonical literal of a value: pairs have two parts, there are no annotations, and a lambda keeps its node
-- (Michelson reference, "PACK": the optimized form).
use Rattle.std.specs.Prelude.{Bool, true, false, ℕ, List, codes}
use Rattle.rules_text.specs.nodes.Tree.{Tree, int, str, bytes, seq, Trees, none, more}
use Rattle.rules_data.specs.types.Printing.{named, node_of}
use Rattle.rules_data.specs.values.Val.{Val, Vals, no_val, more_vals, Pairs, no_pair, more_pairs}
use Rattle.rules_data.specs.values.Val as v

abbrev pub over_one : List ℕ → Tree → Tree
over_one name t = named name (more t none)

abbrev pub over_two : List ℕ → Tree → Tree → Tree
over_two name t u = named name (more t (more u none))

abbrev pub truth_node : Bool → Tree
truth_node true = named (codes "True") none
truth_node false = named (codes "False") none

abbrev pub lambda_node : Tree → Bool → Tree
lambda_node t true = over_one (codes "Lambda_rec") t
lambda_node t false = t

abbrev mutual
  -- A ticket is written with its issuer, type, content and amount, which is no literal of any type. An operation has
  -- no literal, and the empty sequence stands for it.
  pub canonical : Val → Tree
  canonical v.unit = named (codes "Unit") none
  canonical (v.truth b) = truth_node b
  canonical (v.number n) = int n
  canonical (v.text b) = str b
  canonical (v.bytes b) = bytes b
  canonical v.nothing = named (codes "None") none
  canonical (v.some x) = over_one (codes "Some") (canonical x)
  canonical (v.left x) = over_one (codes "Left") (canonical x)
  canonical (v.right x) = over_one (codes "Right") (canonical x)
  canonical (v.both x y) = over_two (codes "Pair") (canonical x) (canonical y)
  canonical (v.list xs) = seq (canonicals xs)
  canonical (v.set xs) = seq (canonicals xs)
  canonical (v.table es) = seq (canonical_entries es)
  canonical (v.big_table es) = seq (canonical_entries es)
  canonical (v.lambda t recursive) = lambda_node t recursive
  canonical (v.operation n) = seq none
  canonical (v.ticket issuer kind content amount) =
      named (codes "Ticket") (more (bytes issuer) (more (node_of kind) (more (canonical content) (more (int amount) none))))

  pub canonicals : Vals → Trees
  canonicals no_val = none
  canonicals (more_vals x xs) = more (canonical x) (canonicals xs)

  pub canonical_entries : Pairs → Trees
  canonical_entries no_pair = none
  canonical_entries (more_pairs x y es) = more (over_two (codes "Elt") (canonical x) (canonical y)) (canonical_entries es)
