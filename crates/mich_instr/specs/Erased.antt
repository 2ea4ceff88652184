-- The node that typed code came from, without the annotations that have no effect (Michelson reference, "Annotations").
use Rattle.std.specs.Prelude.{ℕ, Bool, true, false, List, codes}
use Rattle.rules_text.specs.nodes.Tree.{Tree, prim, Trees, none, more}
use Rattle.rules_text.specs.nodes.Tree as node
use Rattle.rules_data.specs.types.Printing.{named}
use Rattle.mich_instr.specs.Code.{Code, Codes}
use Rattle.mich_instr.specs.Code as made
use Rattle.mich_instr.specs.View.{node_of}

-- one argument, or two
abbrev pub one : Tree → Trees
one t = more t none

abbrev pub two : Tree → Tree → Trees
two t u = more t (one u)

-- nodes and then one more
abbrev pub and_last : Trees → Tree → Trees
and_last none t = one t
and_last (more u us) t = more u (and_last us t)

abbrev pub lambda_name : Bool → List ℕ
lambda_name true = codes "LAMBDA_REC"
lambda_name false = codes "LAMBDA"

abbrev mutual
  pub erased : Code → Tree
  erased (made.seq is) = node.seq (all_erased is)
  erased (made.straight r t) = t
  erased (made.push a t u is) = named (codes "PUSH") (two t u)
  erased (made.dip n ts is) = named (codes "DIP") (and_last ts (node.seq (all_erased is)))
  erased (made.lambda recursive a r ts t is) = named (lambda_name recursive) (and_last ts t)
  erased (made.exec a r) = named (codes "EXEC") none
  erased (made.apply a b r) = named (codes "APPLY") none
  erased (made.if_bool is js) = named (codes "IF") (two (node.seq (all_erased is)) (node.seq (all_erased js)))
  erased (made.if_none is js) = named (codes "IF_NONE") (two (node.seq (all_erased is)) (node.seq (all_erased js)))
  erased (made.if_left is js) = named (codes "IF_LEFT") (two (node.seq (all_erased is)) (node.seq (all_erased js)))
  erased (made.if_cons is js) = named (codes "IF_CONS") (two (node.seq (all_erased is)) (node.seq (all_erased js)))
  erased (made.loop is) = named (codes "LOOP") (one (node.seq (all_erased is)))
  erased (made.loop_left is) = named (codes "LOOP_LEFT") (one (node.seq (all_erased is)))
  erased (made.iter is) = named (codes "ITER") (one (node.seq (all_erased is)))
  erased (made.map is) = named (codes "MAP") (one (node.seq (all_erased is)))
  erased (made.failwith a) = named (codes "FAILWITH") none
  erased made.never = named (codes "NEVER") none
  erased (made.self entrypoint annots) = prim (codes "SELF") annots none
  erased (made.create_contract s) = named (codes "CREATE_CONTRACT") (one (node_of s))

  pub all_erased : Codes → Trees
  all_erased made.none = none
  all_erased (made.more i is) = more (erased i) (all_erased is)
