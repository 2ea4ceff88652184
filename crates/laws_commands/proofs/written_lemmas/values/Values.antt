-- The canonical literal of a value that is written has the forms of tokens, and so has the node of a type.
use Rattle.std.proofs.Common.{Bool, true, false, List, refl, arith, ℕ}
use Rattle.std.specs.Prelude.{codes}
use Rattle.rules_text.specs.nodes.Tree.{Tree}
use Rattle.rules_data.specs.declared.types.Simple.{Simple}
use Rattle.rules_data.specs.declared.types.Simple.TheVariants as s
use Rattle.rules_data.specs.types.Kind.{Kind, simple, operation, option, or, pair, list, set, map, big_map, lambda, contract, ticket}
use Rattle.rules_data.specs.types.Printing.{simple_name, node_of}
use Rattle.rules_data.specs.values.Canonical.{truth_node, lambda_node, over_one, over_two}
use Rattle.mich_text.specs.Written.{IsName, HasTextForm}

simple_is : (s : Simple) → IsName (simple_name s)
simple_is s.Unit = (refl, refl, omega arith)
simple_is s.Never = (refl, refl, omega arith)
simple_is s.Bool = (refl, refl, omega arith)
simple_is s.Int = (refl, refl, omega arith)
simple_is s.Nat = (refl, refl, omega arith)
simple_is s.String = (refl, refl, omega arith)
simple_is s.Bytes = (refl, refl, omega arith)
simple_is s.Mutez = (refl, refl, omega arith)
simple_is s.Timestamp = (refl, refl, omega arith)
simple_is s.Key = (refl, refl, omega arith)
simple_is s.KeyHash = (refl, refl, omega arith)
simple_is s.Signature = (refl, refl, omega arith)
simple_is s.ChainId = (refl, refl, omega arith)
simple_is s.Address = (refl, refl, omega arith)

-- a name over two nodes, and over one
pub over_two_form : (name : List ℕ) (t u : Tree) → IsName name → HasTextForm t → HasTextForm u →
    HasTextForm (over_two name t u)
over_two_form name t u n h g = (n, tt, (h, (g, tt)))

pub over_one_form : (name : List ℕ) (t : Tree) → IsName name → HasTextForm t →
    HasTextForm (over_one name t)
over_one_form name t n h = (n, tt, (h, tt))

pub kind_form : (a : Kind) → HasTextForm (node_of a)
kind_form (simple s) = (simple_is s, tt, tt)
kind_form (option a) = over_one_form (codes "option") (node_of a) (refl, refl, omega arith) (kind_form a)
kind_form (or a b) = over_two_form (codes "or") (node_of a) (node_of b) (refl, refl, omega arith) (kind_form a) (kind_form b)
kind_form (pair a b) = over_two_form (codes "pair") (node_of a) (node_of b) (refl, refl, omega arith) (kind_form a) (kind_form b)
kind_form (list a) = over_one_form (codes "list") (node_of a) (refl, refl, omega arith) (kind_form a)
kind_form (set a) = over_one_form (codes "set") (node_of a) (refl, refl, omega arith) (kind_form a)
kind_form (map a b) = over_two_form (codes "map") (node_of a) (node_of b) (refl, refl, omega arith) (kind_form a) (kind_form b)
kind_form (big_map a b) = over_two_form (codes "big_map") (node_of a) (node_of b) (refl, refl, omega arith) (kind_form a) (kind_form b)
kind_form (lambda a b) = over_two_form (codes "lambda") (node_of a) (node_of b) (refl, refl, omega arith) (kind_form a) (kind_form b)
kind_form (contract a) = over_one_form (codes "contract") (node_of a) (refl, refl, omega arith) (kind_form a)
kind_form operation = ((refl, refl, omega arith), tt, tt)
kind_form (ticket a) = over_one_form (codes "ticket") (node_of a) (refl, refl, omega arith) (kind_form a)

pub truth_form : (b : Bool) → HasTextForm (truth_node b)
truth_form true = ((refl, refl, omega arith), tt, tt)
truth_form false = ((refl, refl, omega arith), tt, tt)

pub lambda_form : (t : Tree) (recursive : Bool) → HasTextForm t → HasTextForm (lambda_node t recursive)
lambda_form t true h = over_one_form (codes "Lambda_rec") t (refl, refl, omega arith) h
lambda_form t false h = h
