-- How a type is written as a node: pairs have two parts, and there are no annotations (Michelson reference, "Types").
use Rattle.std.specs.Prelude.{ℕ, List, [], codes}
use Rattle.rules_text.specs.nodes.Tree.{Tree, prim, Trees, none, more}
use Rattle.rules_data.specs.declared.types.Simple.{Simple}
use Rattle.rules_data.specs.declared.types.Simple.TheVariants as s
use Rattle.rules_data.specs.types.Kind.{Kind, simple, operation, option, or, pair, list, set, map, big_map, lambda, contract, ticket}

abbrev pub simple_name : Simple → List ℕ
simple_name s.Unit = codes "unit"
simple_name s.Never = codes "never"
simple_name s.Bool = codes "bool"
simple_name s.Int = codes "int"
simple_name s.Nat = codes "nat"
simple_name s.String = codes "string"
simple_name s.Bytes = codes "bytes"
simple_name s.Mutez = codes "mutez"
simple_name s.Timestamp = codes "timestamp"
simple_name s.Key = codes "key"
simple_name s.KeyHash = codes "key_hash"
simple_name s.Signature = codes "signature"
simple_name s.ChainId = codes "chain_id"
simple_name s.Address = codes "address"

abbrev pub named : List ℕ → Trees → Tree
named name args = prim name [] args

abbrev pub node_of : Kind → Tree
node_of (simple s) = named (simple_name s) none
node_of (option a) = named (codes "option") (more (node_of a) none)
node_of (or a b) = named (codes "or") (more (node_of a) (more (node_of b) none))
node_of (pair a b) = named (codes "pair") (more (node_of a) (more (node_of b) none))
node_of (list a) = named (codes "list") (more (node_of a) none)
node_of (set a) = named (codes "set") (more (node_of a) none)
node_of (map a b) = named (codes "map") (more (node_of a) (more (node_of b) none))
node_of (big_map a b) = named (codes "big_map") (more (node_of a) (more (node_of b) none))
node_of (lambda a b) = named (codes "lambda") (more (node_of a) (more (node_of b) none))
node_of (contract a) = named (codes "contract") (more (node_of a) none)
node_of operation = named (codes "operation") none
node_of (ticket a) = named (codes "ticket") (more (node_of a) none)
