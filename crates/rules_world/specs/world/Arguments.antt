-- Arguments of entrypoints: literals that a source writes, and values that a contract issues (Michelson reference,
-- "Entrypoints"; Octez "Operations").
use Rattle.std.specs.Prelude.{ℕ, List, [], ◌∷◌, Option, Some, None, if◌then◌else◌}
use Rattle.rules_text.specs.nodes.Tree.{Tree}
use Rattle.rules_data.specs.types.Kind.{Kind}
use Rattle.rules_data.specs.values.Val.{Val}
use Rattle.rules_data.specs.values.Literals.{Pending, body, claim}
use Rattle.rules_code.specs.instructions.Arguments.{Found, found, fault}
use Rattle.rules_code.specs.typing.Literals.{Checked, literal}
use Rattle.rules_code.specs.evaluation.Contracts.{is_contract_of}
use Rattle.rules_world.specs.world.World.{World, contract_at}

pub data Argument : Type 0 where
  node : Tree → Argument
  value : Val → Argument

-- the first address that isn't one of a contract of its type
abbrev pub false_claim : World → List Pending → Option ℕ
false_claim w [] = None
false_claim w (claim at address a ∷ rest) = if is_contract_of (contract_at w) a address then false_claim w rest else Some at
false_claim w (body at a b recursive t ∷ rest) = false_claim w rest

abbrev pub unless_false : Option ℕ → Val → Found Val
unless_false (Some location) v = fault location
unless_false None v = found v

abbrev pub with_claims : World → Found Checked → Found Val
with_claims w (found c) = unless_false (false_claim w c.claims) c.value
with_claims w (fault location) = fault location

-- a node as a literal of a type in a world: first its nodes are tried, then the bodies of lambdas, then the contracts
abbrev pub literal_in : World → Kind → Tree → Found Val
literal_in w a t = with_claims w (literal a t)

-- the argument's value, or the location of the first node that doesn't fit
abbrev pub argument_in : World → Kind → Argument → Found Val
argument_in w a (node t) = literal_in w a t
argument_in w a (value v) = found v
