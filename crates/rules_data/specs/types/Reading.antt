-- How a node is read as a type (Michelson reference, "Types"). Locations are counted in pre-order.
use Rattle.std.specs.Prelude.{ℕ, ◌+◌, Bool, true, nat_le, if◌then◌else◌, List, [], ◌∷◌, Option, Some, None}
use Rattle.rules_text.specs.nodes.Limits.{type_limit}
use Rattle.rules_text.specs.nodes.Tree.{Tree, int, str, bytes, prim, seq, Trees, none, more, size}
use Rattle.rules_text.specs.nodes.Primitives.{primitive_of_name}
use Rattle.rules_text.specs.declared.nodes.Primitive.{Primitive}
use Rattle.rules_text.specs.declared.nodes.Primitive.TheVariants as p
use Rattle.rules_data.specs.declared.types.Simple.{Simple}
use Rattle.rules_data.specs.declared.types.Simple.TheVariants as s
use Rattle.rules_data.specs.declared.types.OneArgument.{OneArgument}
use Rattle.rules_data.specs.declared.types.OneArgument.TheVariants as one
use Rattle.rules_data.specs.declared.types.TwoArguments.{TwoArguments}
use Rattle.rules_data.specs.declared.types.TwoArguments.TheVariants as two
use Rattle.rules_data.specs.types.Kind.{Kind, nodes}
use Rattle.rules_data.specs.types.Kind as k
use Rattle.rules_data.specs.types.Attributes.{comparable, passable, big_value}

-- what a name makes of its arguments
pub data Former : Type 0 where
  simple_type : Simple → Former
  operation_type : Former
  one_argument : OneArgument → Former
  two_arguments : TwoArguments → Former
  pair_type : Former
  no_type : Former

abbrev pub former_of : Option Primitive → Former
former_of None = no_type
former_of (Some p.TypeUnit) = simple_type s.Unit
former_of (Some p.TypeNever) = simple_type s.Never
former_of (Some p.TypeBool) = simple_type s.Bool
former_of (Some p.TypeInt) = simple_type s.Int
former_of (Some p.TypeNat) = simple_type s.Nat
former_of (Some p.TypeString) = simple_type s.String
former_of (Some p.TypeBytes) = simple_type s.Bytes
former_of (Some p.TypeMutez) = simple_type s.Mutez
former_of (Some p.TypeTimestamp) = simple_type s.Timestamp
former_of (Some p.TypeKey) = simple_type s.Key
former_of (Some p.TypeKeyHash) = simple_type s.KeyHash
former_of (Some p.TypeSignature) = simple_type s.Signature
former_of (Some p.TypeChainId) = simple_type s.ChainId
former_of (Some p.TypeAddress) = simple_type s.Address
former_of (Some p.TypeOperation) = operation_type
former_of (Some p.TypeOption) = one_argument one.Option
former_of (Some p.TypeList) = one_argument one.List
former_of (Some p.TypeSet) = one_argument one.Set
former_of (Some p.TypeContract) = one_argument one.Contract
former_of (Some p.TypeTicket) = one_argument one.Ticket
former_of (Some p.TypeOr) = two_arguments two.Or
former_of (Some p.TypeMap) = two_arguments two.Map
former_of (Some p.TypeBigMap) = two_arguments two.BigMap
former_of (Some p.TypeLambda) = two_arguments two.Lambda
former_of (Some p.TypePair) = pair_type
former_of (Some _) = no_type

-- what a name of a type makes; no type of other names
unfoldable pub former_of_name : List ℕ → Former
former_of_name name = former_of (primitive_of_name name)

-- no attribute is asked
abbrev pub any_kind : Kind → Bool
any_kind a = true

-- the attribute that the one argument must have: elements of a set and contents of a ticket are comparable,
-- and what a contract takes is passable
abbrev pub asked_of_argument : OneArgument → Kind → Bool
asked_of_argument one.Option = any_kind
asked_of_argument one.List = any_kind
asked_of_argument one.Set = comparable
asked_of_argument one.Contract = passable
asked_of_argument one.Ticket = comparable

abbrev pub of_argument : OneArgument → Kind → Kind
of_argument one.Option = k.option
of_argument one.List = k.list
of_argument one.Set = k.set
of_argument one.Contract = k.contract
of_argument one.Ticket = k.ticket

-- the attribute that the first of two arguments must have: keys are comparable
abbrev pub asked_of_first : TwoArguments → Kind → Bool
asked_of_first two.Or = any_kind
asked_of_first two.Map = comparable
asked_of_first two.BigMap = comparable
asked_of_first two.Lambda = any_kind

-- the attribute that the second must have: values of a big map are big map values
abbrev pub asked_of_second : TwoArguments → Kind → Bool
asked_of_second two.Or = any_kind
asked_of_second two.Map = any_kind
asked_of_second two.BigMap = big_value
asked_of_second two.Lambda = any_kind

abbrev pub of_arguments : TwoArguments → Kind → Kind → Kind
of_arguments two.Or = k.or
of_arguments two.Map = k.map
of_arguments two.BigMap = k.big_map
of_arguments two.Lambda = k.lambda

-- a type, or the location of the first node that is no type or lacks an attribute
pub data Read : Type 0 where
  good : Kind → Read
  bad : ℕ → Read

-- an argument: its location, and what it is read as
pub data Part : Type 0 where
  part : ℕ → Read → Part

-- goes on with the type of an argument, which must have an attribute; a fault of it comes before what stands behind it
abbrev pub with_part : (Kind → Bool) → Part → (Kind → Read) → Read
with_part asked (part at (good a)) next = if asked a then next a else bad at
with_part asked (part at (bad l)) next = bad l

abbrev pub on_good : (Kind → Kind) → Read → Read
on_good f (good a) = good (f a)
on_good f (bad l) = bad l

-- the pair of one or more parts: the first and the pair of the others
abbrev pub paired : Part → List Part → Read
paired q [] = with_part any_kind q good
paired q (r ∷ rs) = with_part any_kind q (λ a. on_good (k.pair a) (paired r rs))

-- what a name at a location makes of its arguments
abbrev pub applied : Former → ℕ → List Part → Read
applied (simple_type s) at [] = good (k.simple s)
applied operation_type at [] = good k.operation
applied (one_argument f) at (q ∷ []) = with_part (asked_of_argument f) q (λ a. good (of_argument f a))
applied (two_arguments f) at (q ∷ r ∷ []) = with_part (asked_of_first f) q (λ a. with_part (asked_of_second f) r (λ b. good (of_arguments f a b)))
applied pair_type at (q ∷ r ∷ rs) = paired q (r ∷ rs)
applied f at ps = bad at

abbrev mutual
  -- the node at a location as a type, from left to right; annotations are ignored
  pub typed : ℕ → Tree → Read
  typed at (int n) = bad at
  typed at (str s) = bad at
  typed at (bytes b) = bad at
  typed at (seq ts) = bad at
  typed at (prim name annots args) = applied (former_of_name name) at (parts (at + 1) args)

  -- arguments, the first of them at a location
  pub parts : ℕ → Trees → List Part
  parts at none = []
  parts at (more t ts) = part at (typed at t) ∷ parts (at + size t) ts

-- a type, the location of its first fault, or a type with too many nodes
pub data Reading : Type 0 where
  a_type : Kind → Reading
  bad_type : ℕ → Reading
  too_large : Reading

abbrev pub limited : Read → Reading
limited (good a) = if nat_le (nodes a) type_limit then a_type a else too_large
limited (bad l) = bad_type l

-- the node at a location as a type within the limit, which is tried last
abbrev pub type_at : ℕ → Tree → Reading
type_at at t = limited (typed at t)
