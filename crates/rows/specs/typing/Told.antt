-- What typing tells of scripts and nodes, for rows that are computed.
use Rattle.std.specs.Prelude.{ℕ, zero, suc, ◌-◌, false, [], ◌∷◌, codes, Option, Some, None}
use Rattle.rules_data.specs.declared.types.Simple.TheVariants as s
use Rattle.rules_text.specs.nodes.Tree.{Tree, prim, Trees, none, more}
use Rattle.rules_data.specs.types.Kind.{Kind}
use Rattle.rules_data.specs.types.Kind as k
use Rattle.rules_code.specs.instructions.Context.{Context, main}
use Rattle.rules_code.specs.instructions.Straight.{Straight}
use Rattle.rules_code.specs.instructions.Arguments.{Found, found, fault}
use Rattle.rules_code.specs.instructions.Rules.{Ruled, ruled, faulty}

-- the location of the fault, or none where there is none
abbrev pub fault_of : {A : Type 0} → Found A → Option ℕ
fault_of (found x) = None
fault_of (fault l) = Some l

-- the rule that an instruction without bodies takes
abbrev pub rule_taken : Ruled → Option Straight
rule_taken (ruled r A) = Some r
rule_taken (faulty l) = None

-- the code of a script whose parameter is `or (nat %a) unit`
abbrev pub main_entries : Context
main_entries = main (
    record { name = codes "a"; path = false ∷ []; kind = k.simple s.Nat } ∷
    record { name = codes "default"; path = []; kind = k.or (k.simple s.Nat) (k.simple s.Unit) } ∷ [])

-- a pair of that many nats: as a node, and as a type
abbrev pub nats : ℕ → Trees
nats zero = none
nats (suc n) = more (prim (codes "nat") [] none) (nats n)

abbrev pub wide : ℕ → Tree
wide n = prim (codes "pair") [] (nats n)

abbrev pub comb_of_nats : ℕ → Kind
comb_of_nats zero = k.simple s.Nat
comb_of_nats (suc n) = k.pair (k.simple s.Nat) (comb_of_nats n)

abbrev pub wide_kind : ℕ → Kind
wide_kind n = comb_of_nats (n - 1)
