-- Forms of so many fields: where there are more or fewer, there is no statement, and no content.
use Rattle.std.proofs.Common.{◌≡◌, ◌≢◌, length, ℕ, List, [], ◌∷◌, ◌++◌, Option, Some, None, refl, ap, ◌<◌, ◌≤◌, get_or, arith}
use Rattle.std.specs.Prelude.{ℤ, codes}
use Rattle.rules_text.specs.nodes.Limits.{most_mutez}
use Rattle.rules_text.specs.nodes.Tree.{Tree}
use Rattle.rules_world.specs.world.Contents.{Content}
use Rattle.rules_files.specs.statements.Statements.{◌>>=◌, nodes_of, chain_of, account_of, block_of, costs_of, profile_of, content_by, number_of, gas_of}
use Rattle.mich_base.specs.Counted.{IsNotEmpty, IsNotOne, IsNotTwo, IsNotThree}
use Rattle.mich_base.specs.View.{tree, trees}
use Rattle.mich_base.specs.declared.node.Node.{Node}
use Rattle.mich_scenario.specs.View.{IsNoSource}

pub chain_fields : (ns : List Node) → IsNotThree ns → chain_of (nodes_of (trees ns)) ≡ None
chain_fields [] h = refl
chain_fields (a ∷ []) h = refl
chain_fields (a ∷ b ∷ []) h = refl
chain_fields (a ∷ b ∷ c ∷ []) h = absurd h
chain_fields (a ∷ b ∷ c ∷ d ∷ ns) h = refl

pub account_fields : (ns : List Node) → IsNotTwo ns → account_of (nodes_of (trees ns)) ≡ None
account_fields [] h = refl
account_fields (a ∷ []) h = refl
account_fields (a ∷ b ∷ []) h = absurd h
account_fields (a ∷ b ∷ c ∷ ns) h = refl

pub block_fields : (ns : List Node) → IsNotTwo ns → block_of (nodes_of (trees ns)) ≡ None
block_fields [] h = refl
block_fields (a ∷ []) h = refl
block_fields (a ∷ b ∷ []) h = absurd h
block_fields (a ∷ b ∷ c ∷ ns) h = refl

pub profile_fields : (ns : List Node) → IsNotTwo ns → profile_of (nodes_of (trees ns)) ≡ None
profile_fields [] h = refl
profile_fields (a ∷ []) h = refl
profile_fields (a ∷ b ∷ []) h = absurd h
profile_fields (a ∷ b ∷ c ∷ ns) h = refl

pub group_fields : (ns : List Node) → IsNotOne ns → IsNoSource (nodes_of (trees ns))
group_fields [] h contents = refl
group_fields (a ∷ []) h contents = absurd h
group_fields (a ∷ b ∷ []) h contents = refl
group_fields (a ∷ b ∷ c ∷ ns) h contents = refl

-- ---- contents

-- a fee and gas before fields that are no action
none_behind : (fee : Option ℕ) (gas : Option ℤ) → (fee >>= λ f. gas >>= λ g. let none : Option Content = None in none) ≡ None
none_behind None gas = refl
none_behind (Some f) None = refl
none_behind (Some f) (Some g) = refl

no_action : (fee gas : Tree) → (number_of most_mutez fee >>= λ f. gas_of gas >>= λ g. let none : Option Content = None in none) ≡ None
no_action fee gas = none_behind (number_of most_mutez fee) (gas_of gas)

pub origin_fields : (ns : List Node) (script storage : Tree) → IsNotThree ns
    → content_by (codes "Originate") (nodes_of (trees ns) ++ script ∷ storage ∷ []) ≡ None
origin_fields [] script storage h = no_action script storage
origin_fields (a ∷ []) script storage h = no_action (tree a) script
origin_fields (a ∷ b ∷ []) script storage h = no_action (tree a) (tree b)
origin_fields (a ∷ b ∷ c ∷ []) script storage h = absurd h
origin_fields (a ∷ b ∷ c ∷ d ∷ []) script storage h = no_action (tree a) (tree b)
origin_fields (a ∷ b ∷ c ∷ d ∷ e ∷ []) script storage h = no_action (tree a) (tree b)
origin_fields (a ∷ b ∷ c ∷ d ∷ e ∷ f ∷ ns) script storage h = no_action (tree a) (tree b)

pub order_fields : (ns : List Node) (argument : Tree) → length ns ≢ 5 → content_by (codes "Call") (nodes_of (trees ns) ++ argument ∷ []) ≡ None
order_fields [] argument h = refl
order_fields (a ∷ []) argument h = no_action (tree a) argument
order_fields (a ∷ b ∷ []) argument h = no_action (tree a) (tree b)
order_fields (a ∷ b ∷ c ∷ []) argument h = no_action (tree a) (tree b)
order_fields (a ∷ b ∷ c ∷ d ∷ []) argument h = no_action (tree a) (tree b)
order_fields (a ∷ b ∷ c ∷ d ∷ e ∷ []) argument h = absurd (h refl)
order_fields (a ∷ b ∷ c ∷ d ∷ e ∷ f ∷ []) argument h = no_action (tree a) (tree b)
order_fields (a ∷ b ∷ c ∷ d ∷ e ∷ f ∷ g ∷ ns) argument h = no_action (tree a) (tree b)

pub gift_fields : (ns : List Node) → length ns ≢ 8 → content_by (codes "Give") (nodes_of (trees ns)) ≡ None
gift_fields [] h = refl
gift_fields (a ∷ []) h = refl
gift_fields (a ∷ b ∷ []) h = no_action (tree a) (tree b)
gift_fields (a ∷ b ∷ c ∷ []) h = no_action (tree a) (tree b)
gift_fields (a ∷ b ∷ c ∷ d ∷ []) h = no_action (tree a) (tree b)
gift_fields (a ∷ b ∷ c ∷ d ∷ e ∷ []) h = no_action (tree a) (tree b)
gift_fields (a ∷ b ∷ c ∷ d ∷ e ∷ f ∷ []) h = no_action (tree a) (tree b)
gift_fields (a ∷ b ∷ c ∷ d ∷ e ∷ f ∷ g ∷ []) h = no_action (tree a) (tree b)
gift_fields (a ∷ b ∷ c ∷ d ∷ e ∷ f ∷ g ∷ i ∷ []) h = absurd (h refl)
gift_fields (a ∷ b ∷ c ∷ d ∷ e ∷ f ∷ g ∷ i ∷ j ∷ ns) h = no_action (tree a) (tree b)

-- ---- tables, and lists of eight

pub more_fields : (fields front : List Node) (table : Node) → fields ≡ front ++ table ∷ [] → IsNotEmpty front → costs_of (nodes_of (trees fields)) ≡ None
more_fields fields [] table is h = absurd h
more_fields fields (a ∷ []) table is h = ap (λ (ns : List Node). costs_of (nodes_of (trees ns))) is
more_fields fields (a ∷ b ∷ ns) table is h = ap (λ (ns : List Node). costs_of (nodes_of (trees ns))) is

pub eight_listed : (ns : List Node) (a b c d e f g h : Node) → 8 ≤ length ns → length ns < 9 → a ≡ get_or ns 0 a → b ≡ get_or ns 1 b → c ≡ get_or ns 2 c → d ≡ get_or ns 3 d
    → e ≡ get_or ns 4 e → f ≡ get_or ns 5 f → g ≡ get_or ns 6 g → h ≡ get_or ns 7 h → ns ≡ a ∷ b ∷ c ∷ d ∷ e ∷ f ∷ g ∷ h ∷ []
eight_listed [] a b c d e f g h low high ia ib ic id ie if' ig ih = absurd (omega arith)
eight_listed (n ∷ []) a b c d e f g h low high ia ib ic id ie if' ig ih = absurd (omega arith)
eight_listed (n ∷ o ∷ []) a b c d e f g h low high ia ib ic id ie if' ig ih = absurd (omega arith)
eight_listed (n ∷ o ∷ p ∷ []) a b c d e f g h low high ia ib ic id ie if' ig ih = absurd (omega arith)
eight_listed (n ∷ o ∷ p ∷ q ∷ []) a b c d e f g h low high ia ib ic id ie if' ig ih = absurd (omega arith)
eight_listed (n ∷ o ∷ p ∷ q ∷ r ∷ []) a b c d e f g h low high ia ib ic id ie if' ig ih = absurd (omega arith)
eight_listed (n ∷ o ∷ p ∷ q ∷ r ∷ s ∷ []) a b c d e f g h low high ia ib ic id ie if' ig ih = absurd (omega arith)
eight_listed (n ∷ o ∷ p ∷ q ∷ r ∷ s ∷ t ∷ []) a b c d e f g h low high ia ib ic id ie if' ig ih = absurd (omega arith)
eight_listed (n ∷ o ∷ p ∷ q ∷ r ∷ s ∷ t ∷ u ∷ []) a b c d e f g h low high ia ib ic id ie if' ig ih = cc
eight_listed (n ∷ o ∷ p ∷ q ∷ r ∷ s ∷ t ∷ u ∷ v ∷ ns) a b c d e f g h low high ia ib ic id ie if' ig ih = absurd (omega arith)
