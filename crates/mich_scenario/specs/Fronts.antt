-- Contents by what stands before or round the nodes that are kept as they are.
use Rattle.std.specs.Prelude.{◌≡◌, List, [], ◌∷◌, ◌++◌, codes, length, take, Option, Some}
use Rattle.rules_text.specs.nodes.Tree.{Tree}
use Rattle.rules_world.specs.world.Contents.{Content, Originate, Call, Give}
use Rattle.rules_files.specs.statements.Statements.{content_by, nodes_of}
use Rattle.mich_base.specs.View.{tree, trees}
use Rattle.mich_base.specs.declared.node.Node.{Node}
use Rattle.mich_forms.specs.Spelled.{place_bytes}
use Rattle.mich_scenario.specs.declared.actions.Origin.{Origin}
use Rattle.mich_scenario.specs.declared.actions.Order.{Order}
use Rattle.mich_scenario.specs.declared.actions.Gift.{Gift}

abbrev pub originated : Tree → Tree → Origin → Content
originated script storage o = record { fee = o.fee; gas = o.gas; action = Originate o.balance script storage }

abbrev pub called : Tree → Order → Content
called argument o = record { fee = o.fee; gas = o.gas; action = Call o.amount (place_bytes o.to) o.entry argument }

abbrev pub given : Tree → Tree → Gift → Content
given kind content g = record { fee = g.fee; gas = g.gas; action = Give (place_bytes g.issuer) kind content g.amount (place_bytes g.to) g.entry }

-- what an origination with these fields, a script and a storage is
abbrev pub origin_with : List Node → Tree → Tree → Option Content
origin_with front script storage = content_by (codes "Originate") (nodes_of (trees front) ++ script ∷ storage ∷ [])

-- what a call and a gift with these fields are
abbrev pub call_with : (fee gas amount to entry : Node) → Tree → Option Content
call_with fee gas amount to entry argument =
    content_by (codes "Call") (tree fee ∷ tree gas ∷ tree amount ∷ tree to ∷ tree entry ∷ argument ∷ [])

abbrev pub gift_with : (fee gas issuer amount to entry : Node) (kind content : Tree) → Option Content
gift_with fee gas issuer amount to entry kind content =
    content_by (codes "Give") (tree fee ∷ tree gas ∷ tree issuer ∷ kind ∷ content ∷ tree amount ∷ tree to ∷ tree entry ∷ [])

-- so many fields are a gift of the last two among the first five
pub record IsGift (fields : List Node) (g : Gift) : Type 0 where
  pub eight : length fields ≡ 8
  pub made : (front : List Node) (kind content : Node) → take 5 fields ≡ front ++ kind ∷ content ∷ []
      → content_by (codes "Give") (nodes_of (trees fields)) ≡ Some (given (tree kind) (tree content) g)
