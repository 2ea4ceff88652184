-- What a run prints agrees, where its numbers are in their ranges and its nodes can be written.
use Rattle.std.specs.Prelude.{◌≡◌, ◌≤◌, ◌++◌, ◌+◌, ℕ, List, [], ◌∷◌, length}
use Rattle.std.specs.List.{AllByRecursion}
use Rattle.rules_text.specs.nodes.Tree.{Tree}
use Rattle.rules_world.specs.world.Receipts.{Receipt}
use Rattle.rules_world.specs.world.World.{World}
use Rattle.rules_world.specs.world.Good.{IsGood}
use Rattle.rules_world.specs.lines.Nodes.{group_node, state_nodes}
use Rattle.rules_files.specs.commands.Replay.{Replay, State, IsReplay}
use Rattle.rules_files.specs.commands.Lines.{lines_of, text_of}
use Rattle.rules_audit.specs.Form.{audit_limit}
use Rattle.rules_audit.specs.Audits.{Agrees}
use Rattle.laws_commands.specs.audits.Receipts.{IsReceipt}
use Rattle.laws_commands.specs.audits.States.{IsToldWorld}
use Rattle.laws_commands.specs.audits.Follows.{IsPlainWorld}
use Rattle.laws_commands.specs.audits.Totals.{IsBehind}
use Rattle.laws_commands.specs.audits.Written.{IsWritable}

-- the nodes that are printed of a run
abbrev pub group_nodes : ℕ → List Receipt → List Tree
group_nodes n [] = []
group_nodes n (r ∷ rs) = group_node n r ∷ group_nodes (n + 1) rs

abbrev pub nodes_of : List Receipt → World → List Tree
nodes_of rs w = group_nodes 1 rs ++ state_nodes w

-- a world behind receipts is told: all of its numbers are in their ranges
abbrev pub WorldsAreTold : Type 0
WorldsAreTold = (rs : List Receipt) (w : World) → IsBehind rs w → IsToldWorld w

-- Where a file ends in a good world with comparable contents, the amounts in its receipts are in their ranges, and its nodes can
-- be written, what is printed of it agrees, if it isn't longer than an audit reads.
abbrev pub GoodRunsAgree : Type 0
GoodRunsAgree = (file : List ℕ) (done : Replay) (w : World) → IsReplay file done → done.ending ≡ State w → IsGood w [] → IsPlainWorld w →
    AllByRecursion IsReceipt done.receipts → AllByRecursion IsWritable (nodes_of done.receipts w) →
    length (text_of (lines_of done)) ≤ audit_limit → Agrees (text_of (lines_of done))
