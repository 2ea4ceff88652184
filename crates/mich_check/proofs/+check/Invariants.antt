use Rattle.std.proofs.Common.{◌≡◌, ◌+◌, ◌*◌, ◌≤◌, [], ◌∷◌, drop}
use Rattle.rules_text.specs.nodes.Tree.{size, sizes}
use Rattle.rules_code.specs.typing.Typing.{shift}
use Rattle.rules_code.specs.typing.Nodes.{trees_type}
use Rattle.rules_code.specs.typing.Literals.{fault_of_bodies}
use Rattle.mich_base.specs.View.{tree, trees}
use Rattle.mich_data.specs.View.{all_pending, pending}
use Rattle.mich_overload.specs.View.{kinds}
use Rattle.mich_instr.specs.View.{codes}
use Rattle.mich_check.specs.Pending.{AreSequences, largest, moved, reach}
use Rattle.mich_control.specs.View.{context}
use Rattle.mich_check.proofs.HeldTyping.{Awaits}
use Rattle.mich_check.proofs.Blocks.{rest_type, Completes}
use Rattle.std.specs.Prelude.{map}
use Rattle.rules_code.specs.typing.Scripts.{with_views}
use Rattle.mich_base.specs.TypeView.{kind}
use Rattle.mich_outline.specs.View.{view_of}
use Rattle.mich_check.specs.Scripts.{largest_of}
use Rattle.mich_check.proofs.ScriptTyping.{Reached}
use Rattle.mich_check.proofs.+check.Given as goal

abbrev pub decreases-nodes::check_block : goal.decreases-nodes::check_block
decreases-nodes::check_block l = 8 * sizes (trees l.nodes.now) + 7

abbrev pub decreases-nodes::check_node : goal.decreases-nodes::check_node
decreases-nodes::check_node l = 8 * size (tree l.node.now) + 6

abbrev pub decreases-nodes::check_body : goal.decreases-nodes::check_body
decreases-nodes::check_body l = 8 * size (tree l.node.now) + 5

abbrev pub decreases-nodes::check_app : goal.decreases-nodes::check_app
decreases-nodes::check_app l = 8 * (sizes (trees l.app.now.args) + 1) + 5

abbrev pub decreases-nodes::check_branch : goal.decreases-nodes::check_branch
decreases-nodes::check_branch l = 8 * (sizes (trees l.app.now.args) + 1) + 4

abbrev pub decreases-nodes::check_loop : goal.decreases-nodes::check_loop
decreases-nodes::check_loop l = 8 * (sizes (trees l.app.now.args) + 1) + 4

abbrev pub invariant-nodes::check_block-loop-node : goal.invariant-nodes::check_block-loop-node
invariant-nodes::check_block-loop-node l = record {
  same : shift l.fn.at (trees_type (trees l.nodes) (context l.fn.place) (kinds l.fn.types)) ≡ rest_type l.after l.last l.next (context l.fn.place) (trees (drop l.node-index l.node-items));
  completes : Completes (context l.fn.place) (trees l.nodes) (codes l.code) (kinds l.fn.types) l.after (trees (drop l.node-index l.node-items));
  forward : l.fn.at ≤ l.next;
  room : l.next + sizes (trees (drop l.node-index l.node-items)) ≡ l.fn.at + sizes (trees l.nodes);
}

abbrev pub decreases-nodes::check_dip : goal.decreases-nodes::check_dip
decreases-nodes::check_dip l = 8 * (sizes (trees l.app.now.args) + 1) + 4

abbrev pub decreases-nodes::check_map : goal.decreases-nodes::check_map
decreases-nodes::check_map l = 8 * (sizes (trees l.app.now.args) + 1) + 4

abbrev pub decreases-nodes::check_lambda : goal.decreases-nodes::check_lambda
decreases-nodes::check_lambda l = 8 * (sizes (trees l.app.now.args) + 1) + 4

abbrev pub decreases-nodes::check_push : goal.decreases-nodes::check_push
decreases-nodes::check_push l = 8 * (sizes (trees l.app.now.args) + 1) + 4

abbrev pub decreases-nodes::check_pending : goal.decreases-nodes::check_pending
decreases-nodes::check_pending l = 8 * largest (all_pending l.pending.now) + 9

abbrev pub decreases-nodes::check_item : goal.decreases-nodes::check_item
decreases-nodes::check_item l = 8 * largest (pending l.item.now ∷ []) + 8

abbrev pub decreases-nodes::check_called : goal.decreases-nodes::check_called
decreases-nodes::check_called l = 8 * size (tree l.node.now) + 7

abbrev pub invariant-nodes::check_pending-loop-item : goal.invariant-nodes::check_pending-loop-item
invariant-nodes::check_pending-loop-item l = record {
  tried : moved l.fn.at (fault_of_bodies (all_pending l.pending)) ≡ moved l.fn.at (fault_of_bodies (all_pending (drop l.item-index l.item-items)));
  room : reach (all_pending (drop l.item-index l.item-items)) ≤ reach (all_pending l.pending);
  sizes : largest (all_pending (drop l.item-index l.item-items)) ≤ largest (all_pending l.pending);
  held : AreSequences (all_pending l.pending) → Awaits (all_pending l.pending) (all_pending (drop l.item-index l.item-items)) (codes l.lambdas);
}

-- ---- scripts

abbrev pub decreases-scripts::check_create : goal.decreases-scripts::check_create
decreases-scripts::check_create l = 8 * (sizes (trees l.app.now.args) + 1) + 4

abbrev pub decreases-scripts::check_script_at : goal.decreases-scripts::check_script_at
decreases-scripts::check_script_at l = 8 * size (tree l.node.now) + 3

abbrev pub decreases-scripts::check_code : goal.decreases-scripts::check_code
decreases-scripts::check_code l = 8 * size (tree l.outline.now.code.node.now) + 7

abbrev pub decreases-scripts::check_views : goal.decreases-scripts::check_views
decreases-scripts::check_views l = 8 * largest_of l.views.now + 8

abbrev pub decreases-scripts::check_view : goal.decreases-scripts::check_view
decreases-scripts::check_view l = 8 * size (tree l.view.now.body.node.now) + 7

abbrev pub decreases-scripts::check_whole : goal.decreases-scripts::check_whole
decreases-scripts::check_whole l = 8 * size (tree l.body.node.now) + 6

abbrev pub invariant-scripts::check_views-loop-view : goal.invariant-scripts::check_views-loop-view
invariant-scripts::check_views-loop-view l = record {
  reached : Reached (kind l.fn.storage) (with_views (kind l.fn.storage) (map view_of l.views)) (map view_of (drop l.view-index l.view-items)) l.typed;
  sizes : largest_of (drop l.view-index l.view-items) ≤ largest_of l.views;
}
