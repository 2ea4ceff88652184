use Rattle.std.proofs.Common.{◌≡◌, ◌+◌, ◌*◌, ◌≤◌, [], ◌∷◌, drop}
use Rattle.std.specs.Prelude.{map}
use Rattle.rules_text.specs.nodes.Tree.{size, sizes}
use Rattle.rules_code.specs.certificates.Derivation.{trees_entries}
use Rattle.rules_code.specs.typing.Literals.{fault_of_bodies}
use Rattle.rules_code.specs.typing.Nodes.{trees_type}
use Rattle.rules_code.specs.typing.Typing.{shift}
use Rattle.mich_base.specs.TypeView.{kind}
use Rattle.mich_base.specs.View.{tree, trees}
use Rattle.mich_check.proofs.Blocks.{rest_type}
use Rattle.mich_check.specs.Pending.{largest, moved, reach}
use Rattle.mich_check.specs.Scripts.{largest_of}
use Rattle.mich_control.specs.View.{context}
use Rattle.mich_data.specs.View.{all_pending, pending}
use Rattle.mich_outline.specs.View.{view_of}
use Rattle.mich_overload.specs.View.{kinds}
use Rattle.mich_cert.specs.telling.Walk.{AreSequences, pending_entries, views_entries, views_fault, views_reach}
use Rattle.mich_cert.proofs.telling_lemmas.ToldBlocks.{Completes, rest_entries}
use Rattle.mich_cert.proofs.telling.+tell.Given as goal

-- ---- nodes

abbrev pub decreases-nodes::tell_block : goal.decreases-nodes::tell_block
decreases-nodes::tell_block l = 16 * sizes (trees l.nodes.now) + 8

abbrev pub invariant-nodes::tell_block-loop-node : goal.invariant-nodes::tell_block-loop-node
invariant-nodes::tell_block-loop-node l = record {
  same : shift (l.fn.at + 1) (trees_type (trees l.nodes) (context l.fn.place) (kinds l.fn.types)) ≡ rest_type l.after l.last l.next (context l.fn.place) (trees (drop l.node-index l.node-items));
  completes : Completes l.fn.told l.told (trees_entries (trees l.nodes) l.fn.at (l.fn.at + 1) (context l.fn.place) (kinds l.fn.types))
      (rest_entries l.after l.fn.at l.next (context l.fn.place) (trees (drop l.node-index l.node-items)));
  forward : l.fn.at + 1 ≤ l.next;
  room : l.next + sizes (trees (drop l.node-index l.node-items)) ≡ l.fn.at + 1 + sizes (trees l.nodes);
}

abbrev pub decreases-nodes::tell_body : goal.decreases-nodes::tell_body
decreases-nodes::tell_body l = 16 * size (tree l.node.now) + 5

abbrev pub decreases-nodes::tell_node : goal.decreases-nodes::tell_node
decreases-nodes::tell_node l = 16 * size (tree l.node.now) + 7

abbrev pub decreases-nodes::tell_within : goal.decreases-nodes::tell_within
decreases-nodes::tell_within l = 16 * size (tree l.node.now) + 6

abbrev pub decreases-nodes::tell_app : goal.decreases-nodes::tell_app
decreases-nodes::tell_app l = 16 * (sizes (trees l.app.now.args) + 1) + 5

-- ---- forms

abbrev pub decreases-forms::tell_branch : goal.decreases-forms::tell_branch
decreases-forms::tell_branch l = 16 * (sizes (trees l.app.now.args) + 1) + 4

abbrev pub decreases-forms::tell_loop : goal.decreases-forms::tell_loop
decreases-forms::tell_loop l = 16 * (sizes (trees l.app.now.args) + 1) + 4

abbrev pub decreases-forms::tell_dip : goal.decreases-forms::tell_dip
decreases-forms::tell_dip l = 16 * (sizes (trees l.app.now.args) + 1) + 4

abbrev pub decreases-forms::tell_map : goal.decreases-forms::tell_map
decreases-forms::tell_map l = 16 * (sizes (trees l.app.now.args) + 1) + 4

abbrev pub decreases-forms::tell_lambda : goal.decreases-forms::tell_lambda
decreases-forms::tell_lambda l = 16 * (sizes (trees l.app.now.args) + 1) + 4

-- ---- literals

abbrev pub decreases-literals::tell_push : goal.decreases-literals::tell_push
decreases-literals::tell_push l = 16 * (sizes (trees l.app.now.args) + 1) + 4

abbrev pub decreases-literals::tell_pending : goal.decreases-literals::tell_pending
decreases-literals::tell_pending l = 16 * largest (all_pending l.pending.now) + 9

abbrev pub invariant-literals::tell_pending-loop-item : goal.invariant-literals::tell_pending-loop-item
invariant-literals::tell_pending-loop-item l = record {
  tried : moved l.fn.at (fault_of_bodies (all_pending l.pending)) ≡ moved l.fn.at (fault_of_bodies (all_pending (drop l.item-index l.item-items)));
  completes : Completes l.fn.told l.told (pending_entries l.fn.at (all_pending l.pending)) (pending_entries l.fn.at (all_pending (drop l.item-index l.item-items)));
  sequences : AreSequences (all_pending (drop l.item-index l.item-items));
  room : reach (all_pending (drop l.item-index l.item-items)) ≤ reach (all_pending l.pending);
  sizes : largest (all_pending (drop l.item-index l.item-items)) ≤ largest (all_pending l.pending);
}

abbrev pub decreases-literals::tell_item : goal.decreases-literals::tell_item
decreases-literals::tell_item l = 16 * largest (pending l.item.now ∷ []) + 8

abbrev pub decreases-literals::tell_called : goal.decreases-literals::tell_called
decreases-literals::tell_called l = 16 * size (tree l.node.now) + 7

-- ---- scripts

abbrev pub decreases-create::tell_create : goal.decreases-create::tell_create
decreases-create::tell_create l = 16 * (sizes (trees l.app.now.args) + 1) + 4

abbrev pub decreases-scripts::tell_script : goal.decreases-scripts::tell_script
decreases-scripts::tell_script l = 16 * size (tree l.node.now) + 3

abbrev pub decreases-scripts::tell_code : goal.decreases-scripts::tell_code
decreases-scripts::tell_code l = 16 * size (tree l.outline.now.code.node.now) + 7

abbrev pub decreases-scripts::tell_views : goal.decreases-scripts::tell_views
decreases-scripts::tell_views l = 16 * largest_of l.views.now + 8

abbrev pub invariant-scripts::tell_views-loop-view : goal.invariant-scripts::tell_views-loop-view
invariant-scripts::tell_views-loop-view l = record {
  tried : moved l.fn.at (views_fault (kind l.fn.storage) (map view_of l.views)) ≡ moved l.fn.at (views_fault (kind l.fn.storage) (map view_of (drop l.view-index l.view-items)));
  completes : Completes l.fn.told l.told (views_entries l.fn.at (kind l.fn.storage) (map view_of l.views)) (views_entries l.fn.at (kind l.fn.storage) (map view_of (drop l.view-index l.view-items)));
  room : views_reach (drop l.view-index l.view-items) ≤ views_reach l.views;
  sizes : largest_of (drop l.view-index l.view-items) ≤ largest_of l.views;
}

abbrev pub decreases-scripts::tell_view : goal.decreases-scripts::tell_view
decreases-scripts::tell_view l = 16 * size (tree l.view.now.body.node.now) + 7

abbrev pub decreases-scripts::tell_whole : goal.decreases-scripts::tell_whole
decreases-scripts::tell_whole l = 16 * size (tree l.node.now) + 6
