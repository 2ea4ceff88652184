use Rattle.std.proofs.Common.{◌≡◌, ◌+◌, ◌*◌, ◌≤◌, false, [], ◌∷◌, drop, map}
use Rattle.rules_text.specs.nodes.Tree.{size, sizes}
use Rattle.mich_base.specs.TypeView.{kind}
use Rattle.mich_base.specs.View.{tree, trees}
use Rattle.mich_outline.specs.View.{outline_of, view_of}
use Rattle.mich_data.specs.View.{all_pending, pending}
use Rattle.mich_cert.specs.Entries.{all_entries, context}
use Rattle.mich_check.specs.Pending.{largest, reach}
use Rattle.mich_cert.specs.Pushed.{pending_walk}
use Rattle.mich_cert.specs.Scripts.{bodies_largest, views_largest, views_reach, views_walk}
use Rattle.mich_cert.specs.Walk.{rest_of}
use Rattle.mich_cert.proofs.+follow.Given as goal

abbrev pub decreases-nodes::rest : goal.decreases-nodes::rest
decreases-nodes::rest l = 16 * (sizes (trees l.nodes.now) + 1) + 3

abbrev pub invariant-nodes::rest-loop-node : goal.invariant-nodes::rest-loop-node
invariant-nodes::rest-loop-node l = record {
  same : rest_of (trees l.nodes) l.fn.at (l.fn.at + 1) (context l.fn.place) false (all_entries l.entries)
      ≡ rest_of (trees (drop l.node-index l.node-items)) l.fn.at l.next (context l.fn.place) l.fails (all_entries l.left);
  forward : l.fn.at + 1 ≤ l.next;
  room : l.next + sizes (trees (drop l.node-index l.node-items)) ≡ l.fn.at + 1 + sizes (trees l.nodes);
}

abbrev pub decreases-nodes::block : goal.decreases-nodes::block
decreases-nodes::block l = 16 * (sizes (trees l.nodes.now) + 1) + 4

abbrev pub decreases-nodes::body : goal.decreases-nodes::body
decreases-nodes::body l = 16 * size (tree l.node.now) + 5

abbrev pub decreases-nodes::instruction : goal.decreases-nodes::instruction
decreases-nodes::instruction l = 16 * size (tree l.node.now) + 9

abbrev pub decreases-nodes::application : goal.decreases-nodes::application
decreases-nodes::application l = 16 * (sizes (trees l.app.now.args) + 1) + 8

abbrev pub decreases-nodes::branches : goal.decreases-nodes::branches
decreases-nodes::branches l = 16 * (sizes (trees l.app.now.args) + 1) + 7

abbrev pub decreases-nodes::turns : goal.decreases-nodes::turns
decreases-nodes::turns l = 16 * (sizes (trees l.app.now.args) + 1) + 7

abbrev pub decreases-nodes::dips : goal.decreases-nodes::dips
decreases-nodes::dips l = 16 * (sizes (trees l.app.now.args) + 1) + 7

abbrev pub decreases-nodes::maps : goal.decreases-nodes::maps
decreases-nodes::maps l = 16 * (sizes (trees l.app.now.args) + 1) + 7

abbrev pub decreases-nodes::lambdas : goal.decreases-nodes::lambdas
decreases-nodes::lambdas l = 16 * (sizes (trees l.app.now.args) + 1) + 7

-- ---- forms

abbrev pub decreases-forms::branch : goal.decreases-forms::branch
decreases-forms::branch l = 16 * (size (tree l.one.now) + size (tree l.other.now)) + 6

abbrev pub decreases-forms::turning : goal.decreases-forms::turning
decreases-forms::turning l = 16 * size (tree l.node.now) + 6

abbrev pub decreases-forms::dip : goal.decreases-forms::dip
decreases-forms::dip l = 16 * size (tree l.node.now) + 6

abbrev pub decreases-forms::map : goal.decreases-forms::map
decreases-forms::map l = 16 * size (tree l.node.now) + 6

abbrev pub decreases-forms::lambda : goal.decreases-forms::lambda
decreases-forms::lambda l = 16 * size (tree l.node.now) + 6

abbrev pub decreases-forms::sequence : goal.decreases-forms::sequence
decreases-forms::sequence l = 16 * (sizes (trees l.nodes.now) + 1) + 5

-- ---- literals

abbrev pub decreases-literals::pushes : goal.decreases-literals::pushes
decreases-literals::pushes l = 16 * (sizes (trees l.app.now.args) + 1) + 7

abbrev pub decreases-literals::push : goal.decreases-literals::push
decreases-literals::push l = 16 * size (tree l.node.now) + 12

abbrev pub decreases-literals::all_called : goal.decreases-literals::all_called
decreases-literals::all_called l = 16 * largest (all_pending l.pending.now) + 11

abbrev pub invariant-literals::all_called-loop-item : goal.invariant-literals::all_called-loop-item
invariant-literals::all_called-loop-item l = record {
  same : pending_walk (all_pending l.pending) l.fn.at (all_entries l.entries)
      ≡ pending_walk (all_pending (drop l.item-index l.item-items)) l.fn.at (all_entries l.left);
  room : reach (all_pending (drop l.item-index l.item-items)) ≤ reach (all_pending l.pending);
  sizes : largest (all_pending (drop l.item-index l.item-items)) ≤ largest (all_pending l.pending);
}

abbrev pub decreases-literals::item_called : goal.decreases-literals::item_called
decreases-literals::item_called l = 16 * largest (pending l.item.now ∷ []) + 10

abbrev pub decreases-literals::called : goal.decreases-literals::called
decreases-literals::called l = 16 * size (tree l.node.now) + 6

-- ---- scripts

abbrev pub decreases-scripts::creates : goal.decreases-scripts::creates
decreases-scripts::creates l = 16 * (sizes (trees l.app.now.args) + 1) + 7

abbrev pub decreases-scripts::create : goal.decreases-scripts::create
decreases-scripts::create l = 16 * bodies_largest (outline_of l.outline.now) + 12

abbrev pub decreases-scripts::script : goal.decreases-scripts::script
decreases-scripts::script l = 16 * bodies_largest (outline_of l.outline.now) + 11

abbrev pub decreases-scripts::code : goal.decreases-scripts::code
decreases-scripts::code l = 16 * bodies_largest (outline_of l.outline.now) + 10

abbrev pub decreases-scripts::all_views : goal.decreases-scripts::all_views
decreases-scripts::all_views l = 16 * views_largest (map view_of l.views.now) + 10

abbrev pub invariant-scripts::all_views-loop-item : goal.invariant-scripts::all_views-loop-item
invariant-scripts::all_views-loop-item l = record {
  same : views_walk (kind l.storage) (map view_of l.views) l.fn.base (all_entries l.entries)
      ≡ views_walk (kind l.storage) (map view_of (drop l.item-index l.item-items)) l.fn.base (all_entries l.left);
  room : views_reach (map view_of (drop l.item-index l.item-items)) ≤ views_reach (map view_of l.views);
  sizes : views_largest (map view_of (drop l.item-index l.item-items)) ≤ views_largest (map view_of l.views);
}

abbrev pub decreases-scripts::one_view : goal.decreases-scripts::one_view
decreases-scripts::one_view l = 16 * size (tree l.view.now.body.node.now) + 9
