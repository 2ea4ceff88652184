use Rattle.std.proofs.Common.{◌≡◌, ◌++◌, ◌∷◌, ◌-◌, [], length, map, false, nat_lt, Ok, sym, ap, arith, inl, inr}
use Rattle.std.proofs.lemmas.Bool.{le-ltb}
use Rattle.std.proofs.lemmas.List.{map_push}
use Rattle.rules_text.specs.nodes.Tree.{Tree}
use Rattle.rules_text.specs.binary.Spelling.{count}
use Rattle.rules_text.specs.binary.Reading.{node_at, application_at, many_at, arguments_at, nodes_within}
use Rattle.mich_base.specs.View.{tree, trees}
use Rattle.mich_binary.specs.Results.{spot}
use Rattle.mich_binary.proofs.Levels.{count_is}
use Rattle.mich_binary.proofs.Loops.{goes_on, is_done, goes_on_within, is_done_within, some_left, none_left}
use Rattle.mich_binary.proofs.nodes.+node.Goals as goal

pub application_at-returns : goal.application_at-returns
unfolding application_at
application_at-returns t c =
    rw (c.in_ok-name.ensures, c.in_ok-args.ensures, c.in_ok-annots.ensures) (ap (λ (n : Tree). Ok (n, spot c.in_ok-annots.after)) (sym c.application.ensures))

pub many_at-returns : goal.many_at-returns
unfolding many_at
many_at-returns t c =
    let enough : nat_lt (count (trees c.in_ok-args.args)) 3 ≡ false = le-ltb _ _ (omega (arith, count_is c.in_ok-args.args)) in
    rw (c.in_ok-name.ensures, c.in_ok-args.ensures, enough, c.in_ok-annots.ensures) (ap (λ (n : Tree). Ok (n, spot c.in_ok-annots.after)) (sym c.application.ensures))

pub arguments_at-loop-preserved : goal.arguments_at-loop-preserved
arguments_at-loop-preserved t c =
    let n = c.in_ok-node.node in
    let node = node_at c.args.levels in
    let e : map tree c.push.new.self ≡ map tree c.loop.nodes ++ tree n ∷ [] = rw c.in_ok-push.ensures.pushed (map_push tree c.loop.nodes n) in
    rw e (goes_on node (map tree c.loop.nodes) c.args.count c.loop.counter (spot c.loop.here) (spot c.in_ok-node.after) (tree n) (arguments_at node c.args.count (spot c.args.cursor)) c.loop-test.true c.in_ok-node.ensures c.loop.invariant)

pub arguments_at-returns : goal.arguments_at-returns
arguments_at-returns t c =
    let node = node_at c.args.levels in
    is_done node (map tree c.loop.nodes) c.args.count c.loop.counter (spot c.loop.here) (arguments_at node c.args.count (spot c.args.cursor)) c.loop-test.false c.loop.invariant

pub nodes_within-returns-then-is_empty : goal.nodes_within-returns-then-is_empty
nodes_within-returns-then-is_empty t c =
    let node = node_at c.args.levels in
    let count = length c.args.field.left.now in
    is_done_within node (map tree c.loop.nodes) (count - c.loop.counter) (spot c.loop.here) (nodes_within node count (spot c.args.field)) (inr (none_left _ _ c.is_empty.ensures c.if-is_empty.true)) c.loop.invariant

pub nodes_within-loop-preserved : goal.nodes_within-loop-preserved
nodes_within-loop-preserved t c =
    let n = c.in_ok-node.node in
    let node = node_at c.args.levels in
    let count = length c.args.field.left.now in
    let e : map tree c.push.new.self ≡ map tree c.loop.nodes ++ tree n ∷ [] = rw c.in_ok-push.ensures.pushed (map_push tree c.loop.nodes n) in
    rw e (goes_on_within node (map tree c.loop.nodes) count c.loop.counter (spot c.loop.here) (spot c.in_ok-node.after) (tree n) (nodes_within node count (spot c.args.field)) c.loop-test.true (some_left _ _ c.is_empty.ensures c.if-is_empty.false) c.in_ok-node.ensures c.loop.invariant)

pub nodes_within-returns : goal.nodes_within-returns
nodes_within-returns t c =
    let node = node_at c.args.levels in
    let count = length c.args.field.left.now in
    is_done_within node (map tree c.loop.nodes) (count - c.loop.counter) (spot c.loop.here) (nodes_within node count (spot c.args.field)) (inl (omega arith)) c.loop.invariant
