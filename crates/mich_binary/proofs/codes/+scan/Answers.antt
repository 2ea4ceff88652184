use Rattle.std.proofs.Common.{◌+◌, drop, sym, ap, ◌∙◌, arith}
use Rattle.std.proofs.lemmas.Result.{err_from_is_err_and}
use Rattle.rules_text.specs.nodes.Tree.{preorders}
use Rattle.mich_base.specs.View.{trees}
use Rattle.mich_binary.proofs.Scans.{onward, scan_more, size_more}
use Rattle.mich_binary.proofs.codes.+scan.Goals as goal

pub scan_all-returns-in_err-next-clause-found : goal.scan_all-returns-in_err-next-clause-found
scan_all-returns-in_err-next-clause-found t c =
    let p = err_from_is_err_and c.from_residual.result c.from_residual.ensures.1 in
    let items = c.as_slice-node-items.result.now in
    let i = c.loop-node.node-index in
    let more = scan_more items i c.node-item.result c.loop-node.next (omega arith) c.node-item.is in
    rw (p.1, p.2) (sym (c.loop-node.invariant.found ∙ more ∙ ap (onward (preorders (trees (drop (i + 1) items)))) (sym c.in_err-next.ensures.found)))

pub scan_all-loop-node-preserved : goal.scan_all-loop-node-preserved
scan_all-loop-node-preserved t c =
    let items = c.as_slice-node-items.result.now in
    let i = c.loop-node.node-index in
    let more = scan_more items i c.node-item.result c.loop-node.next (omega arith) c.node-item.is in
    record {
      found = c.loop-node.invariant.found ∙ more ∙ ap (onward (preorders (trees (drop (i + 1) items)))) (sym c.in_ok-next.ensures.found);
      count = omega (arith, size_more items i c.node-item.result (omega arith) c.node-item.is, c.in_ok-next.ensures.next);
    }
