use Rattle.mich_ops.specs.View.{status}
use Rattle.mich_report.specs.Told.{told_status_node}
use Rattle.mich_report.proofs.Loops.{each_next}
use Rattle.mich_report.proofs.receipts.put_each.Goals as goal

pub statuses-preserved : goal.statuses-preserved
statuses-preserved c =
    each_next status told_status_node c.statuses.line.items c.put_separator.new.line.items c.put_status.new.line.items _ c.statuses.begun c.as_slice-found-items.result.now
    c.statuses.found-index c.found-item.result c.statuses-test.true c.found-item.is c.in_ok-put_separator.ensures c.in_ok-put_status.ensures c.statuses.invariant
