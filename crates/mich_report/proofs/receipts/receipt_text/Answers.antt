use Rattle.std.proofs.Common.{◌∙◌}
use Rattle.mich_ops.specs.View.{receipt}
use Rattle.mich_report.proofs.Same.{told_line}
use Rattle.mich_report.proofs.receipts.receipt_text.Goals as goal

pub returns-clause-found : goal.returns-clause-found
returns-clause-found c =
    λ found told. c.in_ok-written.ensures ∙ told_line c.args.number (receipt c.args.r.now) found told
