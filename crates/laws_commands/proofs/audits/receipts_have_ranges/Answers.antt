use Rattle.laws_commands.proofs.audits_lemmas.Amounts.{receipts_have_ranges}
use Rattle.laws_commands.proofs.audits.receipts_have_ranges.Goals as goal

pub returns : goal.returns
returns c = receipts_have_ranges
