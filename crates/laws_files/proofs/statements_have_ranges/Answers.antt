use Rattle.laws_files.proofs.Fields.{statements_have_ranges}
use Rattle.laws_files.proofs.statements_have_ranges.Goals as goal

pub returns : goal.returns
returns c = statements_have_ranges
