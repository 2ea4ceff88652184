use Rattle.mich_text.proofs.limits.Places.{limited_within}
use Rattle.mich_text.proofs.reader.statement_within_file.Goals as goal

pub returns-clause-within : goal.returns-clause-within
returns-clause-within c = limited_within c.args.before c.args.text.now c.statement_in.result c.statement_in.ensures
