use Rattle.std.proofs.Common.{length}
use Rattle.mich_answers.proofs.Wholes.{verified_ok, verified_ends}
use Rattle.mich_answers.proofs.certifying.answer_verify.Goals as goal

pub returns-clause-exact : goal.returns-clause-exact
returns-clause-exact c = verified_ok c.args.file.now c.in_ok-listed.listed c.verify_listed.result c.in_ok-listed.ensures c.verify_listed.ensures

pub returns-clause-status : goal.returns-clause-status
returns-clause-status c = verified_ends c.in_ok-listed.listed (length c.args.file.now) c.verify_listed.result c.verify_listed.ensures
