use Rattle.mich_answers.proofs.Wholes.{whole_ok, script_ends}
use Rattle.mich_answers.proofs.checking.answer_script.Goals as goal

pub returns-clause-exact : goal.returns-clause-exact
returns-clause-exact c = whole_ok c.args.command c.args.file.now c.in_ok-listed.listed c.answer_statements.result c.in_ok-listed.ensures c.answer_statements.ensures

pub returns-clause-status : goal.returns-clause-status
returns-clause-status c =
    script_ends c.args.command c.args.file.now c.answer_statements.result
    (whole_ok c.args.command c.args.file.now c.in_ok-listed.listed c.answer_statements.result c.in_ok-listed.ensures c.answer_statements.ensures)
