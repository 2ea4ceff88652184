use Rattle.mich_replay.specs.View.{whole_seen}
use Rattle.mich_replay.proofs.Cut.{done_end, exact_cut}
use Rattle.mich_replay.proofs.answer.answer_read.Goals as goal

pub returns-clause-exact : goal.returns-clause-exact
returns-clause-exact c = exact_cut (whole_seen c.args.verb) c.args.read.now c.answer_file.result c.answer_file.ensures.exact

pub returns-clause-end : goal.returns-clause-end
returns-clause-end c = done_end (whole_seen c.args.verb) c.args.read.now c.answer_file.result c.answer_file.ensures.exact
