use Rattle.laws_files.proofs.Good.{courses_begin_good}
use Rattle.laws_files.proofs.courses_begin_good.Goals as goal

pub returns : goal.returns
returns c = courses_begin_good
