use Rattle.laws_files.proofs.Good.{courses_stay_good}
use Rattle.laws_files.proofs.courses_stay_good.Goals as goal

pub returns : goal.returns
returns c = courses_stay_good
