use Rattle.laws_files.proofs.paid.Courses.{courses_stay_paid}
use Rattle.laws_files.proofs.courses_stay_paid.Goals as goal

pub returns : goal.returns
returns c = courses_stay_paid
