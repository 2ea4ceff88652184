use Rattle.laws_files.proofs.paid.Courses.{courses_begin_paid}
use Rattle.laws_files.proofs.courses_begin_paid.Goals as goal

pub returns : goal.returns
returns c = courses_begin_paid
