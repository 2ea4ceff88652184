use Rattle.std.proofs.Common.{subst}
use Rattle.mich_answers.specs.Listed.{IsNext}
use Rattle.mich_answers.proofs.Listing.{listed-end, listed-fault}
use Rattle.mich_answers.proofs.statements.list_file.Goals as goal

pub returns-in-End : goal.returns-in-End
returns-in-End c =
    listed-end c.args.file.now c.statements.place c.statements.first c.statements.second c.statements.invariant.within c.statements.invariant.passed
    (subst (IsNext c.args.file.now c.statements.place) c.in-End.is c.in_ok-placed.ensures)

pub returns-in-Fault : goal.returns-in-Fault
returns-in-Fault c =
    listed-fault c.args.file.now c.statements.place c.statements.first c.statements.second c.in-Fault.kind c.in-Fault.at c.statements.invariant.within c.statements.invariant.passed
    (subst (IsNext c.args.file.now c.statements.place) c.in-Fault.is c.in_ok-placed.ensures)
