use Rattle.std.proofs.Common.{sym, subst}
use Rattle.mich_answers.specs.Checked.{Through}
use Rattle.mich_answers.specs.Listed.{IsNext}
use Rattle.mich_answers.proofs.Wholes.{through_more, through_end, through_fault}
use Rattle.mich_answers.proofs.checking.list_nodes.Goals as goal

pub statements-preserved : goal.statements-preserved
statements-preserved c =
    let p = c.in-Statement.placed in
    let next = subst (IsNext c.args.file.now c.statements.place) c.in-Statement.is c.in_ok-placed.ensures in
    record {
      within = next.3;
      passed = subst (Through c.args.file.now p.end) (sym c.in_ok-push-in-Statement.ensures.pushed)
          (through_more c.args.file.now c.statements.place c.statements.nodes p c.statements.invariant.passed next.0 next.2);
    }

pub returns-in-End : goal.returns-in-End
returns-in-End c =
    through_end c.args.file.now c.statements.place c.statements.nodes c.statements.invariant.within c.statements.invariant.passed
    (subst (IsNext c.args.file.now c.statements.place) c.in-End.is c.in_ok-placed.ensures)

pub returns-in-Fault : goal.returns-in-Fault
returns-in-Fault c =
    through_fault c.args.file.now c.statements.place c.statements.nodes c.in-Fault.kind c.in-Fault.at c.statements.invariant.within c.statements.invariant.passed
    (subst (IsNext c.args.file.now c.statements.place) c.in-Fault.is c.in_ok-placed.ensures)
