use Rattle.mich_interpreter.proofs.Starting.{run_begins}
use Rattle.mich_interpreter.proofs.beginning.run_code.Goals as goal

pub work-requires : goal.work-requires
work-requires c =
    let r = c.requires in
    (r.0, r.1, r.2, run_begins r.0 c.args.costs.now c.args.code c.args.state r.1 r.2 _ c.new.ensures r.3, r.4)

pub returns-clause-ends : goal.returns-clause-ends
returns-clause-ends c = λ x Z o h s. c.in_ok-ended.ensures.ends x Z o (run_begins x c.args.costs.now c.args.code c.args.state Z o _ c.new.ensures h) s
