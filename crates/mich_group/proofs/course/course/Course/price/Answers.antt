use Rattle.std.proofs.Common.{rules, ◌≡◌, true, refl}
use Rattle.mich_base.specs.View.{tree}
use Rattle.mich_group.proofs.course_lemmas.Steps.{priced, in_time}
use Rattle.mich_group.proofs.course.course.Course.price.Goals as goal

pub returns-in-Ok-clause-goes : goal.returns-in-Ok-clause-goes
returns-in-Ok-clause-goes c = λ p f.
    let early : c.args.self.now.at_head ≡ true = search rules in
    in_time c.args.self.now _ (tree c.args.table.now) _ f early
    (priced c.args.self.now _ (tree c.args.table.now) c.read_costs.result c.in-Ok.costs f c.in-Ok.is c.read_costs.ensures refl refl refl refl)
