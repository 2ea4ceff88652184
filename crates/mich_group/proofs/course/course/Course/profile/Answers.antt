use Rattle.std.proofs.Common.{rules, ◌≡◌, true, None, refl}
use Rattle.mich_group.proofs.course_lemmas.Steps.{profiled}
use Rattle.mich_group.proofs.course.course.Course.profile.Goals as goal

pub returns-clause-goes : goal.returns-clause-goes
returns-clause-goes c = λ p f.
    let early : c.args.self.now.at_head ≡ true = search rules in
    let unset : c.args.self.now.world.funds.present.rate ≡ None = search rules in
    profiled c.args.self.now _ c.args.rate f early unset c.set_rate.ensures.others c.set_rate.ensures.rate refl refl refl
