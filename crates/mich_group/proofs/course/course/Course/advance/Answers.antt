use Rattle.std.proofs.Common.{rules, ◌≡◌, ◌&&◌, ◌<◌, ◌^◌, int_le, nat_lt, true, ap, refl, ◌∙◌}
use Rattle.std.proofs.lemmas.Int.{to_z-of_z}
use Rattle.mich_world.specs.World.{with_clock}
use Rattle.mich_group.proofs.course_lemmas.Steps.{advanced, later_told}
use Rattle.mich_group.proofs.course.course.Course.advance.Goals as goal

pub returns-then-last_moment-moment-clause-goes : goal.returns-then-last_moment-moment-clause-goes
returns-then-last_moment-moment-clause-goes c = λ p f.
    let small : c.args.level < 2 ^ 32 = search rules in
    let told : (nat_lt c.args.self.now.world.level c.args.level && int_le c.args.self.now.world.moment c.args.moment) ≡ true = search rules in
    advanced c.args.self.now _ c.args.level c.args.moment f small c.requires.moment (later_told c.args.self.now c.args.level c.args.moment f ∙ told)
    (c.set_moment.ensures.world ∙ ap (with_clock c.args.self.now.world c.args.level) (to_z-of_z _ _ c.ranges.moment)) refl refl refl
