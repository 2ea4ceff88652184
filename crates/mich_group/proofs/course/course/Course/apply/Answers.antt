use Rattle.std.proofs.Common.{refl}
use Rattle.mich_ops.specs.View.{contents as contents_of}
use Rattle.mich_group.proofs.course_lemmas.Steps.{applied, ended, hosting_ended, may_apply}
use Rattle.mich_group.proofs.course.course.Course.apply.Goals as goal

pub apply_group-requires-clause-good : goal.apply_group-requires-clause-good
apply_group-requires-clause-good c =
    let f = c.requires.follows.1 in
    (c.requires.follows.0.world, f.stands, may_apply c.args.group.now.source (contents_of c.args.group.now) f c.requires.few c.requires.ranges)

pub returns-clause-goes : goal.returns-clause-goes
returns-clause-goes c = λ p f.
    let may = may_apply c.args.group.now.source (contents_of c.args.group.now) f c.requires.few c.requires.ranges in
    let hosting = c.in_ok-receipt.ensures.hosting in
    let e = c.end_marks.ensures in
    applied c.args.self.now _ c.args.group.now.source (contents_of c.args.group.now) c.in_ok-receipt.receipt f c.requires.few c.requires.ranges
    (ended _ _ (c.in_ok-receipt.ensures.settled p.world f.stands may) hosting e.chain e.level e.moment e.funds e.books e.stands)
    (hosting_ended _ _ hosting e.funds e.stored e.ticketless) refl refl refl
