use Rattle.std.proofs.Common.{true, [], None, subst, ◌∙◌}
use Rattle.std.specs.declared.option.Option.{Option}
use Rattle.std.proofs.lemmas.Result.{err_from_is_err_and}
use Rattle.mich_group.specs.declared.course.course.Course.{Course}
use Rattle.mich_replay.specs.Steps.{FollowsIf}
use Rattle.mich_replay.proofs.Generated.{followed, generated}
use Rattle.mich_replay.proofs.Written.{nothing}
use Rattle.mich_replay.proofs.generating.generate.Goals as goal

pub returns-in_err-session-clause-comes : goal.returns-in_err-session-clause-comes
returns-in_err-session-clause-comes g c = λ content.
    let p = err_from_is_err_and c.from_residual-in_err-session.result c.from_residual-in_err-session.ensures.1 in
    rw p.1 (λ other h. nothing _ _)

pub feed-requires : goal.feed-requires
feed-requires g c = (None, [], [], c.in_ok-session.ensures)

pub returns-in_err-feed-clause-comes : goal.returns-in_err-feed-clause-comes
returns-in_err-feed-clause-comes g c = λ content.
    let p = err_from_is_err_and c.from_residual-in_err-feed.result c.from_residual-in_err-feed.ensures.1 in
    rw p.1 (λ other h. nothing _ _)

pub count_groups-requires : goal.count_groups-requires
count_groups-requires g c =
    let new = c.in_ok-session.ensures in
    (c.as_slice.result.now, c.in_ok-feed.ensures None [] [] true new)

pub returns-in_err-counts-clause-comes : goal.returns-in_err-counts-clause-comes
returns-in_err-counts-clause-comes g c = λ content.
    let p = err_from_is_err_and c.from_residual-in_err-counts.result c.from_residual-in_err-counts.ensures.1 in
    rw p.1 (λ other h. nothing _ _)

pub sum_up-requires : goal.sum_up-requires
sum_up-requires g c =
    let new = c.in_ok-session.ensures in
    let k = c.in_ok-counts.ensures c.as_slice.result.now (c.in_ok-feed.ensures None [] [] true new) in
    let f = followed c.in-Some.course k.0.came.plain (subst (λ (o : Option Course). FollowsIf o k.0.came.plain) c.in-Some.is k.0.came.stands.follows) in
    (f.0, f.2)

pub returns-in-Some-clause-comes : goal.returns-in-Some-clause-comes
returns-in-Some-clause-comes g c = λ content.
    let new = c.in_ok-session.ensures in
    let k = c.in_ok-counts.ensures c.as_slice.result.now (c.in_ok-feed.ensures None [] [] true new) in
    let s = c.count_groups.new.session in
    generated c.args.calls content _ _ c.as_slice.result.now s.reader s.progress c.in-Some.course c.in_ok-counts.counts c.sum_up.result
    (c.as_slice.ensures ∙ c.in_ok-text.ensures) c.in-Some.is k c.sum_up.ensures.summed

pub returns-clause-comes : goal.returns-clause-comes
returns-clause-comes g c = λ content other h. nothing _ _

pub returns-in_err-text-clause-comes : goal.returns-in_err-text-clause-comes
returns-in_err-text-clause-comes g c = λ content.
    let p = err_from_is_err_and c.from_residual.result c.from_residual.ensures.1 in
    rw p.1 (λ other h. nothing _ _)
