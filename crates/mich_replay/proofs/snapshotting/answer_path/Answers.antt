use Rattle.std.proofs.Common.{List, ℕ, inr, subst}
use Rattle.std.specs.declared.option.Option.{Option}
use Rattle.std.proofs.lemmas.Result.{err_from_is_err_and}
use Rattle.mich_answers.specs.View.{answer_seen}
use Rattle.mich_replay.specs.Reaching.{IsReachedBy}
use Rattle.mich_replay.specs.Taken.{HasTaken}
use Rattle.mich_replay.proofs.Reached.{snapshot_exact}
use Rattle.mich_replay.proofs.snapshotting.answer_path.Goals as goal

pub answer_reached-requires : goal.answer_reached-requires
answer_reached-requires g c = let h = c.in_ok-reached.ensures.reached in (h.0, h.1)

pub returns-clause-exact : goal.returns-clause-exact
returns-clause-exact g c = λ told.
    let content = g.F.Files.content c.args.files.now in
    let h = subst (λ (o : Option (List ℕ)). IsReachedBy o c.in_ok-reached.reached) c.in_ok-start.ensures.started c.in_ok-reached.ensures.reached in
    snapshot_exact content c.args.path.now h.0 (answer_seen c.in_ok-answer.answer) h.2 (c.in_ok-answer.ensures.exact h.0 h.1) told

pub returns-clause-end : goal.returns-clause-end
returns-clause-end g c = λ zero. c.in_ok-reached.ensures.end (c.in_ok-answer.ensures.end zero)

pub returns-clause-taken : goal.returns-clause-taken
returns-clause-taken g c = subst (λ (o : Option (List ℕ)). HasTaken o (g.F.Files.left c.reach.new.files)) c.in_ok-start.ensures.started c.reach.ensures.taken

pub returns-in_err-reached-clause-given_up : goal.returns-in_err-reached-clause-given_up
returns-in_err-reached-clause-given_up g c =
    let p = err_from_is_err_and c.from_residual-in_err-reached.result c.from_residual-in_err-reached.ensures.1 in
    rw p.1 (inr (subst (λ (o : Option (List ℕ)). HasTaken o (g.F.Files.left c.reach.new.files)) c.in_ok-start.ensures.started c.reach.ensures.taken))

pub returns-in_err-answer-clause-given_up : goal.returns-in_err-answer-clause-given_up
returns-in_err-answer-clause-given_up g c =
    let p = err_from_is_err_and c.from_residual-in_err-answer.result c.from_residual-in_err-answer.ensures.1 in
    rw p.1 (inr (subst (λ (o : Option (List ℕ)). HasTaken o (g.F.Files.left c.reach.new.files)) c.in_ok-start.ensures.started c.reach.ensures.taken))
