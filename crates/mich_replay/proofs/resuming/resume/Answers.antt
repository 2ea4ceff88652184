use Rattle.std.proofs.Common.{List, ℕ, Err, Option, inl, sym, ap, refl, Contains, subst}
use Rattle.std.proofs.lemmas.Result.{err_from_is_err_and}
use Rattle.mich_replay.specs.Opening.{PacesAs, ResumesAs}
use Rattle.mich_replay.specs.Output.{output}
use Rattle.mich_replay.specs.View.{status_in}
use Rattle.mich_replay.proofs.Opened.{no_text, paces_behind, resumes_comes, takes_both}
use Rattle.mich_replay.proofs.Taken.{given_up, same_again}
use Rattle.mich_replay.proofs.Written.{nothing}
use Rattle.mich_replay.proofs.resuming.resume.Goals as goal

pub returns-in_err-loaded-clause-comes : goal.returns-in_err-loaded-clause-comes
returns-in_err-loaded-clause-comes g c =
    let p = err_from_is_err_and c.from_residual.result c.from_residual.ensures.1 in
    rw p.1 (λ other h. nothing _ _)

pub returns-in_err-loaded-clause-pace : goal.returns-in_err-loaded-clause-pace
returns-in_err-loaded-clause-pace g c = λ bytes s e loads.
    let p = err_from_is_err_and c.from_residual.result c.from_residual.ensures.1 in
    rw (p.1, p.2) (inl (refl, no_text c.in_err-loaded.field-0.0 (λ e. c.in_err-loaded.ensures.no_write (ap Err e))))

pub returns-in_err-loaded-clause-taken : goal.returns-in_err-loaded-clause-taken
returns-in_err-loaded-clause-taken g c =
    let p = err_from_is_err_and c.from_residual.result c.from_residual.ensures.1 in
    let taken = given_up (g.F.Files.content c.args.files.now c.args.snapshot.now) (g.F.Files.left c.args.files.now) (g.F.Files.left c.open_file.new.files) (g.K.Sink.written c.args.out.now)
    c.in_err-loaded.field-0.0 (λ e. c.in_err-loaded.ensures.no_write (ap Err e)) c.in_err-loaded.ensures.given_up in
    rw (p.1, p.2) (record { takes = inl taken; refused = λ bytes fault e loads. taken })

pub resume_loaded-requires-clause-path : goal.resume_loaded-requires-clause-path
resume_loaded-requires-clause-path g c = subst (λ (lent : List (List ℕ)). Contains lent c.args.path.now) (sym c.in_ok-loaded.ensures.same.lent) c.requires.path

pub resume_loaded-requires-clause-opened : goal.resume_loaded-requires-clause-opened
resume_loaded-requires-clause-opened g c = let h = c.in_ok-loaded.ensures.opened in (h.0, h.1)

pub returns-clause-comes : goal.returns-clause-comes
returns-clause-comes g c =
    let content = g.F.Files.content c.args.files.now in
    let before = output (g.K.Sink.written c.args.out.now) (g.K.Sink.handed c.args.out.now) in
    let now = output (g.K.Sink.written c.resume_loaded.new.out) (g.K.Sink.handed c.resume_loaded.new.out) in
    resumes_comes content c.args.snapshot.now c.args.path.now before now c.in_ok-loaded.loaded c.in_ok-loaded.ensures.opened c.resume_loaded.result
    (subst (λ (o : Option (List ℕ)). ResumesAs c.in_ok-loaded.loaded o before now c.resume_loaded.result) (c.in_ok-loaded.ensures.same.content c.args.path.now) c.resume_loaded.ensures.resumes)

pub returns-clause-pace : goal.returns-clause-pace
returns-clause-pace g c =
    let content = g.F.Files.content c.args.files.now in
    let middle = g.F.Files.left c.open_file.new.files in
    let left = g.F.Files.left c.resume_loaded.new.files in
    let before = g.K.Sink.written c.args.out.now in
    let now = g.K.Sink.written c.resume_loaded.new.out in
    paces_behind (content c.args.snapshot.now) (content c.args.path.now) middle left before now (status_in c.resume_loaded.result) c.in_ok-loaded.loaded c.in_ok-loaded.ensures.opened
    (subst (λ (o : Option (List ℕ)). PacesAs c.in_ok-loaded.loaded o middle left before now (status_in c.resume_loaded.result)) (c.in_ok-loaded.ensures.same.content c.args.path.now) c.resume_loaded.ensures.pace)

pub returns-clause-taken : goal.returns-clause-taken
returns-clause-taken g c =
    let content = g.F.Files.content c.args.files.now in
    let middle = g.F.Files.left c.open_file.new.files in
    let left = g.F.Files.left c.resume_loaded.new.files in
    let before = g.K.Sink.written c.args.out.now in
    let now = g.K.Sink.written c.resume_loaded.new.out in
    takes_both (content c.args.snapshot.now) (content c.args.path.now) middle left before now (status_in c.resume_loaded.result) (g.F.Files.left c.args.files.now) c.in_ok-loaded.loaded
    c.in_ok-loaded.ensures.opened c.in_ok-loaded.ensures.taken
    (subst (λ (o : Option (List ℕ)). PacesAs c.in_ok-loaded.loaded o middle left before now (status_in c.resume_loaded.result)) (c.in_ok-loaded.ensures.same.content c.args.path.now) c.resume_loaded.ensures.pace)

pub returns-clause-same : goal.returns-clause-same
returns-clause-same g c = same_again _ _ _ _ _ _ c.in_ok-loaded.ensures.same c.resume_loaded.ensures.same
