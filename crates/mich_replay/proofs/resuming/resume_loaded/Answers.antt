use Rattle.std.proofs.Common.{refl, sym, subst}
use Rattle.mich_replay.specs.Opening.{IsOpened, PacesAs, ResumesAs}
use Rattle.mich_replay.specs.Output.{output}
use Rattle.mich_replay.specs.View.{status_in}
use Rattle.mich_replay.specs.declared.resuming.Loaded.{Loaded}
use Rattle.mich_replay.proofs.Opened.{opens_course}
use Rattle.mich_replay.proofs.Refusing.{refusal_undone}
use Rattle.mich_replay.proofs.resuming.resume_loaded.Goals as goal

pub go_on-requires-clause-follows : goal.go_on-requires-clause-follows
go_on-requires-clause-follows g c = let q = c.requires.opened in opens_course q.0 c.in-Course.course (subst (IsOpened q.0) c.in-Course.is q.1)

pub returns-in-Course-clause-resumes : goal.returns-in-Course-clause-resumes
returns-in-Course-clause-resumes g c =
    let content = g.F.Files.content c.args.files.now c.args.path.now in
    let before = output (g.K.Sink.written c.args.out.now) (g.K.Sink.handed c.args.out.now) in
    let now = output (g.K.Sink.written c.go_on.new.out) (g.K.Sink.handed c.go_on.new.out) in
    subst (λ (l : Loaded). ResumesAs l content before now c.go_on.result) (sym c.in-Course.is) c.go_on.ensures.ends

pub returns-in-Course-clause-pace : goal.returns-in-Course-clause-pace
returns-in-Course-clause-pace g c =
    let content = g.F.Files.content c.args.files.now c.args.path.now in
    subst (λ (l : Loaded). PacesAs l content (g.F.Files.left c.args.files.now) (g.F.Files.left c.go_on.new.files) (g.K.Sink.written c.args.out.now) (g.K.Sink.written c.go_on.new.out) (status_in c.go_on.result))
    (sym c.in-Course.is) c.go_on.ensures.pace

pub returns-in-BadForm-clause-resumes : goal.returns-in-BadForm-clause-resumes
returns-in-BadForm-clause-resumes g c =
    let content = g.F.Files.content c.args.files.now c.args.path.now in
    let before = output (g.K.Sink.written c.args.out.now) (g.K.Sink.handed c.args.out.now) in
    let now = output (g.K.Sink.written c.refuse_as.new.out) (g.K.Sink.handed c.refuse_as.new.out) in
    subst (λ (l : Loaded). ResumesAs l content before now c.refuse_as.result) (sym c.in-BadForm.is) c.refuse_as.ensures.refuses

pub returns-in-BadForm-clause-pace : goal.returns-in-BadForm-clause-pace
returns-in-BadForm-clause-pace g c =
    let content = g.F.Files.content c.args.files.now c.args.path.now in
    let left = g.F.Files.left c.args.files.now in
    subst (λ (l : Loaded). PacesAs l content left left (g.K.Sink.written c.args.out.now) (g.K.Sink.written c.refuse_as.new.out) (status_in c.refuse_as.result)) (sym c.in-BadForm.is) refl

pub returns-in-BadForm-clause-end : goal.returns-in-BadForm-clause-end
returns-in-BadForm-clause-end g c = refusal_undone _ _ _ _ c.refuse_as.result c.refuse_as.ensures.refuses

pub returns-in-Unsound-clause-resumes : goal.returns-in-Unsound-clause-resumes
returns-in-Unsound-clause-resumes g c =
    let content = g.F.Files.content c.args.files.now c.args.path.now in
    let before = output (g.K.Sink.written c.args.out.now) (g.K.Sink.handed c.args.out.now) in
    let now = output (g.K.Sink.written c.refuse_as-in-Unsound.new.out) (g.K.Sink.handed c.refuse_as-in-Unsound.new.out) in
    subst (λ (l : Loaded). ResumesAs l content before now c.refuse_as-in-Unsound.result) (sym c.in-Unsound.is) c.refuse_as-in-Unsound.ensures.refuses

pub returns-in-Unsound-clause-pace : goal.returns-in-Unsound-clause-pace
returns-in-Unsound-clause-pace g c =
    let content = g.F.Files.content c.args.files.now c.args.path.now in
    let left = g.F.Files.left c.args.files.now in
    subst (λ (l : Loaded). PacesAs l content left left (g.K.Sink.written c.args.out.now) (g.K.Sink.written c.refuse_as-in-Unsound.new.out) (status_in c.refuse_as-in-Unsound.result)) (sym c.in-Unsound.is) refl

pub returns-in-Unsound-clause-end : goal.returns-in-Unsound-clause-end
returns-in-Unsound-clause-end g c = refusal_undone _ _ _ _ c.refuse_as-in-Unsound.result c.refuse_as-in-Unsound.ensures.refuses
