use Rattle.std.proofs.Common.{Err, subst, arith}
use Rattle.rules_files.specs.snapshots.Loading.{loaded}
use Rattle.mich_snapshot.specs.Loaded.{IsLoaded}
use Rattle.mich_replay.proofs.Opened.{loaded_bad, loaded_unsound, opens}
use Rattle.mich_replay.proofs.resuming.open.Goals as goal

pub returns-in-Ok : goal.returns-in-Ok
returns-in-Ok c =
    opens c.args.bytes.now c.in-Ok.state c.course_of.result (λ i. omega (arith, c.type_inv.bytes i)) c.in-Ok.ensures.loaded
    c.in-Ok.ensures.stored c.in-Ok.ensures.ticketless c.in-Ok.ensures.typed c.course_of.ensures.world c.course_of.ensures.costs c.course_of.ensures.groups c.course_of.ensures.at_head

pub returns-in-Err-BadForm : goal.returns-in-Err-BadForm
returns-in-Err-BadForm c = loaded_bad (loaded c.args.bytes.now) c.in-Err-BadForm.place (subst (λ e. IsLoaded (loaded c.args.bytes.now) (Err e)) c.in-Err-BadForm.field-0-is c.in-Err-BadForm.ensures.loaded)

pub returns-in-Err-Unsound : goal.returns-in-Err-Unsound
returns-in-Err-Unsound c = loaded_unsound (loaded c.args.bytes.now) c.in-Err-Unsound.place (subst (λ e. IsLoaded (loaded c.args.bytes.now) (Err e)) c.in-Err-Unsound.field-0-is c.in-Err-Unsound.ensures.loaded)
