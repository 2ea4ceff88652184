use Rattle.std.proofs.Common.{◌≡◌, List, ℕ, Err, sym, subst}
use Rattle.std.specs.declared.option.Option.{Option}
use Rattle.std.specs.Prelude.{IfOk}
use Rattle.rules_files.specs.commands.Snapshots.{saved_answer}
use Rattle.rules_files.specs.snapshots.Loading.{saved}
use Rattle.mich_answers.specs.View.{answer_seen}
use Rattle.mich_snapshot.specs.Puts.{IsSaved}
use Rattle.mich_snapshot.specs.Snapshots.{snapshot_of}
use Rattle.mich_replay.proofs.Reached.{saved_ok, saved_long}
use Rattle.mich_replay.proofs.snapshotting.answer_state.Goals as goal

pub returns-in-Ok : goal.returns-in-Ok
returns-in-Ok c = λ w rest.
    let e = saved_ok (saved (snapshot_of c.args.state.now w)) c.in-Ok.bytes (c.in-Ok.ensures w rest) in
    subst (λ (o : Option (List ℕ)). IfOk c.answer_bytes.result (λ a. answer_seen a ≡ saved_answer o)) (sym e) c.answer_bytes.ensures

pub returns-in-Err-TooLong : goal.returns-in-Err-TooLong
returns-in-Err-TooLong c = λ w rest.
    let o = saved (snapshot_of c.args.state.now w) in
    let e = saved_long o (subst (λ x. IsSaved o (Err x)) c.in-Err-TooLong.field-0-is (c.in-Err-TooLong.ensures w rest)) in
    subst (λ (o : Option (List ℕ)). IfOk c.refused.result (λ a. answer_seen a ≡ saved_answer o)) (sym e) c.refused.ensures
