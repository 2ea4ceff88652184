-- A workload that was replayed, and its summary.
use Rattle.std.proofs.Common.{◌≡◌, ◌<◌, ◌^◌, ℕ, true, List, [], length, Some, None, Result, Ok, Err, refl, sym, ap, ◌∙◌, subst, inl, append-nil, arith}
use Rattle.std.specs.declared.option.Option.{Option}
use Rattle.rules_files.specs.course.Course.{Course as PlainCourse}
use Rattle.rules_files.specs.workload.Workload.{scenario}
use Rattle.rules_files.specs.commands.Answers.{done_with}
use Rattle.rules_files.specs.commands.Commands.{Generating, IsWorkloadAnswer}
use Rattle.rules_files.specs.commands.Places.{AreStatements, IsEndAt}
use Rattle.rules_files.specs.commands.Replay.{Closes, State, Run, going}
use Rattle.rules_world.specs.summary.Summary.{summary_line}
use Rattle.rules_world.specs.world.Receipts.{Receipt}
use Rattle.mich_group.specs.course.Following.{Follows}
use Rattle.mich_group.specs.declared.course.course.Course.{Course}
use Rattle.mich_text.specs.pieces.Held.{Held}
use Rattle.mich_replay.specs.Coming.{Came, Comes}
use Rattle.mich_replay.specs.Generating.{AreCounts, IsCounted, Summed}
use Rattle.mich_replay.specs.Output.{Output}
use Rattle.mich_replay.specs.Steps.{FollowsIf}
use Rattle.mich_replay.specs.declared.generating.Counts.{Counts}
use Rattle.mich_replay.specs.declared.progress.Progress.{Progress}
use Rattle.mich_io.specs.declared.stop.Stop.{Stop}
use Rattle.mich_replay.proofs.Promise.{Shows, shown}

-- a course that is there follows one of the rules
pub followed : (c : Course) (plain : Option PlainCourse) → FollowsIf (Some c) plain → (p : PlainCourse) × (plain ≡ Some p) × Follows c p
followed c (Some p) f = (p, refl, f)
followed c None f = absurd f

-- there are few receipts
pub few_receipts : (fed : List ℕ) (r : Held) (c : Progress) (receipts : List Receipt) → Came None fed true r c receipts → length receipts < 2 ^ 32
few_receipts fed r c receipts h =
    let few = h.reads.few in
    let short = h.reads.short in
    omega (arith, few, short)

-- at the end of a workload's text it has come to its receipts and a world
workload_answer : (calls : ℕ) (r : Held) (c : Progress) (receipts : List Receipt) (p : PlainCourse) (h : Came None (scenario calls) true r c receipts) → h.plain ≡ Some p →
    IsEndAt (scenario calls) r.place → IsWorkloadAnswer calls (done_with (summary_line calls receipts p.world))
workload_answer calls r c receipts p h is end = (
  receipts,
  p.world,
  record {
    statements = h.statements;
    to = r.place;
    stand = subst (λ (l : List ℕ). AreStatements l 0 h.statements r.place) (append-nil (scenario calls)) (h.reads.begun.stand [] (λ e. refl));
    closes = subst (λ (x : Run). Closes (scenario calls) r.place x (record { receipts = receipts; ending = State p.world }))
        (sym (h.reads.begun.run ∙ ap (going receipts) is)) (inl (end, refl));
  },
  refl,
)

shows : (a b : Output) (line : List ℕ) (r : Result ℕ Stop) → Summed a b line r → Shows a b (done_with line) r
shows a b line (Ok status) h = h
shows a b line (Err e) h = h

-- its summary was written
pub generated : (calls : ℕ) (content : List ℕ → Option (List ℕ)) (a b : Output) (text : List ℕ) (r : Held) (o : Progress) (c : Course) (counts : Counts)
    (result : Result ℕ Stop) → text ≡ scenario calls → o.course ≡ Some c → IsCounted text r o counts × IsEndAt text r.place →
    ((receipts : List Receipt) (p : PlainCourse) → Follows c p → AreCounts receipts counts → Summed a b (summary_line calls receipts p.world) result) →
    Comes (Generating calls) content a b result
generated calls content a b text r o c counts result e is h summed =
    let k = subst (λ (l : List ℕ). IsCounted l r o counts × IsEndAt l r.place) e h in
    let came = k.0.came in
    let f = followed c came.plain (subst (λ (x : Option Course). FollowsIf x came.plain) is came.stands.follows) in
    shown (Generating calls) content a b (done_with (summary_line calls k.0.receipts f.0.world)) result (λ t. workload_answer calls r o k.0.receipts f.0 came f.1 k.1) refl
    (shows a b (summary_line calls k.0.receipts f.0.world) result (summed k.0.receipts f.0 f.2 k.0.counted))
