-- Workloads that are replayed, and their groups counted.
use Rattle.std.specs.Prelude.{◌≡◌, ◌<◌, ℕ, List, [], ◌∷◌, length, Bool, true, false, None, Result, Ok, Err, IfOk}
use Rattle.rules_files.specs.course.Course.{Course as PlainCourse}
use Rattle.rules_files.specs.commands.Places.{IsEndAt}
use Rattle.rules_world.specs.summary.Summary.{was_applied, has_failed, count_of, calls_in, summary_line}
use Rattle.rules_world.specs.world.Receipts.{Receipt}
use Rattle.mich_base.specs.declared.memory.Memory.{Memory}
use Rattle.mich_ops.specs.Told.{ToldReceipt}
use Rattle.mich_ops.specs.Told as told
use Rattle.mich_text.specs.pieces.Held.{Held}
use Rattle.mich_replay.specs.Coming.{Came, Happens}
use Rattle.mich_replay.specs.Output.{Output, Writes, WritesFront}
use Rattle.mich_replay.specs.declared.generating.Counts.{Counts}
use Rattle.mich_replay.specs.declared.generating.Counting.{Counting}
use Rattle.mich_replay.specs.declared.generating.Counting.TheVariants as counting
use Rattle.mich_replay.specs.declared.progress.Progress.{Progress}
use Rattle.mich_replay.specs.declared.session.Session.{Session}
use Rattle.mich_replay.specs.declared.steps.Event.{Event}
use Rattle.mich_io.specs.declared.stop.Stop.{Stop}

-- what is told of a group whose one content was applied, or failed
abbrev pub told_applied : ToldReceipt → Bool
told_applied (told.Done (told.Applied gas effects ∷ [])) = true
told_applied r = false

abbrev pub told_failed : ToldReceipt → Bool
told_failed (told.Done (told.Failed count failure ∷ [])) = true
told_failed r = false

-- of these groups so many were applied and so many failed, the first aside
pub record AreCounts (receipts : List Receipt) (counts : Counts) : Type 0 where
  pub groups : counts.groups ≡ length receipts
  pub applied : counts.applied ≡ count_of was_applied (calls_in receipts)
  pub failed : counts.failed ≡ count_of has_failed (calls_in receipts)

-- the groups of the bytes so far are counted
pub record IsCounted (fed : List ℕ) (r : Held) (c : Progress) (counts : Counts) : Type 0 where
  pub receipts : List Receipt
  pub came : Came None fed true r c receipts
  pub counted : AreCounts receipts counts

-- so are all groups of a workload
abbrev pub AllCounted : List ℕ → Session → Counts → Type 0
AllCounted fed s counts = IsCounted fed s.reader s.progress counts × IsEndAt fed s.reader.place

-- how the counting goes on behind a place, or ends
abbrev pub Counted : List ℕ → ℕ → Held → Progress → Counting → Type 0
Counted fed place r c (counting.On counts) = IsCounted fed r c counts × (place < r.place)
Counted fed place r c (counting.Ended counts) = IsCounted fed r c counts × IsEndAt fed r.place

-- the groups before it were counted so: what came behind a place is counted
abbrev pub CountsEvent : Counts → Event → Result Counting Memory → Type 0
CountsEvent counts e result =
    (fed : List ℕ) (receipts : List Receipt) (place : ℕ) (r : Held) (c : Progress) → AreCounts receipts counts
    → Happens None fed true receipts place r c (Ok e) → IfOk result (λ next. Counted fed place r c next)

-- the line was written, with status 0; or a front of it was
abbrev pub Summed : Output → Output → List ℕ → Result ℕ Stop → Type 0
Summed before now line (Ok status) = (status ≡ 0) × Writes before now (line ∷ [])
Summed before now line (Err e) = WritesFront before now (line ∷ [])

-- so it is with the line that sums up these groups, where they were counted so
abbrev pub SumsUp : List Receipt → Counts → ℕ → PlainCourse → (before now : Output) → Result ℕ Stop → Type 0
SumsUp receipts counts calls p before now result =
    AreCounts receipts counts → Summed before now (summary_line calls receipts p.world) result
