-- What a file comes to that is replayed for its snapshot.
use Rattle.std.specs.Prelude.{◌≡◌, ◌≤◌, ◌<◌, ℕ, List, length, Bool, true, false, Option, Some, None, Result, Ok, IfOk}
use Rattle.std.specs.Io.KnownBytes.{Consumes}
use Rattle.rules_text.specs.nodes.Limits.{file_limit}
use Rattle.rules_files.specs.commands.Places.{IsEndAt}
use Rattle.rules_files.specs.commands.Snapshots as snapshots
use Rattle.rules_files.specs.course.Course.{Course as PlainCourse}
use Rattle.rules_world.specs.world.Receipts.{Receipt}
use Rattle.rules_world.specs.world.World.{World as PlainWorld}
use Rattle.mich_base.specs.declared.memory.Memory.{Memory}
use Rattle.mich_report.specs.State.{IsAtRest}
use Rattle.mich_snapshot.specs.Snapshots.{snapshot_of}
use Rattle.mich_text.specs.pieces.Held.{Held}
use Rattle.mich_replay.specs.Coming.{Came, CameTo, Happens, IsRefused}
use Rattle.mich_replay.specs.View.{file_fault_seen}
use Rattle.mich_replay.specs.declared.progress.Progress.{Progress}
use Rattle.mich_replay.specs.declared.replaying.Pause.{Pause}
use Rattle.mich_replay.specs.declared.replaying.Pause.TheVariants as pause
use Rattle.mich_replay.specs.declared.session.Session.{Session}
use Rattle.mich_replay.specs.declared.snapshotting.Reached.{Reached}
use Rattle.mich_replay.specs.declared.snapshotting.Reached.TheVariants as reached
use Rattle.mich_replay.specs.declared.steps.Event.{Event}

-- ---- statements that are taken, of which nothing is told

-- it has come behind some receipts
abbrev pub HasCome : Option PlainCourse → List ℕ → Bool → Held → Progress → Type 0
HasCome from fed last r c = (receipts : List Receipt) × Came from fed last r c receipts

-- what stands behind the statements that were taken
abbrev pub Stops : Option PlainCourse → List ℕ → Bool → Held → Progress → Pause → Type 0
Stops from fed last r c pause.More = (last ≡ false) × HasCome from fed false r c × (length fed ≤ file_limit)
Stops from fed last r c pause.End = HasCome from fed true r c × (last ≡ true) × IsEndAt fed r.place
Stops from fed last r c (pause.Refused fault at) = (receipts : List Receipt) × IsRefused from fed last receipts (file_fault_seen fault) at

-- on with more of them behind a place, or that
abbrev pub Passes : Option PlainCourse → List ℕ → Bool → ℕ → Held → Progress → Option Pause → Type 0
Passes from fed last place r c None = HasCome from fed last r c × (place < r.place)
Passes from fed last place r c (Some p) = Stops from fed last r c p

-- so it is behind any event that came
abbrev pub PassesEvent : Event → Option Pause → Type 0
PassesEvent e found =
    (from : Option PlainCourse) (fed : List ℕ) (last : Bool) (receipts : List Receipt) (place : ℕ) (r : Held) (c : Progress)
    → Happens from fed last receipts place r c (Ok e) → Passes from fed last place r c found

-- and behind all statements that stand
abbrev pub PassesGroups : Bool → (before behind : Session) → Result Pause Memory → Type 0
PassesGroups last s t result =
    (from : Option PlainCourse) (fed : List ℕ) (receipts : List Receipt) → CameTo from fed last s receipts
    → IfOk result (Stops from fed last t.reader t.progress)

-- so many bytes of the file were read, and their statements taken
pub record IsPassing (content left : Option (List ℕ)) (r : Held) (c : Progress) (size : ℕ) : Type 0 where
  pub fed : List ℕ
  pub bytes : Consumes content left fed
  pub size_is : size ≡ length fed
  pub short : size ≤ file_limit
  pub come : HasCome None fed false r c

-- ---- the state that a file comes to

-- the state is this one, or the refusal
abbrev pub IsSeenAs : snapshots.Reached → Reached → Type 0
IsSeenAs (snapshots.came_to s) (reached.State found) = (w : PlainWorld) × IsAtRest found.world w × (snapshot_of found w ≡ s)
IsSeenAs (snapshots.refused_at f place) (reached.Refused fault at) = (f ≡ file_fault_seen fault) × (place ≡ at)
IsSeenAs plain found = ⊥

-- a file of so many bytes comes to this at its end
abbrev pub EndsIn : Progress → ℕ → Reached → Type 0
EndsIn c size found =
    (file : List ℕ) (receipts : List Receipt) (r : Held) → size ≡ length file → Came None file true r c receipts → IsEndAt file r.place
    → (plain : snapshots.Reached) × IsSeenAs plain found × snapshots.IsReached file plain

-- what a file of this content comes to
abbrev pub IsReachedBy : Option (List ℕ) → Reached → Type 0
IsReachedBy content found =
    (plain : snapshots.Reached) × IsSeenAs plain found × ((file : List ℕ) → content ≡ Some file → snapshots.IsReached file plain)

-- it is a state
abbrev pub IsState : Reached → Type 0
IsState (reached.State found) = Unit {0}
IsState (reached.Refused fault at) = ⊥
