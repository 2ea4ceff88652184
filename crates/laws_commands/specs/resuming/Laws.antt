-- A file that goes on from a snapshot writes what it writes behind the file that the snapshot is of (this host's own).
use Rattle.std.specs.Prelude.{◌≡◌, ◌≤◌, ◌+◌, ◌-◌, ℕ, true, List, [], ◌∷◌, ◌++◌, length, Option, Some, Ok, slice_get}
use Rattle.rules_files.specs.commands.Answers.{Answer, done_with, status_of, replay_answer}
use Rattle.rules_files.specs.commands.Lines.{group_lines, lines_of}
use Rattle.rules_files.specs.commands.Places.{Placed, IsNodeAt, IsEndAt}
use Rattle.rules_files.specs.commands.Replay.{Ending, State, RefusedAt, Replay, IsReplay}
use Rattle.rules_files.specs.commands.Resuming.{IsResumed, resumed_answer, Resumes, IsResumeAnswer}
use Rattle.rules_files.specs.commands.Snapshots.{came_to, IsReached, IsSnapshotAnswer}
use Rattle.rules_files.specs.course.Course.{Course}
use Rattle.rules_files.specs.snapshots.Course.{course_of}
use Rattle.rules_files.specs.snapshots.Loading.{loaded, saved}
use Rattle.rules_files.specs.snapshots.Reading.{snapshot_limit}
use Rattle.rules_files.specs.snapshots.Rules.{is_sound}
use Rattle.rules_files.specs.snapshots.Spelt.{IsSpelt}
use Rattle.rules_files.specs.snapshots.State as snapshot

-- ---- files that another may stand behind

-- each statement is followed by a `;`
abbrev pub AreClosed : List ℕ → ℕ → List Placed → ℕ → Type 0
AreClosed file place [] to = place ≡ to
AreClosed file place (s ∷ ss) to =
    (behind : ℕ) × IsNodeAt file place s.node s.place behind × (slice_get file (behind - 1) ≡ Some 59) × AreClosed file behind ss to

-- and the file ends with a line feed
pub record IsClosed (file : List ℕ) : Type 0 where
  pub statements : List Placed
  pub to : ℕ
  pub stand : AreClosed file 0 statements to
  pub end : IsEndAt file to
  pub line : slice_get file (length file - 1) ≡ Some 10

-- ---- the law

abbrev pub moved : ℕ → Ending → Ending
moved size (State w) = State w
moved size (RefusedAt fault place) = RefusedAt fault (size + place)

-- what a file comes to, told behind so many bytes
abbrev pub told_behind : ℕ → Replay → Replay
told_behind size done = record { receipts = done.receipts; ending = moved size done.ending }

-- What `replay` writes of two files, one behind the other, are the lines of the first one's groups, and then what `resume` writes of
-- the second one, where it goes on from the state that the first one came to; but a refusal's place is told behind the first file.
pub record GoesOn (first second : List ℕ) (before : Replay) (s : snapshot.State) (done : Replay) : Type 0 where
  pub after : Replay
  pub resumed : IsResumed (course_of s) second after
  pub status : status_of done.ending ≡ status_of after.ending
  pub lines : lines_of done ≡ group_lines 1 before.receipts ++ (resumed_answer s.groups (told_behind (length first) after)).lines

abbrev pub CoursesGoOn : Type 0
CoursesGoOn =
    (first second : List ℕ) (before done : Replay) (s : snapshot.State) → IsReplay first before → IsReached first (came_to s) →
    IsClosed first → length first + length second ≤ snapshot_limit → IsReplay (first ++ second) done → GoesOn first second before s done

-- a file comes to one end where it goes on from a course
abbrev pub OneEnd : Type 0
OneEnd = (c : Course) (file : List ℕ) (a b : Replay) → IsResumed c file a → IsResumed c file b → a ≡ b

-- ---- from the bytes of a snapshot

-- a sound state is gone on from
abbrev pub SoundStatesGoOn : Type 0
SoundStatesGoOn =
    (s : snapshot.State) (bytes : List ℕ) (content : Option (List ℕ)) (answer : Answer) → IsSpelt s → is_sound s ≡ true →
    saved s ≡ Some bytes → length bytes ≤ snapshot_limit → IsResumeAnswer bytes content answer → Resumes (Ok s) content answer

-- The snapshot of a file is loaded as the state that the file came to, and this is what `resume` answers for it and for a second
-- file, beside what `replay` answers for both files: the same status; and the lines of the first one's groups, and then the lines of
-- `resume`, but that a refusal's place is told behind the first file.
pub record Continues (first second bytes : List ℕ) (before done : Replay) (answer : Answer) : Type 0 where
  pub state : snapshot.State
  pub loads : loaded bytes ≡ Ok state
  pub after : Replay
  pub resumes : answer ≡ resumed_answer state.groups after
  pub status : (replay_answer done).status ≡ answer.status
  pub lines :
      (replay_answer done).lines
      ≡ group_lines 1 before.receipts ++ (resumed_answer state.groups (told_behind (length first) after)).lines

-- Where a file is replayed to its end and its snapshot is written, a second file goes on from this snapshot as it goes on behind the
-- first one.
abbrev pub ResumingGoesOn : Type 0
ResumingGoesOn =
    (first second bytes : List ℕ) (before done : Replay) (answer : Answer) → IsReplay first before →
    IsSnapshotAnswer first (done_with bytes) → length bytes ≤ snapshot_limit → IsClosed first →
    length first + length second ≤ snapshot_limit → IsReplay (first ++ second) done → IsResumeAnswer bytes (Some second) answer →
    Continues first second bytes before done answer
