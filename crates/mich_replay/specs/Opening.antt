-- A snapshot that is loaded, and the file that goes on from it.
use Rattle.std.specs.Prelude.{◌≡◌, ◌<◌, ◌^◌, ℕ, List, Option, Some, Result, Ok, Err, codes}
use Rattle.rules_files.specs.commands.Lines.{refusal_line}
use Rattle.rules_files.specs.course.Course.{Course as PlainCourse}
use Rattle.rules_files.specs.snapshots.Course.{course_of}
use Rattle.rules_files.specs.snapshots.Loading.{LoadFault, BadForm, Unsound, loaded}
use Rattle.rules_files.specs.snapshots.State.{State}
use Rattle.mich_group.specs.course.Following.{Follows}
use Rattle.mich_group.specs.declared.course.course.Course.{Course}
use Rattle.mich_replay.specs.Coming.{EndsAs}
use Rattle.mich_replay.specs.Output.{Output, RefusesWith}
use Rattle.mich_replay.specs.Pace.{WritesBehind}
use Rattle.mich_replay.specs.declared.resuming.Loaded.{Loaded}
use Rattle.mich_replay.specs.declared.resuming.Loaded.TheVariants as opened
use Rattle.mich_io.specs.declared.stop.Stop.{Stop}

-- a course of the rules from which a file can go on as from this one
abbrev pub GoesOnAs : Course → PlainCourse → Type 0
GoesOnAs c p = Follows c p × (p.groups < 2 ^ 63)

-- the course goes on from the state that was loaded, or the refusal is the same
abbrev pub IsOpened : Result State LoadFault → Loaded → Type 0
IsOpened (Ok s) (opened.Course c) = GoesOnAs c (course_of s)
IsOpened (Err (BadForm place)) (opened.BadForm at) = at ≡ place
IsOpened (Err (Unsound place)) (opened.Unsound at) = at ≡ place
IsOpened found l = ⊥

-- so it is of a file of this content
abbrev pub IsOpenedFrom : Option (List ℕ) → Loaded → Type 0
IsOpenedFrom content l =
    (found : Result State LoadFault) × IsOpened found l × ((bytes : List ℕ) → content ≡ Some bytes → loaded bytes ≡ found)

-- what the file comes to was written, or the line of the refusal
abbrev pub ResumesAs : Loaded → Option (List ℕ) → (before now : Output) → Result ℕ Stop → Type 0
ResumesAs (opened.Course c) content before now result = (p : PlainCourse) → GoesOnAs c p → EndsAs (Some p) content before now result
ResumesAs (opened.BadForm place) content before now result = RefusesWith (refusal_line (codes "BadForm") place) before now result
ResumesAs (opened.Unsound place) content before now result = RefusesWith (refusal_line (codes "Unsound") place) before now result

-- the file keeps step, or it isn't read
abbrev pub PacesAs : Loaded → (content left_before left_now before now : Option (List ℕ)) → ℕ → Type 0
PacesAs (opened.Course c) content left_before left_now before now status =
    (p : PlainCourse) → GoesOnAs c p → WritesBehind (Some p) content left_before left_now before now status
PacesAs (opened.BadForm place) content left_before left_now before now status = left_now ≡ left_before
PacesAs (opened.Unsound place) content left_before left_now before now status = left_now ≡ left_before
