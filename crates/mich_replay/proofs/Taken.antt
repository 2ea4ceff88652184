-- How much was taken of a file, and what stays of all files.
use Rattle.std.proofs.Common.{◌≡◌, ◌⊎◌, ◌≤◌, ℕ, ◌+◌, List, ◌++◌, length, None, Err, inl, inr, ap, ◌∙◌, arith}
use Rattle.std.proofs.lemmas.List.{length-append}
use Rattle.std.specs.declared.option.Option.{Option}
use Rattle.std.specs.Io.KnownBytes.{Consumes}
use Rattle.std.proofs.KnownBytes.{Consumes-trans}
use Rattle.rules_text.specs.nodes.Limits.{file_limit}
use Rattle.rules_text.specs.streams.Known.{SameFiles}
use Rattle.rules_files.specs.course.Course.{Course as PlainCourse}
use Rattle.mich_replay.specs.Pace.{TakesInStep, WritesAsItReads, piece_limit}
use Rattle.mich_replay.specs.Taken.{HasTaken, TakesFile}
use Rattle.mich_replay.specs.View.{status_in}
use Rattle.mich_io.specs.declared.stop.Stop.{Stop}
use Rattle.mich_io.specs.declared.stop.Stop.TheVariants as stop
use Rattle.mich_replay.proofs.Pace.{not_started}

-- ---- files

pub same_again : (lent middle now : List (List ℕ)) (content between behind : List ℕ → Option (List ℕ)) → SameFiles lent middle content between →
    SameFiles middle now between behind → SameFiles lent now content behind
same_again lent middle now content between behind p q = record { lent = q.lent ∙ p.lent; content = λ path. q.content path ∙ p.content path }

-- ---- what was taken

-- a file that is replayed keeps step, and so no more was taken of it
pub step_taken : (from : Option PlainCourse) (content left before now : Option (List ℕ)) (status : ℕ) → TakesInStep from content left before now status → HasTaken content left
step_taken from content left before now status (taken, bytes, k) =
    let size : length taken ≡ length k.front + length k.piece = ap (λ (l : List ℕ). length l) k.taken_is ∙ length-append k.front k.piece in
    (taken, bytes, omega (arith, size, k.within, k.short))

pub paced_taken : (content left_before left_now before now : Option (List ℕ)) (status : ℕ) → WritesAsItReads content left_before left_now before now status →
    TakesFile content left_before left_now before now status
paced_taken content left_before left_now before now status (inl p) = inl p
paced_taken content left_before left_now before now status (inr p) = inr (step_taken None content left_now before now status p)

-- one piece more was taken
pub more_taken : (content left now : Option (List ℕ)) (bytes piece : List ℕ) → Consumes content left bytes → Consumes left now piece → length bytes ≤ file_limit →
    length piece ≤ piece_limit → HasTaken content now
more_taken content left now bytes piece p q within short = (bytes ++ piece, Consumes-trans content left now bytes piece p q, omega (arith, length-append bytes piece, within, short))

-- it was given up before anything was written
pub given_up : (content before left a : Option (List ℕ)) (e : Stop) → (e ≡ stop.Write → ⊥) → (left ≡ before) ⊎ HasTaken content left → TakesFile content before left a a (status_in (Err e))
given_up content before left a e none (inl same) = inl (not_started before left a e none same)
given_up content before left a e none (inr taken) = inr taken
