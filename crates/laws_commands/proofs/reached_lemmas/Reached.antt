-- The state that a file comes to is that of its course.
use Rattle.std.proofs.Common.{◌≡◌, ◌≤◌, inl, inr, ℕ, true, false, List, [], length, Some, None, refl, sym, subst}
use Rattle.std.specs.List.{All, list_any}
use Rattle.rules_world.specs.world.Receipts.{Receipt}
use Rattle.rules_files.specs.course.Course.{Course}
use Rattle.rules_files.specs.commands.Places.{Placed, AreStatements, IsEndAt}
use Rattle.rules_files.specs.commands.Replay.{Ending, Replay, Run, going, stopped, stuck_run, run_all, Closes}
use Rattle.rules_files.specs.commands.Snapshots.{came_to, statements_of, Reaches}
use Rattle.rules_files.specs.snapshots.State.{State}
use Rattle.rules_files.specs.snapshots.Spelling.{state_spelling}
use Rattle.rules_files.specs.snapshots.Spelt.{IsSpelt}
use Rattle.rules_files.specs.snapshots.Reading.{snapshot_limit}
use Rattle.rules_files.specs.snapshots.Rules.{is_sound}
use Rattle.rules_files.specs.snapshots.Loading.{is_long, nodes_in, saved}
use Rattle.rules_files.specs.snapshots.Course.{state_of}
use Rattle.laws_commands.specs.reached.Kept.{CanBeCounted, IsKept}
use Rattle.laws_commands.specs.reached.Reached.{ListsAreCounted, ReachedAreSound}
use Rattle.mich_text.proofs.ForCallers.{can_be_written}
use Rattle.laws_commands.specs.written.Worlds.{IsWrittenWorld}
use Rattle.laws_commands.proofs.written_lemmas.values.Levels.{closed}
use Rattle.laws_commands.proofs.written_lemmas.files.Files.{files_end_written}
use Rattle.laws_commands.proofs.reached_lemmas.Courses.{courses_are_behind}
use Rattle.laws_commands.proofs.reached_lemmas.Kept.{world_kept}
use Rattle.laws_commands.proofs.reached_lemmas.Lengths.{saved_is}
use Rattle.laws_commands.proofs.reached_lemmas.Marks.{courses_track}
use Rattle.laws_commands.proofs.reached_lemmas.Sound.{sound, has_spelling}

abbrev IsWell : State → Type 0
IsWell s = IsSpelt s × (is_sound s ≡ true)

came : (s t : State) → came_to s ≡ came_to t → s ≡ t
came s t e = cc

module _ (file bytes : List ℕ) (s : State) (saves : saved s ≡ Some bytes) (few : length bytes ≤ snapshot_limit) where
  of_course : (ss : List Placed) (to : ℕ) (receipts : List Receipt) (c : Course) → AreStatements file 0 ss to →
      run_all (going [] None) ss ≡ going receipts (Some c) → IsKept c.groups c.world → s ≡ state_of (statements_of ss) c → IsWell s
  of_course ss to receipts c stand runs kept same =
      let out = saved_is s bytes saves in
      let text : length (state_spelling (state_of (statements_of ss) c)) ≤ snapshot_limit =
      subst (λ (t : State). length (state_spelling t) ≤ snapshot_limit) same (subst (λ (b : List ℕ). length b ≤ snapshot_limit) (sym out.1) few) in
      let nodes : list_any is_long (nodes_in (state_of (statements_of ss) c)) ≡ false =
      subst (λ (t : State). list_any is_long (nodes_in t) ≡ false) same out.0 in
      let behind = courses_are_behind file ss to receipts c stand runs in
      let marks = courses_track ss receipts c runs in
      subst IsWell (sym same)
      (has_spelling (statements_of ss) c behind kept marks text nodes, sound (statements_of ss) c behind kept marks text nodes)

  written : (ss : List Placed) (to : ℕ) (receipts : List Receipt) (c : Course) → AreStatements file 0 ss to → IsEndAt file to →
      run_all (going [] None) ss ≡ going receipts (Some c) → IsWrittenWorld c.world
  written ss to receipts c stand end runs =
      let done : Replay = record { receipts = receipts; ending = Ending.State c.world } in
      let closes : Closes file to (going receipts (Some c)) done = inl (end, refl) in
      (files_end_written (λ before text tree start end n. let w = can_be_written before text tree start end n in closed tree w.0 w.1) file done c.world
      (record { statements = ss; to = to; stand = stand; closes = subst (λ (r : Run). Closes file to r done) (sym runs) closes }) refl).0

  module _ (lists : (ss : List Placed) (to : ℕ) (receipts : List Receipt) (c : Course) → AreStatements file 0 ss to →
      run_all (going [] None) ss ≡ going receipts (Some c) → All (λ d. CanBeCounted d.1.storage) c.world.contracts) where
    at_end : (ss : List Placed) (to : ℕ) (receipts : List Receipt) (c : Course) → AreStatements file 0 ss to → IsEndAt file to →
        run_all (going [] None) ss ≡ going receipts (Some c) → s ≡ state_of (statements_of ss) c → IsWell s
    at_end ss to receipts c stand end runs same =
        of_course ss to receipts c stand runs
        (world_kept c (courses_are_behind file ss to receipts c stand runs) (written ss to receipts c stand end runs) (lists ss to receipts c stand runs))
        same

    of_run : (ss : List Placed) (to : ℕ) (r : Run) → AreStatements file 0 ss to → run_all (going [] None) ss ≡ r →
        Reaches file ss to r (came_to s) → IsWell s
    of_run ss to (stopped receipts f place) stand runs reaches = absurd cc
    of_run ss to stuck_run stand runs reaches = absurd reaches
    of_run ss to (going receipts (Some c)) stand runs (inl h) = at_end ss to receipts c stand h.0 runs (came s (state_of (statements_of ss) c) h.1)
    of_run ss to (going receipts None) stand runs (inl h) = absurd (let e = h.1 in cc)
    of_run ss to (going receipts c) stand runs (inr h) = absurd (let e = h.3 in cc)

pub counted_are_sound : ListsAreCounted → ReachedAreSound
counted_are_sound lists file bytes s reached saves few =
    of_run file bytes s saves few (λ ss to receipts c. lists file ss to receipts c) reached.statements reached.to
    (run_all (going [] None) reached.statements) reached.stand refl reached.reaches
