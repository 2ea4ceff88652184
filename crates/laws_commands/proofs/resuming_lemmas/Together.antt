-- A file goes on from a snapshot as it goes on behind the file that the snapshot is of.
use Rattle.std.proofs.Common.{Result, Ok, ◌≡◌, inl, inr, ℕ, ◌+◌, ◌≤◌, List, [], ◌∷◌, ◌++◌, map, length, Option, Some, None, refl, sym, ap, ◌∙◌, subst, append-nil, append_assoc, arith}
use Rattle.rules_text.specs.nodes.Limits.{file_limit}
use Rattle.rules_world.specs.lines.Nodes.{line, group_node, state_nodes}
use Rattle.rules_world.specs.world.Receipts.{Receipt}
use Rattle.rules_code.specs.steps.Changes.{Change}
use Rattle.rules_files.specs.commands.Answers.{Answer, done_with, status_of}
use Rattle.rules_files.specs.commands.Lines.{group_lines, ending_lines, lines_of}
use Rattle.rules_files.specs.commands.Places.{Placed, AreStatements, IsEndAt}
use Rattle.rules_files.specs.commands.Replay.{TextFault, BadOrder, State, RefusedAt, Replay, IsReplay, Closes, Run, going, stopped, stuck_run, run_all}
use Rattle.rules_files.specs.commands.Resuming.{Resumes, IsResumed, resumed_answer}
use Rattle.rules_files.specs.commands.Snapshots.{IsReached, saved_answer, snapshot_answer, Reached, came_to, refused_at, Reaches, statements_of}
use Rattle.rules_files.specs.course.Course.{Course}
use Rattle.rules_files.specs.snapshots.Course.{state_of, course_of}
use Rattle.rules_files.specs.snapshots.Loading.{LoadFault, loaded, saved}
use Rattle.rules_files.specs.snapshots.State as snapshot
use Rattle.laws_files.proofs.snapshots_lemmas.Loads.{saved_are_loaded}
use Rattle.laws_files.specs.Laws.{IsGoodCourse}
use Rattle.laws_commands.specs.resuming.Laws.{IsClosed, told_behind, GoesOn, CoursesGoOn, OneEnd, SoundStatesGoOn, Continues, ResumingGoesOn}
use Rattle.laws_commands.specs.reached.Reached.{ReachedAreSound}
use Rattle.laws_commands.proofs.resuming_lemmas.courses.Alike.{AreTwins, AreAlikeRuns, runs_alike}
use Rattle.laws_commands.proofs.resuming_lemmas.courses.Heads.{head_is}
use Rattle.laws_commands.proofs.resuming_lemmas.courses.Loaded.{loaded_twin}
use Rattle.laws_commands.proofs.resuming_lemmas.logs.Inserted.{loaded_log}
use Rattle.laws_commands.proofs.resuming_lemmas.logs.Told.{AreAlikeLogs, loaded_alike, told_alike}
use Rattle.laws_commands.proofs.resuming_lemmas.text.Beside.{AreBeside, beside_gap, end_of, fault_of, statements_of as statements_beside, StatementsOf, behind_first}
use Rattle.laws_commands.proofs.resuming_lemmas.text.Closed.{Stays, closed_stand, closed_on}
use Rattle.laws_commands.proofs.resuming_lemmas.text.Feeds.{IsFed, IsFedOrEmpty, fed_file}
use Rattle.laws_commands.proofs.resuming_lemmas.text.Once.{one_list, Further, goes_further, no_statement, one_end}
use Rattle.laws_commands.proofs.reached_lemmas.Courses.{good_behind}

-- ---- the first file

record IsCourse (placed : List Placed) (r : Run) (s : snapshot.State) : Type 0 where
  receipts : List Receipt
  course : Course
  run : r ≡ going receipts (Some course)
  state : s ≡ state_of (statements_of placed) course

abbrev state_in : snapshot.State → Reached → snapshot.State
state_in s (came_to t) = t
state_in s (refused_at f place) = s

reached_course : (file : List ℕ) (placed : List Placed) (to : ℕ) (r : Run) (s : snapshot.State) → Reaches file placed to r (came_to s) →
    IsCourse placed r s × IsEndAt file to
reached_course file placed to (stopped receipts f place) s h = absurd (cc h)
reached_course file placed to (going receipts (Some c)) s (inl h) =
    (record { receipts = receipts; course = c; run = refl; state = ap (state_in s) h.1 }, h.0)
reached_course file placed to (going receipts None) s (inl h) = absurd (let e : came_to s ≡ refused_at BadOrder (length file) = h.1 in cc e)
reached_course file placed to (going receipts c) s (inr h) =
    absurd (let e : came_to s ≡ refused_at (TextFault h.0) h.1 = h.3 in cc e)
reached_course file placed to stuck_run s h = absurd h

-- the receipts of a run that goes on up to the end
closing_receipts : (file : List ℕ) (to : ℕ) (receipts : List Receipt) (c : Option Course) (done : Replay) →
    Closes file to (going receipts c) done →
    done.receipts ≡ receipts
closing_receipts file to receipts c done (inl h) = ap (λ (d : Replay). d.receipts) h.1
closing_receipts file to receipts c done (inr h) = ap (λ (d : Replay). d.receipts) h.3

ended_receipts : (file : List ℕ) (of : ℕ) (receipts : List Receipt) (c : Option Course) (done : Replay) → IsEndAt file of →
    (ss : List Placed) (to : ℕ) → AreStatements file of ss to → Closes file to (run_all (going receipts c) ss) done →
    done.receipts ≡ receipts
ended_receipts file of receipts c done end [] to m closes = closing_receipts file to receipts c done closes
ended_receipts file of receipts c done end (s ∷ ss) to m closes = absurd (no_statement file of s m.0 m.1 end)

-- ---- lines

lines_append : (n : ℕ) (rs ts : List Receipt) → group_lines n (rs ++ ts) ≡ group_lines n rs ++ group_lines (n + length rs) ts
lines_append n [] ts = ap (λ (m : ℕ). group_lines m ts) (omega arith)
lines_append n (r ∷ rs) ts =
    let count : n + 1 + length rs ≡ n + length (r ∷ rs) = omega arith in
    ap (λ (l : List (List ℕ)). line (group_node n r) ∷ l)
    (lines_append (n + 1) rs ts ∙ ap (λ (m : ℕ). group_lines (n + 1) rs ++ group_lines m ts) count)

lines_split : (groups : ℕ) (rs ts : List Receipt) (e : List (List ℕ)) → groups ≡ length rs →
    group_lines 1 (rs ++ ts) ++ e ≡ group_lines 1 rs ++ (group_lines (groups + 1) ts ++ e)
lines_split groups rs ts e h =
    let count : 1 + length rs ≡ groups + 1 = omega (arith, h) in
    ap (λ (l : List (List ℕ)). l ++ e) (lines_append 1 rs ts ∙ ap (λ (m : ℕ). group_lines 1 rs ++ group_lines m ts) count)
    ∙ append_assoc (group_lines 1 rs) (group_lines (groups + 1) ts) e

-- ---- the end of both files

module _ (first second : List ℕ) (short : length first + length second ≤ file_limit) (l k : List Change) (logs : AreAlikeLogs l k)
    (groups : ℕ) (receipts : List Receipt) (count : groups ≡ length receipts) (done : Replay) (to end : ℕ)
    (b : AreBeside first second short to end) where
  record Comes (q : Run) : Type 0 where
    after : Replay
    closes : Closes second end q after
    status : status_of done.ending ≡ status_of after.ending
    lines : lines_of done ≡ group_lines 1 receipts ++ (resumed_answer groups (told_behind (length first) after)).lines

  abbrev Alike : Run → Run → Type 0
  Alike = AreAlikeRuns l k logs receipts (length first)

  comes : (r q : Run) → Alike r q → Closes (first ++ second) to r done → Comes q
  comes (stopped rs f place) (stopped ts g here) h closes = record {
    after = record { receipts = ts; ending = RefusedAt g here };
    closes = refl;
    status = ap (λ (d : Replay). status_of d.ending) closes;
    lines =
        ap lines_of closes ∙ (λ i. group_lines 1 (h.0 i) ++ ending_lines (RefusedAt (h.1 i) (h.2 i)))
        ∙ lines_split groups receipts ts (ending_lines (RefusedAt g (length first + here))) count;
  }
  comes (going rs (Some c)) (going ts (Some d)) h (inl closes) = record {
    after = record { receipts = ts; ending = State d.world };
    closes = inl (end_of first second short to end b closes.0, refl);
    status = ap (λ (d : Replay). status_of d.ending) closes.1;
    lines =
        ap lines_of closes.1 ∙ (λ i. group_lines 1 (h.0 i) ++ map line (told i))
        ∙ lines_split groups receipts ts (ending_lines (State d.world)) count;
  } where
    told : state_nodes c.world ≡ state_nodes d.world
    told = told_alike l k logs c.world h.1.more h.1.begins ∙ ap state_nodes h.1.world
  comes (going rs (Some c)) (going ts (Some d)) h (inr closes) =
      let f = fault_of first second short to end closes.0 closes.1 b closes.2 in record {
        after = record { receipts = ts; ending = RefusedAt (TextFault closes.0) f.here };
        closes = inr (closes.0, f.here, f.fault, refl);
        status = ap (λ (d : Replay). status_of d.ending) closes.3;
        lines =
            ap lines_of closes.3 ∙ (λ i. group_lines 1 (h.0 i) ++ ending_lines (RefusedAt (TextFault closes.0) (f.at_is i)))
            ∙ lines_split groups receipts ts (ending_lines (RefusedAt (TextFault closes.0) (length first + f.here))) count;
      }
  comes stuck_run q h closes = absurd closes
  comes r q h closes = absurd h

-- ---- both files

fed_or_empty : (file : List ℕ) → IsFed file → IsFedOrEmpty file
fed_or_empty [] h = tt
fed_or_empty (c ∷ rest) h = h

module _ (first second : List ℕ) (before done : Replay) (short : length first + length second ≤ file_limit) (replay : IsReplay first before)
    (closed : IsClosed first) (whole : IsReplay (first ++ second) done) where
  -- the statements of the first file come to a course
  module _ (c : Course) (receipts : List Receipt) (run : run_all (going [] None) closed.statements ≡ going receipts (Some c)) where
    stand : AreStatements first 0 closed.statements closed.to
    stand = closed_stand first 0 closed.statements closed.to closed.stand

    receipts_are : before.receipts ≡ receipts
    receipts_are =
        let f = goes_further first 0 (going [] None) before replay.statements closed.statements replay.to closed.to receipts
        (Some c) replay.stand stand
        replay.closes run in
        ended_receipts first closed.to receipts (Some c) before closed.end f.statements f.to f.stand f.closes

    good : IsGoodCourse c × (c.groups ≡ length receipts)
    good = good_behind first closed.statements closed.to receipts c stand run

    abbrev logs : AreAlikeLogs c.world.log (loaded_log c.world)
    logs = loaded_alike c.world good.0.whole.good

    abbrev state : snapshot.State
    state = state_of (statements_of closed.statements) c

    twins : AreTwins c.world.log (loaded_log c.world) logs c (course_of state)
    twins = loaded_twin (statements_of closed.statements) c good.0.whole (head_is closed.statements receipts c run)

    stays : Stays first second closed.line 0 closed.statements closed.to
    stays = closed_on first second closed.line 0 closed.statements closed.to (omega arith) closed.stand

    further : Further (first ++ second) closed.to (going receipts (Some c)) done
    further =
        goes_further (first ++ second) 0 (going [] None) done whole.statements closed.statements whole.to closed.to receipts
        (Some c) whole.stand stays.stand
        whole.closes run

    beside : StatementsOf first second short 0 further.statements further.to
    beside =
        statements_beside first second short closed.to 0 further.statements further.to
        (beside_gap first second short closed.to stays.within
        (fed_or_empty first (fed_file first closed.line)) closed.end.gap) further.stand

    came : Comes first second short c.world.log (loaded_log c.world) logs c.groups receipts good.1 done further.to beside.end beside.beside
        (run_all (going [] (Some (course_of state))) beside.statements)
    came =
        comes first second short c.world.log (loaded_log c.world) logs c.groups receipts good.1 done further.to beside.end beside.beside
        (run_all (going receipts (Some c)) (map (behind_first first second short) beside.statements))
        (run_all (going [] (Some (course_of state))) beside.statements)
        (runs_alike c.world.log (loaded_log c.world) logs receipts (length first) beside.statements (going receipts (Some c))
        (going [] (Some (course_of state))) (sym (append-nil receipts), twins))
        (subst (λ (ss : List Placed). Closes (first ++ second) further.to
        (run_all (going receipts (Some c)) ss) done) beside.are further.closes)

    goes_on : GoesOn first second before state done
    goes_on = record {
      after = came.after;
      resumed = record { statements = beside.statements; to = beside.end; stand = beside.stand; closes = came.closes };
      status = came.status;
      lines =
          came.lines
          ∙ ap (λ (rs : List Receipt). group_lines 1 rs ++ (resumed_answer c.groups (told_behind (length first) came.after)).lines)
          (sym receipts_are);
    }

pub courses_go_on : CoursesGoOn
courses_go_on first second before done s replay reached closed short whole =
    let r = reached_course first reached.statements reached.to (run_all (going [] None) reached.statements) s reached.reaches in
    let same = one_list first 0 reached.statements closed.statements reached.to closed.to reached.stand
    (closed_stand first 0 closed.statements closed.to closed.stand) r.1 closed.end in
    let run : run_all (going [] None) closed.statements ≡ going r.0.receipts (Some r.0.course) =
    ap (run_all (going [] None)) (sym same.statements) ∙ r.0.run in
    let state : state_of (statements_of closed.statements) r.0.course ≡ s =
    ap (λ (ss : List Placed). state_of (statements_of ss) r.0.course) (sym same.statements) ∙ sym r.0.state in
    subst (λ (s : snapshot.State). GoesOn first second before s done) state
    (goes_on first second before done (omega (arith, short)) replay closed whole r.0.course r.0.receipts run)

pub one_ending : OneEnd
one_ending c file a b m n = one_end file 0 (going [] (Some c)) a b m.statements n.statements m.to n.to m.stand n.stand m.closes n.closes

-- ---- from the bytes of a snapshot

pub sound_states_go_on : SoundStatesGoOn
sound_states_go_on s bytes content answer spelt sound saves fits h =
    subst (λ (r : Result snapshot.State LoadFault). Resumes r content answer) (saved_are_loaded s bytes spelt sound saves fits) h

-- a snapshot that was written is that of a state
record IsSaved (file bytes : List ℕ) : Type 0 where
  state : snapshot.State
  reached : IsReached file (came_to state)
  saves : saved state ≡ Some bytes

abbrev first_of : List ℕ → List (List ℕ) → List ℕ
first_of other [] = other
first_of other (l ∷ ls) = l

abbrev line_in : List ℕ → Answer → List ℕ
line_in other answer = first_of other answer.lines

written : (file bytes : List ℕ) (reached : Reached) → IsReached file reached → done_with bytes ≡ snapshot_answer reached →
    IsSaved file bytes
written file bytes (refused_at f place) h e = absurd (omega (arith, ap (λ (a : Answer). a.status) e))
written file bytes (came_to s) h e = by (saved s) refl e where
  by : (o : Option (List ℕ)) → saved s ≡ o → done_with bytes ≡ saved_answer o → IsSaved file bytes
  by None same e = absurd (omega (arith, ap (λ (a : Answer). a.status) e))
  by (Some bs) same e = record { state = s; reached = h; saves = same ∙ sym (ap (λ (a : Answer). Some (line_in bytes a)) e) }

abbrev bytes_in : List ℕ → Option (List ℕ) → List ℕ
bytes_in other None = other
bytes_in other (Some bs) = bs

some_is : (a b : List ℕ) → Some a ≡ Some b → a ≡ b
some_is a b e = ap (bytes_in a) e

-- where what a file comes to is sound
pub resuming_goes_on : ReachedAreSound → ResumingGoesOn
resuming_goes_on sound first second bytes before done answer replay saves fits closed short whole resume =
    let w = written first bytes saves.0 saves.1 saves.2 in
    let ok = sound first bytes w.state w.reached w.saves fits in
    let loads = saved_are_loaded w.state bytes ok.0 ok.1 w.saves fits in
    by w.state loads (courses_go_on first second before done w.state replay w.reached closed short whole)
    (sound_states_go_on w.state bytes (Some second) answer ok.0 ok.1 w.saves fits resume)
  where
    by : (s : snapshot.State) → loaded bytes ≡ Ok s → GoesOn first second before s done → Resumes (Ok s) (Some second) answer →
        Continues first second bytes before done answer
    by s loads g r =
        let same : r.2.0 ≡ g.after =
        one_ending (course_of s) second r.2.0 g.after
        (subst (λ (file : List ℕ). IsResumed (course_of s) file r.2.0) (sym (some_is second r.0 r.1)) r.2.1) g.resumed in
        let answers : answer ≡ resumed_answer s.groups g.after = r.2.2 ∙ ap (resumed_answer s.groups) same in
        record {
          state = s;
          loads = loads;
          after = g.after;
          resumes = answers;
          status = g.status ∙ ap (λ (a : Answer). a.status) (sym answers);
          lines = g.lines;
        }
