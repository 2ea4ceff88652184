-- What a file comes to that is replayed for its snapshot.
use Rattle.std.proofs.Common.{◌≡◌, ◌⊎◌, ℕ, Bool, true, List, [], ◌++◌, length, Option, Some, None, IsSome, Result, Ok, Err, IfOk, refl, sym, ap, ◌∙◌, subst, inl, inr, append-nil, arith}
use Rattle.std.specs.Io.KnownBytes.{Consumes, IsAtEnd}
use Rattle.std.specs.List.{list_any}
use Rattle.rules_files.specs.commands.Answers.{Answer, refused_with}
use Rattle.rules_files.specs.commands.Lines.{file_fault_name}
use Rattle.rules_files.specs.commands.Commands.{OnFile, Snapshotting, IsAnswer}
use Rattle.rules_files.specs.commands.Places.{Placed, AreStatements, IsEndAt}
use Rattle.rules_files.specs.commands.Replay.{Replay, Closes, BadOrder, RefusedAt, FileFault, TextFault, Run, going, stopped, stuck_run, run_all, ending_of}
use Rattle.rules_files.specs.commands.Snapshots.{Reached, came_to, refused_at, IsReached, Reaches, reached_by, saved_answer, snapshot_answer, statements_of}
use Rattle.rules_files.specs.course.Course.{Course as PlainCourse}
use Rattle.rules_files.specs.snapshots.Course.{all_prices, is_costs, is_start, state_of}
use Rattle.rules_files.specs.snapshots.Loading.{saved}
use Rattle.rules_world.specs.world.Receipts.{Receipt}
use Rattle.rules_world.specs.world.World.{World as PlainWorld}
use Rattle.mich_gas.specs.View.{listed}
use Rattle.mich_group.specs.declared.course.course.Course.{Course}
use Rattle.mich_group.specs.course.Following.{Follows}
use Rattle.mich_answers.specs.View.{answer_seen, IsDoneOrRefused}
use Rattle.mich_answers.specs.declared.answer.Answer.{Answer as Reply}
use Rattle.mich_base.specs.declared.memory.Memory.{Memory}
use Rattle.mich_report.specs.State.{IsAtRest}
use Rattle.mich_snapshot.specs.Snapshots.{snapshot_of}
use Rattle.mich_snapshot.specs.declared.state.State.{State as Kept}
use Rattle.mich_snapshot.specs.Puts.{IsSaved}
use Rattle.mich_snapshot.specs.declared.errors.SaveError.TheVariants as errors
use Rattle.mich_text.specs.pieces.Held.{Held}
use Rattle.mich_world.specs.Standing.{StandsFor}
use Rattle.mich_replay.specs.Coming.{Came, ComesTo, IsRefused}
use Rattle.mich_replay.specs.Reaching.{IsSeenAs, IsState}
use Rattle.mich_replay.specs.Steps.{FollowsIf}
use Rattle.mich_replay.specs.declared.progress.Progress.{Progress}
use Rattle.mich_replay.specs.View.{file_fault_seen}
use Rattle.mich_replay.specs.declared.outcome.FileFault.{FileFault as CodeFault}
use Rattle.mich_replay.specs.declared.snapshotting.Reached.{Reached as Found}
use Rattle.mich_replay.specs.declared.snapshotting.Reached.TheVariants as reached
use Rattle.mich_replay.proofs.Replayed.{rest_of}

-- ---- a refusal

ended_nowhere : (size : ℕ) (c : Option PlainCourse) (ss : List Placed) (f : FileFault) (place : ℕ) → ending_of size c ≡ RefusedAt f place → refused_at f place ≡ reached_by size ss c
ended_nowhere size (Some c) ss f place e = absurd cc
ended_nowhere size None ss f place e =
    let fault : BadOrder ≡ f = cc in
    let at : size ≡ place = cc in
    sym (ap (λ (x : FileFault). refused_at x size) fault ∙ ap (refused_at f) at)

same_fault : (f g : FileFault) (p q : ℕ) → RefusedAt f p ≡ RefusedAt g q → refused_at f p ≡ refused_at g q
same_fault f g p q e =
    let fault : f ≡ g = cc in
    let at : p ≡ q = cc in
    ap (λ (x : FileFault). refused_at x p) fault ∙ ap (refused_at g) at

closes_reached : (file : List ℕ) (ss : List Placed) (to : ℕ) (r : Run) (receipts : List Receipt) (f : FileFault) (place : ℕ) →
    Closes file to r (record { receipts = receipts; ending = RefusedAt f place }) → Reaches file ss to r (refused_at f place)
closes_reached file ss to (stopped rs g at) receipts f place e = same_fault f g place at (ap (λ (d : Replay). d.ending) e)
closes_reached file ss to stuck_run receipts f place e = absurd e
closes_reached file ss to (going rs c) receipts f place (inl e) =
    inl (e.0, ended_nowhere (length file) c ss f place (sym (ap (λ (d : Replay). d.ending) e.1)))
closes_reached file ss to (going rs c) receipts f place (inr e) =
    inr (e.0, e.1, e.2, same_fault f (TextFault e.0) place e.1 (ap (λ (d : Replay). d.ending) e.3))

-- a file that is refused reaches no state
refused_reaches : (file : List ℕ) (receipts : List Receipt) (f : FileFault) (place : ℕ) → ComesTo None file (record { receipts = receipts; ending = RefusedAt f place }) →
    IsReached file (refused_at f place)
refused_reaches file receipts f place h = record {
  statements = h.statements;
  to = h.to;
  stand = h.stand;
  reaches = closes_reached file h.statements h.to (run_all (going [] None) h.statements) receipts f place h.closes;
}

-- ---- the end of a file

-- these statements came to a course, or to none
pub ends_reached : (file : List ℕ) (receipts : List Receipt) (r : Held) (c : Progress) (h : Came None file true r c receipts) → IsEndAt file r.place →
    IsReached file (reached_by (length file) h.statements h.plain)
ends_reached file receipts r c h end = record {
  statements = h.statements;
  to = r.place;
  stand = subst (λ (l : List ℕ). AreStatements l 0 h.statements r.place) (append-nil file) (h.reads.begun.stand [] (λ e. refl));
  reaches = subst (λ (x : Run). Reaches file h.statements r.place x (reached_by (length file) h.statements h.plain)) (sym h.reads.begun.run) (inl (end, refl));
}

-- the state of a course is that of the rules
state_is : (ss : List Placed) (c : Course) (p : PlainCourse) (s : Kept) → Follows c p → s.world ≡ c.world → s.costs ≡ c.costs → s.groups ≡ c.groups →
    s.costs_stood ≡ list_any is_costs (statements_of ss) → s.started ≡ list_any is_start (statements_of ss) →
    snapshot_of s p.world ≡ state_of (statements_of ss) p
state_is ss c p s f world costs groups costs_stood started =
    let prices : all_prices (listed s.costs) ≡ all_prices p.prices = ap all_prices (ap listed costs ∙ f.prices) in
    let count : s.groups ≡ p.groups = groups ∙ f.groups in
    λ i. record (state_of (statements_of ss) p) { groups = count i; costs_stood = costs_stood i; started = started i; prices = prices i }

pub seen_state : (ss : List Placed) (o : Option PlainCourse) (size : ℕ) (c : Course) (s : Kept) → FollowsIf (Some c) o → s.world ≡ c.world → s.costs ≡ c.costs → s.groups ≡ c.groups →
    s.costs_stood ≡ list_any is_costs (statements_of ss) → s.started ≡ list_any is_start (statements_of ss) →
    IsSeenAs (reached_by size ss o) (reached.State s)
seen_state ss (Some p) size c s f world costs groups costs_stood started =
    (p.world, record { stands = subst (λ v. StandsFor v p.world) (sym world) f.stands; good = f.whole.good }, state_is ss c p s f world costs groups costs_stood started)
seen_state ss None size c s f world costs groups costs_stood started = absurd f

pub seen_nothing : (ss : List Placed) (o : Option PlainCourse) (size : ℕ) (fault : CodeFault) → FollowsIf None o →
    file_fault_seen fault ≡ BadOrder → IsSeenAs (reached_by size ss o) (reached.Refused fault size)
seen_nothing ss None size fault f e = (sym e, refl)
seen_nothing ss (Some p) size fault f e = absurd f

-- ---- the answer

pub snapshot_own : (x : Reached) → ((snapshot_answer x).status ≡ 0) ⊎ ((snapshot_answer x).status ≡ 2)
snapshot_own (came_to s) = by (saved s) where
  by : (o : Option (List ℕ)) → ((saved_answer o).status ≡ 0) ⊎ ((saved_answer o).status ≡ 2)
  by (Some bytes) = inl refl
  by None = inr refl
snapshot_own (refused_at f place) = inr refl

-- the answer of the command to a file of this content
pub snapshot_exact : (content : List ℕ → Option (List ℕ)) (path : List ℕ) (x : Reached) (answer : Answer) → ((file : List ℕ) → content path ≡ Some file → IsReached file x) →
    answer ≡ snapshot_answer x → IsSome (content path) → IsAnswer (OnFile Snapshotting path) content answer
snapshot_exact content path x answer reaches is told = by (content path) refl told where
  by : (o : Option (List ℕ)) → content path ≡ o → IsSome o → IsAnswer (OnFile Snapshotting path) content answer
  by None e t = absurd cc
  by (Some file) e t = (file, e, (x, reaches file e, is))

-- ---- what was written of a state

pub saved_ok : (o : Option (List ℕ)) (bytes : List ℕ) → IsSaved o (Ok bytes) → o ≡ Some bytes
saved_ok (Some text) bytes e = ap Some (sym e)
saved_ok None bytes e = absurd e

pub saved_long : (o : Option (List ℕ)) → IsSaved o (Err errors.TooLong) → o ≡ None
saved_long (Some text) e = absurd e
saved_long None e = refl

pub rests : (plain : Reached) (found : Kept) → IsSeenAs plain (reached.State found) → (w : PlainWorld) × IsAtRest found.world w
rests (came_to s) found h = (h.0, h.1)
rests (refused_at f place) found h = absurd h

pub state_answered : (plain : Reached) (found : Kept) (r : Result Reply Memory) → IsSeenAs plain (reached.State found) →
    ((w : PlainWorld) → IsAtRest found.world w → IfOk r (λ a. answer_seen a ≡ saved_answer (saved (snapshot_of found w)))) → IfOk r (λ a. answer_seen a ≡ snapshot_answer plain)
state_answered (came_to s) found r (w, rest, e) h = subst (λ x. IfOk r (λ a. answer_seen a ≡ saved_answer (saved x))) e (h w rest)
state_answered (refused_at f place) found r e h = absurd e

pub refusal_answered : (plain : Reached) (fault : CodeFault) (at : ℕ) (name : List ℕ) (r : Result Reply Memory) → IsSeenAs plain (reached.Refused fault at) →
    name ≡ file_fault_name (file_fault_seen fault) → IfOk r (λ a. answer_seen a ≡ refused_with name at) → IfOk r (λ a. answer_seen a ≡ snapshot_answer plain)
refusal_answered (came_to s) fault at name r e n h = absurd e
refusal_answered (refused_at f place) fault at name r (e, here) n h =
    let names : name ≡ file_fault_name f = n ∙ sym (ap file_fault_name e) in
    subst (λ (m : List ℕ). IfOk r (λ a. answer_seen a ≡ refused_with m place)) names (subst (λ (k : ℕ). IfOk r (λ a. answer_seen a ≡ refused_with name k)) (sym here) h)

-- a status is that of the answer
pub status_told : (plain : Reached) (r : Result Reply Memory) → IfOk r (λ a. answer_seen a ≡ snapshot_answer plain) → IfOk r (λ a. IsDoneOrRefused a.status)
status_told plain (Ok a) e = subst (λ (x : Answer). IsDoneOrRefused x.status) (sym e) (snapshot_own plain)
status_told plain (Err e) h = tt

refusal_undone : (plain : Reached) (fault : CodeFault) (at : ℕ) → IsSeenAs plain (reached.Refused fault at) → (snapshot_answer plain).status ≡ 0 → ⊥
refusal_undone (came_to s) fault at e zero = absurd e
refusal_undone (refused_at f place) fault at e zero = absurd (omega (arith, zero))

pub done_state : (plain : Reached) (found : Found) (r : Result Reply Memory) → IsSeenAs plain found → IfOk r (λ a. answer_seen a ≡ snapshot_answer plain) →
    IfOk r (λ a. a.status ≡ 0 → IsState found)
done_state plain (reached.State s) (Ok a) seen e = λ zero. tt
done_state plain (reached.Refused fault at) (Ok a) seen e = λ zero. absurd (refusal_undone plain fault at seen (sym (ap (λ (x : Answer). x.status) e) ∙ zero))
done_state plain found (Err x) seen e = tt

-- ---- what was read

pub all_read : (content : Option (List ℕ)) (bytes : List ℕ) (left : Option (List ℕ)) (last : Bool) → Consumes content left bytes → (last ≡ true → IsAtEnd left) → last ≡ true →
    (file : List ℕ) → content ≡ Some file → bytes ≡ file
all_read content bytes left last read at_end is_last file e =
    let x = rest_of None content bytes left last read at_end file e in
    sym (x.1 ∙ ap (λ (l : List ℕ). bytes ++ l) (x.2 is_last) ∙ append-nil bytes)

pub refused_file : (content : Option (List ℕ)) (bytes : List ℕ) (left : Option (List ℕ)) (last : Bool) → Consumes content left bytes → (last ≡ true → IsAtEnd left) →
    (receipts : List Receipt) (f : FileFault) (place : ℕ) → IsRefused None bytes last receipts f place → (file : List ℕ) → content ≡ Some file → IsReached file (refused_at f place)
refused_file content bytes left last read at_end receipts f place h file e =
    let x = rest_of None content bytes left last read at_end file e in
    subst (λ (l : List ℕ). IsReached l (refused_at f place)) (sym x.1) (refused_reaches (bytes ++ x.0) receipts f place (h x.0 x.2))
