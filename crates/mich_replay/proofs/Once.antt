-- A file comes to one answer.
use Rattle.std.proofs.Common.{◌≡◌, inl, inr, ℕ, List, [], ◌∷◌, ◌++◌, length, drop, Option, Some, None, Result, Ok, Err, refl, sym, ap, ◌∙◌, subst, append_assoc, arith}
use Rattle.rules_text.specs.nodes.Tree.{Tree}
use Rattle.rules_text.specs.declared.text.TextKind.{TextKind}
use Rattle.mich_text.proofs.ForCallers.{one_statement, one_fault, no_fault_at_node, no_node_at_end, no_fault_at_end}
use Rattle.rules_files.specs.commands.Places.{Placed, IsNodeAt, IsFaultAt, IsEndAt, AreStatements, EndsIn}
use Rattle.rules_world.specs.world.Receipts.{Receipt}
use Rattle.rules_files.specs.workload.Workload.{scenario}
use Rattle.rules_world.specs.summary.Summary.{summary_line}
use Rattle.rules_files.specs.commands.Replay.{Replay, Closes, Ending, State, FileFault, TextFault, RefusedAt, Run, going, stopped, stuck_run, run_one, run_all}
use Rattle.rules_files.specs.commands.Answers.{Answer, done_with, replay_answer}
use Rattle.rules_files.specs.commands.Codec.{of_text, IsCodecAnswer, of_listing, encode_node, decode_node}
use Rattle.rules_files.specs.commands.Scripts.{check_statements}
use Rattle.rules_files.specs.commands.Certificates.{certify_statements, IsListedVerified, IsVerifyAnswer}
use Rattle.rules_files.specs.commands.Packs.{pack_node}
use Rattle.mich_replay.proofs.Audited.{audit_one}
use Rattle.mich_replay.proofs.Certified.{listed_one}
use Rattle.mich_replay.proofs.Fronts.{IsTextAnswer}
use Rattle.rules_files.specs.commands.Commands.{Command, OnFile, Resuming, Generating, NoCommand, Verb, Replaying, Checking, Encoding, Decoding, Packing, Certifying, Verifying, Auditing, Snapshotting, IsVerbAnswer, IsWorkloadAnswer, IsAnswer}
use Rattle.rules_files.specs.commands.Resuming.{IsResumed, IsResumeAnswer, Resumes, resumed_answer}
use Rattle.rules_files.specs.commands.Snapshots.{Reached, refused_at, IsReached, Reaches, snapshot_answer}
use Rattle.rules_files.specs.snapshots.Course.{course_of}
use Rattle.rules_files.specs.snapshots.Loading.{LoadFault, loaded}
use Rattle.rules_files.specs.snapshots.State as snapshots
use Rattle.rules_files.specs.course.Course.{Course}
use Rattle.mich_replay.specs.Coming.{ComesTo}

-- ---- what stands at a place

pub record SameNode (s t : Placed) (b c : ℕ) : Type 0 where
  pub statement : s ≡ t
  pub behind : b ≡ c

pub one-node : (file : List ℕ) (p : ℕ) (s t : Placed) (b c : ℕ) → IsNodeAt file p s.node s.place b → IsNodeAt file p t.node t.place c → SameNode s t b c
one-node file p s t b c m n =
    let one = one_statement (drop p file) s.node t.node m.0 m.1 n.0 n.1 m.2.stands n.2.stands in
    let place : s.place ≡ t.place = omega (arith, one.1, m.3, n.3) in
    record {
      statement = ap (λ (x : ℕ). record { place = x; node = s.node }) place ∙ ap (λ (x : Tree). record { place = t.place; node = x }) one.0;
      behind = omega (arith, one.2, m.4, n.4);
    }

fault-at : (file : List ℕ) (p : ℕ) (k j : TextKind) (a b : ℕ) → IsFaultAt file p k a → IsFaultAt file p j b → (k ≡ j) × (a ≡ b)
fault-at file p k j a b m n =
    let one = one_fault p (drop p file) k j m.0 n.0 m.1 n.1 in
    (one.1, omega (arith, one.0, m.2, n.2))

pub node-and-fault : (file : List ℕ) (p : ℕ) (t : Tree) (a b : ℕ) (k : TextKind) (c : ℕ) → IsNodeAt file p t a b → IsFaultAt file p k c → ⊥
node-and-fault file p t a b k c m n = no_fault_at_node p (drop p file) k n.0 t m.0 m.1 n.1 m.2

pub node-and-end : (file : List ℕ) (p : ℕ) (t : Tree) (a b : ℕ) → IsNodeAt file p t a b → IsEndAt file p → ⊥
node-and-end file p t a b m e = no_node_at_end p (drop p file) t m.0 m.1 e m.2

fault-and-end : (file : List ℕ) (p : ℕ) (k : TextKind) (c : ℕ) → IsFaultAt file p k c → IsEndAt file p → ⊥
fault-and-end file p k c n e = no_fault_at_end p (drop p file) k n.0 e n.1

-- ---- replays

pub stays : (rs : List Receipt) (f : FileFault) (place : ℕ) (ss : List Placed) → run_all (stopped rs f place) ss ≡ stopped rs f place
stays rs f place [] = refl
stays rs f place (s ∷ ss) = stays rs f place ss

closes-one : (file : List ℕ) (p : ℕ) (r : Run) (a b : Replay) → Closes file p r a → Closes file p r b → a ≡ b
closes-one file p (stopped rs f place) a b c d = c ∙ sym d
closes-one file p stuck_run a b c d = absurd c
closes-one file p (going rs w) a b (inl c) (inl d) = c.1 ∙ sym d.1
closes-one file p (going rs w) a b (inl c) (inr d) = absurd (fault-and-end file p d.0 d.1 d.2 c.0)
closes-one file p (going rs w) a b (inr c) (inl d) = absurd (fault-and-end file p c.0 c.1 c.2 d.0)
closes-one file p (going rs w) a b (inr c) (inr d) =
    let same = fault-at file p c.0 d.0 c.1 d.1 c.2 d.2 in
    c.3 ∙ ap (λ (k : TextKind). record { receipts = rs; ending = RefusedAt (TextFault k) c.1 }) same.0
    ∙ ap (λ (at : ℕ). record { receipts = rs; ending = RefusedAt (TextFault d.0) at }) same.1 ∙ sym d.3

-- where it closes before a statement, a statement was refused already
closes-early : (file : List ℕ) (p : ℕ) (r : Run) (a b : Replay) (s : Placed) (behind : ℕ) (ss : List Placed) (to : ℕ) → Closes file p r a
    → IsNodeAt file p s.node s.place behind → Closes file to (run_all r (s ∷ ss)) b → a ≡ b
closes-early file p (stopped rs f place) a b s behind ss to c node d =
    c ∙ sym (subst (λ (x : Run). Closes file to x b) (stays rs f place (s ∷ ss)) d)
closes-early file p stuck_run a b s behind ss to c node d = absurd c
closes-early file p (going rs w) a b s behind ss to (inl c) node d = absurd (node-and-end file p s.node s.place behind node c.0)
closes-early file p (going rs w) a b s behind ss to (inr c) node d = absurd (node-and-fault file p s.node s.place behind c.0 c.1 node c.2)

replays-one : (file : List ℕ) (p : ℕ) (r : Run) (a b : Replay) (ss ts : List Placed) (to of : ℕ) → AreStatements file p ss to → AreStatements file p ts of
    → Closes file to (run_all r ss) a → Closes file of (run_all r ts) b → a ≡ b
replays-one file p r a b [] [] to of m n c d =
    closes-one file p r a b (subst (λ (x : ℕ). Closes file x r a) (sym m) c) (subst (λ (x : ℕ). Closes file x r b) (sym n) d)
replays-one file p r a b [] (t ∷ ts) to of m n c d =
    closes-early file p r a b t n.0 ts of (subst (λ (x : ℕ). Closes file x r a) (sym m) c) n.1 d
replays-one file p r a b (s ∷ ss) [] to of m n c d =
    sym (closes-early file p r b a s m.0 ss to (subst (λ (x : ℕ). Closes file x r b) (sym n) d) m.1 c)
replays-one file p r a b (s ∷ ss) (t ∷ ts) to of m n c d =
    let same = one-node file p s t m.0 n.0 m.1 n.1 in
    replays-one file m.0 (run_one r s) a b ss ts to of m.2 (subst (λ (x : ℕ). AreStatements file x ts of) (sym same.behind) n.2)
    c (subst (λ (x : Placed). Closes file of (run_all (run_one r x) ts) b) (sym same.statement) d)

pub comes-one : (from : Option Course) (file : List ℕ) (a b : Replay) → ComesTo from file a → ComesTo from file b → a ≡ b
comes-one from file a b m n = replays-one file 0 (going [] from) a b m.statements n.statements m.to n.to m.stand n.stand m.closes n.closes

-- ---- what a file reaches

reaches-one : (file : List ℕ) (p : ℕ) (ss : List Placed) (r : Run) (a b : Reached) → Reaches file ss p r a → Reaches file ss p r b → a ≡ b
reaches-one file p ss (stopped rs f place) a b c d = c ∙ sym d
reaches-one file p ss stuck_run a b c d = absurd c
reaches-one file p ss (going rs w) a b (inl c) (inl d) = c.1 ∙ sym d.1
reaches-one file p ss (going rs w) a b (inl c) (inr d) = absurd (fault-and-end file p d.0 d.1 d.2 c.0)
reaches-one file p ss (going rs w) a b (inr c) (inl d) = absurd (fault-and-end file p c.0 c.1 c.2 d.0)
reaches-one file p ss (going rs w) a b (inr c) (inr d) =
    let same = fault-at file p c.0 d.0 c.1 d.1 c.2 d.2 in
    c.3 ∙ ap (λ (k : TextKind). refused_at (TextFault k) c.1) same.0 ∙ ap (λ (at : ℕ). refused_at (TextFault d.0) at) same.1 ∙ sym d.3

-- where it ends before a statement, a statement was refused already
reaches-early : (file : List ℕ) (p : ℕ) (all more : List Placed) (r : Run) (a b : Reached) (s : Placed) (behind : ℕ) (ss : List Placed) (to : ℕ) → Reaches file all p r a
    → IsNodeAt file p s.node s.place behind → Reaches file more to (run_all r (s ∷ ss)) b → a ≡ b
reaches-early file p all more (stopped rs f place) a b s behind ss to c node d =
    c ∙ sym (subst (λ (x : Run). Reaches file more to x b) (stays rs f place (s ∷ ss)) d)
reaches-early file p all more stuck_run a b s behind ss to c node d = absurd c
reaches-early file p all more (going rs w) a b s behind ss to (inl c) node d = absurd (node-and-end file p s.node s.place behind node c.0)
reaches-early file p all more (going rs w) a b s behind ss to (inr c) node d = absurd (node-and-fault file p s.node s.place behind c.0 c.1 node c.2)

-- all statements are those in front of a place and those behind it
files-one : (file : List ℕ) (p : ℕ) (all more : List Placed) (front ss ts : List Placed) (r : Run) (a b : Reached) (to of : ℕ) → all ≡ front ++ ss → more ≡ front ++ ts
    → AreStatements file p ss to → AreStatements file p ts of → Reaches file all to (run_all r ss) a → Reaches file more of (run_all r ts) b → a ≡ b
files-one file p all more front [] [] r a b to of e f m n c d =
    let same : all ≡ more = e ∙ sym f in
    reaches-one file p more r a b (subst (λ (l : List Placed). Reaches file l p r a) same (subst (λ (x : ℕ). Reaches file all x r a) (sym m) c))
    (subst (λ (x : ℕ). Reaches file more x r b) (sym n) d)
files-one file p all more front [] (t ∷ ts) r a b to of e f m n c d =
    reaches-early file p all more r a b t n.0 ts of (subst (λ (x : ℕ). Reaches file all x r a) (sym m) c) n.1 d
files-one file p all more front (s ∷ ss) [] r a b to of e f m n c d =
    sym (reaches-early file p more all r b a s m.0 ss to (subst (λ (x : ℕ). Reaches file more x r b) (sym n) d) m.1 c)
files-one file p all more front (s ∷ ss) (t ∷ ts) r a b to of e f m n c d =
    let same = one-node file p s t m.0 n.0 m.1 n.1 in
    let other : more ≡ front ++ s ∷ ts = f ∙ ap (λ (x : Placed). front ++ x ∷ ts) (sym same.statement) in
    files-one file m.0 all more (front ++ s ∷ []) ss ts (run_one r s) a b to of (e ∙ sym (append_assoc front (s ∷ []) ss)) (other ∙ sym (append_assoc front (s ∷ []) ts)) m.2
    (subst (λ (x : ℕ). AreStatements file x ts of) (sym same.behind) n.2) c (subst (λ (x : Placed). Reaches file more of (run_all (run_one r x) ts) b) (sym same.statement) d)

reached-one : (file : List ℕ) (a b : Reached) → IsReached file a → IsReached file b → a ≡ b
reached-one file a b m n =
    files-one file 0 m.statements n.statements [] m.statements n.statements (going [] None) a b m.to n.to refl refl m.stand n.stand m.reaches n.reaches

-- ---- listings

ends-one : (file : List ℕ) (p : ℕ) (f g : Option (TextKind × ℕ)) → EndsIn file p f → EndsIn file p g → f ≡ g
ends-one file p None None c d = refl
ends-one file p None (Some g) c d = absurd (fault-and-end file p g.0 g.1 d c)
ends-one file p (Some f) None c d = absurd (fault-and-end file p f.0 f.1 c d)
ends-one file p (Some f) (Some g) c d =
    let same = fault-at file p f.0 g.0 f.1 g.1 c d in
    ap (λ (k : TextKind). Some (k, f.1)) same.0 ∙ ap (λ (at : ℕ). Some (g.0, at)) same.1

no-ends : (file : List ℕ) (p : ℕ) (f : Option (TextKind × ℕ)) (s : Placed) (behind : ℕ) → EndsIn file p f → IsNodeAt file p s.node s.place behind → ⊥
no-ends file p None s behind c node = node-and-end file p s.node s.place behind node c
no-ends file p (Some f) s behind c node = node-and-fault file p s.node s.place behind f.0 f.1 node c

record SameListing (ss ts : List Placed) (f g : Option (TextKind × ℕ)) : Type 0 where
  statements : ss ≡ ts
  fault : f ≡ g

listings-one : (file : List ℕ) (p : ℕ) (ss ts : List Placed) (to of : ℕ) (f g : Option (TextKind × ℕ)) → AreStatements file p ss to → AreStatements file p ts of
    → EndsIn file to f → EndsIn file of g → SameListing ss ts f g
listings-one file p [] [] to of f g m n c d =
    record { statements = refl; fault = ends-one file p f g (subst (λ (x : ℕ). EndsIn file x f) (sym m) c) (subst (λ (x : ℕ). EndsIn file x g) (sym n) d) }
listings-one file p [] (t ∷ ts) to of f g m n c d = absurd (no-ends file p f t n.0 (subst (λ (x : ℕ). EndsIn file x f) (sym m) c) n.1)
listings-one file p (s ∷ ss) [] to of f g m n c d = absurd (no-ends file p g s m.0 (subst (λ (x : ℕ). EndsIn file x g) (sym n) d) m.1)
listings-one file p (s ∷ ss) (t ∷ ts) to of f g m n c d =
    let same = one-node file p s t m.0 n.0 m.1 n.1 in
    let rest = listings-one file m.0 ss ts to of f g m.2 (subst (λ (x : ℕ). AreStatements file x ts of) (sym same.behind) n.2) c d in
    record { statements = ap (λ (x : Placed). x ∷ ss) same.statement ∙ ap (λ (l : List Placed). t ∷ l) rest.statements; fault = rest.fault }

-- ---- answers

codec-one : (command : Tree → Option Answer) (file : List ℕ) (a b : Answer) → IsCodecAnswer command file a → IsCodecAnswer command file b → a ≡ b
codec-one command file a b m n =
    let same = listings-one file 0 m.0.statements n.0.statements m.1.0 n.1.0 m.0.fault n.0.fault m.1.1 n.1.1 m.1.2 n.1.2 in
    m.2 ∙ ap (λ (ss : List Placed). of_listing command (length file) (record { statements = ss; fault = m.0.fault })) same.statements
    ∙ ap (λ (f : Option (TextKind × ℕ)). of_listing command (length file) (record { statements = n.0.statements; fault = f })) same.fault ∙ sym n.2

text-one : (own : List Placed → Answer) (file : List ℕ) (a b : Answer) → IsTextAnswer own file a → IsTextAnswer own file b → a ≡ b
text-one own file a b m n =
    let same = listings-one file 0 m.0.statements n.0.statements m.1.0 n.1.0 m.0.fault n.0.fault m.1.1 n.1.1 m.1.2 n.1.2 in
    m.2 ∙ ap (λ (ss : List Placed). of_text m.0.fault (own ss)) same.statements
    ∙ ap (λ (f : Option (TextKind × ℕ)). of_text f (own n.0.statements)) same.fault ∙ sym n.2

verify-one : (file : List ℕ) (a b : Answer) → IsVerifyAnswer file a → IsVerifyAnswer file b → a ≡ b
verify-one file a b m n =
    let same = listings-one file 0 m.0.statements n.0.statements m.1.0 n.1.0 m.0.fault n.0.fault m.1.1 n.1.1 m.1.2 n.1.2 in
    listed_one n.0.fault (length file) n.0.statements a b
    (subst (λ f. IsListedVerified f (length file) n.0.statements a) same.fault
    (subst (λ ss. IsListedVerified m.0.fault (length file) ss a) same.statements m.2)) n.2

verbs-one : (verb : Verb) (file : List ℕ) (a b : Answer) → IsVerbAnswer verb file a → IsVerbAnswer verb file b → a ≡ b
verbs-one Replaying file a b m n =
    m.2 ∙ ap replay_answer (replays-one file 0 (going [] None) m.0 n.0 m.1.statements n.1.statements m.1.to n.1.to m.1.stand n.1.stand m.1.closes n.1.closes) ∙ sym n.2
verbs-one Checking file a b m n = text-one check_statements file a b m n
verbs-one Encoding file a b m n = codec-one encode_node file a b m n
verbs-one Decoding file a b m n = codec-one decode_node file a b m n
verbs-one Packing file a b m n = codec-one pack_node file a b m n
verbs-one Certifying file a b m n = text-one certify_statements file a b m n
verbs-one Verifying file a b m n = verify-one file a b m n
verbs-one Auditing file a b m n = audit_one file a b m n
verbs-one Snapshotting file a b m n = m.2 ∙ ap snapshot_answer (reached-one file m.0 n.0 m.1 n.1) ∙ sym n.2

-- the summary of what a workload came to
abbrev summed_up : ℕ → List Receipt → Ending → List ℕ
summed_up calls receipts (State w) = summary_line calls receipts w
summed_up calls receipts (RefusedAt fault place) = []

workloads-one : (calls : ℕ) (a b : Answer) → IsWorkloadAnswer calls a → IsWorkloadAnswer calls b → a ≡ b
workloads-one calls a b m n =
    let one : Replay = record { receipts = m.0; ending = State m.1 } in
    let other : Replay = record { receipts = n.0; ending = State n.1 } in
    m.3 ∙ ap (λ (d : Replay). done_with (summed_up calls d.receipts d.ending))
    (replays-one (scenario calls) 0 (going [] None) one other m.2.statements n.2.statements m.2.to n.2.to m.2.stand n.2.stand m.2.closes n.2.closes) ∙ sym n.3

some_is : (x y : List ℕ) → Some x ≡ Some y → x ≡ y
some_is x y e = cc

-- the answers to a file that goes on from a snapshot
resumes-one : (found : Result snapshots.State LoadFault) (content : Option (List ℕ)) (a b : Answer) → Resumes found content a → Resumes found content b → a ≡ b
resumes-one (Err fault) content a b m n = m ∙ sym n
resumes-one (Ok s) content a b (file, e, (done, r, is)) (other, f, (again, q, same)) =
    let one : other ≡ file = some_is other file (sym f ∙ e) in
    let there : IsResumed (course_of s) file again = subst (λ (l : List ℕ). IsResumed (course_of s) l again) one q in
    is
    ∙ ap (resumed_answer s.groups)
    (replays-one file 0 (going [] (Some (course_of s))) done again r.statements there.statements r.to there.to r.stand there.stand r.closes there.closes)
    ∙ sym same

pub answers-one : (command : Command) (content : List ℕ → Option (List ℕ)) (a b : Answer) → IsAnswer command content a → IsAnswer command content b → a ≡ b
answers-one (OnFile verb path) content a b m n =
    verbs-one verb m.0 a b m.2 (subst (λ (file : List ℕ). IsVerbAnswer verb file b) (some_is n.0 m.0 (sym n.1 ∙ m.1)) n.2)
answers-one (Resuming snapshot path) content a b m n =
    resumes-one (loaded m.0) (content path) a b m.2 (subst (λ (bytes : List ℕ). IsResumeAnswer bytes (content path) b) (some_is n.0 m.0 (sym n.1 ∙ m.1)) n.2)
answers-one (Generating calls) content a b m n = workloads-one calls a b m n
answers-one NoCommand content a b m n = m ∙ sym n
