-- Statements at the front of a file give the first of its receipts.
use Rattle.std.proofs.Common.{◌≡◌, inl, inr, ℕ, List, [], ◌∷◌, ◌++◌, Option, Some, None, sym, ap, ◌∙◌, subst, append_assoc, append-nil}
use Rattle.rules_files.specs.course.Course.{Course, Step, goes_on, stops, stuck_step}
use Rattle.rules_files.specs.commands.Places.{Placed, AreStatements}
use Rattle.rules_files.specs.commands.Replay.{Replay, Closes, Run, going, stopped, stuck_run, step, continued, taken, run_one, run_all}
use Rattle.rules_files.specs.statements.Statements.{Statement, form}
use Rattle.rules_world.specs.world.Receipts.{Receipt}
use Rattle.mich_replay.specs.Coming.{ComesTo}
use Rattle.mich_replay.proofs.Once.{one-node, node-and-fault, node-and-end, stays}

-- these receipts begin with those
pub record BeginsWith (all front : List Receipt) : Type 0 where
  pub rest : List Receipt
  pub all_is : all ≡ front ++ rest

-- and so do those of a run
abbrev RunsOn : List Receipt → Run → Type 0
RunsOn front (going receipts c) = BeginsWith receipts front
RunsOn front (stopped receipts f place) = BeginsWith receipts front
RunsOn front stuck_run = Unit {0}

continued_on : (front receipts : List Receipt) (place : ℕ) (x : Step) → BeginsWith receipts front → RunsOn front (continued receipts place x)
continued_on front receipts place (goes_on c more) h = record {
  rest = h.rest ++ more;
  all_is = ap (λ (l : List Receipt). l ++ more) h.all_is ∙ append_assoc front h.rest more;
}
continued_on front receipts place (stops why) h = h
continued_on front receipts place stuck_step h = tt

taken_on : (front receipts : List Receipt) (c : Option Course) (place : ℕ) (o : Option Statement) → BeginsWith receipts front → RunsOn front (taken receipts c place o)
taken_on front receipts c place (Some s) h = continued_on front receipts place (step c s) h
taken_on front receipts c place None h = h

one_on : (front : List Receipt) (r : Run) (s : Placed) → RunsOn front r → RunsOn front (run_one r s)
one_on front (going receipts c) s h = taken_on front receipts c s.place (form s.node) h
one_on front (stopped receipts f place) s h = h
one_on front stuck_run s h = tt

all_on : (front : List Receipt) (r : Run) (ss : List Placed) → RunsOn front r → RunsOn front (run_all r ss)
all_on front r [] h = h
all_on front r (s ∷ ss) h = all_on front (run_one r s) ss (one_on front r s h)

receipts_on : (front found : List Receipt) (done : Replay) → done.receipts ≡ found → BeginsWith found front → BeginsWith done.receipts front
receipts_on front found done e h = record { rest = h.rest; all_is = e ∙ h.all_is }

closes_on : (file : List ℕ) (to : ℕ) (front : List Receipt) (r : Run) (done : Replay) → RunsOn front r → Closes file to r done → BeginsWith done.receipts front
closes_on file to front (stopped receipts f place) done h e = receipts_on front receipts done (ap (λ (d : Replay). d.receipts) e) h
closes_on file to front stuck_run done h e = absurd e
closes_on file to front (going receipts c) done h (inl e) = receipts_on front receipts done (ap (λ (d : Replay). d.receipts) e.1) h
closes_on file to front (going receipts c) done h (inr e) = receipts_on front receipts done (ap (λ (d : Replay). d.receipts) e.3) h

-- where it goes on behind a statement, it doesn't close before it
closes_nowhere : (file : List ℕ) (p : ℕ) (r : Run) (s : Placed) (behind : ℕ) (ss : List Placed) (receipts : List Receipt) (c : Option Course) (done : Replay) →
    Rattle.rules_files.specs.commands.Places.IsNodeAt file p s.node s.place behind → run_all r (s ∷ ss) ≡ going receipts c → Closes file p r done → ⊥
closes_nowhere file p (going rs w) s behind ss receipts c done node e (inl d) = node-and-end file p s.node s.place behind node d.0
closes_nowhere file p (going rs w) s behind ss receipts c done node e (inr d) = node-and-fault file p s.node s.place behind d.0 d.1 node d.2
closes_nowhere file p (stopped rs f place) s behind ss receipts c done node e d = clash (sym (stays rs f place (s ∷ ss)) ∙ e) where
  clash : stopped rs f place ≡ going receipts c → ⊥
  clash x = absurd cc
closes_nowhere file p stuck_run s behind ss receipts c done node e d = absurd d

begins_at : (file : List ℕ) (p : ℕ) (r : Run) (ss ts : List Placed) (to of : ℕ) (receipts : List Receipt) (c : Option Course) (done : Replay) →
    AreStatements file p ss to → AreStatements file p ts of → run_all r ss ≡ going receipts c → Closes file of (run_all r ts) done → BeginsWith done.receipts receipts
begins_at file p r [] ts to of receipts c done m n e d =
    closes_on file of receipts (run_all r ts) done
    (all_on receipts r ts (subst (RunsOn receipts) (sym e) (record { rest = []; all_is = sym (append-nil receipts) }))) d
begins_at file p r (s ∷ ss) [] to of receipts c done m n e d =
    absurd (closes_nowhere file p r s m.0 ss receipts c done m.1 e (subst (λ (x : ℕ). Closes file x r done) (sym n) d))
begins_at file p r (s ∷ ss) (t ∷ ts) to of receipts c done m n e d =
    let same = one-node file p s t m.0 n.0 m.1 n.1 in
    begins_at file m.0 (run_one r s) ss ts to of receipts c done m.2 (subst (λ (x : ℕ). AreStatements file x ts of) (sym same.behind) n.2)
    e (subst (λ (x : Placed). Closes file of (run_all (run_one r x) ts) done) (sym same.statement) d)

pub begins : (from : Option Course) (file : List ℕ) (ss : List Placed) (to : ℕ) (receipts : List Receipt) (c : Option Course) (done : Replay) → AreStatements file 0 ss to →
    run_all (going [] from) ss ≡ going receipts c → ComesTo from file done → BeginsWith done.receipts receipts
begins from file ss to receipts c done stand run r = begins_at file 0 (going [] from) ss r.statements to r.to receipts c done stand r.stand run r.closes
