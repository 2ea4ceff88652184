-- A file has one list of statements, and comes to one end.
use Rattle.std.proofs.Common.{◌≡◌, inl, inr, ℕ, List, [], ◌∷◌, ◌++◌, drop, Option, refl, sym, ap, ◌∙◌, subst, arith}
use Rattle.rules_text.specs.nodes.Tree.{Tree}
use Rattle.rules_text.specs.declared.text.TextKind.{TextKind}
use Rattle.rules_world.specs.world.Receipts.{Receipt}
use Rattle.rules_files.specs.course.Course.{Course}
use Rattle.rules_files.specs.commands.Places.{Placed, IsNodeAt, IsFaultAt, IsEndAt, AreStatements}
use Rattle.rules_files.specs.commands.Replay.{Replay, Closes, FileFault, TextFault, RefusedAt, Run, going, stopped, stuck_run, run_one, run_all}
use Rattle.mich_text.proofs.ForCallers.{one_statement, one_fault, no_fault_at_node, no_node_at_end, no_fault_at_end}

-- ---- what stands at a place

record SameNode (s t : Placed) (b c : ℕ) : Type 0 where
  statement : s ≡ t
  behind : b ≡ c

one_node : (file : List ℕ) (p : ℕ) (s t : Placed) (b c : ℕ) → IsNodeAt file p s.node s.place b → IsNodeAt file p t.node t.place c →
    SameNode s t b c
one_node file p s t b c m n =
    let one = one_statement (drop p file) s.node t.node m.0 m.1 n.0 n.1 m.2.stands n.2.stands in
    let place : s.place ≡ t.place = omega (arith, one.1, m.3, n.3) in
    record {
      statement = ap (λ (x : ℕ). record { place = x; node = s.node }) place ∙ ap (λ (x : Tree). record { place = t.place; node = x }) one.0;
      behind = omega (arith, one.2, m.4, n.4);
    }

node_and_fault : (file : List ℕ) (p : ℕ) (t : Tree) (a b : ℕ) (k : TextKind) (c : ℕ) → IsNodeAt file p t a b → IsFaultAt file p k c → ⊥
node_and_fault file p t a b k c m n = no_fault_at_node p (drop p file) k n.0 t m.0 m.1 n.1 m.2

node_and_end : (file : List ℕ) (p : ℕ) (t : Tree) (a b : ℕ) → IsNodeAt file p t a b → IsEndAt file p → ⊥
node_and_end file p t a b m e = no_node_at_end p (drop p file) t m.0 m.1 e m.2

pub no_statement : (file : List ℕ) (p : ℕ) (s : Placed) (behind : ℕ) → IsNodeAt file p s.node s.place behind → IsEndAt file p → ⊥
no_statement file p s behind n e = node_and_end file p s.node s.place behind n e

-- ---- lists up to the end

pub record SameList (ss ts : List Placed) (to of : ℕ) : Type 0 where
  pub statements : ss ≡ ts
  pub place : to ≡ of

pub one_list : (file : List ℕ) (p : ℕ) (ss ts : List Placed) (to of : ℕ) → AreStatements file p ss to → AreStatements file p ts of →
    IsEndAt file to → IsEndAt file of → SameList ss ts to of
one_list file p [] [] to of m n c d = record { statements = refl; place = sym m ∙ n }
one_list file p [] (t ∷ ts) to of m n c d =
    absurd (node_and_end file p t.node t.place n.0 n.1 (subst (λ (x : ℕ). IsEndAt file x) (sym m) c))
one_list file p (s ∷ ss) [] to of m n c d =
    absurd (node_and_end file p s.node s.place m.0 m.1 (subst (λ (x : ℕ). IsEndAt file x) (sym n) d))
one_list file p (s ∷ ss) (t ∷ ts) to of m n c d =
    let same = one_node file p s t m.0 n.0 m.1 n.1 in
    let rest = one_list file m.0 ss ts to of m.2 (subst (λ (x : ℕ). AreStatements file x ts of) (sym same.behind) n.2) c d in
    record { statements = λ k. same.statement k ∷ rest.statements k; place = rest.place }

-- ---- runs

stays : (rs : List Receipt) (f : FileFault) (place : ℕ) (ss : List Placed) → run_all (stopped rs f place) ss ≡ stopped rs f place
stays rs f place [] = refl
stays rs f place (s ∷ ss) = stays rs f place ss

pub runs_then : (r : Run) (ss ts : List Placed) → run_all r (ss ++ ts) ≡ run_all (run_all r ss) ts
runs_then r [] ts = refl
runs_then r (s ∷ ss) ts = runs_then (run_one r s) ss ts

-- the statements of a file go on behind those that its run passes
pub record Further (file : List ℕ) (of : ℕ) (r : Run) (done : Replay) : Type 0 where
  pub statements : List Placed
  pub to : ℕ
  pub stand : AreStatements file of statements to
  pub closes : Closes file to (run_all r statements) done

-- a run that goes on behind a statement doesn't close before it
no_closing : (file : List ℕ) (p : ℕ) (r : Run) (done : Replay) (s : Placed) (behind : ℕ) (ss : List Placed) (receipts : List Receipt)
    (c : Option Course) →
    Closes file p r done → IsNodeAt file p s.node s.place behind → run_all r (s ∷ ss) ≡ going receipts c → ⊥
no_closing file p (stopped rs f place) done s behind ss receipts c closes n e = let q = sym (stays rs f place (s ∷ ss)) ∙ e in cc q
no_closing file p stuck_run done s behind ss receipts c closes n e = closes
no_closing file p (going rs w) done s behind ss receipts c (inl closes) n e = node_and_end file p s.node s.place behind n closes.0
no_closing file p (going rs w) done s behind ss receipts c
    (inr closes) n e = node_and_fault file p s.node s.place behind closes.0 closes.1 n closes.2

pub goes_further : (file : List ℕ) (p : ℕ) (r : Run) (done : Replay) (ss ts : List Placed) (to of : ℕ) (receipts : List Receipt)
    (c : Option Course) →
    AreStatements file p ss to → AreStatements file p ts of → Closes file to (run_all r ss) done → run_all r ts ≡ going receipts c →
    Further file of (going receipts c) done
goes_further file p r done ss [] to of receipts c m n closes e = record {
  statements = ss;
  to = to;
  stand = subst (λ (x : ℕ). AreStatements file x ss to) n m;
  closes = subst (λ (x : Run). Closes file to (run_all x ss) done) e closes;
}
goes_further file p r done [] (t ∷ ts) to of receipts c m n closes e =
    absurd (no_closing file p r done t n.0 ts receipts c (subst (λ (x : ℕ). Closes file x r done) (sym m) closes) n.1 e)
goes_further file p r done (s ∷ ss) (t ∷ ts) to of receipts c m n closes e =
    let same = one_node file p s t m.0 n.0 m.1 n.1 in
    goes_further file m.0 (run_one r s) done ss ts to of receipts c m.2
    (subst (λ (x : ℕ). AreStatements file x ts of) (sym same.behind) n.2) closes
    (subst (λ (x : Placed). run_all (run_one r x) ts ≡ going receipts c) (sym same.statement) e)

-- ---- one end

fault_at : (file : List ℕ) (p : ℕ) (k j : TextKind) (a b : ℕ) → IsFaultAt file p k a → IsFaultAt file p j b → (k ≡ j) × (a ≡ b)
fault_at file p k j a b m n =
    let one = one_fault p (drop p file) k j m.0 n.0 m.1 n.1 in
    (one.1, omega (arith, one.0, m.2, n.2))

fault_and_end : (file : List ℕ) (p : ℕ) (k : TextKind) (c : ℕ) → IsFaultAt file p k c → IsEndAt file p → ⊥
fault_and_end file p k c n e = no_fault_at_end p (drop p file) k n.0 e n.1

closes_once : (file : List ℕ) (p : ℕ) (r : Run) (a b : Replay) → Closes file p r a → Closes file p r b → a ≡ b
closes_once file p (stopped rs f place) a b c d = c ∙ sym d
closes_once file p stuck_run a b c d = absurd c
closes_once file p (going rs w) a b (inl c) (inl d) = c.1 ∙ sym d.1
closes_once file p (going rs w) a b (inl c) (inr d) = absurd (fault_and_end file p d.0 d.1 d.2 c.0)
closes_once file p (going rs w) a b (inr c) (inl d) = absurd (fault_and_end file p c.0 c.1 c.2 d.0)
closes_once file p (going rs w) a b (inr c) (inr d) =
    let same = fault_at file p c.0 d.0 c.1 d.1 c.2 d.2 in
    c.3 ∙ (λ k. record { receipts = rs; ending = RefusedAt (TextFault (same.0 k)) (same.1 k) }) ∙ sym d.3

-- where it closes before a statement, a statement was refused already
closes_early : (file : List ℕ) (p : ℕ) (r : Run) (a b : Replay) (s : Placed) (behind : ℕ) (ss : List Placed) (to : ℕ) → Closes file p r a →
    IsNodeAt file p s.node s.place behind → Closes file to (run_all r (s ∷ ss)) b → a ≡ b
closes_early file p (stopped rs f place) a b s behind ss to c node d =
    c ∙ sym (subst (λ (x : Run). Closes file to x b) (stays rs f place (s ∷ ss)) d)
closes_early file p stuck_run a b s behind ss to c node d = absurd c
closes_early file p (going rs w) a b s behind ss to (inl c) node d = absurd (node_and_end file p s.node s.place behind node c.0)
closes_early file p (going rs w) a b s behind ss to (inr c) node d =
    absurd (node_and_fault file p s.node s.place behind c.0 c.1 node c.2)

pub one_end : (file : List ℕ) (p : ℕ) (r : Run) (a b : Replay) (ss ts : List Placed) (to of : ℕ) → AreStatements file p ss to →
    AreStatements file p ts of → Closes file to (run_all r ss) a → Closes file of (run_all r ts) b → a ≡ b
one_end file p r a b [] [] to of m n c d =
    closes_once file p r a b (subst (λ (x : ℕ). Closes file x r a) (sym m) c) (subst (λ (x : ℕ). Closes file x r b) (sym n) d)
one_end file p r a b [] (t ∷ ts) to of m n c d =
    closes_early file p r a b t n.0 ts of (subst (λ (x : ℕ). Closes file x r a) (sym m) c) n.1 d
one_end file p r a b (s ∷ ss) [] to of m n c d =
    sym (closes_early file p r b a s m.0 ss to (subst (λ (x : ℕ). Closes file x r b) (sym n) d) m.1 c)
one_end file p r a b (s ∷ ss) (t ∷ ts) to of m n c d =
    let same = one_node file p s t m.0 n.0 m.1 n.1 in
    one_end file m.0 (run_one r s) a b ss ts to of m.2 (subst (λ (x : ℕ). AreStatements file x ts of) (sym same.behind) n.2) c
    (subst (λ (x : Placed). Closes file of (run_all (run_one r x) ts) b) (sym same.statement) d)
