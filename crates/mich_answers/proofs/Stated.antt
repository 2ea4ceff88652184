-- One more statement, and what holds of an answer.
use Rattle.std.proofs.Common.{◌≡◌, ℕ, List, [], ◌∷◌, ◌++◌, Result, Ok, Err, IfOk, refl, sym, subst}
use Rattle.rules_files.specs.commands.Places.{Placed, IsNodeAt, AreStatements}
use Rattle.rules_files.specs.commands.Answers.{Answer}
use Rattle.mich_base.specs.declared.memory.Memory.{Memory}
use Rattle.mich_answers.specs.declared.answer.Answer.{Answer as Reply}
use Rattle.mich_answers.specs.View.{answer_seen}

-- one more statement
pub statements-more : (file : List ℕ) (p q r : ℕ) (ss : List Placed) (s : Placed) → AreStatements file p ss q → IsNodeAt file q s.node s.place r → AreStatements file p (ss ++ s ∷ []) r
statements-more file p q r [] s same node = (r, subst (λ (x : ℕ). IsNodeAt file x s.node s.place r) (sym same) node, refl)
statements-more file p q r (t ∷ ts) s stand node = (stand.0, stand.1, statements-more file stand.0 q r ts s stand.2 node)

-- what holds of an answer holds of its reply
pub ok_answer : (r : Result Reply Memory) (x : Answer) (Q : Answer → Type 0) → IfOk r (λ a. answer_seen a ≡ x) → Q x → IfOk r (λ a. Q (answer_seen a))
ok_answer (Ok a) x Q e q = subst Q (sym e) q
ok_answer (Err e) x Q p q = tt
