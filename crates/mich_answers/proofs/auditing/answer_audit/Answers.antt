use Rattle.std.proofs.Common.{Result, Ok, Err, IfOk, inl, inr, refl, sym, subst, ◌≡◌, List, ℕ}
use Rattle.rules_audit.specs.Verdicts.{Verdict, agrees, is_bad_form, differs_supply, differs_tickets, differs_missing}
use Rattle.rules_audit.specs.Audits.{IsVerdict}
use Rattle.rules_files.specs.commands.Answers.{Answer}
use Rattle.rules_files.specs.commands.Audits.{IsAuditAnswer, verdict_answer}
use Rattle.mich_audit.specs.View.{verdict_seen}
use Rattle.mich_base.specs.declared.memory.Memory.{Memory}
use Rattle.mich_answers.specs.View.{answer_seen, IsDoneOrRefused}
use Rattle.mich_answers.specs.declared.answer.Answer.{Answer as Reply}
use Rattle.mich_answers.proofs.auditing.answer_audit.Goals as goal

ends : (v : Verdict) → IsDoneOrRefused (verdict_answer v).status
ends agrees = inl refl
ends (is_bad_form n) = inr refl
ends differs_supply = inr refl
ends (differs_tickets k) = inr refl
ends differs_missing = inr refl

answered : (file : List ℕ) (v : Verdict) (r : Result Reply Memory) → IsVerdict file v → IfOk r (λ a. answer_seen a ≡ verdict_answer v) → IfOk r (λ a. IsAuditAnswer file (answer_seen a))
answered file v (Ok a) h e = (v, h, e)
answered file v (Err m) h e = tt

ended : (v : Verdict) (r : Result Reply Memory) → IfOk r (λ a. answer_seen a ≡ verdict_answer v) → IfOk r (λ a. IsDoneOrRefused a.status)
ended v (Ok a) e = subst (λ (x : Answer). IsDoneOrRefused x.status) (sym e) (ends v)
ended v (Err m) e = tt

pub returns-clause-exact : goal.returns-clause-exact
returns-clause-exact c = answered c.args.file.now (verdict_seen c.in_ok-verdict.verdict) c.verdict_answer.result c.in_ok-verdict.ensures c.verdict_answer.ensures

pub returns-clause-status : goal.returns-clause-status
returns-clause-status c = ended (verdict_seen c.in_ok-verdict.verdict) c.verdict_answer.result c.verdict_answer.ensures
