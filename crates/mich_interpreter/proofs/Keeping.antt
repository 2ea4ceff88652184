-- What runs keep.
use Rattle.std.proofs.Common.{◌≡◌, List, [], ◌∷◌, ◌++◌, ◌∙◌, refl, ap, sym, subst}
use Rattle.std.specs.List.{AllByRecursion}
use Rattle.mich_ops.specs.declared.issued.Issued.{Issued}
use Rattle.mich_step.proofs.ForCallers.{tells_equal}
use Rattle.mich_base.specs.undo.History.{Keeps}
use Rattle.mich_base.proofs.undo_lemmas.ForCallers.{keeps_same, keeps_trans}
use Rattle.mich_interpreter.specs.Ends.{KeepsPast, KeepsState, KeepsAct}
use Rattle.mich_interpreter.specs.Issues.{IsScripted, KeepsScripts}
use Rattle.mich_interpreter.specs.Runs.{KeepsStep}
use Rattle.mich_interpreter.specs.declared.act.Act.{Act}
use Rattle.mich_interpreter.specs.declared.act.Act.TheVariants as a
use Rattle.mich_interpreter.specs.declared.machine.Step.{Step}
use Rattle.mich_interpreter.specs.declared.machine.Step.TheVariants as s
use Rattle.mich_state.specs.declared.state.State.{State}
use Rattle.mich_interpreter.proofs.Changed.{tells_then}

-- ---- scripts

pub scripts_same : (is js : List Issued) → js ≡ is → KeepsScripts is js
scripts_same is js e = λ h. subst (AllByRecursion IsScripted) (sym e) h

all_more : (is : List Issued) (i : Issued) → IsScripted i → AllByRecursion IsScripted is → AllByRecursion IsScripted (is ++ i ∷ [])
all_more [] i one h = (one, tt)
all_more (j ∷ is) i one h = (h.0, all_more is i one h.1)

-- one more operation
pub scripts_more : (is js : List Issued) (i : Issued) → js ≡ is ++ i ∷ [] → IsScripted i → KeepsScripts is js
scripts_more is js i e one = λ h. subst (AllByRecursion IsScripted) (sym e) (all_more is i one h)

-- ---- one state and another

pub keeps_group : (old new : State) → new.ledger ≡ old.ledger → new.counts.group ≡ old.counts.group → KeepsScripts old.issued new.issued → KeepsState old new
keeps_group old new e f g = record {
  books = subst (λ l. Keeps old.ledger.books l.books) (sym e) (keeps_same old.ledger.books);
  changes = [];
  tells = tells_equal old.ledger new.ledger e;
  group = f;
  scripts = g;
}

pub same_keeps : (old new : State) → new.ledger ≡ old.ledger → new.counts ≡ old.counts → new.issued ≡ old.issued → KeepsState old new
same_keeps old new e f g = keeps_group old new e (ap (λ n. n.group) f) (scripts_same old.issued new.issued g)

pub keeps_state : (s : State) → KeepsState s s
keeps_state s = same_keeps s s refl refl refl

pub keeps_on : (a b c : State) → KeepsState a b → KeepsState b c → KeepsState a c
keeps_on a b c p q = record {
  books = keeps_trans a.ledger.books b.ledger.books c.ledger.books p.books q.books;
  changes = p.changes ++ q.changes;
  tells = tells_then a.ledger b.ledger c.ledger p.changes q.changes p.tells q.tells;
  group = q.group ∙ p.group;
  scripts = λ h. q.scripts (p.scripts h);
}

pub keeps_to : (a b c : State) → KeepsState a b → c ≡ b → KeepsState a c
keeps_to a b c p e = subst (λ s. KeepsState a s) (sym e) p

-- ---- what is left of it after a failure

pub past_of : (a b : State) → KeepsState a b → KeepsPast a b
past_of a b p = record { books = p.books; group = p.group; scripts = p.scripts }

pub past_on : (a b c : State) → KeepsState a b → KeepsPast b c → KeepsPast a c
past_on a b c p q = record {
  books = keeps_trans a.ledger.books b.ledger.books c.ledger.books p.books q.books;
  group = q.group ∙ p.group;
  scripts = λ h. q.scripts (p.scripts h);
}

-- ---- by what came of it

pub acts_group : (act : Act) (old new : State) → new.ledger ≡ old.ledger → new.counts.group ≡ old.counts.group → KeepsScripts old.issued new.issued → KeepsAct act old new
acts_group a.On old new e f g = keeps_group old new e f g
acts_group (a.Open below body) old new e f g = keeps_group old new e f g
acts_group (a.View w) old new e f g = keeps_group old new e f g
acts_group (a.Failed why) old new e f g = past_of old new (keeps_group old new e f g)

pub acts_same : (act : Act) (old new : State) → new.ledger ≡ old.ledger → new.counts ≡ old.counts → new.issued ≡ old.issued → KeepsAct act old new
acts_same act old new e f g = acts_group act old new e (ap (λ n. n.group) f) (scripts_same old.issued new.issued g)

pub step_keeps : (step : Step) (old new : State) → KeepsState old new → KeepsStep step old new
step_keeps s.Free old new p = p
step_keeps s.Paid old new p = p
step_keeps s.Done old new p = p
step_keeps (s.View w) old new p = p
step_keeps (s.Failed why) old new p = past_of old new p

pub step_on : (step : Step) (a b c : State) → KeepsState a b → KeepsStep step b c → KeepsStep step a c
step_on s.Free a b c p q = keeps_on a b c p q
step_on s.Paid a b c p q = keeps_on a b c p q
step_on s.Done a b c p q = keeps_on a b c p q
step_on (s.View w) a b c p q = keeps_on a b c p q
step_on (s.Failed why) a b c p q = past_on a b c p q
