-- Instructions without bodies that are paid for and carried out at once.
use Rattle.std.proofs.Common.{◌≡◌, ◌<◌, ℕ, Bool, true, false, List, Result, Ok, Err, refl, sym, ap, ◌∙◌, subst}
use Rattle.std.specs.Prelude.{IfOk, flat_map}
use Rattle.mich_base.specs.declared.memory.Memory.{Memory}
use Rattle.mich_base.specs.undo.History.{Keeps as KeepsBooks}
use Rattle.mich_base.proofs.undo_lemmas.ForCallers.{keeps_same}
use Rattle.rules_text.specs.nodes.Tree.{Tree}
use Rattle.rules_data.specs.declared.gas.Kind.{Kind as Priced}
use Rattle.rules_data.specs.types.Kind.{Kind}
use Rattle.rules_data.specs.values.Tickets.{tickets}
use Rattle.rules_data.specs.values.Val.{Val}
use Rattle.rules_code.specs.instructions.Straight.{Straight}
use Rattle.rules_code.specs.steps.Costs.{kind_of, weight_of}
use Rattle.rules_code.specs.steps.Step.{Step as Ending, done, kept}
use Rattle.rules_code.specs.evaluation.Outcome.{Outcome}
use Rattle.laws_code.specs.evaluation.Laws.{IsCharged}
use Rattle.mich_gas.specs.declared.costs.Costs.{Costs}
use Rattle.mich_gas.specs.View.{listed}
use Rattle.mich_overload.specs.Steps.{in_step}
use Rattle.mich_instr.specs.Code as made
use Rattle.mich_term.specs.declared.value.Value.{Value}
use Rattle.mich_term.specs.ValueView.{big_step}
use Rattle.mich_term.specs.Weights.{capped}
use Rattle.mich_frames.specs.Frames as fr
use Rattle.mich_frames.proofs.ForCallers.{row_broke}
use Rattle.mich_stack.specs.Ends.{Fits, IsKept, Keeps}
use Rattle.mich_stack.specs.Views.{Sight, plain, values}
use Rattle.mich_stack.specs.declared.error.StepError.{StepError}
use Rattle.mich_stack.specs.declared.error.StepError.TheVariants as err
use Rattle.mich_stack.specs.declared.error.StepFailure.TheVariants as lim
use Rattle.mich_step.specs.Rule.{Suits, rule}
use Rattle.mich_step.specs.Shown.{ShowsTickets}
use Rattle.mich_step.specs.Tells.{IsDone, Steps, TellsShown, changes_of}
use Rattle.mich_step.specs.Views.{environment}
use Rattle.mich_step.proofs.ForCallers.{tells_same}
use Rattle.mich_tickets.specs.Books.{State as Ledger}
use Rattle.mich_tickets.specs.Effects.{Tells}
use Rattle.mich_tickets.specs.Limits.{IsReady}
use Rattle.mich_tickets.specs.Sums.{minted_of}
use Rattle.mich_interpreter.specs.View.{Beyond, tops}
use Rattle.mich_interpreter.specs.Ends.{IsPaid, Meets}
use Rattle.mich_interpreter.specs.Went.{Goes, IsStepBy, ComesSo, HasGone, went_by}
use Rattle.mich_interpreter.specs.declared.act.Act.{Act}
use Rattle.mich_interpreter.specs.declared.act.Act.TheVariants as a
use Rattle.mich_interpreter.specs.declared.act.Failed.{Failed}
use Rattle.mich_interpreter.specs.declared.machine.Step.{Step}
use Rattle.mich_interpreter.specs.declared.machine.Step.TheVariants as step
use Rattle.mich_state.specs.declared.state.State.{State}
use Rattle.mich_interpreter.specs.declared.went.Went.{Went}
use Rattle.mich_interpreter.specs.declared.went.Went.TheVariants as w
use Rattle.mich_interpreter.proofs.Keeping.{same_keeps, past_of}
use Rattle.mich_interpreter.proofs.Paid.{paid_less}
use Rattle.mich_interpreter.proofs.Straightened.{step_fits, step_stands, step_failed}
use Rattle.mich_interpreter.proofs.Suited.{suits_plain, ready_plain}

-- ---- what is kept

ends_with : (s : Ending) (V : List Val) → s ≡ kept V → s ≡ done V (changes_of s)
ends_with s V h = h ∙ ap (done V) (sym (ap changes_of h))

kept_done : (s : Ending) (V : List Val) (r : Result (Unit {0}) StepError) → IsKept s V r → IsDone s V r
kept_done s V (Ok x) h = ends_with s V h
kept_done s V (Err (err.Failed why)) h = h
kept_done s V (Err err.Memory) h = tt

kept_told : (P : Sight → Type 0) (s : Sight → Ending) (V : Sight → List Val) (r : Result (Unit {0}) StepError) (l : Ledger) →
    ((big : Sight) → IsKept (s big) (V big) r) → IfOk r (λ _. (big : Sight) → P big → Tells (changes_of (s big)) l l)
kept_told P s V (Ok x) l h = λ big p. subst (λ cs. Tells cs l l) (sym (ap changes_of (h big))) (tells_same l)
kept_told P s V (Err e) l h = tt

-- ---- an instruction without bodies

module _ (costs : Costs) (m : State) (r : Straight) where
  -- wherever it comes first, it was paid for, or there isn't so much gas
  abbrev pub Pays : Bool → ℕ → Type 0
  Pays b meter =
      (app : Tree) (x : Beyond) (fs : List fr.Frame) (d : ℕ) (Z : List Kind) (o : Outcome) → Meets (made.straight r app) x costs m fs d Z o →
      IsPaid b (listed costs) (kind_of r) (weight_of r (tops x.sight m.stack)) m.meter meter

  abbrev Rule : List Val → Ending
  Rule = rule (environment m.env) (minted_of m.ledger.books.present) r

  pub pays_flat : (b c : Bool) (given : Priced) (meter : ℕ) → b ≡ c → given ≡ kind_of r → ((V : List Val) → weight_of r V ≡ 0) →
      IsPaid b (listed costs) given 0 m.meter meter → Pays c meter
  pays_flat b c given meter e k flat h = λ app x fs d Z o h'.
      subst (λ n. IsPaid c (listed costs) (kind_of r) n m.meter meter) (sym (flat (tops x.sight m.stack)))
      (subst (λ t. IsPaid t (listed costs) (kind_of r) 0 m.meter meter) e (subst (λ y. IsPaid b (listed costs) y 0 m.meter meter) k h))

  pub pays_weighed : (b c : Bool) (given : Priced) (weighed meter : ℕ) → b ≡ c → given ≡ kind_of r → ((big : Sight) → weighed ≡ capped (weight_of r (values big m.stack))) →
      ((n : ℕ) → weighed ≡ capped n → IsCharged (listed costs) → IsPaid b (listed costs) given n m.meter meter) → Pays c meter
  pays_weighed b c given weighed meter e k is h = λ app x fs d Z o h'.
      let n = weight_of r (tops x.sight m.stack) in
      subst (λ t. IsPaid t (listed costs) (kind_of r) n m.meter meter) e (subst (λ y. IsPaid b (listed costs) y n m.meter meter) k (h n (is x.sight) h'.runs.charged))

  -- there wasn't so much gas
  pub broken : (meter : ℕ) → Pays false meter → HasGone (made.straight r) costs m (record m { meter = meter }) w.OutOfGas
  broken meter lacks = record {
    acts = λ app x fs d Z o h. row_broke r h (lacks app x fs d Z o h);
    less = tt;
    keeps = past_of _ _ (same_keeps m (record m { meter = meter }) refl refl refl);
  }

  module _ (e : in_step r ≡ true) (comes : ComesSo (made.straight r) costs m) (meter : ℕ) (pays : Pays true meter) where
    abbrev here : Beyond
    here = comes.1.0

    pub fits_paid : Fits Rule m.stack
    fits_paid = step_fits here costs m r e comes.1.5 (pays comes.0 here comes.1.1 comes.1.2 comes.1.3 comes.1.4 comes.1.5).0

    pub suits_met : Suits r (plain m.stack)
    suits_met = suits_plain here costs m r comes.1.5

    pub ready_met : IsReady m.ledger.books.present (flat_map tickets (plain m.stack))
    ready_met = ready_plain here costs m r comes.1.5

    spent : meter < m.meter
    spent = let p = pays comes.0 here comes.1.1 comes.1.2 comes.1.3 comes.1.4 comes.1.5 in paid_less (listed costs) (kind_of r) (weight_of r (tops here.sight m.stack)) m.meter meter comes.1.5.runs.charged p.0 p.1

    module _ (stack : List Value) (ledger : Ledger) (books : KeepsBooks m.ledger.books ledger.books) where
      abbrev new : State
      new = record m { stack = stack; meter = meter; ledger = ledger }

      -- its step ended so
      pub stepped : (r' : Result (Unit {0}) StepError) → Steps Rule m.stack stack r' → IfOk r' (λ _. TellsShown Rule m.stack m.ledger ledger) →
          HasGone (made.straight r) costs m new (went_by r')
      stepped (Ok _) ends tells = record {
        acts = λ app x fs d Z o h. let p = pays app x fs d Z o h in step_stands x costs m r e h p.0 stack meter ledger (ends x.sight) (tells x.sight (x.shows m.stack)) p.1;
        less = spent;
        keeps = record { books = books; changes = _; tells = tells big_step refl; group = refl; scripts = λ h. h };
      }
      stepped (Err (err.Failed lim.IntegerLimit)) ends tells = record {
        acts = λ app x fs d Z o h. step_failed x costs m r e h (pays app x fs d Z o h).0 _ (ends x.sight);
        less = tt;
        keeps = record { books = books; group = refl; scripts = λ h. h };
      }
      stepped (Err (err.Failed lim.MutezOverflow)) ends tells = record {
        acts = λ app x fs d Z o h. step_failed x costs m r e h (pays app x fs d Z o h).0 _ (ends x.sight);
        less = tt;
        keeps = record { books = books; group = refl; scripts = λ h. h };
      }
      stepped (Err (err.Failed lim.ShiftLimit)) ends tells = record {
        acts = λ app x fs d Z o h. step_failed x costs m r e h (pays app x fs d Z o h).0 _ (ends x.sight);
        less = tt;
        keeps = record { books = books; group = refl; scripts = λ h. h };
      }
      stepped (Err (err.Failed lim.SizeLimit)) ends tells = record {
        acts = λ app x fs d Z o h. step_failed x costs m r e h (pays app x fs d Z o h).0 _ (ends x.sight);
        less = tt;
        keeps = record { books = books; group = refl; scripts = λ h. h };
      }
      stepped (Err err.Memory) ends tells = record { acts = λ app x fs d Z o h. tt; less = tt; keeps = tt }

      pub steps_gone : (r' : Result (Unit {0}) StepError) (went : Went) → went ≡ went_by r' → Steps Rule m.stack stack r' →
          IfOk r' (λ _. TellsShown Rule m.stack m.ledger ledger) → HasGone (made.straight r) costs m new went
      steps_gone r' went is ends tells = subst (HasGone (made.straight r) costs m new) (sym is) (stepped r' ends tells)

    -- the same of one that burns and mints nothing
    pub keeps_gone : (stack : List Value) (r' : Result (Unit {0}) StepError) (went : Went) → went ≡ went_by r' → Keeps Rule m.stack stack r' →
        HasGone (made.straight r) costs m (record m { stack = stack; meter = meter }) went
    keeps_gone stack r' went is ends =
        steps_gone stack m.ledger (keeps_same m.ledger.books) r' went is (λ big. kept_done (Rule (values big m.stack)) (values big stack) r' (ends big))
        (kept_told (λ big. ShowsTickets big m.stack) (λ big. Rule (values big m.stack)) (λ big. values big stack) r' m.ledger ends)

-- ---- the step of the run

pub step_says : (went : Went) (r : Result Step Memory) (P : Act → Type 0) (Q : Step → Type 0) → (P a.On → Q step.Paid) → ((why : Failed) → P (a.Failed why) → Q (step.Failed why)) →
    IsStepBy went r → Goes went P → IfOk r Q
step_says went (Err e) P Q on off is h = tt
step_says w.On (Ok s) P Q on off is h = subst Q (sym is) (on h)
step_says w.OutOfGas (Ok s) P Q on off is h = subst Q (sym is) (off _ h)
step_says w.IntegerLimit (Ok s) P Q on off is h = subst Q (sym is) (off _ h)
step_says w.MutezOverflow (Ok s) P Q on off is h = subst Q (sym is) (off _ h)
step_says w.ShiftLimit (Ok s) P Q on off is h = subst Q (sym is) (off _ h)
step_says w.SizeLimit (Ok s) P Q on off is h = subst Q (sym is) (off _ h)
step_says w.Memory (Ok s) P Q on off is h = absurd is
