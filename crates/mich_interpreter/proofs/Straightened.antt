-- A run before and behind an instruction without bodies.
use Rattle.std.proofs.Common.{◌≡◌, ◌≤◌, ◌-◌, ℕ, true, List, ap, ◌∙◌, subst}
use Rattle.rules_text.specs.nodes.Tree.{Tree}
use Rattle.rules_data.specs.gas.Prices.{cost}
use Rattle.rules_data.specs.types.Kind.{Kind}
use Rattle.rules_code.specs.instructions.Straight.{Straight}
use Rattle.rules_code.specs.steps.Costs.{kind_of, weight_of}
use Rattle.rules_code.specs.steps.Failure.{Failure}
use Rattle.rules_code.specs.steps.Step.{Step, done, fails}
use Rattle.rules_code.specs.evaluation.Outcome.{Outcome, failed}
use Rattle.mich_gas.specs.declared.costs.Costs.{Costs}
use Rattle.mich_gas.specs.View.{listed}
use Rattle.mich_overload.specs.Steps.{in_step}
use Rattle.mich_instr.specs.Code as made
use Rattle.mich_term.specs.declared.value.Value.{Value}
use Rattle.mich_frames.specs.Frames.{Frame}
use Rattle.mich_frames.specs.Stands.{StandsAt}
use Rattle.mich_stack.specs.Ends.{Fits, IsFitting}
use Rattle.mich_step.specs.Rule.{rule}
use Rattle.mich_step.specs.Tells.{changes_of}
use Rattle.mich_step.specs.Views.{environment}
use Rattle.mich_tickets.specs.Books.{State as Ledger}
use Rattle.mich_tickets.specs.Effects.{Tells}
use Rattle.mich_tickets.specs.Sums.{minted_of}
use Rattle.mich_interpreter.specs.View.{Beyond, tops, around, tally}
use Rattle.mich_interpreter.specs.Ends.{Meets}
use Rattle.mich_state.specs.declared.state.State.{State}
use Rattle.mich_interpreter.proofs.Ruled.{rule_acts, rule_fails, rule_fits}
use Rattle.mich_interpreter.proofs.Told.{minted_is, stands_told, later}

module _ (x : Beyond) (costs : Costs) (m : State) {fs : List Frame} {d : ℕ} {Z : List Kind} {o : Outcome} (r : Straight) {app : Tree} (e : in_step r ≡ true) (h : Meets (made.straight r app) x costs m fs d Z o) where
  abbrev pub heavy : ℕ
  heavy = weight_of r (tops x.sight m.stack)

  abbrev pub charged : ℕ
  charged = cost (listed costs) (kind_of r) heavy

  -- its rule, with what the books tell
  abbrev pub ends : Step
  ends = rule (environment m.env) (minted_of m.ledger.books.present) r (tops x.sight m.stack)

  module _ (pays : charged ≤ m.meter) where
    pub step_fits : Fits (rule (environment m.env) (minted_of m.ledger.books.present) r) m.stack
    step_fits = (x.sight, subst (λ f. IsFitting (rule (environment m.env) f r (tops x.sight m.stack))) (minted_is x costs m (kind_of r) heavy) (rule_fits r e pays h))

    pub step_stands : (stack : List Value) (meter : ℕ) (ledger : Ledger) → ends ≡ done (tops x.sight stack) (changes_of ends) → Tells (changes_of ends) m.ledger ledger → meter ≡ m.meter - charged →
        StandsAt fs (around x costs (later x costs m stack meter ledger)) (tops x.sight stack) (tally x (later x costs m stack meter ledger)) d Z o
    step_stands stack meter ledger is told paid =
        stands_told x costs m stack meter ledger fs d Z o (kind_of r) heavy (changes_of ends) told paid
        (rule_acts r e pays h (tops x.sight stack) (changes_of ends) (ap (λ f. rule (environment m.env) f r (tops x.sight m.stack)) (minted_is x costs m (kind_of r) heavy) ∙ is))

    pub step_failed : (f : Failure) → ends ≡ fails f → o ≡ failed f
    step_failed f is = rule_fails r e pays h f (ap (λ g. rule (environment m.env) g r (tops x.sight m.stack)) (minted_is x costs m (kind_of r) heavy) ∙ is)
