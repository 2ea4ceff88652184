-- Instructions without bodies that ask for nothing but the stack, the tickets and what surrounds the run, by their rules.
use Rattle.std.proofs.Common.{◌≡◌, ℕ, true, List, [], ◌∷◌, refl, sym, ap, ◌∙◌}
use Rattle.std.proofs.lemmas.List.{append-nil}
use Rattle.rules_text.specs.nodes.Tree.{Tree}
use Rattle.rules_data.specs.types.Kind.{Kind}
use Rattle.rules_code.specs.instructions.Context.{Context}
use Rattle.rules_code.specs.instructions.Straight.{Straight, on_stack, on_pairs, on_unions, on_collections, on_numbers, on_truth, on_text, on_hashes, on_environment, on_operations, on_tickets}
use Rattle.rules_code.specs.instructions.Straight as i
use Rattle.rules_data.specs.forms.Spelling.{implicit_place}
use Rattle.rules_data.specs.values.Val.{Val, bytes}
use Rattle.rules_code.specs.steps.Changes.{Change}
use Rattle.rules_code.specs.steps.Costs.{kind_of, weight_of}
use Rattle.rules_code.specs.steps.Failure.{Failure}
use Rattle.rules_code.specs.steps.Step.{Step, done, fails, wrong}
use Rattle.rules_code.specs.evaluation.Operations.{Tally}
use Rattle.rules_code.specs.evaluation.Outcome.{Outcome, stack, failed, with_changes, finish}
use Rattle.mich_overload.specs.Steps.{in_step}
use Rattle.mich_instr.specs.Code as made
use Rattle.mich_stack.specs.Ends.{IsFitting}
use Rattle.mich_step.specs.Rule.{rule}
use Rattle.mich_frames.specs.Around.{Around, at, less, Pays}
use Rattle.mich_frames.specs.Frames.{Frame}
use Rattle.mich_frames.specs.Rows.{does, minted_at}
use Rattle.mich_frames.specs.Stands.{StandsAt, MeetsAt}
use Rattle.mich_frames.proofs.ForCallers.{row_acts, row_fails, row_sound}

pub right_fits : (s : Step) → (s ≡ wrong → ⊥) → IsFitting s
right_fits (done V changes) h = tt
right_fits (fails f) h = tt
right_fits wrong h = h refl

-- a row by its rule
module _ (u : Around) (c : Context) (d : ℕ) (B : List Kind) (n : Tally) where
  abbrev ruled : Straight → List Val → Outcome
  ruled r V = finish (rule u.environment (minted_at u n) r V) B n

  no_more : (V : List Val) → stack B V n ≡ stack B V (with_changes n [])
  no_more V = ap (λ cs. stack B V (record n { changes = cs })) (sym (append-nil n.changes))

  does_is : (r : Straight) (V : List Val) → in_step r ≡ true → does r (at u c) d B V n ≡ ruled r V
  does_is (on_stack r) V e = refl
  does_is (on_pairs r) V e = refl
  does_is (on_unions r) V e = refl
  does_is (on_collections r) V e = refl
  does_is (on_numbers r) V e = refl
  does_is (on_truth r) V e = refl
  does_is (on_text r) V e = refl
  does_is (on_hashes r) V e = absurd cc
  does_is (on_environment r) V e = refl
  does_is (on_tickets r) V e = refl
  does_is (on_operations i.address) (bytes b ∷ V) e = no_more (bytes b ∷ V)
  does_is (on_operations i.address) V e = refl
  does_is (on_operations i.implicit_account) (bytes b ∷ V) e = no_more (bytes (implicit_place b) ∷ V)
  does_is (on_operations i.implicit_account) V e = refl
  does_is (on_operations (i.contract name a)) V e = absurd cc
  does_is (on_operations i.transfer_tokens) V e = absurd cc
  does_is (on_operations (i.emit tag a)) V e = absurd cc
  does_is (on_operations (i.view name a b)) V e = absurd cc

module _ {fs : List Frame} {u : Around} {m : Tally} {d : ℕ} {Z : List Kind} {o : Outcome} (r : Straight) {app : Tree} {V : List Val} (e : in_step r ≡ true) (pays : Pays u (kind_of r) (weight_of r V) m)
    (h : MeetsAt (made.straight r app) fs u V m d Z o) where
  abbrev pub paid : Tally
  paid = less u (kind_of r) (weight_of r V) m

  abbrev pub ends : Step
  ends = rule u.environment (minted_at u paid) r V

  pub rule_acts : (W : List Val) (changes : List Change) → ends ≡ done W changes → StandsAt fs u W (with_changes paid changes) d Z o
  rule_acts W changes is = row_acts r h pays W (with_changes paid changes) (λ c d B. does_is u c d B paid r V e ∙ ap (λ s. finish s B paid) is)

  pub rule_fails : (x : Failure) → ends ≡ fails x → o ≡ failed x
  rule_fails x is = row_fails r h pays x (λ c d B. does_is u c d B paid r V e ∙ ap (λ s. finish s B paid) is)

  pub rule_fits : IsFitting ends
  rule_fits = right_fits ends (λ is. let s = row_sound r h pays in s.3 (does_is u s.0 s.1 s.2 paid r V e ∙ ap (λ s'. finish s' s.2 paid) is))
