-- A run changes the storage of its target alone, and a founding adds one contract.
use Rattle.std.proofs.Common.{◌≡◌, ℕ, List, Bool, true, false, Some, None, refl, subst}
use Rattle.std.specs.Prelude.{nat_lt}
use Rattle.std.specs.declared.option.Option.{Option}
use Rattle.rules_data.specs.forms.Spelling.{is_key_hash}
use Rattle.rules_data.specs.values.Val.{Val}
use Rattle.rules_code.specs.evaluation.Operations.{Issued, Tally}
use Rattle.rules_code.specs.evaluation.Outcome as code
use Rattle.rules_code.specs.evaluation.Surroundings.{Contract}
use Rattle.rules_code.specs.steps.Changes.{Change}
use Rattle.rules_code.specs.steps.Environment.{Environment}
use Rattle.rules_world.specs.world.Balances.{balance_or_none, with_less}
use Rattle.rules_world.specs.world.Originations.{Founding, founded, founding_outcome, found_contract}
use Rattle.rules_world.specs.world.Outcomes.{Setting, Counts}
use Rattle.rules_world.specs.world.Receipts.{Effect}
use Rattle.rules_world.specs.world.Runs.{Call, environment_of, tally_of, Returned, returned, has_twice, issued_with, Ended, finished, run_failed, run_stuck, kept, finished_with, unless_twice, with_returned, behind_code, outcome_of, run_of, run_in, with_effect, run}
use Rattle.rules_world.specs.world.Targets.{Target}
use Rattle.rules_world.specs.world.World.{World, contract_at}
use Rattle.laws_files.specs.Laws.{HasPaid}
use Rattle.laws_files.proofs.paid.Growing.{IsGrown, AppliesIn, growing_paid}
use Rattle.laws_files.proofs.paid.Moves.{IsPaidBy, one_paid, less_paid}

abbrev EndsGrown : Option ℕ → List ℕ → Ended → Type 0
EndsGrown r hash (finished f) = IsGrown r hash f.world
EndsGrown r hash (run_failed failure) = Unit {0}
EndsGrown r hash run_stuck = Unit {0}

module _ (r : Option ℕ) (w : World) (p : IsPaidBy r w) where
  module _ (hash : List ℕ) (c : Contract) (h : HasPaid r c) where
    kept_grown : (storage : Val) (changes : List Change) → IsGrown r hash (kept w hash c storage changes)
    kept_grown storage changes = record {
      rate = p.rate;
      burn = p.burn;
      before = w.contracts;
      paid = p.contracts;
      contract = record c { storage = storage };
      contracts = refl;
      nothing = λ none. subst (λ r. HasPaid r c) none h;
    }

    finished_grown : (storage : Val) (changes : List Change) (m : Tally) (is : Option (List Issued)) →
        EndsGrown r hash (finished_with w hash c storage changes m is)
    finished_grown storage changes m (Some is) = kept_grown storage changes
    finished_grown storage changes m None = tt

    once_grown : (b : Bool) (m : Tally) (x : Returned) → EndsGrown r hash (unless_twice b w hash c m x)
    once_grown true m x = tt
    once_grown false m x = finished_grown x.storage _ m (issued_with m.issued x.numbers)

    returned_grown : (m : Tally) (x : Option Returned) → EndsGrown r hash (with_returned w hash c m x)
    returned_grown m (Some x) = once_grown (has_twice x.numbers) m x
    returned_grown m None = tt

    code_grown : (o : code.Outcome) → EndsGrown r hash (behind_code w hash c o)
    code_grown (code.stack A V m) = returned_grown m (returned V)
    code_grown (code.failed failure) = tt
    code_grown code.stuck = tt

  run_grown : (e : Environment) (s : Setting) (t : Target) (argument : Val) (gas : ℕ) (counts : Counts) →
      EndsGrown r t.hash (run_in e s w t argument gas counts)
  run_grown e s t argument gas counts = by (contract_at w t.hash) refl
    where
      by : (o : Option Contract) → contract_at w t.hash ≡ o → EndsGrown r t.hash (run_of o e s w t argument gas counts)
      by (Some c) there =
          code_grown t.hash c (one_paid r w t.hash c p there) (outcome_of e s w t argument c (tally_of gas counts))
      by None there = tt

  effect_grown : (hash : List ℕ) (effect : List Change → Effect) (e : Ended) → EndsGrown r hash e →
      AppliesIn (IsGrown r hash) (with_effect hash effect e)
  effect_grown hash effect (finished f) g = g
  effect_grown hash effect (run_failed failure) g = tt
  effect_grown hash effect run_stuck g = tt

  founded_grown : (f : Founding) → IsGrown r f.hash (founded w f)
  founded_grown f = let less = less_paid r w f.sender f.balance p in record {
    rate = less.rate;
    burn = less.burn;
    before = (with_less w f.sender f.balance).contracts;
    paid = less.contracts;
    contract = record { balance = f.balance; paid = 0; script = f.script; storage = f.storage };
    contracts = refl;
    nothing = λ none. refl;
  }

  founding_grown : (b : Bool) (f : Founding) (gas : ℕ) (counts : Counts) →
      AppliesIn (IsGrown r f.hash) (founding_outcome b w f gas counts)
  founding_grown true f gas counts = tt
  founding_grown false f gas counts = founded_grown f

  -- with their growth behind them
  module _ (s : Setting) (key : is_key_hash s.source ≡ true) where
    pub run_paid : (c : Call) (gas : ℕ) (counts : Counts) (effect : List Change → Effect) →
        AppliesIn (IsPaidBy r) (run s w c gas counts effect)
    run_paid c gas counts effect =
        growing_paid s key c.target.hash r
        (with_effect c.target.hash effect (run_in (environment_of s w c) s w c.target c.argument gas counts))
        (effect_grown c.target.hash effect (run_in (environment_of s w c) s w c.target c.argument gas counts)
        (run_grown (environment_of s w c) s c.target c.argument gas counts))

    pub founding_paid : (f : Founding) (gas : ℕ) (counts : Counts) → AppliesIn (IsPaidBy r) (found_contract s w f gas counts)
    founding_paid f gas counts =
        growing_paid s key f.hash r (founding_outcome (nat_lt (balance_or_none w f.sender) f.balance) w f gas counts)
        (founding_grown (nat_lt (balance_or_none w f.sender) f.balance) f gas counts)
