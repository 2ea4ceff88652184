-- Runs in two worlds that differ only in what their logs begin with, where as much was minted there.
use Rattle.std.proofs.Common.{◌≡◌, ℕ, Bool, true, false, List, [], ◌∷◌, ◌++◌, Option, Some, None, refl, sym, ap, ◌∙◌, subst, append_assoc}
use Rattle.std.specs.Prelude.{ℤ, ◌+ℤ◌, nat_lt}
use Rattle.rules_data.specs.forms.Spelling.{implicit_place, contract_place}
use Rattle.rules_data.specs.gas.Prices.{Listed}
use Rattle.rules_data.specs.values.Tickets.{Identity}
use Rattle.rules_data.specs.values.Val.{Val}
use Rattle.rules_code.specs.steps.Changes.{Change, minted_in}
use Rattle.rules_code.specs.steps.Environment.{Environment}
use Rattle.rules_code.specs.evaluation.Surroundings.{Contract}
use Rattle.rules_code.specs.evaluation.Operations.{Issued, Tally}
use Rattle.rules_code.specs.evaluation.Outcome as code
use Rattle.rules_code.specs.evaluation.Loops.{ending}
use Rattle.rules_code.specs.evaluation.Evaluation.{eval}
use Rattle.rules_world.specs.world.Balances.{balance_or_none}
use Rattle.rules_world.specs.world.Growth.{Burn, burn_of, burnt_from, paid_for, unless_short, burning, growing}
use Rattle.rules_world.specs.world.Outcomes.{Setting, Counts, Outcome, Success, applied, failed, stuck}
use Rattle.rules_world.specs.world.Receipts.{Effect, Storage}
use Rattle.rules_world.specs.world.Runs.{Call, environment_of, surroundings_of, tally_of, type_before, value_before, type_after, Returned, returned, has_twice, issued_with, discarded, Ended, Finished, finished, run_failed, run_stuck, kept, finished_with, unless_twice, with_returned, behind_code, outcome_of, run_of, with_effect, run}
use Rattle.rules_world.specs.world.Targets.{Target}
use Rattle.rules_world.specs.world.World.{World, contract_at}
use Rattle.laws_world.proofs.accounts.ForCallers.{minted_append}
use Rattle.laws_commands.proofs.resuming_lemmas.prices.Plain.{plain, plainly}
use Rattle.laws_commands.proofs.resuming_lemmas.prices.Evaluation.{eval_blind}
use Rattle.laws_commands.proofs.resuming_lemmas.worlds.Relogged.{relogged, log_stays, grown_passes}

-- what two groups have in common, and where they may differ: in what the logs begin with, and in the tables of prices
pub record Pair : Type 0 where
  pub group : ℕ
  pub source : List ℕ
  pub first : List Change
  pub other : List Change
  pub prices : Listed
  pub others : Listed
  pub minted : (id : Identity) → minted_in id first ≡ minted_in id other
  pub same : plain prices ≡ plain others

module _ (p : Pair) where
  abbrev pub one : Setting
  one = record { prices = p.prices; group = p.group; source = p.source }

  abbrev pub two : Setting
  two = record { prices = p.others; group = p.group; source = p.source }

  -- the other world
  abbrev pub twin : List Change → World → World
  twin more w = relogged (p.other ++ more) w

  abbrev pub Begins : World → List Change → Type 0
  Begins w more = w.log ≡ p.first ++ more

  -- ---- outcomes

  -- the same, but that the logs begin with others
  abbrev pub AreAlike : Outcome → Outcome → Type 0
  AreAlike (applied a) (applied b) = (more : List Change) × Begins a.world more × (record a { world = twin more a.world } ≡ b)
  AreAlike (failed f) (failed g) = f ≡ g
  AreAlike stuck stuck = Unit {0}
  AreAlike o q = ⊥

  abbrev AreAlikeEnds : Ended → Ended → Type 0
  AreAlikeEnds (finished f) (finished g) = (more : List Change) × Begins f.world more × (record f { world = twin more f.world } ≡ g)
  AreAlikeEnds (run_failed f) (run_failed g) = f ≡ g
  AreAlikeEnds run_stuck run_stuck = Unit {0}
  AreAlikeEnds o q = ⊥

  -- ---- what code sees

  module _ (w : World) (more : List Change) (h : Begins w more) where
    minted_there : (id : Identity) → minted_in id (p.other ++ more) ≡ minted_in id w.log
    minted_there id =
        minted_append id p.other more ∙ sym (ap (λ (n : ℤ). n +ℤ minted_in id more) (p.minted id)) ∙ sym (minted_append id p.first more)
        ∙ sym (ap (minted_in id) h)

    seen_alike : (e : Environment) (t : Target) (argument : Val) (c : Contract) (m : Tally) →
        outcome_of e one w t argument c m ≡ outcome_of e two (twin more w) t argument c m
    seen_alike e t argument c m =
        ap (λ (o : code.Outcome). ending o (type_after t.script ∷ []) code.stack) (
        sym (eval_blind t.script.code (surroundings_of e one w t) 0 (type_before t.script ∷ []) (value_before t argument c ∷ []) m)
        ∙ (λ k. eval t.script.code (there k) 0 (type_before t.script ∷ []) (value_before t argument c ∷ []) m)
        ∙ eval_blind t.script.code (surroundings_of e two (twin more w) t) 0 (type_before t.script ∷ []) (value_before t argument c ∷ []) m
        )
      where
        there : plainly (surroundings_of e one w t) ≡ plainly (surroundings_of e two (twin more w) t)
        there = λ k. record (surroundings_of e one w t) { prices = p.same k; minted = λ id. sym (minted_there id) k }

    -- ---- the end of a run

    kept_alike : (hash : List ℕ) (c : Contract) (storage : Val) (changes : List Change) (m : Tally) (o : Option (List Issued)) →
        AreAlikeEnds (finished_with w hash c storage changes m o) (finished_with (twin more w) hash c storage changes m o)
    kept_alike hash c storage changes m (Some is) = (
      more ++ changes,
      ap (λ (log : List Change). log ++ changes) h ∙ append_assoc p.first more changes,
      λ k. record {
        world = relogged (sym (append_assoc p.other more changes) k) (kept w hash c storage changes);
        returned = is;
        changes = changes;
        gas = m.gas;
        counts = record { operations = m.operations; originations = m.originations };
      },
    )
    kept_alike hash c storage changes m None = tt

    twice_alike : (b : Bool) (hash : List ℕ) (c : Contract) (m : Tally) (r : Returned) →
        AreAlikeEnds (unless_twice b w hash c m r) (unless_twice b (twin more w) hash c m r)
    twice_alike true hash c m r = refl
    twice_alike false hash c m r = kept_alike hash c r.storage (m.changes ++ discarded r.numbers m.issued) m
        (issued_with m.issued r.numbers)

    returned_alike : (hash : List ℕ) (c : Contract) (m : Tally) (o : Option Returned) →
        AreAlikeEnds (with_returned w hash c m o) (with_returned (twin more w) hash c m o)
    returned_alike hash c m (Some r) = twice_alike (has_twice r.numbers) hash c m r
    returned_alike hash c m None = tt

    behind_alike : (hash : List ℕ) (c : Contract) (o : code.Outcome) →
        AreAlikeEnds (behind_code w hash c o) (behind_code (twin more w) hash c o)
    behind_alike hash c (code.stack A V m) = returned_alike hash c m (returned V)
    behind_alike hash c (code.failed f) = refl
    behind_alike hash c code.stuck = tt

    run_of_alike : (o : Option Contract) (e : Environment) (t : Target) (argument : Val) (gas : ℕ) (counts : Counts) →
        AreAlikeEnds (run_of o e one w t argument gas counts) (run_of o e two (twin more w) t argument gas counts)
    run_of_alike (Some c) e t argument gas counts =
        subst (λ (o : code.Outcome). AreAlikeEnds (run_of (Some c) e one w t argument gas counts) (behind_code (twin more w) t.hash c o))
        (seen_alike e t argument c (tally_of gas counts))
        (behind_alike t.hash c (outcome_of e one w t argument c (tally_of gas counts)))
    run_of_alike None e t argument gas counts = tt

  effect_alike : (hash : List ℕ) (effect : List Change → Effect) (x y : Ended) → AreAlikeEnds x y →
      AreAlike (with_effect hash effect x) (with_effect hash effect y)
  effect_alike hash effect (finished f) (finished g) h =
      subst (λ (g : Finished). AreAlike (with_effect hash effect (finished f)) (with_effect hash effect (finished g))) h.2 (h.0, h.1, refl)
  effect_alike hash effect (run_failed f) (run_failed g) h = h
  effect_alike hash effect run_stuck run_stuck h = tt
  effect_alike hash effect x y h = absurd h

  -- ---- the growth of a contract

  short_alike : (b : Bool) (payer hash : List ℕ) (burn : Burn) (a : Success) (more : List Change) → Begins a.world more →
      AreAlike (unless_short b payer hash burn a) (unless_short b payer hash burn (record a { world = twin more a.world }))
  short_alike true payer hash burn a more h = refl
  short_alike false payer hash burn a more h = (
    more,
    log_stays (λ w. paid_for (burnt_from w payer burn.mutez) hash burn.bytes) (grown_passes payer hash burn.mutez burn.bytes) a.world ∙ h,
    λ k. record a {
      world = sym (grown_passes payer hash burn.mutez burn.bytes (p.other ++ more) a.world) k;
      effects = a.effects ++ Storage (contract_place hash) burn.bytes burn.mutez ∷ [];
    },
  )

  burning_alike : (o : Option Burn) (payer hash : List ℕ) (a : Success) (more : List Change) → Begins a.world more →
      AreAlike (burning o payer hash a) (burning o payer hash (record a { world = twin more a.world }))
  burning_alike (Some burn) payer hash a more h = short_alike (nat_lt (balance_or_none a.world payer) burn.mutez) payer hash burn a more h
  burning_alike None payer hash a more h = (more, h, refl)

  pub growing_alike : (hash : List ℕ) (x y : Outcome) → AreAlike x y → AreAlike (growing one hash x) (growing two hash y)
  growing_alike hash (applied a) (applied b) h =
      subst (λ (b : Success). AreAlike (growing one hash (applied a)) (growing two hash (applied b))) h.2
      (burning_alike (burn_of a.world hash) (implicit_place p.source) hash a h.0 h.1)
  growing_alike hash (failed f) (failed g) h = h
  growing_alike hash stuck stuck h = tt
  growing_alike hash x y h = absurd h

  -- ---- the whole run

  pub run_alike : (w : World) (more : List Change) → Begins w more →
      (c : Call) (gas : ℕ) (counts : Counts) (effect : List Change → Effect) →
      AreAlike (run one w c gas counts effect) (run two (twin more w) c gas counts effect)
  run_alike w more h c gas counts effect =
      growing_alike c.target.hash _ _
      (effect_alike c.target.hash effect _ _
      (run_of_alike w more h (contract_at w c.target.hash) (environment_of one w c) c.target c.argument gas counts))
