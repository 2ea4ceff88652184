-- The shape of the stack at the end of a contract's code, and what follows of the operations that it returns.
use Rattle.std.proofs.Common.{◌≡◌, ℕ, Bool, true, false, List, [], ◌∷◌, ◌++◌, Some, None, refl, ap, ◌∙◌, ◌⊎◌, inl, inr}
use Rattle.std.specs.Prelude.{option_map}
use Rattle.std.specs.declared.option.Option.{Option}
use Rattle.rules_code.specs.evaluation.Operations.{Issued, Tally}
use Rattle.rules_code.specs.evaluation.Surroundings.{Contract}
use Rattle.rules_code.specs.steps.Failure.{operation_replay}
use Rattle.rules_data.specs.values.Val.{Val, Vals, both, list}
use Rattle.rules_world.specs.world.Outcomes.{Setting, Counts}
use Rattle.rules_world.specs.world.Runs.{Returned, numbers_in, returned, has_twice, issued_with, discarded, Finished, finished, run_failed, kept, finished_with, unless_twice, with_returned}
use Rattle.rules_world.specs.world.Targets.{Target}
use Rattle.rules_world.specs.world.World.{World}
use Rattle.laws_world.specs.runs.RunEnds.{EndsWell}

-- operations and a storage
pub record IsShape (V : List Val) (r : Returned) : Type 0 where
  pub operations : Vals
  pub is : V ≡ both (list operations) r.storage ∷ []
  pub numbers : numbers_in operations ≡ Some r.numbers

pub shape_of : (V : List Val) (r : Returned) → returned V ≡ Some r → IsShape V r
shape_of (both (list xs) y ∷ []) r h = by (numbers_in xs) refl h
  where
    by : (o : Option (List ℕ)) → numbers_in xs ≡ o → option_map (λ ns. record { numbers = ns; storage = y }) o ≡ Some r → IsShape (both (list xs) y ∷ []) r
    by (Some ns) e g =
        let numbers : ns ≡ r.numbers = cc in
        let storage : y ≡ r.storage = cc in
        record { operations = xs; is = ap (λ z. both (list xs) z ∷ []) storage; numbers = e ∙ ap Some numbers }
    by None e g = absurd cc
shape_of _ r h = absurd cc

module _ (s : Setting) (w : World) (t : Target) (argument : Val) (counts : Counts) (hash : List ℕ) (contract : Contract) (m : Tally) where
  -- a run that ends well returns something
  pub returned_so : (o : Option Returned) → EndsWell s w t argument counts (with_returned w hash contract m o) → (r : Returned) × (o ≡ Some r)
  returned_so (Some r) h = (r, refl)
  returned_so None h = absurd h

  module _ (r : Returned) (well : EndsWell s w t argument counts (unless_twice (has_twice r.numbers) w hash contract m r)) where
    -- where a number stands there twice, or would have no operation, it fails
    pub replays : (has_twice r.numbers ≡ true) ⊎ (issued_with m.issued r.numbers ≡ None) → unless_twice (has_twice r.numbers) w hash contract m r ≡ run_failed operation_replay
    replays (inl h) = ap (λ b. unless_twice b w hash contract m r) h
    replays (inr h) = by (has_twice r.numbers) well
      where
        by : (b : Bool) → EndsWell s w t argument counts (unless_twice b w hash contract m r) → unless_twice b w hash contract m r ≡ run_failed operation_replay
        by true g = refl
        by false g = absurd (stuck_not (issued_with m.issued r.numbers) h g)
          where
            stuck_not : (o : Option (List Issued)) → o ≡ None → EndsWell s w t argument counts (finished_with w hash contract r.storage (m.changes ++ discarded r.numbers m.issued) m o) → ⊥
            stuck_not None e k = k
            stuck_not (Some is) e k = cc

    -- the run that comes to its end with these operations
    abbrev pub end_with : List Issued → Finished
    end_with is = record {
      world = kept w hash contract r.storage (m.changes ++ discarded r.numbers m.issued);
      returned = is;
      changes = m.changes ++ discarded r.numbers m.issued;
      gas = m.gas;
      counts = record { operations = m.operations; originations = m.originations };
    }

    pub finishes : (is : List Issued) → has_twice r.numbers ≡ false → issued_with m.issued r.numbers ≡ Some is → unless_twice (has_twice r.numbers) w hash contract m r ≡ finished (end_with is)
    finishes is h g =
        ap (λ b. unless_twice b w hash contract m r) h
        ∙ ap (λ o. finished_with w hash contract r.storage (m.changes ++ discarded r.numbers m.issued) m o) g
