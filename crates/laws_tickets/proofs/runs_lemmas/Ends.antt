-- The end of a run: tickets are linear.
use Rattle.std.proofs.Common.{◌≡◌, ℕ, Bool, true, false, List, [], ◌∷◌, ◌++◌, Option, Some, None, refl, sym, ap, ◌∙◌, subst, append-nil, arith}
use Rattle.std.specs.Prelude.{ℤ, pos, ◌+ℤ◌, ◌-ℤ◌, option_map}
use Rattle.std.specs.Option.{IfSome}
use Rattle.std.specs.List.{All, flat_map}
use Rattle.std.specs.Ordering.{nat_cmp}
use Rattle.std.specs.Cmp.Lexicographic.{slice_cmp}
use Rattle.std.specs.BTreeMap.{is_at}
use Rattle.std.proofs.lemmas.Int.{ints}
use Rattle.std.proofs.lemmas.Map.Entries.{All-lookup}
use Rattle.rules_data.specs.types.Kind.{Kind}
use Rattle.rules_code.specs.instructions.Arguments.{found}
use Rattle.rules_data.specs.values.Val.{Val, Vals, no_val, more_vals}
use Rattle.rules_data.specs.values.Val as v
use Rattle.rules_data.specs.values.Tickets.{Identity, tickets, all_tickets}
use Rattle.rules_code.specs.typing.Scripts.{Outline}
use Rattle.rules_code.specs.typing.Nodes.{outline}
use Rattle.rules_code.specs.steps.Changes.{amount_among, amount_in, minted_in, burnt_in}
use Rattle.rules_code.specs.steps.Environment.{Environment}
use Rattle.rules_code.specs.evaluation.Surroundings.{Contract}
use Rattle.rules_code.specs.evaluation.Operations.{Issued, Tally}
use Rattle.rules_code.specs.evaluation.Outcome as code
use Rattle.rules_world.specs.world.World.{World, contract_at}
use Rattle.rules_world.specs.world.Outcomes.{Setting, Counts}
use Rattle.rules_world.specs.world.Targets.{Target, wrapped}
use Rattle.rules_world.specs.world.Runs.{surroundings_of, tally_of, type_before, value_before, type_after, Returned, operation_number, with_number, numbers_in, returned, has_twice, issued_with, unreturned, discarded, Finished, finished, kept, finished_with, unless_twice, with_returned, behind_code, outcome_of, run_of, run_in}
use Rattle.rules_world.specs.world.Good.{known_with, Stores, IsGoodContract}
use Rattle.laws_data.specs.types.Laws.{IsWellFormed}
use Rattle.laws_tickets.specs.totals.Agreement.{Agrees, SeesAgreement}
use Rattle.laws_tickets.specs.totals.Totals.{issued_tickets, amount_on, amount_issued, told}
use Rattle.laws_tickets.proofs.totals.ForCallers.{on_one, in_both, minted_append, burnt_append, burnt_of_burns, minted_of_burns, fitting_agrees, outline_typed, script_is, returned_amount}
use Rattle.laws_tickets.proofs.runs_lemmas.Stands.{Stands, Keeps, here, stands_here, keeps_ending}
use Rattle.laws_tickets.proofs.runs_lemmas.Nodes.{keeps_eval}

-- ---- values at both ends

wrapped_holds : (path : List Bool) (x : Val) → tickets (wrapped path x) ≡ tickets x
wrapped_holds [] x = refl
wrapped_holds (false ∷ path) x = wrapped_holds path x
wrapped_holds (true ∷ path) x = wrapped_holds path x

-- what has the number of an operation holds no tickets
number_bare : (x : Val) (n : ℕ) → operation_number x ≡ Some n → tickets x ≡ []
number_bare (v.operation m) n e = refl
number_bare _ n e = absurd cc

both_numbers : (o : Option ℕ) (os : Option (List ℕ)) (ns : List ℕ) → with_number o os ≡ Some ns →
    (n : ℕ) × (ms : List ℕ) × (o ≡ Some n) × (os ≡ Some ms)
both_numbers (Some n) (Some ms) ns e = (n, ms, refl, refl)
both_numbers (Some n) None ns e = absurd cc
both_numbers None os ns e = absurd cc

numbers_bare : (xs : Vals) (ns : List ℕ) → numbers_in xs ≡ Some ns → all_tickets xs ≡ []
numbers_bare no_val ns e = refl
numbers_bare (more_vals x xs) ns e =
    let p = both_numbers (operation_number x) (numbers_in xs) ns e in
    ap (λ ts. ts ++ all_tickets xs) (number_bare x p.0 p.2) ∙ numbers_bare xs p.1 p.3

-- what is returned holds the tickets of the new storage
storage_holds : (xs : Vals) (o : Option (List ℕ)) (storage : Val) (r : Returned) → numbers_in xs ≡ o →
    option_map (λ ns. record { numbers = ns; storage = storage }) o ≡ Some r →
    flat_map tickets (v.both (v.list xs) storage ∷ []) ≡ tickets r.storage
storage_holds xs (Some ns) storage r e f =
    let g : record { numbers = ns; storage = storage } ≡ r = cc in
    ap (λ ts. (ts ++ tickets storage) ++ []) (numbers_bare xs ns e) ∙ append-nil (tickets storage) ∙ ap
    (λ (z : Returned). tickets z.storage) g
storage_holds xs None storage r e f = absurd cc

returned_holds : (V : List Val) (r : Returned) → returned V ≡ Some r → flat_map tickets V ≡ tickets r.storage
returned_holds (v.both (v.list xs) storage ∷ []) r e = storage_holds xs (numbers_in xs) storage r refl e
returned_holds _ r e = absurd cc

-- ---- the world

module _ (w : World) (good : All (IsGoodContract w) w.contracts) where
  pub stored_agrees : (c : Contract) (o : Outline) → Stores w c.script c.storage → outline c.script ≡ found o →
      Agrees o.storage c.storage
  stored_agrees c o h f =
      let p = script_is c.script h.0 h.1 in
      let same : p.types ≡ o = cc in
      let storage : h.0.storage ≡ o.storage = p.storage ∙ ap (λ (z : Outline). z.storage) same in
      subst (λ a. Agrees a c.storage) storage
      (fitting_agrees (known_with w []) h.0.storage c.storage
      (subst IsWellFormed (sym p.storage) (outline_typed c.script p.types p.outlined).storage) h.3)

  pub good_contract : (hash : List ℕ) (c : Contract) → contract_at w hash ≡ Some c → Stores w c.script c.storage
  good_contract hash c e =
      let P : Contract → Type 0 = λ c. Stores w c.script c.storage in
      let h : IfSome (contract_at w hash) P = All-lookup P (is_at (slice_cmp nat_cmp hash)) w.contracts good in
      let g : IfSome (Some c) P = subst (λ o. IfSome o P) e h in
      g

  pub world_agrees : (e : Environment) (s : Setting) (t : Target) → SeesAgreement (surroundings_of e s w t)
  world_agrees e s t hash c o f g = stored_agrees c o (good_contract hash c f) g

-- ---- the end

-- the world after a run has a storage with which the tickets are as they must be
pub record IsLinear (w : World) (t : Target) (argument : Val) (contract : Contract) (f : Finished) : Type 0 where
  pub storage : Val
  pub world : f.world ≡ kept w t.hash contract storage f.changes
  pub tickets : (id : Identity) →
      amount_in id argument +ℤ amount_in id contract.storage +ℤ minted_in id f.changes
      ≡ amount_in id storage +ℤ amount_issued id f.returned +ℤ burnt_in id f.changes

end_sum : (a c y i b m r u : ℤ) → y +ℤ (i +ℤ b -ℤ m) ≡ a +ℤ c +ℤ (pos 0 +ℤ pos 0 -ℤ pos 0) → i ≡ r +ℤ u →
    a +ℤ c +ℤ (m +ℤ pos 0) ≡ y +ℤ r +ℤ (b +ℤ u)
end_sum a c y i b m r u e f = omega (arith, ints)

module _ (w : World) (t : Target) (argument : Val) (contract : Contract) (gas : ℕ) (counts : Counts) where
  abbrev begin : List Val
  begin = value_before t argument contract ∷ []

  begin_amount : (id : Identity) → amount_on id begin ≡ amount_in id argument +ℤ amount_in id contract.storage
  begin_amount id =
      on_one id (value_before t argument contract) ∙ in_both id (wrapped t.entry.path argument) contract.storage
      ∙ ap (λ ts. amount_among id ts +ℤ amount_in id contract.storage) (wrapped_holds t.entry.path argument)

  ended_linear : (V : List Val) (m : Tally) (r : Returned) (is : List Issued) → (A : List Kind) →
      Stands (here begin (tally_of gas counts)) A V m → returned V ≡ Some r → has_twice r.numbers ≡ false →
      issued_with m.issued r.numbers ≡ Some is → (id : Identity) →
      amount_in id argument +ℤ amount_in id contract.storage +ℤ minted_in id (m.changes ++ discarded r.numbers m.issued)
      ≡ amount_in id r.storage +ℤ amount_issued id is +ℤ burnt_in id (m.changes ++ discarded r.numbers m.issued)
  ended_linear V m r is A s e f g id =
      ap (λ z. amount_in id argument +ℤ amount_in id contract.storage +ℤ z)
      (minted_append id m.changes (discarded r.numbers m.issued) ∙ ap (λ z. minted_in id m.changes +ℤ z)
      (minted_of_burns id (issued_tickets (unreturned r.numbers m.issued))))
      ∙ end_sum (amount_in id argument) (amount_in id contract.storage) (amount_in id r.storage) (amount_issued id m.issued)
      (burnt_in id m.changes) (minted_in id m.changes) (amount_issued id is) (amount_issued id (unreturned r.numbers m.issued))
      (ap (λ ts. amount_among id ts +ℤ told id m) (sym (returned_holds V r e)) ∙ s.same id ∙ ap
      (λ z. z +ℤ told id (tally_of gas counts)) (begin_amount id))
      (returned_amount id r.numbers m.issued is m.operations (s.numbers tt) f g)
      ∙ ap (λ z. amount_in id r.storage +ℤ amount_issued id is +ℤ z)
      (ap (λ z. burnt_in id m.changes +ℤ z) (sym (burnt_of_burns id (issued_tickets (unreturned r.numbers m.issued)))) ∙ sym
      (burnt_append id m.changes (discarded r.numbers m.issued)))

  module _ (f : Finished) (A : List Kind) (V : List Val) (m : Tally) (s : Stands (here begin (tally_of gas counts)) A V m)
      (r : Returned) (e : returned V ≡ Some r) where
    by_issued : (o : Option (List Issued)) → has_twice r.numbers ≡ false → issued_with m.issued r.numbers ≡ o →
        finished_with w t.hash contract r.storage
        (m.changes ++ discarded r.numbers m.issued) m o ≡ finished f → IsLinear w t argument contract f
    by_issued (Some is) g h i =
        let F : Finished = record {
          world = kept w t.hash contract r.storage (m.changes ++ discarded r.numbers m.issued);
          returned = is;
          changes = m.changes ++ discarded r.numbers m.issued;
          gas = m.gas;
          counts = record { operations = m.operations; originations = m.originations };
        } in
        let same : F ≡ f = cc in
        subst (IsLinear w t argument contract) same
        (record { storage = r.storage; world = refl; tickets = ended_linear V m r is A s e g h })
    by_issued None g h i = absurd cc

    by_twice : (b : Bool) → has_twice r.numbers ≡ b → unless_twice b w t.hash contract m r ≡ finished f →
        IsLinear w t argument contract f
    by_twice true g h = absurd cc
    by_twice false g h = by_issued (issued_with m.issued r.numbers) g refl h

  by_returned : (f : Finished) (A : List Kind) (V : List Val) (m : Tally) → Stands (here begin (tally_of gas counts)) A V m →
      (o : Option Returned) → returned V ≡ o →
      with_returned w t.hash contract m o ≡ finished f → IsLinear w t argument contract f
  by_returned f A V m s (Some r) e h = by_twice f A V m s r e (has_twice r.numbers) refl h
  by_returned f A V m s None e h = absurd cc

  pub by_outcome : (f : Finished) (o : code.Outcome) → Keeps (here begin (tally_of gas counts)) o →
      behind_code w t.hash contract o ≡ finished f → IsLinear w t argument contract f
  by_outcome f (code.stack A V m) s h = by_returned f A V m s (returned V) refl h
  by_outcome f (code.failed x) s h = absurd cc
  by_outcome f code.stuck s h = absurd cc

-- a run on an argument that agrees with the parameter
pub run_linear : (e : Environment) (s : Setting) (w : World) (t : Target) (argument : Val) (gas : ℕ) (counts : Counts)
    (contract : Contract) (f : Finished) →
    All (IsGoodContract w) w.contracts → contract_at w t.hash ≡ Some contract → Agrees (type_before t.script)
    (value_before t argument contract) →
    run_in e s w t argument gas counts ≡ finished f → IsLinear w t argument contract f
run_linear e s w t argument gas counts contract f good at agrees run =
    let V : List Val = value_before t argument contract ∷ [] in
    let m : Tally = tally_of gas counts in
    let again : behind_code w t.hash contract (outcome_of e s w t argument contract m) ≡ finished f = sym (ap (λ o. run_of o e s w t argument gas counts) at) ∙ run in
    by_outcome w t argument contract gas counts f (outcome_of e s w t argument contract m)
    (keeps_ending (here V m) (here V m) _ (type_after t.script ∷ []) code.stack
    (keeps_eval t.script.code (surroundings_of e s w t) 0 (type_before t.script ∷ []) V m (here V m) (world_agrees w good e s t)
    (stands_here (type_before t.script ∷ []) V m (agrees, tt)))
    (λ C W n same q. q))
    again
