-- What is made of the end of a contract's code stands for what the definitions make of it.
use Rattle.std.proofs.Common.{◌≡◌, ℕ, ℤ, pos, ◌+ℤ◌, ◌-ℤ◌, ◌≤ℤ◌, true, List, [], ◌∷◌, ◌++◌, map, filter, flat_map, Some, None, refl, sym, ap, ◌∙◌, subst, ◌⊎◌, inl, inr, arith}
use Rattle.std.specs.Prelude.{is_some, option_map}
use Rattle.std.specs.declared.option.Option.{Option}
use Rattle.std.specs.List.{All, AllByRecursion}
use Rattle.std.specs.Map.{values_of}
use Rattle.std.proofs.lemmas.Int.{ints}
use Rattle.std.proofs.lemmas.List.Elements.{All-nil, All-cons, All-head, All-tail}
use Rattle.rules_code.specs.evaluation.Operations.{operation_tickets}
use Rattle.rules_code.specs.evaluation.Operations as rules
use Rattle.rules_code.specs.evaluation.Surroundings.{Contract as PlainContract}
use Rattle.rules_code.specs.steps.Changes.{Change, burns, burnt, minted_in, burnt_in, amount_in, amount_among}
use Rattle.rules_code.specs.steps.Failure.{operation_replay}
use Rattle.rules_data.specs.values.Tickets.{Identity, Held, tickets}
use Rattle.rules_data.specs.values.Val.{Val}
use Rattle.rules_world.specs.world.Forms.{IsTicket, IsChange}
use Rattle.rules_world.specs.world.Good.{known_with, FitsIn, IsGoodOperation}
use Rattle.rules_world.specs.world.Holdings.{held, minted_ever, burnt_ever}
use Rattle.rules_world.specs.world.Runs.{Returned, returned, has_twice, issued_with, unreturned, Finished, finished, run_failed, kept, unless_twice, with_returned}
use Rattle.rules_world.specs.world.RunLaws.{amount_returned}
use Rattle.rules_world.specs.world.World.{World as PlainWorld, contract_at as plain_contract_at}
use Rattle.laws_world.proofs.accounts.ForCallers.{minted_append, burnt_append, among_positive, in_positive}
use Rattle.laws_tickets.proofs.totals.ForCallers.{burnt_of_burns, minted_of_burns}
use Rattle.laws_world.specs.operations.NewOperations.{AreInTurn}
use Rattle.laws_world.specs.runs.RunEnds.{IsFinished, EndsWell}
use Rattle.laws_world.proofs.runs.ForCallers.{runs_end_well, held_within, orderly, operation_good, set_here}
use Rattle.mich_store_steps.specs.seen.Sights.{sight}
use Rattle.mich_store_steps.proofs.seen.ForCallers.{Sound, sound_formed, sound_based, sound_seen, fits_sound, seen_tickets}
use Rattle.mich_bigmap.specs.Bases.{Bases}
use Rattle.mich_bigmap.specs.Extended.{Extends}
use Rattle.mich_bigmap.specs.Standing.{val_in}
use Rattle.mich_bigmap.specs.Ticketless.{HoldNoTickets}
use Rattle.mich_bigmap.proofs.ForCallers.{val_later, based_later}
use Rattle.mich_base.specs.TypeView.{kind}
use Rattle.mich_bigmap.specs.Layers.{HasBases}
use Rattle.mich_forms.specs.Spelled.{address_bytes}
use Rattle.mich_ops.specs.Issued.{numbered, issued as issued_plain}
use Rattle.mich_instr.specs.View.{script_node}
use Rattle.mich_ops.specs.declared.issued.Issued.{Issued}
use Rattle.mich_ops.specs.declared.issued.Issued.TheVariants as i
use Rattle.mich_interpreter.specs.Issues.{IsScripted, issued_by}
use Rattle.mich_interpreter.specs.View.{tops}
use Rattle.mich_stack.specs.Views.{Sight, seen}
use Rattle.mich_term.specs.Layers.{AreFormed}
use Rattle.mich_term.specs.ValueView.{val}
use Rattle.mich_term.specs.declared.value.Value.{Value}
use Rattle.mich_tickets.specs.Books.{State}
use Rattle.mich_tickets.specs.Effects.{change, Tells}
use Rattle.mich_tickets.specs.Limits.{IsReady}
use Rattle.mich_tickets.specs.Sums.{minted_of, burnt_of}
use Rattle.mich_base.specs.undo.History.{History}
use Rattle.mich_world.specs.Holders.{Holders, contract_at}
use Rattle.mich_world.specs.Standing.{plain, StandsFor}
use Rattle.mich_world.specs.Storages.{AreStored, MayReplace, owner_of, stored_tickets, Commits}
use Rattle.mich_world.specs.World.{World, with_ledger}
use Rattle.mich_world.specs.declared.contract.Contract.{Contract}
use Rattle.mich_world.specs.simulation.Runs.{Runs}
use Rattle.mich_world.proofs.simulation_lemmas.ForCallers.{runs_go_on, ledgers_run, contracts_agree, run_ends_agree, runs_keep_stored}
use Rattle.mich_world.proofs.preconditions_lemmas.ForCallers.{commits_fit, positives}
use Rattle.mich_machine.specs.Calls.{issued_in, IsHanded}
use Rattle.mich_machine.specs.Endings.{IsEnding}
use Rattle.mich_machine.specs.Ends.{run_at}
use Rattle.mich_machine.specs.Returned.{number_of, AreRising, by_number, handed, Pick, picks}
use Rattle.mich_machine.proofs.Picks.{IsPick, Picked, picks_are, picked_all, is_left, unreturned_is, values_are}
use Rattle.mich_machine.proofs.Shapes.{IsShape, shape_of, returned_so, replays, end_with, finishes}
use Rattle.mich_machine.proofs.Turns.{rising_of}

-- ---- operations as they are seen

pub same_number : (big : Sight) (x : Issued) → (issued_by big x).number ≡ number_of x
same_number big (i.Transfer number argument amount to) = refl
same_number big (i.Origination number delegate amount script storage hash) = refl
same_number big (i.Event number tag ty value) = refl

-- what an operation hands over is sound, and is seen as it stands in a store
pub record IsKnown (bs : Bases) (x : Issued) : Type 0 where
  pub same : (cs : Bases) → Extends bs cs → issued_in cs x ≡ issued_by (sight bs) x
  pub handed : (cs : Bases) → Extends bs cs → IsScripted x → IsHanded cs x

module _ (bs : Bases) where
  seen_later : (x : Value) → Sound bs x → (cs : Bases) → Extends bs cs → val_in cs x ≡ seen (sight bs) x
  seen_later x h cs more = val_later bs cs x more (sound_based bs x h) ∙ sym (sound_seen bs x h)

  known_operation : (w : PlainWorld) (x : Issued) → IsGoodOperation w (issued_by (sight bs) x).operation → IsKnown bs x
  known_operation w (i.Transfer number argument amount to) h =
      let s : Sound bs argument = fits_sound bs (known_with w []) h.0 argument h.2 in
      record {
        same = λ cs more. ap (λ (v : Val). numbered number (rules.transfer v amount (address_bytes to))) (seen_later argument s cs more);
        handed = λ cs more k. (sound_formed bs argument s, based_later bs cs argument more (sound_based bs argument s));
      }
  known_operation w (i.Origination number delegate amount script storage hash) h =
      let s : Sound bs storage = fits_sound bs (known_with w []) h.0.0.storage storage h.0.3 in
      record {
        same = λ cs more. ap (λ (v : Val). numbered number (rules.origination delegate amount (script_node script) v hash)) (seen_later storage s cs more);
        handed = λ cs more k. (sound_formed bs storage s, based_later bs cs storage more (sound_based bs storage s), k);
      }
  known_operation w (i.Event number tag ty value) h =
      let s : Sound bs value = fits_sound bs (known_with w []) (kind ty) value h.1 in
      record {
        same = λ cs more. ap (λ (v : Val). numbered number (rules.event tag (kind ty) v)) (seen_later value s cs more);
        handed = λ cs more k. (sound_formed bs value s, based_later bs cs value more (sound_based bs value s));
      }

  abbrev IsGoodIssue : PlainWorld → rules.Issued → Type 0
  IsGoodIssue w x = IsGoodOperation w x.operation

  known_all : (w : PlainWorld) (xs : List Issued) → All (IsGoodIssue w) (map (issued_by (sight bs)) xs) → AllByRecursion (IsKnown bs) xs
  known_all w [] h = tt
  known_all w (x ∷ xs) h = (
    known_operation w x (All-head (IsGoodIssue w) (issued_by (sight bs) x) (map (issued_by (sight bs)) xs) h),
    known_all w xs (All-tail (IsGoodIssue w) (issued_by (sight bs) x) (map (issued_by (sight bs)) xs) h),
  )

  module _ (cs : Bases) (more : Extends bs cs) where
    all_same : (xs : List Issued) → AllByRecursion (IsKnown bs) xs → map (issued_by (sight bs)) xs ≡ map (issued_in cs) xs
    all_same [] h = refl
    all_same (x ∷ xs) h = (λ i. sym (h.0.same cs more) i ∷ all_same xs h.1 i)

    all_handed : (xs : List Issued) → AllByRecursion (IsKnown bs) xs → AllByRecursion IsScripted xs → AllByRecursion (IsHanded cs) xs
    all_handed [] h k = tt
    all_handed (x ∷ xs) h k = (h.0.handed cs more k.0, all_handed xs h.1 k.1)

  module _ (ticketless : HoldNoTickets bs) where
    operation_alike : (x : Issued) → operation_tickets (issued_plain x).operation ≡ operation_tickets (issued_by (sight bs) x).operation
    operation_alike (i.Transfer number argument amount to) = sym (seen_tickets bs ticketless argument)
    operation_alike (i.Origination number delegate amount script storage hash) = sym (seen_tickets bs ticketless storage)
    operation_alike (i.Event number tag ty value) = sym (seen_tickets bs ticketless value)

    handed_is : (xs : List Issued) → handed xs ≡ flat_map (λ x. operation_tickets x.operation) (map (issued_by (sight bs)) xs)
    handed_is [] = refl
    handed_is (x ∷ xs) = (λ i. operation_alike x i ++ handed_is xs i)

-- ---- amounts

pub one_contract : (x y : PlainContract) → Some x ≡ Some y → x ≡ y
one_contract x y e = cc

returned_positive : (id : Identity) (w : PlainWorld) (is : List rules.Issued) → All (λ x. IsGoodOperation w x.operation) is → pos 0 ≤ℤ amount_returned id is
returned_positive id w [] h = omega (arith, ints)
returned_positive id w (x ∷ is) h =
    sum (amount_among id (operation_tickets x.operation)) (amount_returned id is)
    (among_positive id (operation_tickets x.operation) (operation_good w x.operation (All-head (λ (j : rules.Issued). IsGoodOperation w j.operation) x is h)))
    (returned_positive id w is (All-tail (λ (j : rules.Issued). IsGoodOperation w j.operation) x is h))
  where
    sum : (a b : ℤ) → pos 0 ≤ℤ a → pos 0 ≤ℤ b → pos 0 ≤ℤ (a +ℤ b)
    sum a b h g = omega (arith, ints)

-- no more is burnt than was minted, where what is held was minted and not burnt
within : (bv mv b0 m0 b1 m1 x arg own st ret h bf mf : ℤ) → bv ≡ b0 +ℤ b1 → mv ≡ m0 +ℤ m1 → bf ≡ b1 +ℤ x → mf ≡ m1 +ℤ pos 0
    → arg +ℤ own +ℤ mf ≡ st +ℤ ret +ℤ bf → pos 0 ≤ℤ st → pos 0 ≤ℤ ret → own ≤ℤ h → (h +ℤ arg) ≤ℤ (m0 -ℤ b0) → (bv +ℤ x) ≤ℤ mv
within bv mv b0 m0 b1 m1 x arg own st ret h bf mf e f g k sum p q o room = omega (arith, ints, e, f, g, k, sum, p, q, o, room)

burnt_tickets : (cs : List Change) (ts : List Held) → All IsChange (cs ++ burns ts) → All IsTicket ts
burnt_tickets [] [] h = All-nil IsTicket
burnt_tickets [] (t ∷ ts) h = All-cons IsTicket t ts (All-head IsChange (burnt t) (burns ts) h) (burnt_tickets [] ts (All-tail IsChange (burnt t) (burns ts) h))
burnt_tickets (c ∷ cs) ts h = burnt_tickets cs ts (All-tail IsChange c (cs ++ burns ts) h)

-- ---- an ending

module _ {v : World} {to : List ℕ} {stack : List Value} {issued : List Issued} (e : IsEnding v to stack issued) where
  abbrev pub bs : Bases
  bs = v.store.bases.present

  abbrev pub f : Issued → rules.Issued
  f = issued_by (sight bs)

  abbrev pub V : List Val
  V = tops (sight bs) stack

  pub ticketless : HoldNoTickets bs
  ticketless = subst (λ s. HoldNoTickets s.bases.present) (sym e.store) e.hosting.ticketless

  well : EndsWell e.s e.w e.t e.argument e.counts (with_returned e.w e.t.hash e.contract e.tally (returned V))
  well = subst (EndsWell e.s e.w e.t e.argument e.counts) e.ends (runs_end_well e.e e.s e.w e.t e.argument e.gas e.counts e.call)

  pub some : (r : Returned) × (returned V ≡ Some r)
  some = returned_so e.s e.w e.t e.argument e.counts e.t.hash e.contract e.tally (returned V) well

  abbrev pub r : Returned
  r = some.0

  pub shape : IsShape V r
  shape = shape_of V r some.1

  pub with_r : EndsWell e.s e.w e.t e.argument e.counts (unless_twice (has_twice r.numbers) e.w e.t.hash e.contract e.tally r)
  with_r = subst (λ o. EndsWell e.s e.w e.t e.argument e.counts (with_returned e.w e.t.hash e.contract e.tally o)) some.1 well

  run_is : run_at e ≡ unless_twice (has_twice r.numbers) e.w e.t.hash e.contract e.tally r
  run_is = e.ends ∙ ap (with_returned e.w e.t.hash e.contract e.tally) some.1

  pub rising : AreRising issued
  rising =
      rising_of f (same_number (sight bs)) e.s.group e.counts.operations e.counts.originations e.tally.operations e.tally.originations issued
      (subst (AreInTurn e.s.group e.counts.operations e.counts.originations e.tally.operations e.tally.originations) e.issues e.turns)

  pub numbers : List ℕ
  numbers = r.numbers

  picked : Picked f (same_number (sight bs)) issued r.numbers (picks (by_number issued) r.numbers)
  picked = picks_are f (same_number (sight bs)) r.numbers issued rising

  -- where nothing is picked the run failed so
  pub replayed : picks (by_number issued) r.numbers ≡ None → run_at e ≡ run_failed operation_replay
  replayed none = run_is ∙ replays e.s e.w e.t e.argument e.counts e.t.hash e.contract e.tally r with_r (by (subst (Picked f (same_number (sight bs)) issued r.numbers) none picked))
    where
      by : (has_twice r.numbers ≡ true) ⊎ (issued_with (map f issued) r.numbers ≡ None) → (has_twice r.numbers ≡ true) ⊎ (issued_with e.tally.issued r.numbers ≡ None)
      by (inl h) = inl h
      by (inr h) = inr (ap (λ xs. issued_with xs r.numbers) e.issues ∙ h)

  module _ (p : Pick) (is_picked : picks (by_number issued) r.numbers ≡ Some p) where
    pick : IsPick f (same_number (sight bs)) issued r.numbers p
    pick = subst (Picked f (same_number (sight bs)) issued r.numbers) is_picked picked

    abbrev pub end : Finished
    end = end_with e.s e.w e.t e.argument e.counts e.t.hash e.contract e.tally r with_r (map f p.picked)

    run_finished : run_at e ≡ finished end
    run_finished =
        run_is ∙ finishes e.s e.w e.t e.argument e.counts e.t.hash e.contract e.tally r with_r (map f p.picked) pick.once
        (ap (λ xs. issued_with xs r.numbers) e.issues ∙ pick.returned)

    pub is : IsFinished e.s e.w e.t e.argument e.counts end
    is = subst (EndsWell e.s e.w e.t e.argument e.counts) (sym run_is ∙ run_finished) with_r

    same_contract : is.before ≡ e.contract
    same_contract = one_contract is.before e.contract (sym is.there ∙ e.there)

    same_storage : is.storage ≡ r.storage
    same_storage =
        let a : PlainContract = record e.contract { storage = r.storage } in
        let b : PlainContract = record is.before { storage = is.storage } in
        let here : Some a ≡ Some b =
        sym (set_here e.w e.t.hash a) ∙ ap (λ x. plain_contract_at x e.t.hash) is.world ∙ set_here e.w e.t.hash b in
        sym (ap (λ (c : PlainContract). c.storage) (one_contract a b here))

    -- ---- what is discarded

    abbrev pub ts : List Held
    ts = handed (values_of p.left)

    left_tickets : ts ≡ flat_map (λ x. operation_tickets x.operation) (unreturned r.numbers e.tally.issued)
    left_tickets =
        ap handed (ap values_of pick.left ∙ values_are (filter (is_left r.numbers) issued))
        ∙ handed_is bs ticketless (filter (is_left r.numbers) issued)
        ∙ ap (flat_map (λ x. operation_tickets x.operation)) (sym (unreturned_is f (same_number (sight bs)) r.numbers issued) ∙ ap (unreturned r.numbers) (sym e.issues))

    changes_are : end.changes ≡ map change v.ledger.changes ++ burns ts
    changes_are = (λ i. e.changes i ++ burns (sym left_tickets i))

    good_changes : All IsChange (map change v.ledger.changes ++ burns ts)
    good_changes = subst (All IsChange) changes_are is.changes

    burnt_more : (id : Identity) → burnt_in id end.changes ≡ burnt_in id (map change v.ledger.changes) +ℤ amount_among id ts
    burnt_more id =
        ap (burnt_in id) changes_are ∙ burnt_append id (map change v.ledger.changes) (burns ts)
        ∙ ap (λ x. burnt_in id (map change v.ledger.changes) +ℤ x) (burnt_of_burns id ts)

    minted_more : (id : Identity) → minted_in id end.changes ≡ minted_in id (map change v.ledger.changes) +ℤ pos 0
    minted_more id =
        ap (minted_in id) changes_are ∙ minted_append id (map change v.ledger.changes) (burns ts)
        ∙ ap (λ x. minted_in id (map change v.ledger.changes) +ℤ x) (minted_of_burns id ts)

    pub ready : IsReady v.ledger.books.present ts
    ready = record {
      positive = positives ts (burnt_tickets (map change v.ledger.changes) ts good_changes);
      within = λ id.
          within (burnt_of v.ledger.books.present id) (minted_of v.ledger.books.present id) (burnt_ever e.w id) (minted_ever e.w id)
          (burnt_in id (map change v.ledger.changes)) (minted_in id (map change v.ledger.changes)) (amount_among id ts)
          (amount_in id e.argument) (amount_in id is.before.storage) (amount_in id is.storage) (amount_returned id end.returned)
          (held e.w id) (burnt_in id end.changes) (minted_in id end.changes)
          (e.runs.adds.burnt id ∙ ap (λ x. x +ℤ burnt_in id (map change v.ledger.changes)) (e.stands.those.burnt id))
          (e.runs.adds.minted id ∙ ap (λ x. x +ℤ minted_in id (map change v.ledger.changes)) (e.stands.those.minted id))
          (burnt_more id) (minted_more id) (is.tickets id)
          (in_positive id (known_with e.w []) e.t.script.storage is.storage is.fits) (returned_positive id e.w end.returned is.returned)
          (held_within e.w e.t.hash is.before id (orderly e.e e.s e.w e.t e.argument e.counts e.call) is.there)
          (e.call.may.tickets id);
    }

    -- ---- the storage

    module _ (given : Value) (seen_so : seen (sight bs) given ≡ r.storage) where
      sound : Sound bs given
      sound = fits_sound bs (known_with e.w []) e.t.script.storage given (subst (FitsIn e.w e.t.script.storage) (same_storage ∙ sym seen_so) is.fits)

      pub given_formed : AreFormed given
      given_formed = sound_formed bs given sound

      pub given_based : HasBases bs given
      given_based = sound_based bs given sound

      pub stored_is : val_in bs given ≡ is.storage
      stored_is = sym (sound_seen bs given sound) ∙ seen_so ∙ sym same_storage

      -- ---- behind the burns

      module _ (l : State) (tells : Tells (burns ts) v.ledger l) where
        abbrev pub y : World
        y = with_ledger v l

        all_runs : Runs (map change v.ledger.changes ++ burns ts) e.start y
        all_runs = runs_go_on e.start v y (map change v.ledger.changes) (burns ts) e.runs (ledgers_run v l (burns ts) tells.books)

        end_runs : Runs end.changes e.start y
        end_runs = subst (λ cs. Runs cs e.start y) (sym changes_are) all_runs

        pub may_replace : MayReplace (owner_of to) l.books.present (stored_tickets (contract_at v.funds.present to)) (tickets (val given))
        may_replace =
            subst (λ (hash : List ℕ). MayReplace (owner_of hash) l.books.present (stored_tickets (contract_at v.funds.present hash)) (tickets (val given))) e.hash
            (commits_fit e.start y e.w e.s e.t e.argument e.counts end given is e.stands e.hosting.stored e.hosting.ticketless end_runs ticketless e.call.may given_formed stored_is)

        pub y_stored : AreStored y
        y_stored = runs_keep_stored e.start y end.changes e.hosting.stored end_runs

        -- ---- behind the new storage

        module _ (z : World) (commits : Commits to given y z) where
          pub new_world : PlainWorld
          new_world = kept e.w e.t.hash e.contract (val_in bs given) end.changes

          pub z_stands : StandsFor z new_world
          unfolding new_world
          z_stands =
              run_ends_agree e.start y z e.w end.changes e.t.hash given e.contract e.stands e.call.may.sound.form e.hosting.stored ticketless
              is.changes end_runs e.there given_formed (subst (λ (hash : List ℕ). Commits hash given y z) (sym e.hash) commits)

          pub bases_more : Extends bs z.store.bases.present
          bases_more = commits.lays.others

          pub z_ticketless : HoldNoTickets z.store.bases.present
          z_ticketless = commits.lays.ticketless ticketless

          known : AllByRecursion (IsKnown bs) p.picked
          known = known_all bs e.w p.picked is.returned

          pub told_changes : end.changes ≡ map change z.ledger.changes
          told_changes = changes_are ∙ sym tells.told ∙ ap (map change) (sym commits.same.changes)

          pub run_so :
              run_at e ≡ finished (record {
                world = new_world;
                returned = map (issued_in z.store.bases.present) p.picked;
                changes = map change z.ledger.changes;
                gas = e.tally.gas;
                counts = record { operations = e.tally.operations; originations = e.tally.originations };
              })
          unfolding new_world
          run_so = run_finished ∙ (λ i. finished (record {
            world = kept e.w e.t.hash e.contract ((sym same_storage ∙ sym stored_is) i) end.changes;
            returned = all_same bs z.store.bases.present bases_more p.picked known i;
            changes = told_changes i;
            gas = e.tally.gas;
            counts = record { operations = e.tally.operations; originations = e.tally.originations };
          }))

          pub handed_so : AllByRecursion (IsHanded z.store.bases.present) p.picked
          handed_so = all_handed bs z.store.bases.present bases_more p.picked known (picked_all IsScripted r.numbers issued p e.scripts is_picked)
          -- the contract is there

  pub there_so : is_some (contract_at v.funds.present to) ≡ true
  there_so =
      let plain_there : option_map (plain e.start.store.bases.present) (contract_at e.start.funds.present e.t.hash) ≡ Some e.contract =
      sym (contracts_agree e.start e.w e.t.hash e.stands) ∙ e.there in
      subst (λ (h : Holders). is_some (contract_at h to) ≡ true) (sym (ap (λ (x : History Holders). x.present) e.funds))
      (subst (λ (hash : List ℕ). is_some (contract_at e.start.funds.present hash) ≡ true) e.hash
      (by (contract_at e.start.funds.present e.t.hash) plain_there))
    where
      by : (o : Option Contract) → option_map (plain e.start.store.bases.present) o ≡ Some e.contract → is_some o ≡ true
      by (Some c) h = refl
      by None h = absurd cc
