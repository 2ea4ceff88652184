-- Contracts that grew, and what is burnt for that.
use Rattle.std.proofs.Common.{◌≡◌, ◌≤◌, ◌<◌, ◌-◌, ◌*◌, ℕ, List, [], ◌∷◌, ◌++◌, map, Bool, true, false, cond, is_some, is_none, option_map, unwrap_or, None, Some, Ok, Err, Result, IfOk, refl, sym, ap, ◌∙◌, subst, arith}
use Rattle.std.specs.Prelude.{nat_lt, if◌then◌else◌}
use Rattle.std.specs.declared.option.Option.{Option}
use Rattle.std.specs.BTreeMap.{is_at}
use Rattle.std.specs.List.{AllByRecursion}
use Rattle.std.specs.Map.{lookup}
use Rattle.rules_data.specs.forms.Spelling.{contract_place, implicit_place, is_key_hash}
use Rattle.rules_code.specs.steps.Failure.{cannot_pay_burn}
use Rattle.rules_world.specs.world.Balances.{balance_or_none}
use Rattle.rules_world.specs.world.Forms.{IsWorld}
use Rattle.rules_world.specs.world.Growth.{Burn, burn_by, burn_for, burn_of, burning, burnt_from, growing, paid_for, size_of, unless_short}
use Rattle.rules_world.specs.world.Outcomes.{Setting, Success, Outcome, applied, failed, stuck}
use Rattle.rules_world.specs.world.Receipts.{Storage}
use Rattle.rules_world.specs.world.World.{World as PlainWorld, contract_at as plain_contract_at}
use Rattle.mich_base.specs.undo.History.{History}
use Rattle.mich_base.specs.undo.Undone.{changed_at}
use Rattle.mich_bigmap.specs.Bases.{Bases}
use Rattle.mich_bigmap.specs.Stored.{Stored}
use Rattle.mich_bigmap.specs.Ticketless.{HoldNoTickets}
use Rattle.mich_forms.specs.declared.places.Place.TheVariants as place
use Rattle.mich_instr.specs.Scripts.{IsTypedScript}
use Rattle.mich_state.specs.declared.state.Counts.{Counts}
use Rattle.mich_machine.specs.Calls.{counts_of, IsHanded, IsHosting}
use Rattle.mich_ops.specs.View.{effect as effect_of}
use Rattle.mich_ops.specs.declared.failure.Failure.{Failure as Why}
use Rattle.mich_ops.specs.declared.failure.Failure.TheVariants as failures
use Rattle.mich_ops.specs.declared.receipt.Effect.{Effect as Done}
use Rattle.mich_world.specs.Answers.{IsPayment}
use Rattle.mich_world.specs.Holders.{Holders, by_bytes, contract_at, owed, repaid, storage_paid, balance_or_none as balance_in}
use Rattle.mich_world.specs.Standing.{plain, StandsFor}
use Rattle.mich_world.specs.World.{World, with_funds}
use Rattle.mich_world.specs.declared.contract.Contract.{Contract}
use Rattle.mich_world.specs.declared.errors.MoveError.TheVariants as move
use Rattle.mich_world.proofs.ForCallers.{balance_or_none_is}
use Rattle.mich_world.proofs.simulation_lemmas.ForCallers.{all_paid, contracts_agree, payments_agree, payments_keep_stored}
use Rattle.mich_operations.specs.Going.{EndsAs, KeepsContracts, effects_of, grown, issued_by}
use Rattle.mich_operations.specs.Growths.{Charges, IsCharge, IsGrowing, Pays}
use Rattle.mich_operations.specs.declared.applied.Applied.{Applied}
use Rattle.mich_operations.specs.declared.applied.ApplyError.{ApplyError}
use Rattle.mich_operations.specs.declared.applied.ApplyError.TheVariants.{Failed, Memory}
use Rattle.mich_operations.proofs.Paying.{below, not_below, ends_along, source_place}

-- ---- nothing to be burnt

pub some_rate : (rate : Option ℕ) → is_none rate ≡ false → rate ≡ Some (unwrap_or rate 0)
some_rate (Some rate) h = refl
some_rate None h = absurd cc

no_burn : (rate : Option ℕ) → burn_by rate None ≡ None
no_burn None = refl
no_burn (Some rate) = refl

module _ (v : World) (w : PlainWorld) (source hash : List ℕ) (s : StandsFor v w) where
  abbrev bs : Bases
  bs = v.store.bases.present

  nothing : burn_of w hash ≡ None → IsCharge (Ok None) (burn_of w hash) w source hash v
  nothing e = subst (λ (b : Option Burn). IsCharge (Ok None) b w source hash v) (sym e) s

  pub no_rate : v.funds.present.rate ≡ None → IsCharge (Ok None) (burn_of w hash) w source hash v
  no_rate e = nothing (ap (λ (r : Option ℕ). burn_by r (plain_contract_at w hash)) (s.those.rate ∙ e))

  pub no_contract : contract_at v.funds.present hash ≡ None → IsCharge (Ok None) (burn_of w hash) w source hash v
  no_contract e = nothing (ap (burn_by w.rate) (contracts_agree v w hash s ∙ ap (option_map (plain bs)) e) ∙ no_burn w.rate)

  module _ (c : Contract) (there : contract_at v.funds.present hash ≡ Some c) where
    contract_here : plain_contract_at w hash ≡ Some (plain bs c)
    contract_here = contracts_agree v w hash s ∙ ap (option_map (plain bs)) there

    pub no_growth : size_of (plain bs c) ≤ c.paid → IsCharge (Ok None) (burn_of w hash) w source hash v
    no_growth h = nothing (ap (burn_by w.rate) contract_here ∙ by w.rate)
      where
        by : (r : Option ℕ) → burn_by r (Some (plain bs c)) ≡ None
        by None = refl
        by (Some r) =
            ap (λ (b : Bool). if b then Some (burn_for r (size_of (plain bs c) - c.paid)) else None) (not_below c.paid (size_of (plain bs c)) h)

    -- ---- what is burnt

    module _ (rate size : ℕ) (is_rate : v.funds.present.rate ≡ Some rate) (sized : size ≡ size_of (plain bs c)) (grew : c.paid < size)
        (form : IsWorld w) (key : is_key_hash source ≡ true) where
      abbrev mutez : ℕ
      mutez = (size - c.paid) * rate

      abbrev burn : Burn
      burn = burn_for rate (size - c.paid)

      burn_is : burn_of w hash ≡ Some burn
      burn_is =
          ap (λ (r : Option ℕ). burn_by r (plain_contract_at w hash)) (s.those.rate ∙ is_rate)
          ∙ ap (burn_by (Some rate)) contract_here
          ∙ ap (λ (n : ℕ). if nat_lt c.paid n then Some (burn_for rate (n - c.paid)) else None) (sym sized)
          ∙ ap (λ (b : Bool). if b then Some burn else None) (below c.paid size grew)

      owed_is : owed rate size (contract_at v.funds.present hash) ≡ Some mutez
      owed_is = ap (owed rate size) there ∙ ap (λ (b : Bool). if b then Some mutez else None) (below c.paid size grew)

      balance_here : balance_in v.funds.present (place.Implicit source) ≡ balance_or_none w (implicit_place source)
      balance_here = balance_or_none_is v.funds.present bs v.ledger.books.present w (place.Implicit source) s.those (source_place source key)

      at_most : (n m : ℕ) → n < m → n ≤ m
      at_most n m h = omega (arith, h)

      pub charged : (z : World) (n : ℕ) (done : Done) → effect_of done ≡ Storage (contract_place hash) (size - c.paid) n
          → IsPayment rate hash size source v.funds z.funds (Ok n) → z ≡ with_funds v z.funds
          → IsCharge (Ok (Some done)) (burn_of w hash) w source hash z
      charged z n done is p others =
          let same : n ≡ mutez = p.0 ∙ ap (λ (o : Option ℕ). unwrap_or o 0) owed_is in
          let enough : mutez ≤ balance_or_none w (implicit_place source)
          = subst (λ (b : ℕ). mutez ≤ b) balance_here (subst (λ (m : ℕ). m ≤ balance_in v.funds.present (place.Implicit source)) same p.1) in
          subst (λ (b : Option Burn). IsCharge (Ok (Some done)) b w source hash z) (sym burn_is) (
            not_below (balance_or_none w (implicit_place source)) mutez enough,
            is ∙ ap (Storage (contract_place hash) (size - c.paid)) same,
            payments_agree v z w hash source size mutez c s form key there (at_most c.paid size grew) others
                (p.2 ∙ ap (storage_paid v.funds.present hash size source) owed_is),
          )

      pub uncharged : (z : World) → IsPayment rate hash size source v.funds z.funds (Err move.BalanceTooLow)
          → IsCharge (Err (Failed failures.CannotPayBurn)) (burn_of w hash) w source hash z
      uncharged z p =
          let less : balance_or_none w (implicit_place source) < mutez
          = subst (λ (b : ℕ). b < mutez) balance_here (subst (λ (o : Option ℕ). balance_in v.funds.present (place.Implicit source) < unwrap_or o 0) owed_is p.0) in
          subst (λ (b : Option Burn). IsCharge (Err (Failed failures.CannotPayBurn)) b w source hash z) (sym burn_is)
          (below (balance_or_none w (implicit_place source)) mutez less)

-- ---- worlds

pub pays_nothing : (v : World) (source hash : List ℕ) → Pays source hash v v
pays_nothing v source hash = record { size = 0; burn = None; funds = refl; others = refl }

pub pays_not : (v z : World) (source hash : List ℕ) → z.funds ≡ v.funds → z ≡ with_funds v z.funds → Pays source hash v z
pays_not v z source hash e others = record { size = 0; burn = None; funds = ap (λ (f : History Holders). f.present) e; others = others }

pub hosting_paid : (v z : World) (source hash : List ℕ) → Pays source hash v z → IsHosting v → IsHosting z
hosting_paid v z source hash p h = record {
  typed = subst (λ (k : Holders). AllByRecursion (λ (c : List ℕ × Contract). IsTypedScript c.1.script) k.contracts) (sym p.funds)
      (all_paid (λ (c : Contract). IsTypedScript c.script) (λ c n t. t) v.funds.present hash source p.size p.burn h.typed);
  stored = payments_keep_stored v z hash source p.size p.burn h.stored p.others p.funds;
  ticketless = subst (λ (st : Stored). HoldNoTickets st.bases.present) (sym (ap (λ (y : World). y.store) p.others)) h.ticketless;
}

module _ {X : Type 0} (t u : List ℕ → Bool) (f : X → X) where
  one_there : (b : Bool) (x y : X) (o p : Option X) → is_some o ≡ is_some p → is_some (cond b (Some x) o) ≡ is_some (cond b (Some y) p)
  one_there true x y o p e = refl
  one_there false x y o p e = e

  there_still : (es : List (List ℕ × X)) → is_some (lookup t (changed_at u es f)) ≡ is_some (lookup t es)
  there_still [] = refl
  there_still (e ∷ es) =
      elim (u e.0) as (λ b. is_some (lookup t (cond b ((e.0, f e.1) ∷ es) (e ∷ changed_at u es f))) ≡ is_some (lookup t (e ∷ es))) [
        | true ↦ one_there (t e.0) (f e.1) e.1 (lookup t es) (lookup t es) refl
        | false ↦ one_there (t e.0) e.1 e.1 (lookup t (changed_at u es f)) (lookup t es) (there_still es)
      ]

paid_there : (h : Holders) (hash source : List ℕ) (size : ℕ) (burn : Option ℕ) (q : List ℕ)
    → is_some (contract_at (storage_paid h hash size source burn) q) ≡ is_some (contract_at h q)
paid_there h hash source size None q = refl
paid_there h hash source size (Some n) q = there_still (is_at (by_bytes q)) (is_at (by_bytes hash)) (repaid size) h.contracts

pub contracts_paid : (v z : World) (source hash : List ℕ) → Pays source hash v z → KeepsContracts v z
contracts_paid v z source hash p q h =
    ap (λ (k : Holders). is_some (contract_at k q)) p.funds ∙ paid_there v.funds.present hash source p.size p.burn q ∙ h

-- ---- an operation with the growth behind it

pub growing_stops : (s : Setting) (hash : List ℕ) (o : Outcome) (v : World) (gas : ℕ) (old new : Counts) (e : ApplyError)
    → EndsAs o v gas old new (Err e) → EndsAs (growing s hash o) v gas old new (Err e)
growing_stops s hash (failed why) v gas old new e h = h
growing_stops s hash stuck v gas old new e h = h
growing_stops s hash (applied a) v gas old new (Failed f) h = absurd h
growing_stops s hash (applied a) v gas old new Memory h = by (growing s hash (applied a))
  where
    by : (p : Outcome) → EndsAs p v gas old new (Err Memory)
    by (applied b) = tt
    by (failed why) = tt
    by stuck = tt

module _ (v z : World) (s : Setting) (o : Outcome) (gas : ℕ) (old new : Counts) (a : Applied) (h : IsGrowing o v s.source gas old new a)
    (none : a.growth ≡ None) (store : z.store ≡ v.store) (keeps : KeepsContracts v z) where
  abbrev w : PlainWorld
  w = h.applied.world

  abbrev done : Success
  done = record {
    world = w;
    emitted = map (issued_by v.store.bases.present a.by) a.emitted;
    effects = effects_of a;
    gas = gas;
    counts = counts_of new;
  }

  abbrev with_growth : Option Done → Applied
  with_growth growth = record { effect = a.effect; growth = growth; by = a.by; emitted = a.emitted }

  bases : z.store.bases.present ≡ v.store.bases.present
  bases = ap (λ (st : Stored). st.bases.present) store

  same_nothing : applied done ≡ applied (record {
    world = w;
    emitted = map (issued_by z.store.bases.present a.by) a.emitted;
    effects = effects_of (with_growth None);
    gas = gas;
    counts = counts_of new;
  })
  same_nothing = λ i. applied (record {
    world = w;
    emitted = map (issued_by (sym bases i) a.by) a.emitted;
    effects = effect_of a.effect ∷ grown (none i);
    gas = gas;
    counts = counts_of new;
  })

  ends_with : (growth : Option Done) (b : Option Burn) → IsCharge (Ok growth) b w s.source a.by z
      → EndsAs (burning b (implicit_place s.source) a.by done) z gas old new (Ok (with_growth growth))
  ends_with None None stands = record {
    world = w;
    stands = stands;
    same = same_nothing;
    group = h.applied.group;
    handed = subst (λ (cs : Bases). AllByRecursion (IsHanded cs) a.emitted) (sym bases) h.applied.handed;
    there = λ some. keeps a.by (h.applied.there some);
  }
  ends_with (Some e) (Some b) c = record {
    world = paid_for (burnt_from w (implicit_place s.source) b.mutez) a.by b.bytes;
    stands = c.2;
    same = ap (λ (q : Bool). unless_short q (implicit_place s.source) a.by b done) c.0
        ∙ (λ i. applied (record {
          world = paid_for (burnt_from w (implicit_place s.source) b.mutez) a.by b.bytes;
          emitted = map (issued_by (sym bases i) a.by) a.emitted;
          effects = effect_of a.effect ∷ (grown (none i) ++ sym c.1 i ∷ []);
          gas = gas;
          counts = counts_of new;
        }));
    group = h.applied.group;
    handed = subst (λ (cs : Bases). AllByRecursion (IsHanded cs) a.emitted) (sym bases) h.applied.handed;
    there = λ some. keeps a.by (h.applied.there some);
  }
  ends_with None (Some b) c = absurd c
  ends_with (Some e) None c = absurd c

  ends_without : (f : Why) (b : Option Burn) → IsCharge (Err (Failed f)) b w s.source a.by z
      → EndsAs (burning b (implicit_place s.source) a.by done) z gas old new (Err (Failed f))
  ends_without failures.CannotPayBurn (Some b) c =
      ends_along (burning (Some b) (implicit_place s.source) a.by done) (failed cannot_pay_burn) z gas old new (Err (Failed failures.CannotPayBurn))
      (ap (λ (q : Bool). unless_short q (implicit_place s.source) a.by b done) c) refl
  ends_without failures.CannotPayBurn None c = absurd c
  ends_without _ b c = absurd c

  growing_is : growing s a.by o ≡ burning (burn_of w a.by) (implicit_place s.source) a.by done
  growing_is = ap (growing s a.by) h.applied.same

  pub grows : (growth : Option Done) → Charges s.source a.by v z (Ok growth) → EndsAs (growing s a.by o) z gas old new (Ok (with_growth growth))
  grows growth c =
      ends_along (growing s a.by o) (burning (burn_of w a.by) (implicit_place s.source) a.by done) z gas old new (Ok (with_growth growth)) growing_is
      (ends_with growth (burn_of w a.by) (c w h.applied.stands h.form h.key))

  pub grows_not : (e : ApplyError) → Charges s.source a.by v z (Err e) → EndsAs (growing s a.by o) z gas old new (Err e)
  grows_not (Failed f) c =
      ends_along (growing s a.by o) (burning (burn_of w a.by) (implicit_place s.source) a.by done) z gas old new (Err (Failed f)) growing_is
      (ends_without f (burn_of w a.by) (c w h.applied.stands h.form h.key))
  grows_not Memory c = by (growing s a.by o)
    where
      by : (p : Outcome) → EndsAs p z gas old new (Err Memory)
      by (applied b) = tt
      by (failed why) = tt
      by stuck = tt

-- ---- what holds either way

pub either_way : {A : Type 0} (r : Result Applied ApplyError) → A → IfOk r (λ _. A)
either_way (Ok a) h = h
either_way (Err e) h = tt
