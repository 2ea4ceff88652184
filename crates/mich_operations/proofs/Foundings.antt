-- Contracts that are made.
use Rattle.std.proofs.Common.{◌≡◌, ◌≤◌, ◌<◌, ℕ, List, [], ◌∷◌, length, Bool, true, false, cond, is_some, None, Some, Err, Result, refl, sym, ap, ◌∙◌, subst, arith}
use Rattle.std.specs.Prelude.{nat_lt}
use Rattle.std.specs.declared.cmp.Ordering.TheVariants.{Less, Equal, Greater}
use Rattle.std.specs.declared.option.Option.{Option}
use Rattle.std.specs.Ordering.{match_ordering}
use Rattle.std.specs.BTreeMap.{is_at, insert_entry}
use Rattle.std.specs.List.{AllByRecursion}
use Rattle.std.specs.Map.{lookup}
use Rattle.std.proofs.lemmas.Bool.Decides.{nat_tests}
use Rattle.std.proofs.lemmas.Cmp.{nat_list_cmp_total}
use Rattle.rules_code.specs.steps.Failure.{balance_too_low}
use Rattle.rules_code.specs.evaluation.Surroundings.{Contract as PlainContract}
use Rattle.rules_world.specs.world.Balances.{balance_or_none, with_less}
use Rattle.rules_world.specs.world.Forms.{IsWorld}
use Rattle.rules_world.specs.world.Good.{Stores}
use Rattle.rules_world.specs.world.Growth.{growing}
use Rattle.rules_world.specs.world.Originations.{Founding, found_contract, founded, founding_outcome}
use Rattle.rules_world.specs.world.Outcomes.{Setting, Outcome, applied}
use Rattle.rules_world.specs.world.World.{World as PlainWorld, contract_at as plain_contract_at}
use Rattle.laws_world.proofs.accounts.ForCallers.{lookup_insert, stores_more}
use Rattle.laws_world.proofs.runs.ForCallers.{IsOrderly, at_itself, extends_new, less_moves, orderly_contract}
use Rattle.mich_base.specs.Counted.{IsNotEmpty}
use Rattle.mich_forms.specs.Spelled.{place_bytes}
use Rattle.mich_forms.specs.declared.places.Place.{Place}
use Rattle.mich_forms.specs.declared.places.Place.TheVariants as place
use Rattle.mich_instr.specs.Scripts.{IsTypedScript}
use Rattle.mich_instr.specs.declared.instr.Script.{Script}
use Rattle.mich_machine.specs.Calls.{counts_of, IsHanded, IsHosting}
use Rattle.mich_state.specs.declared.state.Counts.{Counts}
use Rattle.mich_ops.specs.Told.{told}
use Rattle.mich_ops.specs.View.{failure, effect as effect_of}
use Rattle.mich_ops.specs.declared.failure.Failure.{Failure as Why}
use Rattle.mich_ops.specs.declared.receipt.Effect.TheVariants as effect
use Rattle.mich_world.proofs.simulation_lemmas.ForCallers.{installs_agree}
use Rattle.mich_term.specs.Layers.{AreFormed}
use Rattle.mich_term.specs.declared.value.Value.{Value}
use Rattle.mich_base.specs.undo.Undone.{changed_at}
use Rattle.mich_world.specs.Holders.{Holders, by_bytes, rebalanced, with_balance, contract_at, may_receive, balance_or_none as balance_in}
use Rattle.mich_world.specs.Storages.{AreStored, Installs}
use Rattle.mich_world.specs.World.{World}
use Rattle.mich_world.specs.declared.contract.Contract.{Contract}
use Rattle.mich_world.proofs.ForCallers.{balance_or_none_is, contracts_there}
use Rattle.mich_operations.specs.Foundings.{IsFounding, IsPayer, founding}
use Rattle.mich_operations.specs.Going.{EndsAs, KeepsContracts, grown, issued_by}
use Rattle.mich_operations.specs.Growths.{IsGrowing}
use Rattle.mich_operations.specs.declared.applied.Applied.{Applied}
use Rattle.mich_operations.specs.declared.applied.ApplyError.{ApplyError}
use Rattle.mich_operations.specs.declared.applied.ApplyError.TheVariants.{Failed}
use Rattle.mich_operations.proofs.Paying.{ends_failed}

-- ---- holders with one more contract

module _ (P : Contract → Type 0) where
  all_inserted : (es : List (List ℕ × Contract)) (k : List ℕ) (c : Contract) → AllByRecursion (λ e. P e.1) es → P c → AllByRecursion (λ e. P e.1) (insert_entry by_bytes es k c)
  all_inserted [] k c h p = (p, tt)
  all_inserted (e ∷ es) k c h p =
      elim (by_bytes k e.0) as (λ o. AllByRecursion (λ (x : List ℕ × Contract). P x.1) (match_ordering o ((k, c) ∷ e ∷ es) ((e.0, c) ∷ es) (e ∷ insert_entry by_bytes es k c)))
      [ Less ↦ (p, h) | Equal ↦ (p, h.1) | Greater ↦ (h.0, all_inserted es k c h.1 p) ]

typed_changed : (t : List ℕ → Bool) (n : ℕ) (es : List (List ℕ × Contract)) → AllByRecursion (λ e. IsTypedScript e.1.script) es → AllByRecursion (λ e. IsTypedScript e.1.script) (changed_at t es (rebalanced n))
typed_changed t n [] h = tt
typed_changed t n (e ∷ es) h =
    elim (t e.0) as (λ b. AllByRecursion (λ (x : List ℕ × Contract). IsTypedScript x.1.script) (cond b ((e.0, rebalanced n e.1) ∷ es) (e ∷ changed_at t es (rebalanced n))))
    [ true ↦ (h.0, h.1) | false ↦ (h.0, typed_changed t n es h.1) ]

typed_balance : (h : Holders) (p : Place) (n : ℕ) → AllByRecursion (λ e. IsTypedScript e.1.script) h.contracts → AllByRecursion (λ e. IsTypedScript e.1.script) (with_balance h p n).contracts
typed_balance h (place.Implicit who) n a = a
typed_balance h (place.Contract hash) n a = typed_changed (is_at (by_bytes hash)) n h.contracts a

-- what is found is found again
module _ {X : Type 0} (t : List ℕ → Bool) where
  first_of_two : (b : Bool) (x : X) (o : Option X) → is_some o ≡ true → is_some (cond b (Some x) o) ≡ true
  first_of_two true x o h = refl
  first_of_two false x o h = h

  same_tail : (b : Bool) (x y : X) (o : Option X) → is_some (cond b (Some x) o) ≡ true → is_some (cond b (Some y) o) ≡ true
  same_tail true x y o h = refl
  same_tail false x y o h = h

  more_tail : (b : Bool) (x : X) (o p : Option X) → (is_some o ≡ true → is_some p ≡ true) → is_some (cond b (Some x) o) ≡ true → is_some (cond b (Some x) p) ≡ true
  more_tail true x o p f h = refl
  more_tail false x o p f h = f h

  found_inserted : (es : List (List ℕ × X)) (k : List ℕ) (x : X) → is_some (lookup t es) ≡ true → is_some (lookup t (insert_entry by_bytes es k x)) ≡ true
  found_inserted [] k x h = first_of_two (t k) x (lookup t []) h
  found_inserted (e ∷ es) k x h =
      elim (by_bytes k e.0) as (λ o. is_some (lookup t (match_ordering o ((k, x) ∷ e ∷ es) ((e.0, x) ∷ es) (e ∷ insert_entry by_bytes es k x))) ≡ true) [
        | Less ↦ first_of_two (t k) x (lookup t (e ∷ es)) h
        | Equal ↦ same_tail (t e.0) e.1 x (lookup t es) h
        | Greater ↦ more_tail (t e.0) e.1 (lookup t es) (lookup t (insert_entry by_bytes es k x)) (found_inserted es k x) h
      ]

-- what is put in is there
here_inserted : {X : Type 0} (k : List ℕ) (es : List (List ℕ × X)) (x : X) → is_some (lookup (is_at (by_bytes k)) (insert_entry by_bytes es k x)) ≡ true
here_inserted k es x =
    ap is_some (lookup_insert by_bytes nat_list_cmp_total k es k x)
    ∙ ap (λ (b : Bool). is_some (cond b (Some x) (lookup (is_at (by_bytes k)) es))) (at_itself k)

-- ---- one that is made

nat_covered : (n m : ℕ) → m ≤ n → nat_lt n m ≡ false
nat_covered n m h = grind (arith, nat_tests)

nat_short : (n m : ℕ) → n < m → nat_lt n m ≡ true
nat_short n m h = grind (arith, nat_tests)

module _ (u v : World) (from : Place) (hash : List ℕ) (mutez : ℕ) (script : Script) (given : Value) where
  pub hosting_founded : Installs from hash mutez script given u v → IsTypedScript script → AreStored v → IsHosting u → IsHosting v
  hosting_founded i typed stored h = record {
    typed = subst (λ (k : Holders). AllByRecursion (λ (c : List ℕ × Contract). IsTypedScript c.1.script) k.contracts) (sym i.funds)
        (all_inserted (λ (c : Contract). IsTypedScript c.script) (with_balance u.funds.present from _).contracts hash _ (typed_balance u.funds.present from _ h.typed) typed);
    stored = stored;
    ticketless = i.lays.ticketless h.ticketless;
  }

  pub there_founded : Installs from hash mutez script given u v → is_some (contract_at v.funds.present hash) ≡ true
  there_founded i =
      subst (λ (k : Holders). is_some (contract_at k hash) ≡ true) (sym i.funds)
      (here_inserted hash (with_balance u.funds.present from _).contracts _)

  pub contracts_founded : Installs from hash mutez script given u v → KeepsContracts u v
  contracts_founded i q h =
      subst (λ (k : Holders). is_some (contract_at k q) ≡ true) (sym i.funds)
      (found_inserted (is_at (by_bytes q)) (with_balance u.funds.present from _).contracts hash _ (contracts_there u.funds.present from _ q ∙ h))

module _ (u v : World) (w : PlainWorld) (from : Place) (hash : List ℕ) (mutez : ℕ) (script : Script) (given : Value) where
  abbrev f : Founding
  f = founding u.store.bases.present from hash mutez script given

  balance_here : IsPayer u w from → balance_in u.funds.present from ≡ balance_or_none w (place_bytes from)
  balance_here p = balance_or_none_is u.funds.present u.store.bases.present u.ledger.books.present w from p.stands.those p.payer

  pub founds_too_much : (s : Setting) (x : World) (gas : ℕ) (counts : Counts) (why : Why) → IsPayer u w from → balance_in u.funds.present from < mutez → failure why ≡ told balance_too_low →
      EndsAs (found_contract s w f gas (counts_of counts)) x gas counts counts (Err (Failed why))
  founds_too_much s x gas counts why p low h =
      ends_failed _ x gas counts counts why balance_too_low
      (ap (λ b. growing s f.hash (founding_outcome b w f gas (counts_of counts)))
      (nat_short (balance_or_none w (place_bytes from)) mutez (subst (λ (n : ℕ). n < mutez) (balance_here p) low)))
      h

  abbrev outcome : ℕ → Counts → Outcome
  outcome gas counts = founding_outcome (nat_lt (balance_or_none w (place_bytes from)) mutez) w f gas (counts_of counts)

  pub founds : (source : List ℕ) (gas : ℕ) (counts : Counts) (a : Applied) → IsFounding u w source from f → IsHosting u → may_receive u.funds.present from ≡ true →
      length hash ≡ 20 → is_some (contract_at u.funds.present hash) ≡ false → AreFormed given → mutez ≤ balance_in u.funds.present from →
      Installs from hash mutez script given u v → a.effect ≡ effect.Origination from (place.Contract hash) mutez → a.emitted ≡ [] → a.growth ≡ None →
      IsGrowing (outcome gas counts) v source gas counts counts a
  founds source gas counts a p host there twenty absent formed enough i done nothing alone = record {
    applied = record {
      world = founded w f;
      stands = installs_agree u v w from hash mutez script given p.payer.stands p.payer.form host.stored host.ticketless p.payer.payer there twenty absent formed i;
      same = ap (λ b. founding_outcome b w f gas (counts_of counts))
          (nat_covered (balance_or_none w (place_bytes from)) mutez (subst (λ (n : ℕ). mutez ≤ n) (balance_here p.payer) enough))
          ∙ (λ j. applied (record {
            world = founded w f;
            emitted = Rattle.std.specs.Prelude.map (issued_by v.store.bases.present a.by) (sym nothing j);
            effects = ap effect_of (sym done) j ∷ grown (sym alone j);
            gas = gas;
            counts = counts_of counts;
          }));
      group = refl;
      handed = subst (AllByRecursion (IsHanded v.store.bases.present)) (sym nothing) tt;
      there = λ h. absurd (subst IsNotEmpty nothing h);
    };
    form = p.form;
    key = p.key;
  }

  -- with what it takes behind it
  pub founds_grown : (s : Setting) (x : World) (gas : ℕ) (counts : Counts) (by : List ℕ) (r : Result Applied ApplyError) → by ≡ hash →
      EndsAs (growing s by (outcome gas counts)) x gas counts counts r → EndsAs (found_contract s w f gas (counts_of counts)) x gas counts counts r
  founds_grown s x gas counts by r is h = subst (λ (q : List ℕ). EndsAs (growing s q (outcome gas counts)) x gas counts counts r) is h

-- ---- worlds of the definitions with one more contract

pub founded_form : (w : PlainWorld) (f : Founding) → IsOrderly w → length f.hash ≡ 20 → plain_contract_at w f.hash ≡ None → Stores w f.script f.storage →
    IsWorld (founded w f)
founded_form w f o twenty absent stores =
    let d : PlainContract = record { balance = f.balance; paid = 0; script = f.script; storage = f.storage } in
    let x = with_less w f.sender f.balance in
    let less = less_moves w f.sender f.balance o in
    let more = extends_new x f.hash d (less.none f.hash absent) in
    (orderly_contract x f.hash d less.orderly twenty more (stores_more w x less.more f.script f.storage stores)).form
