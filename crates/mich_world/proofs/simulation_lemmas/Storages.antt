-- What is so of each contract, whatever its balance, stays so.
use Rattle.std.proofs.Common.{◌≡◌, ◌+◌, ◌-◌, ℕ, List, [], ◌∷◌, Bool, true, false, cond, Some, None, sym, subst}
use Rattle.std.specs.declared.option.Option.{Option}
use Rattle.std.specs.declared.cmp.Ordering.TheVariants.{Less, Equal, Greater}
use Rattle.std.specs.Ordering.{match_ordering}
use Rattle.std.specs.BTreeMap.{is_at, insert_entry}
use Rattle.std.specs.List.{AllByRecursion}
use Rattle.mich_forms.specs.declared.places.Place.{Place}
use Rattle.mich_forms.specs.declared.places.Place.TheVariants as place
use Rattle.mich_term.specs.declared.value.Value.{Value}
use Rattle.mich_base.specs.undo.Undone.{changed_at}
use Rattle.mich_world.specs.Holders.{Holders, by_bytes, rebalanced, repaid, restored, storage_paid, balance_or_none, with_balance, with_less, moved, fee_taken, endowed}
use Rattle.mich_world.specs.Storages.{IsStored}
use Rattle.mich_world.specs.World.{World, with_funds}
use Rattle.mich_world.specs.declared.contract.Contract.{Contract}
use Rattle.mich_world.specs.simulation.Laws.{MovesKeepStored, FeesKeepStored, GrantsKeepStored, PaymentsKeepStored}

module _ (P : Contract → Type 0) (keep : (c : Contract) (n : ℕ) → P c → P (rebalanced n c)) where
  abbrev pub All : Holders → Type 0
  All h = AllByRecursion (λ (e : List ℕ × Contract). P e.1) h.contracts

  all_changed : (t : List ℕ → Bool) (n : ℕ) (cs : List (List ℕ × Contract)) → AllByRecursion (λ (e : List ℕ × Contract). P e.1) cs
      → AllByRecursion (λ (e : List ℕ × Contract). P e.1) (changed_at t cs (rebalanced n))
  all_changed t n [] h = tt
  all_changed t n (c ∷ cs) h =
      elim (t c.0) as (λ b. AllByRecursion (λ (e : List ℕ × Contract). P e.1) (cond b ((c.0, rebalanced n c.1) ∷ cs) (c ∷ changed_at t cs (rebalanced n))))
      [ true ↦ (keep c.1 n h.0, h.1) | false ↦ (h.0, all_changed t n cs h.1) ]

  pub all_balance : (h : Holders) (p : Place) (n : ℕ) → All h → All (with_balance h p n)
  all_balance h (place.Implicit who) n a = a
  all_balance h (place.Contract hash) n a = all_changed (is_at (by_bytes hash)) n h.contracts a

  pub all_moved : (h : Holders) (from to : Place) (n : ℕ) → All h → All (moved h from to n)
  all_moved h from to n a =
      let less = with_less h from n in
      all_balance less to (balance_or_none less to + n) (all_balance h from (balance_or_none h from - n) a)

  -- a contract that is made
  all_inserted : (cs : List (List ℕ × Contract)) (hash : List ℕ) (c : Contract) → P c → AllByRecursion (λ (e : List ℕ × Contract). P e.1) cs
      → AllByRecursion (λ (e : List ℕ × Contract). P e.1) (insert_entry by_bytes cs hash c)
  all_inserted [] hash c p h = (p, tt)
  all_inserted (d ∷ cs) hash c p h =
      elim (by_bytes hash d.0) as (λ o. AllByRecursion (λ (e : List ℕ × Contract). P e.1)
      (match_ordering o ((hash, c) ∷ d ∷ cs) ((d.0, c) ∷ cs) (d ∷ insert_entry by_bytes cs hash c)))
      [ Less ↦ (p, h) | Equal ↦ (p, h.1) | Greater ↦ (h.0, all_inserted cs hash c p h.1) ]

-- what is so of each contract, whatever its storage, stays so
module _ (P : Contract → Type 0) (keep : (c : Contract) (v : Value) → P c → P (restored v c)) where
  all_restored : (t : List ℕ → Bool) (v : Value) (cs : List (List ℕ × Contract)) → AllByRecursion (λ (e : List ℕ × Contract). P e.1) cs
      → AllByRecursion (λ (e : List ℕ × Contract). P e.1) (changed_at t cs (restored v))
  all_restored t v [] h = tt
  all_restored t v (c ∷ cs) h =
      elim (t c.0) as (λ b. AllByRecursion (λ (e : List ℕ × Contract). P e.1) (cond b ((c.0, restored v c.1) ∷ cs) (c ∷ changed_at t cs (restored v))))
      [ true ↦ (keep c.1 v h.0, h.1) | false ↦ (h.0, all_restored t v cs h.1) ]

-- what is so of each contract, whatever it has paid for, stays so
module _ (P : Contract → Type 0) (keep : (c : Contract) (n : ℕ) → P c → P (repaid n c)) where
  all_repaid : (t : List ℕ → Bool) (n : ℕ) (cs : List (List ℕ × Contract)) → AllByRecursion (λ (e : List ℕ × Contract). P e.1) cs
      → AllByRecursion (λ (e : List ℕ × Contract). P e.1) (changed_at t cs (repaid n))
  all_repaid t n [] h = tt
  all_repaid t n (c ∷ cs) h =
      elim (t c.0) as (λ b. AllByRecursion (λ (e : List ℕ × Contract). P e.1) (cond b ((c.0, repaid n c.1) ∷ cs) (c ∷ changed_at t cs (repaid n))))
      [ true ↦ (keep c.1 n h.0, h.1) | false ↦ (h.0, all_repaid t n cs h.1) ]

  pub all_paid : (h : Holders) (hash who : List ℕ) (size : ℕ) (burn : Option ℕ) → AllByRecursion (λ (e : List ℕ × Contract). P e.1) h.contracts
      → AllByRecursion (λ (e : List ℕ × Contract). P e.1) (storage_paid h hash size who burn).contracts
  all_paid h hash who size (Some n) a = all_repaid (is_at (by_bytes hash)) size h.contracts a
  all_paid h hash who size None a = a

-- ---- settled storages

stored_for : (u v : World) (h : Holders) → v ≡ with_funds u v.funds → v.funds.present ≡ h
    → AllByRecursion (λ (e : List ℕ × Contract). IsStored u.store.bases.present e.1) h.contracts
    → AllByRecursion (λ (e : List ℕ × Contract). IsStored v.store.bases.present e.1) v.funds.present.contracts
stored_for u v h e p a =
    subst (λ (k : Holders). AllByRecursion (λ (x : List ℕ × Contract). IsStored v.store.bases.present x.1) k.contracts) (sym p)
    (subst (λ (y : World). AllByRecursion (λ (x : List ℕ × Contract). IsStored y.store.bases.present x.1) h.contracts) (sym e) a)

pub moves_keep_stored : MovesKeepStored
moves_keep_stored u v from to n a e p =
    stored_for u v (moved u.funds.present from to n) e p
    (all_moved (IsStored u.store.bases.present) (λ c m s. record { formed = s.formed; based = s.based; shared = s.shared }) u.funds.present from to n a)

pub fees_keep_stored : FeesKeepStored
fees_keep_stored u v who n a e p = stored_for u v (fee_taken u.funds.present who n) e p a

pub grants_keep_stored : GrantsKeepStored
grants_keep_stored u v who n a e p = stored_for u v (endowed u.funds.present who n) e p a

pub payments_keep_stored : PaymentsKeepStored
payments_keep_stored u v hash who size burn a e p =
    stored_for u v (storage_paid u.funds.present hash size who burn) e p
    (all_paid (IsStored u.store.bases.present) (λ c n s. record { formed = s.formed; based = s.based; shared = s.shared }) u.funds.present hash who size burn a)
