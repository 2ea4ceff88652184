-- Storages that stay settled.
use Rattle.std.proofs.Common.{◌≡◌, ℕ, List, [], ◌∷◌, Bool, true, false, cond, Some, refl, sym, subst}
use Rattle.std.specs.declared.cmp.Ordering.{Ordering}
use Rattle.std.specs.declared.cmp.Ordering.TheVariants.{Less, Equal, Greater}
use Rattle.std.specs.Ordering.{match_ordering}
use Rattle.std.specs.BTreeMap.{is_at, insert_entry}
use Rattle.std.specs.Map.{lookup}
use Rattle.std.specs.List.{AllByRecursion}
use Rattle.mich_forms.specs.declared.places.Place.{Place}
use Rattle.mich_forms.specs.declared.places.Place.TheVariants as place
use Rattle.mich_term.specs.declared.value.Value.{Value}
use Rattle.mich_base.specs.undo.Undone.{changed_at}
use Rattle.mich_bigmap.specs.Bases.{Bases}
use Rattle.mich_bigmap.specs.Extended.{Extends}
use Rattle.mich_bigmap.proofs.ForCallers.{based_later}
use Rattle.mich_world.specs.Holders.{Holders, by_bytes, rebalanced, restored, with_balance}
use Rattle.mich_world.specs.Storages.{IsStored, AreStored, Installs, Commits}
use Rattle.mich_world.specs.Marks.{IsSame}
use Rattle.mich_world.specs.World.{World}
use Rattle.mich_world.specs.declared.contract.Contract.{Contract}

module _ {K X : Type 0} (P : X → Type 0) where
  pub all_inserted : (R : K → K → Ordering) (es : List (K × X)) (k : K) (v : X) → AllByRecursion (λ e. P e.1) es → P v → AllByRecursion (λ e. P e.1) (insert_entry R es k v)
  all_inserted R [] k v h p = (p, tt)
  all_inserted R (e ∷ es) k v h p =
      elim (R k e.0) as (λ o. AllByRecursion (λ (x : K × X). P x.1) (match_ordering o ((k, v) ∷ e ∷ es) ((e.0, v) ∷ es) (e ∷ insert_entry R es k v)))
      [ Less ↦ (p, h) | Equal ↦ (p, h.1) | Greater ↦ (h.0, all_inserted R es k v h.1 p) ]

  all_changed : (t : K → Bool) (g : X → X) → ((x : X) → P x → P (g x)) → (es : List (K × X)) → AllByRecursion (λ e. P e.1) es → AllByRecursion (λ e. P e.1) (changed_at t es g)
  all_changed t g keep [] h = tt
  all_changed t g keep (e ∷ es) h =
      elim (t e.0) as (λ b. AllByRecursion (λ (x : K × X). P x.1) (cond b ((e.0, g e.1) ∷ es) (e ∷ changed_at t es g)))
      [ true ↦ (keep e.1 h.0, h.1) | false ↦ (h.0, all_changed t g keep es h.1) ]

  -- where only what stands at a key is changed
  all_changed_there : (t : K → Bool) (g : X → X) (es : List (K × X)) → ((x : X) → lookup t es ≡ Some x → P (g x)) → AllByRecursion (λ e. P e.1) es → AllByRecursion (λ e. P e.1) (changed_at t es g)
  all_changed_there t g [] there h = tt
  all_changed_there t g (e ∷ es) there h = by (t e.0) there (λ q. all_changed_there t g es q h.1)
    where
      by : (b : Bool) → ((x : X) → cond b (Some e.1) (lookup t es) ≡ Some x → P (g x)) →
          (((x : X) → lookup t es ≡ Some x → P (g x)) → AllByRecursion (λ (x : K × X). P x.1) (changed_at t es g)) →
          AllByRecursion (λ (x : K × X). P x.1) (cond b ((e.0, g e.1) ∷ es) (e ∷ changed_at t es g))
      by true q later = (q e.1 refl, h.1)
      by false q later = (h.0, later q)

abbrev All : Bases → Holders → Type 0
All bs h = AllByRecursion (λ (e : List ℕ × Contract). IsStored bs e.1) h.contracts

pub all_extended : (old new : Bases) (cs : List (List ℕ × Contract)) → Extends old new → AllByRecursion (λ e. IsStored old e.1) cs → AllByRecursion (λ e. IsStored new e.1) cs
all_extended old new [] x h = tt
all_extended old new (c ∷ cs) x h =
    (record { formed = h.0.formed; based = based_later old new c.1.storage x h.0.based; shared = h.0.shared }, all_extended old new cs x h.1)

all_balance : (bs : Bases) (h : Holders) (p : Place) (n : ℕ) → All bs h → All bs (with_balance h p n)
all_balance bs h (place.Implicit who) n a = a
all_balance bs h (place.Contract hash) n a =
    all_changed (IsStored bs) (is_at (by_bytes hash)) (rebalanced n) (λ x s. record { formed = s.formed; based = s.based; shared = s.shared }) h.contracts a

pub stored_same : (v w : World) → IsSame v w → AreStored v → AreStored w
stored_same v w s a =
    subst (λ f. AllByRecursion (λ (c : List ℕ × Contract). IsStored w.store.bases.present c.1) f.present.contracts) (sym s.funds)
    (subst (λ b. AllByRecursion (λ (c : List ℕ × Contract). IsStored b.present c.1) v.funds.present.contracts) (sym s.bases) a)

pub stored_installed : (from : Place) (hash : List ℕ) (n : ℕ) (script : _) (given : Value) (v w : World) → Installs from hash n script given v w → AreStored v → AreStored w
stored_installed from hash n script given v w i a =
    let new = w.store.bases.present in
    let h = v.funds.present in
    let c : Contract = record { balance = n; paid = 0; script = script; storage = i.storage } in
    subst (λ (k : Holders). All new k) (sym i.funds)
    (all_inserted (IsStored new) by_bytes (with_balance h from _).contracts hash c
    (all_balance new h from _ (all_extended v.store.bases.present new h.contracts i.lays.others a))
    (record { formed = i.settles.formed; based = i.settles.based; shared = i.shares.settled }))

pub stored_committed : (hash : List ℕ) (given : Value) (v w : World) → Commits hash given v w → AreStored v → AreStored w
stored_committed hash given v w i a =
    let new = w.store.bases.present in
    let h = v.funds.present in
    subst (λ (k : Holders). All new k) (sym i.funds)
    (all_changed_there (IsStored new) (is_at (by_bytes hash)) (restored i.storage) h.contracts
    (λ x there. record { formed = i.settles.formed; based = i.settles.based; shared = (i.shares x there).settled })
    (all_extended v.store.bases.present new h.contracts i.lays.others a))
