-- Worlds in which contracts run stay so.
use Rattle.std.proofs.Common.{◌≡◌, ℕ, List, [], ◌∷◌, Bool, true, false, cond, is_some, Err, sym, ap, ◌∙◌, subst}
use Rattle.std.specs.BTreeMap.{is_at}
use Rattle.std.specs.List.{AllByRecursion}
use Rattle.rules_world.specs.world.World.{World as PlainWorld}
use Rattle.mich_bigmap.specs.Bases.{Bases}
use Rattle.mich_forms.specs.declared.places.Place.{Place}
use Rattle.mich_forms.specs.declared.places.Place.TheVariants as place
use Rattle.mich_instr.specs.Scripts.{IsTypedScript}
use Rattle.mich_machine.specs.Calls.{IsHosting}
use Rattle.mich_base.specs.undo.Undone.{changed_at}
use Rattle.mich_world.specs.Holders.{Holders, by_bytes, contract_at, rebalanced, with_balance, moved, fee_taken}
use Rattle.mich_world.specs.Marks.{IsSame, KeepsWorld}
use Rattle.mich_world.specs.Standing.{AreThose, StandsFor}
use Rattle.mich_world.specs.Storages.{IsStored}
use Rattle.mich_world.specs.World.{World, with_funds}
use Rattle.mich_world.proofs.ForCallers.{contracts_there, world_same}
use Rattle.mich_operations.specs.Going.{KeepsContracts, WithMemory}
use Rattle.mich_operations.specs.declared.applied.ApplyError.{ApplyError}
use Rattle.mich_operations.specs.declared.applied.ApplyError.TheVariants.{Failed, Memory}
use Rattle.mich_world.specs.declared.contract.Contract.{Contract}

-- ---- holders with another balance

-- what a world in which contracts run has of its holders
abbrev AreHosts : Bases → Holders → Type 0
AreHosts bs h =
    AllByRecursion (λ (c : List ℕ × Contract). IsTypedScript c.1.script) h.contracts × AllByRecursion (λ (c : List ℕ × Contract). IsStored bs c.1) h.contracts

module _ (P : Contract → Type 0) (keep : (n : ℕ) (c : Contract) → P c → P (rebalanced n c)) where
  all_rebalanced : (t : List ℕ → Bool) (n : ℕ) (cs : List (List ℕ × Contract)) → AllByRecursion (λ c. P c.1) cs → AllByRecursion (λ c. P c.1) (changed_at t cs (rebalanced n))
  all_rebalanced t n [] h = tt
  all_rebalanced t n (c ∷ cs) h =
      elim (t c.0) as (λ b. AllByRecursion (λ (x : List ℕ × Contract). P x.1) (cond b ((c.0, rebalanced n c.1) ∷ cs) (c ∷ changed_at t cs (rebalanced n))))
      [ true ↦ (keep n c.1 h.0, h.1) | false ↦ (h.0, all_rebalanced t n cs h.1) ]

hosts_balance : (bs : Bases) (h : Holders) (p : Place) (n : ℕ) → AreHosts bs h → AreHosts bs (with_balance h p n)
hosts_balance bs h (place.Implicit who) n a = a
hosts_balance bs h (place.Contract hash) n a = (
  all_rebalanced (λ c. IsTypedScript c.script) (λ n c t. t) (is_at (by_bytes hash)) n h.contracts a.0,
  all_rebalanced (IsStored bs) (λ n c s. record { formed = s.formed; based = s.based; shared = s.shared }) (is_at (by_bytes hash)) n h.contracts a.1,
)

hosts_moved : (bs : Bases) (h : Holders) (from to : Place) (n : ℕ) → AreHosts bs h → AreHosts bs (moved h from to n)
hosts_moved bs h from to n a = hosts_balance bs _ to _ (hosts_balance bs h from _ a)

-- ---- worlds

hosting_funds : (v w : World) → w ≡ with_funds v w.funds → IsHosting v → AreHosts v.store.bases.present w.funds.present → IsHosting w
hosting_funds v w e h a = subst IsHosting (sym e) (record { typed = a.0; stored = a.1; ticketless = h.ticketless })

-- after a move of mutez
pub hosting_moved : (v w : World) (from to : Place) (n : ℕ) → w ≡ with_funds v w.funds → w.funds.present ≡ moved v.funds.present from to n → IsHosting v → IsHosting w
hosting_moved v w from to n e m h =
    hosting_funds v w e h (subst (AreHosts v.store.bases.present) (sym m) (hosts_moved v.store.bases.present v.funds.present from to n (h.typed, h.stored)))

-- after a fee
pub hosting_fee : (v w : World) (who : List ℕ) (fee : ℕ) → w ≡ with_funds v w.funds → w.funds.present ≡ fee_taken v.funds.present who fee → IsHosting v → IsHosting w
hosting_fee v w who fee e m h = hosting_funds v w e h (subst (AreHosts v.store.bases.present) (sym m) (h.typed, h.stored))

-- the contracts that were there are there
pub contracts_moved : (v w : World) (from to : Place) (n : ℕ) → w.funds.present ≡ moved v.funds.present from to n → KeepsContracts v w
contracts_moved v w from to n m hash h =
    ap (λ (f : Holders). is_some (contract_at f hash)) m
    ∙ contracts_there _ to _ hash ∙ contracts_there v.funds.present from _ hash ∙ h

pub contracts_same : (v : World) → KeepsContracts v v
contracts_same v hash h = h

-- a world that stays keeps its marks
pub keeps_same : (e : ApplyError) (v : World) → WithMemory (Err e) (KeepsWorld v v)
keeps_same (Failed why) v = world_same v
keeps_same Memory v = tt

-- ---- worlds that are one

-- one stands for what the other stands for
pub stands_same : (v w : World) (x : PlainWorld) → IsSame v w → StandsFor v x → StandsFor w x
stands_same v w x s h = record {
  chain = h.chain ∙ sym s.chain;
  level = h.level ∙ sym s.level;
  moment = h.moment ∙ sym s.moment;
  those =
      subst (λ f. AreThose f.present w.store.bases.present w.ledger.books.present x) (sym s.funds)
      (subst (λ b. AreThose v.funds.present b.present w.ledger.books.present x) (sym s.bases)
      (subst (λ b. AreThose v.funds.present v.store.bases.present b.present x) (sym s.books) h.those));
}
