-- What sound parts are saved as stands for the world of their state, and may be restored.
use Rattle.std.proofs.Common.{◌≡◌, ℕ, ◌+◌, true, List, [], ◌∷◌, ◌++◌, map, Some, None, refl, sym, ap, subst, ◌∙◌, arith}
use Rattle.std.specs.Prelude.{ℤ, pos, ◌-ℤ◌, ◌≤ℤ◌, if◌then◌else◌}
use Rattle.std.specs.List.{All, AllByRecursion, flat_map, sum_by}
use Rattle.std.proofs.lemmas.Int.{ints}
use Rattle.std.proofs.lemmas.List.Elements.{All-head, All-tail}
use Rattle.rules_code.specs.evaluation.Surroundings.{Contract}
use Rattle.rules_data.specs.values.Forms.{is_ticket_amount}
use Rattle.rules_data.specs.values.Tickets.{Identity}
use Rattle.rules_world.specs.world.Good.{IsGood}
use Rattle.rules_world.specs.world.World.{Account, World}
use Rattle.rules_files.specs.snapshots.Course.{changes_of, world_of}
use Rattle.rules_files.specs.snapshots.Rules.{all_mutez, is_sound, is_total}
use Rattle.rules_files.specs.snapshots.Spelling.{total_spelling}
use Rattle.rules_files.specs.snapshots.Spelt.{IsSpelt, IsSpeltTotal}
use Rattle.rules_files.specs.snapshots.State.{State, Total}
use Rattle.mich_term.specs.declared.ticket.TicketId.{TicketId}
use Rattle.mich_tickets.specs.declared.totals.Totals.{Totals}
use Rattle.mich_world.specs.Restoring.{AreTotals, IsAlone, IsRestorable, account_of, contract_of, supply_of, told_of, world_of as restored}
use Rattle.mich_world.specs.declared.restoring.Saved.{Saved}
use Rattle.mich_world.specs.declared.restoring.SavedAccount.{SavedAccount}
use Rattle.mich_world.specs.declared.restoring.SavedContract.{SavedContract}
use Rattle.mich_snapshot.specs.Holders.{IsReckoned, total_of}
use Rattle.mich_snapshot.proofs.SoundParts.{IsSoundTotal, each_holds, sound_parts, total_parts}
use Rattle.mich_snapshot.proofs.Worlds.{mapped_sum, sound_worlds_are_good}

-- the parts are those of a state
pub record IsSavedOf (p : State) (saved : Saved) : Type 0 where
  pub chain : saved.chain ≡ p.chain
  pub level : saved.level ≡ p.level
  pub moment : saved.moment ≡ p.moment
  pub rate : saved.rate ≡ (if p.pays then Some p.rate else None)
  pub fees : saved.fees ≡ p.fees
  pub burned : saved.burned ≡ p.storage_burn
  pub accounts : map account_of saved.accounts ≡ p.accounts
  pub contracts : map contract_of saved.contracts ≡ p.contracts
  pub totals : map total_of saved.totals ≡ p.tickets

told_all : (ts : List (TicketId × Totals)) → flat_map told_of ts ≡ flat_map changes_of (map total_of ts)
told_all [] = refl
told_all (t ∷ ts) = ap (λ (l : List _). told_of t ++ l) (told_all ts)

supply_is : (p : State) (saved : Saved) → IsSavedOf p saved → supply_of saved ≡ all_mutez p
supply_is p saved h =
    let accounts : sum_by (λ (a : SavedAccount). a.balance) saved.accounts ≡ sum_by (λ (a : List ℕ × Account). a.1.balance) p.accounts =
    sym (mapped_sum (λ (a : List ℕ × Account). a.1.balance) account_of saved.accounts) ∙ ap (sum_by (λ (a : List ℕ × Account). a.1.balance)) h.accounts in
    let contracts : sum_by (λ (c : SavedContract). c.contract.balance) saved.contracts ≡ sum_by (λ (c : List ℕ × Contract). c.1.balance) p.contracts =
    sym (mapped_sum (λ (c : List ℕ × Contract). c.1.balance) contract_of saved.contracts) ∙ ap (sum_by (λ (c : List ℕ × Contract). c.1.balance)) h.contracts in
    λ i. accounts i + contracts i + h.fees i + h.burned i

pub world_is : (p : State) (saved : Saved) → IsSavedOf p saved → restored saved ≡ world_of p
world_is p saved h =
    let granted = supply_is p saved h in
    let log = told_all saved.totals ∙ ap (flat_map changes_of) h.totals in
    λ i. record {
      chain = h.chain i;
      level = h.level i;
      moment = h.moment i;
      accounts = h.accounts i;
      contracts = h.contracts i;
      fees = h.fees i;
      storage_burn = h.burned i;
      granted = granted i;
      rate = h.rate i;
      log = log i;
    }

-- ---- totals

least_minted : (m : ℤ) → is_ticket_amount m ≡ true → pos 1 ≤ℤ m
least_minted m h = grind (arith, ints)

no_more_burnt : (m b a : ℤ) (n : ℕ) → a ≡ m -ℤ b → pos n ≡ a → b ≤ℤ m
no_more_burnt m b a n e g = omega (arith, ints)

totals_are : (p : State) (found : Identity → ℕ) (ts : List (TicketId × Totals)) → IsReckoned p found → All (IsSoundTotal p) (map total_of ts)
    → AllByRecursion (λ t. AreTotals t.1) ts
totals_are p found [] reckoned all = tt
totals_are p found (t ∷ ts) reckoned all =
    let here : IsSoundTotal p (total_of t) = All-head (IsSoundTotal p) (total_of t) (map total_of ts) all in (
      record {
        minted = least_minted t.1.minted here.minted;
        burnt = here.burnt;
        within = no_more_burnt t.1.minted t.1.burnt _ (found (total_of t).identity) here.there (reckoned (total_of t).identity);
      },
      totals_are p found ts reckoned (All-tail (IsSoundTotal p) (total_of t) (map total_of ts) all),
    )

pub may_be_restored : (p : State) (found : Identity → ℕ) (saved : Saved) → IsSpelt p → is_sound p ≡ true → IsReckoned p found → IsSavedOf p saved
    → AllByRecursion IsAlone saved.contracts → IsRestorable saved
may_be_restored p found saved spelt sound reckoned h alone =
    let totals : All (IsSoundTotal p) p.tickets =
    each_holds total_spelling (is_total p) (λ t. t.identity) IsSpeltTotal (IsSoundTotal p)
    (λ former t _ g. total_parts p former t g) None p.tickets spelt.tickets.1 (sound_parts p sound).tickets in
    record {
      good = subst (λ (w : World). IsGood w []) (sym (world_is p saved h)) (sound_worlds_are_good p spelt sound);
      totals = totals_are p found saved.totals reckoned (subst (λ (ts : List Total). All (IsSoundTotal p) ts) (sym h.totals) totals);
      contracts = alone;
    }
