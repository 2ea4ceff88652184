-- What was read of a state is tried stage by stage.
use Rattle.std.proofs.Common.{◌≡◌, ℕ, List, [], ◌∷◌, map, Some, None, refl, sym, ap, ◌∙◌}
use Rattle.std.specs.Prelude.{ℤ, Option, if◌then◌else◌}
use Rattle.std.specs.List.{All, AllByRecursion}
use Rattle.std.proofs.lemmas.List.Elements.{All-head, All-tail}
use Rattle.rules_code.specs.evaluation.Surroundings.{Contract}
use Rattle.rules_files.specs.snapshots.Rules.{first_fault, parts}
use Rattle.rules_files.specs.snapshots.Spelt.{IsSpeltContract}
use Rattle.rules_files.specs.snapshots.State.{State, Total}
use Rattle.mich_instr.specs.Scripts.{IsTypedScript}
use Rattle.mich_saved.specs.KeptStates.{IsKeptTotal, IsPlacedContract}
use Rattle.mich_saved.specs.Parts as kept
use Rattle.mich_saved.specs.Shown.{contract, total}
use Rattle.mich_saved.specs.Sound.{Each}
use Rattle.mich_saved.specs.declared.parts.ReadContract.{ReadContract}
use Rattle.mich_saved.specs.declared.parts.ReadTotal.{ReadTotal}
use Rattle.mich_saved.specs.declared.reading.ReadState.{ReadState}
use Rattle.mich_world.specs.Restoring.{IsAlone, account_of, contract_of}
use Rattle.mich_term.specs.declared.ticket.TicketId.{TicketId}
use Rattle.mich_tickets.specs.declared.totals.Totals.{Totals}
use Rattle.mich_world.specs.declared.restoring.Saved.{Saved}
use Rattle.mich_world.specs.declared.restoring.SavedAccount.{SavedAccount}
use Rattle.mich_world.specs.declared.restoring.SavedContract.{SavedContract}
use Rattle.mich_snapshot.specs.Holders.{AreOfSpelt, IsReckoned, total_of}
use Rattle.mich_snapshot.specs.Loaded.{IsReadOf, IsSoundState}
use Rattle.mich_snapshot.specs.Sums.{found_in}
use Rattle.mich_snapshot.proofs.AllParts.{no_fault}
use Rattle.mich_snapshot.proofs.Restored.{IsSavedOf, may_be_restored, world_is}

pub tickets_kept : (ts : List Total) (us : List ReadTotal) → Each IsKeptTotal ts (map total us) → map (λ t. (total t).1) us ≡ ts
tickets_kept [] [] h = refl
tickets_kept (t ∷ ts) (u ∷ us) h = λ i. sym h.0 i ∷ tickets_kept ts us h.1 i
tickets_kept [] (u ∷ us) h = absurd h
tickets_kept (t ∷ ts) [] h = absurd h

pub contracts_spelt : (cs : List (List ℕ × Contract)) (ds : List ReadContract) → All IsSpeltContract cs → Each IsPlacedContract cs (map contract ds)
    → AreOfSpelt ds
contracts_spelt [] [] all h = tt
contracts_spelt (c ∷ cs) (d ∷ ds) all h =
    ((c, All-head IsSpeltContract c cs all, h.0), contracts_spelt cs ds (All-tail IsSpeltContract c cs all) h.1)
contracts_spelt [] (d ∷ ds) all h = absurd h
contracts_spelt (c ∷ cs) [] all h = absurd h

-- what is saved has the head and the sums that were read
pub record IsMadeOf (read : ReadState) (saved : Saved) : Type 0 where
  pub chain : saved.chain ≡ read.head.moment.chain
  pub level : saved.level ≡ read.head.moment.level
  pub moment : saved.moment ≡ read.head.moment.now
  pub rate : saved.rate ≡ (if read.head.pays then Some read.head.rate else None)
  pub fees : saved.fees ≡ read.fees
  pub burned : saved.burned ≡ read.storage_burn

-- what is saved of what was read, at a moment
abbrev pub made_of : ReadState → ℤ → Option ℕ → List SavedAccount → List SavedContract → List (TicketId × Totals) → Saved
made_of read moment rate accounts contracts totals = record {
  chain = read.head.moment.chain;
  level = read.head.moment.level;
  moment = moment;
  rate = rate;
  fees = read.fees;
  burned = read.storage_burn;
  accounts = accounts;
  contracts = contracts;
  totals = totals;
}

-- the parts are saved as they are
pub record AreSaved (s : State) (saved : Saved) : Type 0 where
  pub accounts : map account_of saved.accounts ≡ s.accounts
  pub contracts : map contract_of saved.contracts ≡ s.contracts
  pub totals : map total_of saved.totals ≡ s.tickets

saved_of : (s : State) (read : ReadState) (saved : Saved) → IsReadOf s read → IsMadeOf read saved → AreSaved s saved → IsSavedOf s saved
saved_of s read saved of made are =
    let head = sym of.kept.head in
    record {
      chain = made.chain ∙ ap (λ (h : kept.Head). h.chain) head;
      level = made.level ∙ ap (λ (h : kept.Head). h.level) head;
      moment = made.moment ∙ ap (λ (h : kept.Head). h.moment) head;
      rate = made.rate ∙ ap (λ (h : kept.Head). if h.pays then Some h.rate else None) head;
      fees = made.fees ∙ sym of.kept.fees;
      burned = made.burned ∙ sym of.kept.storage_burn;
      accounts = are.accounts;
      contracts = are.contracts;
      totals = are.totals;
    }

pub state_is_sound : (s : State) (read : ReadState) (saved : Saved) → IsReadOf s read → IsMadeOf read saved → AreSaved s saved
    → IsReckoned s (found_in s.accounts s.contracts)
    → first_fault 0 (parts s) ≡ None → AllByRecursion IsAlone saved.contracts → AllByRecursion (λ c. IsTypedScript c.contract.script) saved.contracts
    → IsSoundState s read.prices saved
state_is_sound s read saved of made are reckoned holds alone typed =
    let whole = saved_of s read saved of made are in
    record {
      world = world_is s saved whole;
      costs = sym of.kept.prices;
      restorable = may_be_restored s (found_in s.accounts s.contracts) saved of.spelt (no_fault s holds) reckoned whole alone;
      typed = typed;
    }
