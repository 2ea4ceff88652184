-- What a journal of writes makes of holders.
use Rattle.std.specs.Prelude.{◌≡◌, ℕ, Option, List, [], ◌∷◌, reverse, refl}
use Rattle.std.specs.Coded.{Coded, code_by, coded×, coded_list, coded_option, coded_ℕ}
use Rattle.mich_base.specs.undo.History.{History}
use Rattle.mich_base.specs.undo.Undone.{undone}
use Rattle.mich_forms.specs.declared.places.Place.{Place}
use Rattle.mich_world.specs.Before.{accounts_before}
use Rattle.mich_world.specs.Holders.{Holders, no_holders, by_bytes, rebalanced, repaid, restored, with_change, with_fees, with_granted, with_storage_burn, total, IsSound}
use Rattle.mich_world.specs.declared.contract.Contract.{Contract}
use Rattle.mich_world.specs.contracts.contract.Contract as contract
use Rattle.mich_world.specs.declared.entry.Entry.{Entry}
use Rattle.mich_world.specs.declared.entry.Change.{Change}
use Rattle.mich_world.specs.declared.entry.Change.TheVariants as change

-- where old stands at a place or a contract again, or nothing
abbrev pub with_old_account : Holders → Place → Option ℕ → Holders
with_old_account h p old = record h { accounts = accounts_before p old h.accounts }

abbrev pub with_old_contract : Holders → List ℕ → Option Contract → Holders
with_old_contract h hash old = record h { contracts = undone by_bytes h.contracts hash old }

-- the holders before a write
abbrev pub before : Change → Holders → Holders
before (change.Account p old) h = with_old_account h p old
before (change.Contract hash old) h = with_old_contract h hash old
before (change.Balance hash old) h = with_change (rebalanced old) h hash
before (change.Storage hash old) h = with_change (restored old) h hash
before (change.Paid hash old) h = with_change (repaid old) h hash
before (change.Fees old) h = with_fees h old
before (change.StorageBurn old) h = with_storage_burn h old
before (change.Granted old) h = with_granted h old

-- the holders before each write of a journal, last first
abbrev pub past_of : Holders → List Entry → List Holders
past_of h [] = []
past_of h (e ∷ es) = before e.change h ∷ past_of (before e.change h) es

abbrev pub history : Holders → List Entry → History Holders
history h journal = record { present = h; past = past_of h (reverse journal) }

abbrev pub no_history : History Holders
no_history = record { present = no_holders; past = [] }

-- at each lower height all were sound, and the entry has their total
abbrev pub WereSound : Holders → List Entry → Type 0
WereSound h [] = Unit {0}
WereSound h (e ∷ es) = (total (before e.change h) ≡ e.supply) × IsSound (before e.change h) × WereSound (before e.change h) es

abbrev pub AreSound : Holders → ℕ → List Entry → Type 0
AreSound h supply journal = (total h ≡ supply) × IsSound h × WereSound h (reverse journal)

-- ---- codes

abbrev pub holders_code : Coded Holders
holders_code = code_by (List (List ℕ × ℕ) × (List (List ℕ × Contract) × (ℕ × (ℕ × (ℕ × Option ℕ)))))
    (coded× (coded_list (coded× (coded_list coded_ℕ) coded_ℕ)) (coded× (coded_list (coded× (coded_list coded_ℕ) contract.the_row.coded)) (coded× coded_ℕ (coded× coded_ℕ (coded× coded_ℕ (coded_option coded_ℕ))))))
    (λ h. (h.accounts, (h.contracts, (h.fees, (h.storage_burn, (h.granted, h.rate))))))
    (λ p. record { accounts = p.0; contracts = p.1.0; fees = p.1.1.0; storage_burn = p.1.1.1.0; granted = p.1.1.1.1.0; rate = p.1.1.1.1.1 })
    (λ _. refl)

abbrev pub history_code : Coded (History Holders)
history_code = code_by (Holders × List Holders) (coded× holders_code (coded_list holders_code))
    (λ h. (h.present, h.past)) (λ p. record { present = p.0; past = p.1 }) (λ _. refl)
