-- A world with another log: what moves mutez and tickets does the same to it.
use Rattle.std.proofs.Common.{◌≡◌, ℕ, ◌+◌, ◌-◌, Bool, true, false, List, Option, Some, None, refl, ap, ◌∙◌, if◌then◌else◌}
use Rattle.rules_data.specs.forms.Spelling.{is_implicit}
use Rattle.rules_data.specs.values.Tickets.{Held}
use Rattle.rules_code.specs.evaluation.Contracts.{hash_in}
use Rattle.rules_code.specs.evaluation.Surroundings.{Contract}
use Rattle.rules_code.specs.steps.Changes.{Change}
use Rattle.rules_world.specs.world.World.{World, contract_at, key_hash_in, with_contract}
use Rattle.rules_world.specs.world.Balances.{balance_or_none, with_account_balance, with_contract_balance, with_balance, with_less, with_more, moved, fee_taken}
use Rattle.rules_world.specs.world.Growth.{with_paid, paid_for, burnt_from}
use Rattle.rules_world.specs.world.Originations.{Founding, founded}
use Rattle.rules_world.specs.world.Transfers.{Transaction, with_ticket, received, as_ticket}
use Rattle.rules_data.specs.values.Val.{Val}

abbrev pub relogged : List Change → World → World
relogged log w = record w { log = log }

-- it does the same to a world with another log
abbrev pub Passes : (World → World) → Type 0
Passes f = (log : List Change) (w : World) → f (relogged log w) ≡ relogged log (f w)

-- so it leaves the log as it is
pub log_stays : (f : World → World) → Passes f → (w : World) → (f w).log ≡ w.log
log_stays f p w = λ k. (p w.log w k).log

then_passes : (f g : World → World) → Passes f → Passes g → Passes (λ w. g (f w))
then_passes f g p q log w = ap g (p log w) ∙ q log (f w)

contract_passes : (hash : List ℕ) (n : ℕ) (o : Option Contract) (log : List Change) (w : World) →
    with_contract_balance (relogged log w) hash n o ≡ relogged log (with_contract_balance w hash n o)
contract_passes hash n (Some c) log w = refl
contract_passes hash n None log w = refl

balance_passes : (place : List ℕ) (n : ℕ) → Passes (λ w. with_balance w place n)
balance_passes place n log w = by (is_implicit place) where
  by : (b : Bool) →
      (if b then with_account_balance (relogged log w) (key_hash_in place) n
      else with_contract_balance (relogged log w) (hash_in place) n (contract_at w (hash_in place)))
      ≡ relogged log (if b then with_account_balance w (key_hash_in place) n
      else with_contract_balance w (hash_in place) n (contract_at w (hash_in place)))
  by true = refl
  by false = contract_passes (hash_in place) n (contract_at w (hash_in place)) log w

pub less_passes : (place : List ℕ) (n : ℕ) → Passes (λ w. with_less w place n)
less_passes place n log w = balance_passes place (balance_or_none w place - n) log w

more_passes : (place : List ℕ) (n : ℕ) → Passes (λ w. with_more w place n)
more_passes place n log w = balance_passes place (balance_or_none w place + n) log w

pub moved_passes : (from to : List ℕ) (n : ℕ) → Passes (λ w. moved w from to n)
moved_passes from to n = then_passes (λ w. with_less w from n) (λ w. with_more w to n) (less_passes from n) (more_passes to n)

pub fee_passes : (from : List ℕ) (fee : ℕ) → Passes (λ w. fee_taken w from fee)
fee_passes from fee log w = λ k. record (less_passes from fee log w k) { fees = w.fees + fee }

burnt_passes : (from : List ℕ) (n : ℕ) → Passes (λ w. burnt_from w from n)
burnt_passes from n log w = λ k. record (less_passes from n log w k) { storage_burn = w.storage_burn + n }

with_paid_passes : (hash : List ℕ) (n : ℕ) (o : Option Contract) (log : List Change) (w : World) →
    with_paid (relogged log w) hash n o ≡ relogged log (with_paid w hash n o)
with_paid_passes hash n (Some c) log w = refl
with_paid_passes hash n None log w = refl

paid_passes : (hash : List ℕ) (n : ℕ) → Passes (λ w. paid_for w hash n)
paid_passes hash n log w = with_paid_passes hash n (contract_at w hash) log w

pub grown_passes : (payer hash : List ℕ) (mutez bytes : ℕ) → Passes (λ w. paid_for (burnt_from w payer mutez) hash bytes)
grown_passes payer hash mutez bytes =
    then_passes (λ w. burnt_from w payer mutez) (λ w. paid_for w hash bytes) (burnt_passes payer mutez) (paid_passes hash bytes)

pub founded_passes : (f : Founding) → Passes (λ w. founded w f)
founded_passes f log w = λ k. founded_on (less_passes f.sender f.balance log w k) where
  founded_on : World → World
  founded_on v = with_contract v f.hash (record { balance = f.balance; paid = 0; script = f.script; storage = f.storage })

ticket_passes : (who : List ℕ) (o : Option Held) → Passes (λ w. with_ticket w who o)
ticket_passes who (Some t) log w = refl
ticket_passes who None log w = refl

pub received_passes : (t : Transaction) (v : Val) → Passes (λ w. received w t v)
received_passes t v =
    then_passes (λ w. moved w t.sender t.destination t.amount) (λ w. with_ticket w (key_hash_in t.destination) (as_ticket v))
    (moved_passes t.sender t.destination t.amount) (ticket_passes (key_hash_in t.destination) (as_ticket v))
