-- The world: accounts and contracts, the ledger of tickets and the store of big maps, each with what it was at the lower heights of
-- its journal, and the clock.
use Rattle.std.specs.Prelude.{ℕ, ℤ, List, refl}
use Rattle.std.specs.Coded.{Coded, code_by, coded×, coded_list, coded_ℕ, coded_ℤ}
use Rattle.mich_base.specs.undo.History.{History}
use Rattle.mich_tickets.specs.Books.{State, state_code, fresh, no_books}
use Rattle.mich_bigmap.specs.Stored.{Stored, stored_code, no_bases}
use Rattle.mich_world.specs.Holders.{Holders}
use Rattle.mich_world.specs.Journal.{history_code, no_history}

pub record World : Type 0 where
  pub chain : List ℕ
  pub level : ℕ
  pub moment : ℤ
  pub funds : History Holders
  pub ledger : State
  pub store : Stored

abbrev pub no_world : List ℕ → ℕ → ℤ → World
no_world chain level moment =
    record { chain = chain; level = level; moment = moment; funds = no_history; ledger = fresh no_books; store = no_bases }

abbrev pub with_clock : World → ℕ → ℤ → World
with_clock w level moment =
    record { chain = w.chain; level = level; moment = moment; funds = w.funds; ledger = w.ledger; store = w.store }

abbrev pub with_funds : World → History Holders → World
with_funds w f = record { chain = w.chain; level = w.level; moment = w.moment; funds = f; ledger = w.ledger; store = w.store }

abbrev pub with_ledger : World → State → World
with_ledger w l = record { chain = w.chain; level = w.level; moment = w.moment; funds = w.funds; ledger = l; store = w.store }

abbrev pub with_store : World → Stored → World
with_store w s = record { chain = w.chain; level = w.level; moment = w.moment; funds = w.funds; ledger = w.ledger; store = s }

abbrev pub world_code : Coded World
world_code = code_by (List ℕ × (ℕ × (ℤ × (History Holders × (State × Stored)))))
    (coded× (coded_list coded_ℕ) (coded× coded_ℕ (coded× coded_ℤ (coded× history_code (coded× state_code stored_code)))))
    (λ w. (w.chain, (w.level, (w.moment, (w.funds, (w.ledger, w.store))))))
    (λ p. record { chain = p.0; level = p.1.0; moment = p.1.1.0; funds = p.1.1.1.0; ledger = p.1.1.1.1.0; store = p.1.1.1.1.1 })
    (λ _. refl)
