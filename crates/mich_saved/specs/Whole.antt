-- The state that what was read stands for.
use Rattle.std.specs.Prelude.{ℕ, ℤ, List, map}
use Rattle.mich_gas.specs.View.{seen_price}
use Rattle.mich_saved.specs.Parts as kept
use Rattle.mich_saved.specs.Shown.{account, contract, total}
use Rattle.mich_saved.specs.declared.reading.Head.{Head}
use Rattle.mich_saved.specs.declared.reading.Moment.{Moment}
use Rattle.mich_saved.specs.declared.reading.ReadState.{ReadState}

abbrev pub moment : Moment → List ℕ × ℕ × ℤ
moment m = (m.chain, m.level, m.now)

abbrev pub head : Head → kept.Head
head h = record {
  chain = h.moment.chain;
  level = h.moment.level;
  moment = h.moment.now;
  pays = h.pays;
  rate = h.rate;
  groups = h.groups;
  costs_stood = h.costs_stood;
  started = h.started;
}

abbrev pub state : ReadState → kept.KeptState
state s = record {
  head = head s.head;
  prices = map seen_price s.prices;
  fees = s.fees;
  storage_burn = s.storage_burn;
  accounts = map account s.accounts;
  contracts = map contract s.contracts;
  tickets = map total s.tickets;
}
