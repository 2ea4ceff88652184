-- Accounts and contracts that are put in, one after the other.
use Rattle.std.proofs.Common.{◌≡◌, ◌+◌, ◌≤◌, ℕ, List, [], ◌∷◌, map, refl, sym, ap, ◌∙◌, subst, arith}
use Rattle.std.specs.List.{AllByRecursion, sum_by}
use Rattle.std.proofs.lemmas.List.Sums.{sum_by-cons}
use Rattle.rules_code.specs.evaluation.Surroundings.{Contract as PlainContract}
use Rattle.rules_data.specs.forms.Spelling.{implicit_place}
use Rattle.rules_data.specs.values.Tickets.{tickets}
use Rattle.rules_data.specs.values.Val.{Val}
use Rattle.mich_bigmap.specs.Bases.{Bases}
use Rattle.mich_bigmap.specs.Settling.{Settles, Lays}
use Rattle.mich_bigmap.specs.Shared.{SharesBy}
use Rattle.mich_bigmap.specs.Standing.{val_in}
use Rattle.mich_instr.specs.View.{script_node}
use Rattle.mich_instr.specs.declared.instr.Script.{Script}
use Rattle.mich_term.specs.ValueView.{val}
use Rattle.mich_term.specs.declared.value.Value.{Value}
use Rattle.mich_tickets.specs.Carrying.{Enters}
use Rattle.mich_world.specs.Holders.{Holders, by_bytes, total, with_account, with_contract}
use Rattle.mich_world.specs.Restoring.{SameTime, MayPutAccounts, PutsAccounts, MayPutContracts, PutsContracts, account_gift, contract_gift, contract_of, plain_contracts, purse_of, put_all, script_in, script_of, ticket_of}
use Rattle.mich_world.specs.Standing.{plain, contract_in}
use Rattle.mich_world.specs.Storages.{IsStored, owner_of, storage_kind}
use Rattle.mich_world.specs.World.{World}
use Rattle.mich_world.specs.declared.contract.Contract.{Contract}
use Rattle.mich_world.specs.declared.restoring.SavedAccount.{SavedAccount}
use Rattle.mich_world.specs.declared.restoring.SavedContract.{SavedContract}
use Rattle.mich_world.proofs.Seen.{seen_insert}
use Rattle.mich_world.proofs.Stored.{all_inserted, all_extended}
use Rattle.mich_world.proofs.simulation_lemmas.Contracts.{later, made_contracts}
use Rattle.mich_world.proofs.restoring_lemmas.Alone.{alone_stands}
use Rattle.mich_world.proofs.restoring_lemmas.Gifts.{gives_none, gives_one, gives_then, may_first, may_next}

-- ---- sums

fits_first : (t s a r o g : ℕ) → s ≡ a + r → o ≡ a + 0 → t + s ≤ g → t + o ≤ g
fits_first t s a r o g e f h = omega (arith, e, f, h)

fits_next : (t u s a r o g h : ℕ) → s ≡ a + r → o ≡ a + 0 → t + s ≤ g → u ≤ t + o → h ≡ g → u + r ≤ h
fits_next t u s a r o g h e f p q i = omega (arith, e, f, p, q, i)

within_then : (t u v s a r o : ℕ) → s ≡ a + r → o ≡ a + 0 → u ≤ t + o → v ≤ u + r → v ≤ t + s
within_then t u v s a r o e f p q = omega (arith, e, f, p, q)

within_one : (t u n a o : ℕ) → u + n ≡ t + a → o ≡ a + 0 → u ≤ t + o
within_one t u n a o e f = omega (arith, e, f)

within_none : (t : ℕ) → t ≤ t + 0
within_none t = omega arith

-- ---- where and when

pub time_same : (w : World) → SameTime w w
time_same w = record { chain = refl; level = refl; moment = refl }

pub time_then : (u v w : World) → SameTime u v → SameTime v w → SameTime u w
time_then u v w p q = record { chain = q.chain ∙ p.chain; level = q.level ∙ p.level; moment = q.moment ∙ p.moment }

-- ---- accounts

abbrev pub price : SavedAccount → ℕ
price a = a.balance

pub accounts_none : (w : World) → PutsAccounts [] w w
accounts_none w = record {
  time = time_same w;
  store = refl;
  funds = refl;
  within = within_none (total w.funds.present);
  tickets = gives_none w.ledger.books.present;
}

pub accounts_first : (a : SavedAccount) (xs : List SavedAccount) (w : World) → MayPutAccounts (a ∷ xs) w → MayPutAccounts (a ∷ []) w
accounts_first a xs w m = record {
  funds = fits_first (total w.funds.present) (sum_by price (a ∷ xs)) (price a) (sum_by price xs) (sum_by price (a ∷ [])) w.funds.present.granted
      (sum_by-cons price a xs) (sum_by-cons price a []) m.funds;
  tickets = may_first (account_gift a) (map account_gift xs) w.ledger.books.present m.tickets;
}

pub accounts_next : (a : SavedAccount) (xs : List SavedAccount) (u v : World) → MayPutAccounts (a ∷ xs) u → PutsAccounts (a ∷ []) u v → MayPutAccounts xs v
accounts_next a xs u v m p = record {
  funds = fits_next (total u.funds.present) (total v.funds.present) (sum_by price (a ∷ xs)) (price a) (sum_by price xs) (sum_by price (a ∷ []))
      u.funds.present.granted v.funds.present.granted (sum_by-cons price a xs) (sum_by-cons price a []) m.funds p.within
      (ap (λ (h : Holders). h.granted) p.funds);
  tickets = may_next (account_gift a) (map account_gift xs) u.ledger.books.present v.ledger.books.present m.tickets p.tickets;
}

pub accounts_then : (a : SavedAccount) (xs : List SavedAccount) (u v w : World) → PutsAccounts (a ∷ []) u v → PutsAccounts xs v w → PutsAccounts (a ∷ xs) u w
accounts_then a xs u v w p q = record {
  time = time_then u v w p.time q.time;
  store = q.store ∙ p.store;
  funds = q.funds ∙ ap (λ (h : Holders). record h { accounts = put_all by_bytes h.accounts (map purse_of xs) }) p.funds;
  within = within_then (total u.funds.present) (total v.funds.present) (total w.funds.present) (sum_by price (a ∷ xs)) (price a) (sum_by price xs)
      (sum_by price (a ∷ [])) (sum_by-cons price a xs) (sum_by-cons price a []) p.within q.within;
  tickets = gives_then (account_gift a) (map account_gift xs) u.ledger.books.present v.ledger.books.present w.ledger.books.present p.tickets q.tickets;
}

pub account_put : (a : SavedAccount) (u v : World) (n : ℕ) → SameTime u v → v.store ≡ u.store
    → v.funds.present ≡ with_account u.funds.present a.who a.balance → total v.funds.present + n ≡ total u.funds.present + a.balance
    → Enters (implicit_place a.who) (map ticket_of a.held) u.ledger.books.present v.ledger.books.present → PutsAccounts (a ∷ []) u v
account_put a u v n t s f w e = record {
  time = t;
  store = s;
  funds = f;
  within = within_one (total u.funds.present) (total v.funds.present) n (price a) (sum_by price (a ∷ [])) w (sum_by-cons price a []);
  tickets = gives_one (implicit_place a.who) (map ticket_of a.held) u.ledger.books.present v.ledger.books.present e;
}

-- ---- contracts

abbrev pub worth : SavedContract → ℕ
worth c = c.contract.balance

pub contracts_first : (c : SavedContract) (cs : List SavedContract) (w : World) → MayPutContracts (c ∷ cs) w → MayPutContracts (c ∷ []) w
contracts_first c cs w m = record {
  funds = fits_first (total w.funds.present) (sum_by worth (c ∷ cs)) (worth c) (sum_by worth cs) (sum_by worth (c ∷ [])) w.funds.present.granted
      (sum_by-cons worth c cs) (sum_by-cons worth c []) m.funds;
  tickets = may_first (contract_gift c) (map contract_gift cs) w.ledger.books.present m.tickets;
  alone = (m.alone.0, tt);
  stored = m.stored;
}

pub contracts_next : (c : SavedContract) (cs : List SavedContract) (u v : World) → MayPutContracts (c ∷ cs) u → PutsContracts (c ∷ []) u v → MayPutContracts cs v
contracts_next c cs u v m p = record {
  funds = fits_next (total u.funds.present) (total v.funds.present) (sum_by worth (c ∷ cs)) (worth c) (sum_by worth cs) (sum_by worth (c ∷ []))
      u.funds.present.granted v.funds.present.granted (sum_by-cons worth c cs) (sum_by-cons worth c []) m.funds p.within
      (ap (λ (h : Holders). h.granted) p.funds);
  tickets = may_next (contract_gift c) (map contract_gift cs) u.ledger.books.present v.ledger.books.present m.tickets p.tickets;
  alone = m.alone.1;
  stored = p.stored;
}

pub contracts_none : (w : World) → MayPutContracts [] w → PutsContracts [] w w
contracts_none w m = record {
  time = time_same w;
  funds = refl;
  within = within_none (total w.funds.present);
  contracts = refl;
  scripts = refl;
  tickets = gives_none w.ledger.books.present;
  stored = m.stored;
  ticketless = λ h. h;
}

pub contracts_then : (c : SavedContract) (cs : List SavedContract) (u v w : World) → PutsContracts (c ∷ []) u v → PutsContracts cs v w → PutsContracts (c ∷ cs) u w
contracts_then c cs u v w p q = record {
  time = time_then u v w p.time q.time;
  funds = q.funds ∙ ap (λ (h : Holders). record h { contracts = w.funds.present.contracts }) p.funds;
  within = within_then (total u.funds.present) (total v.funds.present) (total w.funds.present) (sum_by worth (c ∷ cs)) (worth c) (sum_by worth cs)
      (sum_by worth (c ∷ [])) (sum_by-cons worth c cs) (sum_by-cons worth c []) p.within q.within;
  contracts = q.contracts ∙ ap (λ (es : List (List ℕ × PlainContract)). put_all by_bytes es (map contract_of cs)) p.contracts;
  scripts = q.scripts ∙ ap (λ (es : List (List ℕ × Script)). put_all by_bytes es (map script_of cs)) p.scripts;
  tickets = gives_then (contract_gift c) (map contract_gift cs) u.ledger.books.present v.ledger.books.present w.ledger.books.present p.tickets q.tickets;
  stored = q.stored;
  ticketless = λ h. q.ticketless (p.ticketless h);
}

abbrev pub settled : SavedContract → Value → Contract
settled c storage = record { balance = c.contract.balance; paid = c.contract.paid; script = c.contract.script; storage = storage }

plain_is : (new : Bases) (c : SavedContract) (storage : Value) → val_in new storage ≡ val c.contract.storage → plain new (settled c storage) ≡ (contract_of c).1
plain_is new c storage e =
    ap (λ (y : Val). record { balance = c.contract.balance; paid = c.contract.paid; script = script_node c.contract.script; storage = y }) e

pub contract_put : (c : SavedContract) (u v : World) (storage : Value) (n : ℕ) → MayPutContracts (c ∷ []) u → SameTime u v
    → v.funds.present ≡ with_contract u.funds.present c.hash (settled c storage) → total v.funds.present + n ≡ total u.funds.present + c.contract.balance
    → Enters (owner_of c.hash) (tickets (val c.contract.storage)) u.ledger.books.present v.ledger.books.present
    → Settles u.store.bases.present v.store.bases.present c.contract.storage storage
    → SharesBy (storage_kind c.contract.script) c.contract.storage storage → Lays u.store v.store → PutsContracts (c ∷ []) u v
contract_put c u v storage n m t f w e s sh l =
    let old = u.store.bases.present in
    let new = v.store.bases.present in
    let h = u.funds.present in
    let alone = m.alone.0 in
    record {
      time = t;
      funds = f ∙ ap (λ (cs : List (List ℕ × Contract)). record h { contracts = cs }) (sym (ap (λ (k : Holders). k.contracts) f));
      within = within_one (total h) (total v.funds.present) n (worth c) (sum_by worth (c ∷ [])) w (sum_by-cons worth c []);
      contracts = ap (λ (k : Holders). map (contract_in new) k.contracts) f
          ∙ sym (made_contracts old new h (plain_contracts u) c.hash (settled c storage) (contract_of c).1 refl (later old new h.contracts l.others m.stored)
          (plain_is new c storage (s.same ∙ alone_stands old c.contract.storage alone.alone alone.formed)));
      scripts = ap (λ (k : Holders). map script_in k.contracts) f ∙ seen_insert (λ (x : Contract). x.script) by_bytes h.contracts c.hash (settled c storage);
      tickets = gives_one (owner_of c.hash) (tickets (val c.contract.storage)) u.ledger.books.present v.ledger.books.present e;
      stored = subst (λ (k : Holders). AllByRecursion (λ (x : List ℕ × Contract). IsStored new x.1) k.contracts) (sym f)
          (all_inserted (IsStored new) by_bytes h.contracts c.hash (settled c storage) (all_extended old new h.contracts l.others m.stored)
          (record { formed = s.formed; based = s.based; shared = sh.settled }));
      ticketless = l.ticketless;
    }
