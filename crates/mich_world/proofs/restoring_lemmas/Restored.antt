-- The world that was saved.
use Rattle.std.proofs.Common.{◌≡◌, ◌+◌, ◌≤◌, ℕ, ℤ, pos, ◌+ℤ◌, ◌-ℤ◌, ◌≤ℤ◌, List, [], ◌∷◌, map, refl, sym, ap, ◌∙◌, subst, arith}
use Rattle.std.proofs.lemmas.Int.{ints}
use Rattle.std.specs.List.{All, AllByRecursion, flat_map, sum_by}
use Rattle.std.specs.List.Sorted.{IsStrictlySortedBy}
use Rattle.std.specs.Map.{keys_of, values_of}
use Rattle.std.proofs.lemmas.Cmp.{nat_list_cmp_total}
use Rattle.std.proofs.lemmas.List.Elements.{All-head, All-tail}
use Rattle.std.proofs.lemmas.List.Sums.{sum_by-cons}
use Rattle.rules_text.specs.nodes.Limits.{most_mutez}
use Rattle.rules_code.specs.evaluation.Surroundings.{Contract as PlainContract}
use Rattle.rules_code.specs.steps.Changes.{minted_in, burnt_in}
use Rattle.rules_data.specs.forms.Spelling.{implicit_place, contract_place}
use Rattle.rules_data.specs.values.Tickets.{Identity, tickets}
use Rattle.rules_world.specs.world.Balances.{supply}
use Rattle.rules_world.specs.world.Forms.{IsAccount, IsHolding}
use Rattle.rules_world.specs.world.Good.{IsGoodContract, known_with}
use Rattle.rules_world.specs.world.Holdings.{amount_held, held, held_by, held_by_accounts, held_by_contracts, minted_ever, burnt_ever}
use Rattle.rules_world.specs.world.World.{World as PlainWorld, Account, identity_order}
use Rattle.laws_code.proofs.stacks.ForCallers.{tickets_good}
use Rattle.laws_world.proofs.accounts.ForCallers.{burnt_positive}
use Rattle.mich_base.specs.undo.History.{History, kept}
use Rattle.mich_bigmap.specs.Ticketless.{HoldNoTickets}
use Rattle.mich_term.specs.ValueView.{val}
use Rattle.mich_term.specs.declared.ticket.TicketId.{TicketId}
use Rattle.mich_tickets.specs.Books.{Books, State, no_books}
use Rattle.mich_tickets.specs.Effects.{Adds}
use Rattle.mich_tickets.specs.Limits.{IsPositive}
use Rattle.mich_tickets.specs.Most.{most}
use Rattle.mich_tickets.specs.Sums.{held_of, minted_of, burnt_of}
use Rattle.mich_tickets.specs.declared.totals.Totals.{Totals}
use Rattle.mich_world.specs.Gifts.{Gift, given}
use Rattle.mich_world.specs.Holders.{Holders, by_bytes, total}
use Rattle.mich_world.specs.Restoring.{IsRestorable, IsRestored, IsBegun, StaysRestored, SameTime, MayPutAccounts, PutsAccounts, MayPutContracts, PutsContracts, account_gift, account_of, contract_gift, contract_of, holding_of, plain_contracts, purse_of, put_all, script_in, script_of, supply_of, ticket_of, told_of, world_of, begun_holders}
use Rattle.mich_world.specs.Standing.{purse, contract_in}
use Rattle.mich_world.specs.Storages.{AreStored, IsStored, Stands}
use Rattle.mich_world.specs.World.{World}
use Rattle.mich_world.specs.declared.contract.Contract.{Contract}
use Rattle.mich_world.specs.declared.restoring.Saved.{Saved}
use Rattle.mich_world.specs.declared.restoring.SavedAccount.{SavedAccount}
use Rattle.mich_world.specs.declared.restoring.SavedContract.{SavedContract}
use Rattle.mich_world.proofs.preconditions_lemmas.Room.{positives}
use Rattle.mich_world.proofs.simulation_lemmas.Agreement.{keeping_agrees}
use Rattle.mich_world.proofs.restoring_lemmas.Bounds.{ArePositive, all_given, all_given_least, given_most, accounts_hold, contracts_hold}
use Rattle.mich_world.proofs.restoring_lemmas.Given.{IsGift, amount_stored, among_held, given_is, holding}
use Rattle.mich_world.proofs.restoring_lemmas.Putting.{put_sorted}
use Rattle.mich_world.proofs.restoring_lemmas.Stages.{price, worth, time_then}
use Rattle.mich_world.proofs.restoring_lemmas.Totals.{Fit, AreWithin}

-- ---- parts of what was saved, seen as others

holdings_are : (hs : List (TicketId × ℤ)) → map holding (map ticket_of hs) ≡ map holding_of hs
holdings_are [] = refl
holdings_are (h ∷ hs) = ap (λ t. holding_of h ∷ t) (holdings_are hs)

account_keys : (xs : List SavedAccount) → keys_of (map purse_of xs) ≡ keys_of (map account_of xs)
account_keys [] = refl
account_keys (a ∷ xs) = ap (λ t. a.who ∷ t) (account_keys xs)

purses_are : (xs : List SavedAccount) → map purse (map account_of xs) ≡ map purse_of xs
purses_are [] = refl
purses_are (a ∷ xs) = ap (λ t. purse_of a ∷ t) (purses_are xs)

script_keys : (cs : List SavedContract) → keys_of (map script_of cs) ≡ keys_of (map contract_of cs)
script_keys [] = refl
script_keys (c ∷ cs) = ap (λ t. c.hash ∷ t) (script_keys cs)

scripts_in : (cs : List (List ℕ × Contract)) → map (λ c. c.1.script) cs ≡ map (λ e. e.1) (map script_in cs)
scripts_in [] = refl
scripts_in (c ∷ cs) = ap (λ t. c.1.script ∷ t) (scripts_in cs)

scripts_of : (cs : List SavedContract) → map (λ e. e.1) (map script_of cs) ≡ map (λ c. c.contract.script) cs
scripts_of [] = refl
scripts_of (c ∷ cs) = ap (λ t. c.contract.script ∷ t) (scripts_of cs)

account_sums : (xs : List SavedAccount) → sum_by (λ a. a.balance) (values_of (map account_of xs)) ≡ sum_by price xs
account_sums [] = refl
account_sums (a ∷ xs) =
    sum_by-cons (λ (x : Account). x.balance) (account_of a).1 (values_of (map account_of xs)) ∙ ap (λ n. a.balance + n) (account_sums xs)
    ∙ sym (sum_by-cons price a xs)

contract_sums : (cs : List SavedContract) → sum_by (λ c. c.balance) (values_of (map contract_of cs)) ≡ sum_by worth cs
contract_sums [] = refl
contract_sums (c ∷ cs) =
    sum_by-cons (λ (x : PlainContract). x.balance) (contract_of c).1 (values_of (map contract_of cs)) ∙ ap (λ n. c.contract.balance + n) (contract_sums cs)
    ∙ sym (sum_by-cons worth c cs)

-- as much is there as the world has
supply_is : (s : Saved) → supply (world_of s) ≡ supply_of s
supply_is s = λ i. account_sums s.accounts i + contract_sums s.contracts i + s.fees + s.burned

pub supply_fits : (s : Saved) → IsRestorable s → supply_of s ≤ most_mutez
supply_fits s r = subst (λ (n : ℕ). n ≤ most_mutez) (supply_is s) r.good.sound.mutez

-- ---- what accounts and contracts have

account_gifts : (xs : List SavedAccount) → All IsAccount (map account_of xs) → AllByRecursion (IsGift account_of account_gift implicit_place amount_held) xs
account_gifts [] h = tt
account_gifts (a ∷ xs) h =
    let sorted : IsStrictlySortedBy identity_order (keys_of (map holding (map ticket_of a.held)))
    = subst (λ (hs : List (Identity × ℤ)). IsStrictlySortedBy identity_order (keys_of hs)) (sym (holdings_are a.held)) (All-head IsAccount (account_of a) (map account_of xs) h).2 in (
      record {
        owner = refl;
        amounts = λ id. among_held id (map ticket_of a.held) a.balance sorted
            ∙ ap (λ (hs : List (Identity × ℤ)). amount_held (record { balance = a.balance; holdings = hs }) id) (holdings_are a.held);
      },
      account_gifts xs (All-tail IsAccount (account_of a) (map account_of xs) h),
    )

contract_gifts : (cs : List SavedContract) → AllByRecursion (IsGift contract_of contract_gift contract_place amount_stored) cs
contract_gifts [] = tt
contract_gifts (c ∷ cs) = (record { owner = refl; amounts = λ id. refl }, contract_gifts cs)

holdings_positive : (hs : List (TicketId × ℤ)) → All IsHolding (map holding_of hs) → AllByRecursion IsPositive (map ticket_of hs)
holdings_positive [] h = tt
holdings_positive (x ∷ hs) h = ((All-head IsHolding (holding_of x) (map holding_of hs) h).1, holdings_positive hs (All-tail IsHolding (holding_of x) (map holding_of hs) h))

accounts_positive : (xs : List SavedAccount) → All IsAccount (map account_of xs) → ArePositive (map account_gift xs)
accounts_positive [] h = tt
accounts_positive (a ∷ xs) h =
    (holdings_positive a.held (All-head IsAccount (account_of a) (map account_of xs) h).1, accounts_positive xs (All-tail IsAccount (account_of a) (map account_of xs) h))

contracts_positive : (w : PlainWorld) (cs : List SavedContract) → All (IsGoodContract w) (map contract_of cs) → ArePositive (map contract_gift cs)
contracts_positive w [] h = tt
contracts_positive w (c ∷ cs) h =
    let g = All-head (IsGoodContract w) (contract_of c) (map contract_of cs) h in (
      positives (tickets (val c.contract.storage)) (tickets_good (known_with w []) g.0.storage (val c.contract.storage) g.3),
      contracts_positive w cs (All-tail (IsGoodContract w) (contract_of c) (map contract_of cs) h),
    )

-- ---- arithmetic

bound : (a b x y h m n l : ℤ) → a ≡ x → b ≡ y → h ≡ x +ℤ y → h +ℤ pos 0 ≡ m -ℤ n → pos 0 ≤ℤ n → m ≤ℤ l → (a +ℤ b) ≤ℤ l
bound a b x y h m n l e f g i p q = omega (arith, ints, e, f, g, i, p, q)

first_room : (h g a b l : ℤ) → h ≡ pos 0 → g ≤ℤ a → pos 0 ≤ℤ b → (a +ℤ b) ≤ℤ l → (h +ℤ g) ≤ℤ l
first_room h g a b l e p q r = omega (arith, ints, e, p, q, r)

second_room : (h k g f a b l : ℤ) → k ≡ h +ℤ g → h ≡ pos 0 → g ≤ℤ a → f ≤ℤ b → (a +ℤ b) ≤ℤ l → (k +ℤ f) ≤ℤ l
second_room h k g f a b l i e p q r = omega (arith, ints, i, e, p, q, r)

from_nothing : (x l : ℤ) → x ≤ℤ l → (pos 0 +ℤ x) ≤ℤ l
from_nothing x l h = omega (arith, ints, h)

nothing_first : (x y : ℤ) → x ≡ pos 0 +ℤ y → x ≡ y
nothing_first x y e = omega (arith, ints, e)

both_of : (h k g f x z : ℤ) → z ≡ k +ℤ f → k ≡ h +ℤ g → h ≡ pos 0 → g +ℤ f ≡ x → z ≡ x
both_of h k g f x z e i p q = omega (arith, ints, e, i, p, q)

begun_total : (f b : ℕ) → 0 + 0 + f + b ≡ f + b
begun_total f b = omega arith

accounts_funds : (t f b a c g : ℕ) → t ≡ f + b → g ≡ a + c + f + b → t + a ≤ g
accounts_funds t f b a c g e i = omega (arith, e, i)

contracts_funds : (t u f b a c g h : ℕ) → t ≡ f + b → g ≡ a + c + f + b → u ≤ t + a → h ≡ g → u + c ≤ h
contracts_funds t u f b a c g h e i p q = omega (arith, e, i, p, q)

-- ---- the stages

module _ (s : Saved) (r : IsRestorable s) where
  abbrev whole : PlainWorld
  whole = world_of s

  abbrev from_accounts : List Gift
  from_accounts = map account_gift s.accounts

  abbrev from_contracts : List Gift
  from_contracts = map contract_gift s.contracts

  positive_accounts : ArePositive from_accounts
  positive_accounts = accounts_positive s.accounts r.good.sound.form.accounts

  positive_contracts : ArePositive from_contracts
  positive_contracts = contracts_positive whole s.contracts r.good.sound.contracts

  all_fit : (j : Identity) → (all_given j from_accounts +ℤ all_given j from_contracts) ≤ℤ most
  all_fit j =
      bound (all_given j from_accounts) (all_given j from_contracts) (held_by_accounts j whole.accounts) (held_by_contracts j whole.contracts) (held whole j)
      (minted_ever whole j) (burnt_ever whole j) most
      (accounts_hold account_of account_gift j s.accounts (account_gifts s.accounts r.good.sound.form.accounts))
      (contracts_hold contract_of contract_gift j s.contracts (contract_gifts s.contracts))
      refl (r.good.tickets j) (burnt_positive j whole.log r.good.sound.form.log) (r.good.sound.minted j)

  module _ (u : World) (begun : IsBegun s u) where
    ledger_is : u.ledger.books.present ≡ no_books
    ledger_is = ap (λ (w : World). w.ledger.books.present) begun.others

    pub totals_fit : Fit s.totals u.ledger.books.present
    totals_fit = subst (λ (b : Books). Fit s.totals b) (sym ledger_is) (λ j. from_nothing (minted_in j whole.log) most (r.good.sound.minted j))

    pub none_burnt : AreWithin u.ledger.books.present
    none_burnt = subst (λ (b : Books). AreWithin b) (sym ledger_is) (λ j. omega (arith, ints))

    begun_is : total u.funds.present ≡ s.fees + s.burned
    begun_is = ap total begun.funds ∙ begun_total s.fees s.burned

    granted_is : u.funds.present.granted ≡ supply_of s
    granted_is = ap (λ (h : Holders). h.granted) begun.funds

    module _ (v : World) (state : State) (is : v ≡ record u { ledger = state }) (adds : Adds (flat_map told_of s.totals) u.ledger.books.present v.ledger.books.present) where
      abbrev old : Books
      old = v.ledger.books.present

      told : Adds whole.log no_books old
      told = subst (λ (b : Books). Adds whole.log b old) ledger_is adds

      funds_same : v.funds.present ≡ begun_holders s
      funds_same = ap (λ (w : World). w.funds.present) is ∙ begun.funds

      nothing_held : (j : Identity) (o : List ℕ) → held_of old j o ≡ pos 0
      nothing_held j o = told.held j o

      v_total : total v.funds.present ≡ s.fees + s.burned
      v_total = ap total funds_same ∙ begun_total s.fees s.burned

      v_granted : v.funds.present.granted ≡ supply_of s
      v_granted = ap (λ (h : Holders). h.granted) funds_same

      pub may_accounts : MayPutAccounts s.accounts v
      may_accounts = record {
        funds = accounts_funds (total v.funds.present) s.fees s.burned (sum_by price s.accounts) (sum_by worth s.contracts) v.funds.present.granted v_total v_granted;
        tickets = record {
          positive = positive_accounts;
          fits = λ j o. first_room (held_of old j o) (given j o from_accounts) (all_given j from_accounts) (all_given j from_contracts) most
              (nothing_held j o) (given_most j o from_accounts positive_accounts) (all_given_least j from_contracts positive_contracts) (all_fit j);
        };
      }

      module _ (w : World) (p : PutsAccounts s.accounts v w) where
        no_contracts : w.funds.present.contracts ≡ []
        no_contracts = ap (λ (h : Holders). h.contracts) p.funds ∙ ap (λ (h : Holders). h.contracts) funds_same

        pub may_contracts : MayPutContracts s.contracts w
        may_contracts = record {
          funds = contracts_funds (total v.funds.present) (total w.funds.present) s.fees s.burned (sum_by price s.accounts) (sum_by worth s.contracts)
              v.funds.present.granted w.funds.present.granted v_total v_granted p.within (ap (λ (h : Holders). h.granted) p.funds);
          tickets = record {
            positive = positive_contracts;
            fits = λ j o. second_room (held_of old j o) (held_of w.ledger.books.present j o) (given j o from_accounts) (given j o from_contracts)
                (all_given j from_accounts) (all_given j from_contracts) most (p.tickets.held j o) (nothing_held j o)
                (given_most j o from_accounts positive_accounts) (given_most j o from_contracts positive_contracts) (all_fit j);
          };
          alone = r.contracts;
          stored = subst (λ (cs : List (List ℕ × Contract)). AllByRecursion (λ (c : List ℕ × Contract). IsStored w.store.bases.present c.1) cs) (sym no_contracts) tt;
        }

        module _ (x : World) (q : PutsContracts s.contracts w x) where
          time : SameTime v x
          time = time_then v w x p.time q.time

          funds_are : x.funds.present ≡ record (record (begun_holders s) { accounts = put_all by_bytes [] (map purse_of s.accounts) }) { contracts = x.funds.present.contracts }
          funds_are =
              q.funds
              ∙ ap (λ (h : Holders). record h { contracts = x.funds.present.contracts })
              (p.funds ∙ ap (λ (h : Holders). record h { accounts = put_all by_bytes h.accounts (map purse_of s.accounts) }) funds_same)

          purses_sorted : IsStrictlySortedBy by_bytes (keys_of (map purse_of s.accounts))
          purses_sorted = subst (λ (ks : List (List ℕ)). IsStrictlySortedBy by_bytes ks) (sym (account_keys s.accounts)) r.good.sound.form.accounts_in_order

          scripts_sorted : IsStrictlySortedBy by_bytes (keys_of (map script_of s.contracts))
          scripts_sorted = subst (λ (ks : List (List ℕ)). IsStrictlySortedBy by_bytes ks) (sym (script_keys s.contracts)) r.good.sound.form.contracts_in_order

          contracts_are : plain_contracts x ≡ map contract_of s.contracts
          contracts_are =
              q.contracts
              ∙ ap (λ (cs : List (List ℕ × Contract)). put_all by_bytes (map (contract_in w.store.bases.present) cs) (map contract_of s.contracts)) no_contracts
              ∙ put_sorted by_bytes nat_list_cmp_total (map contract_of s.contracts) r.good.sound.form.contracts_in_order

          scripts_are : map script_in x.funds.present.contracts ≡ map script_of s.contracts
          scripts_are =
              q.scripts ∙ ap (λ (cs : List (List ℕ × Contract)). put_all by_bytes (map script_in cs) (map script_of s.contracts)) no_contracts
              ∙ put_sorted by_bytes nat_list_cmp_total (map script_of s.contracts) scripts_sorted

          totals_are : (j : Identity) → Rattle.mich_tickets.specs.Sums.totals_of x.ledger.books.present j ≡ Rattle.mich_tickets.specs.Sums.totals_of old j
          totals_are j = q.tickets.totals j ∙ p.tickets.totals j

          ticketless_is : HoldNoTickets w.store.bases.present
          ticketless_is =
              subst (λ (z : Rattle.mich_bigmap.specs.Stored.Stored). HoldNoTickets z.bases.present)
              (sym (p.store ∙ ap (λ (z : World). z.store) is ∙ ap (λ (z : World). z.store) begun.others)) tt

          pub restored : IsRestored s x
          restored = record {
            stands = record {
              chain = sym (time.chain ∙ ap (λ (z : World). z.chain) is ∙ ap (λ (z : World). z.chain) begun.others);
              level = sym (time.level ∙ ap (λ (z : World). z.level) is ∙ ap (λ (z : World). z.level) begun.others);
              moment = sym (time.moment ∙ ap (λ (z : World). z.moment) is ∙ ap (λ (z : World). z.moment) begun.others);
              those = record {
                accounts = purses_are s.accounts ∙ sym (put_sorted by_bytes nat_list_cmp_total (map purse_of s.accounts) purses_sorted)
                    ∙ sym (ap (λ (h : Holders). h.accounts) funds_are);
                contracts = sym contracts_are;
                fees = sym (ap (λ (h : Holders). h.fees) funds_are);
                storage_burn = sym (ap (λ (h : Holders). h.storage_burn) funds_are);
                granted = sym (ap (λ (h : Holders). h.granted) funds_are);
                rate = sym (ap (λ (h : Holders). h.rate) funds_are);
                held = λ id o place. both_of (held_of old id o) (held_of w.ledger.books.present id o) (given id o from_accounts) (given id o from_contracts)
                    (held_by whole id o) (held_of x.ledger.books.present id o) (q.tickets.held id o) (p.tickets.held id o) (nothing_held id o)
                    (given_is account_of account_gift contract_of contract_gift s.accounts s.contracts whole refl refl
                    (account_gifts s.accounts r.good.sound.form.accounts) (contract_gifts s.contracts)
                    r.good.sound.form.accounts_in_order r.good.sound.form.contracts_in_order id o place);
                minted = λ id. ap (λ (t : Totals). t.minted) (totals_are id) ∙ nothing_first (minted_of old id) (minted_in id whole.log) (told.minted id);
                burnt = λ id. ap (λ (t : Totals). t.burnt) (totals_are id) ∙ nothing_first (burnt_of old id) (burnt_in id whole.log) (told.burnt id);
                listed = q.tickets.listed ∙ p.tickets.listed ∙ told.listed;
              };
            };
            stored = q.stored;
            ticketless = q.ticketless ticketless_is;
            scripts = scripts_in x.funds.present.contracts ∙ ap (map (λ e. e.1)) scripts_are ∙ scripts_of s.contracts;
          }

-- ---- the end of all marks

pub stays : (u v : World) → v.chain ≡ u.chain → v.level ≡ u.level → v.moment ≡ u.moment → v.funds ≡ kept u.funds → v.ledger.books ≡ kept u.ledger.books
    → AllByRecursion (Stands u.store.bases.present v.store.bases.present) u.funds.present.contracts → (AreStored u → AreStored v)
    → (HoldNoTickets u.store.bases.present → HoldNoTickets v.store.bases.present) → StaysRestored u v
stays u v c l m f b still stored ticketless s r = record {
  stands = keeping_agrees u v (world_of s) r.stands r.stored c l m f b still;
  stored = stored r.stored;
  ticketless = ticketless r.ticketless;
  scripts = ap (λ (h : History Holders). map (λ (e : List ℕ × Contract). e.1.script) h.present.contracts) f ∙ r.scripts;
}
