-- What a world stands for after each call.
use Rattle.std.proofs.Common.{◌≡◌, ◌||◌, ◌≤◌, ◌<◌, ◌+◌, ◌-◌, nat_le, ℕ, ℤ, pos, ◌+ℤ◌, ◌≤ℤ◌, List, [], ◌∷◌, ◌++◌, length, map, Bool, true, false, option_map, is_some, None, Some, refl, sym, ap, ◌∙◌, subst, arith}
use Rattle.std.specs.Prelude.{if◌then◌else◌, Result, Ok, Err}
use Rattle.std.specs.declared.option.Option.{Option}
use Rattle.std.specs.List.Sorted.{IsStrictlySortedBy}
use Rattle.std.specs.BTreeMap.{is_at}
use Rattle.std.specs.Str.{bytes_eq}
use Rattle.std.proofs.lemmas.Cmp.{nat_list_cmp_total}
use Rattle.std.proofs.lemmas.Slice.Eq.{bytes_eq-Decides}
use Rattle.std.specs.Map.{keys_of}
use Rattle.std.specs.List.{All, AllByRecursion}
use Rattle.std.proofs.lemmas.Bool.{leb-true, le-leb}
use Rattle.std.proofs.lemmas.List.Elements.{All-append}
use Rattle.rules_text.specs.nodes.Limits.{most_mutez}
use Rattle.rules_code.specs.evaluation.Contracts.{hash_in}
use Rattle.rules_code.specs.evaluation.Surroundings.{Contract as PlainContract}
use Rattle.rules_data.specs.forms.Spelling.{implicit_place, contract_place, is_implicit, is_key_hash, is_place}
use Rattle.rules_code.specs.steps.Changes.{Change, minted_in, burnt_in, identity_of, amount_in}
use Rattle.rules_data.specs.values.Tickets.{Identity, tickets}
use Rattle.rules_data.specs.values.Val.{Val}
use Rattle.rules_world.specs.world.Balances as rules
use Rattle.rules_world.specs.world.Forms.{IsWorld, IsChange}
use Rattle.rules_world.specs.world.Growth.{burnt_from, paid_for, with_paid}
use Rattle.rules_world.specs.world.Holdings.{amount_held, held_by_account, held_by_contract, credited, debited}
use Rattle.rules_world.specs.world.World.{World as PlainWorld, new_world, Account, account_at as plain_account_at, account_or_none, contract_at as plain_contract_at, with_contract, key_hash_in}
use Rattle.laws_world.proofs.accounts.ForCallers.{minted_append, burnt_append}
use Rattle.mich_bigmap.specs.Bases.{Bases}
use Rattle.mich_bigmap.specs.Extended.{Extends}
use Rattle.mich_bigmap.specs.Standing.{val_in}
use Rattle.mich_bigmap.proofs.ForCallers.{based_later}
use Rattle.mich_forms.specs.Spelled.{place_bytes}
use Rattle.mich_forms.specs.declared.places.Place.TheVariants as place
use Rattle.mich_instr.specs.View.{script_node}
use Rattle.mich_term.specs.ValueView.{val}
use Rattle.mich_tickets.specs.Books.{Books, State}
use Rattle.mich_tickets.specs.Sums.{held_of}
use Rattle.mich_base.specs.undo.Undone.{changed_at}
use Rattle.mich_base.specs.undo.History.{History}
use Rattle.mich_world.specs.Answers.{IsGrant}
use Rattle.mich_world.specs.Holders.{Holders, by_bytes, account_at, contract_at, balance_or_none, with_less, with_account, with_change, with_contract as with_code_contract, with_rate, burnt, endowed, committed, repaid, storage_paid}
use Rattle.mich_world.specs.Marks.{mark_of}
use Rattle.mich_world.specs.Standing.{plain, contract_in, AreThose, StandsFor}
use Rattle.mich_world.specs.Storages.{IsStored, stored_tickets}
use Rattle.mich_world.specs.World.{World, with_funds, with_ledger}
use Rattle.mich_world.specs.declared.contract.Contract.{Contract}
use Rattle.mich_world.specs.declared.errors.GrantError.{GrantError}
use Rattle.mich_world.specs.declared.errors.GrantError.TheVariants as grant
use Rattle.mich_world.proofs.ForCallers.{less_is, undone_is, contracts_there, seen_changed, written_over}
use Rattle.mich_world.specs.simulation.Laws.{NewWorldsAgree, ClocksAgree, RatesAgree, PaymentsAgree, ContractsAgree, AccountsAgree, ReceiversAgree, Grants, GrantsAgree, InstallsAgree, CommitsAgree, RunsAgree, RunsKeepStored, RunEndsAgree, CreditsAgree, DebitsAgree, SameWorldsAgree, MarksAgree, KeepingAgrees}
use Rattle.mich_world.proofs.simulation_lemmas.Accounts.{keys_seen, account_is, account_held, credit_those, debit_those, balance_those, holder_there}
use Rattle.mich_world.proofs.simulation_lemmas.Contracts.{contract_is, later, standing, balance_same, nobody, length_is, amounts, before_held, storage_held, contract_those, made_held, replaced_held, made_contracts, replaced_contracts}
use Rattle.laws_data.proofs.forms_lemmas.ForCallers.{contract_is as contract_place_is, implicit_is}
use Rattle.mich_world.proofs.simulation_lemmas.Runs.{listed_more}
use Rattle.mich_world.proofs.simulation_lemmas.Owners.{place_length, implicit_of, hash_of}

-- ---- new worlds and the clock

pub new_worlds_agree : NewWorldsAgree
new_worlds_agree chain level moment = record {
  chain = refl;
  level = refl;
  moment = refl;
  those = record {
    accounts = refl;
    contracts = refl;
    fees = refl;
    storage_burn = refl;
    granted = refl;
    rate = refl;
    held = λ id o p. by id o (is_implicit o);
    minted = λ id. refl;
    burnt = λ id. refl;
    listed = refl;
  };
}
  where
    by : (id : Identity) (o : List ℕ) (b : Bool) → pos 0
        ≡ (if b then held_by_account (plain_account_at (new_world chain level moment) (key_hash_in o)) id
        else held_by_contract (plain_contract_at (new_world chain level moment) (hash_in o)) id)
    by id o true = refl
    by id o false = refl

pub clocks_agree : ClocksAgree
clocks_agree v w level moment s = record {
  chain = s.chain;
  level = refl;
  moment = refl;
  those = record {
    accounts = s.those.accounts;
    contracts = s.those.contracts;
    fees = s.those.fees;
    storage_burn = s.those.storage_burn;
    granted = s.those.granted;
    rate = s.those.rate;
    held = s.those.held;
    minted = s.those.minted;
    burnt = s.those.burnt;
    listed = s.those.listed;
  };
}

-- ---- parts that stand for the parts of another world

-- where and when are those of a world that one stands for
record SameClock (u v : World) (w x : PlainWorld) : Type 0 where
  pub chain : x.chain ≡ w.chain
  pub level : x.level ≡ w.level
  pub moment : x.moment ≡ w.moment
  pub code_chain : v.chain ≡ u.chain
  pub code_level : v.level ≡ u.level
  pub code_moment : v.moment ≡ u.moment

stands : (u v : World) (w x : PlainWorld) → StandsFor u w → SameClock u v w x → AreThose v.funds.present v.store.bases.present v.ledger.books.present x
    → StandsFor v x
stands u v w x s c t = record {
  chain = c.chain ∙ s.chain ∙ sym c.code_chain;
  level = c.level ∙ s.level ∙ sym c.code_level;
  moment = c.moment ∙ s.moment ∙ sym c.code_moment;
  those = t;
}

-- ---- grants

endowed_those : (h : Holders) (bs : Bases) (b : Books) (w : PlainWorld) (who : List ℕ) (n : ℕ) → is_key_hash who ≡ true → AreThose h bs b w
    → AreThose (endowed h who n) bs b (rules.endowed w who n)
endowed_those h bs b w who n key t =
    let a = balance_those h (with_account h who n) bs b w who n key t refl refl refl refl refl refl in
    record {
      accounts = a.accounts;
      contracts = a.contracts;
      fees = a.fees;
      storage_burn = a.storage_burn;
      granted = ap (λ (m : ℕ). m + n) t.granted;
      rate = t.rate;
      held = a.held;
      minted = a.minted;
      burnt = a.burnt;
      listed = a.listed;
    }

above : (a b : ℕ) → b < a → nat_le a b ≡ false
above a b h = by (nat_le a b) refl
  where
    by : (c : Bool) → nat_le a b ≡ c → c ≡ false
    by true e = let le : a ≤ b = leb-true a b e in absurd (omega arith)
    by false e = refl

there_is : (o : Option Account) → is_some (option_map (λ (x : Account). x.balance) o) ≡ is_some o
there_is None = refl
there_is (Some a) = refl

module _ (u v : World) (w : PlainWorld) (who : List ℕ) (mutez : ℕ) (key : is_key_hash who ≡ true) (s : StandsFor u w) (e : v ≡ with_funds u v.funds) where
  same_there : is_some (plain_account_at w who) ≡ is_some (account_at u.funds.present who)
  same_there = sym (ap is_some (account_is u.funds.present u.store.bases.present u.ledger.books.present w who s.those) ∙ there_is (plain_account_at w who))

  there_by : (a b : Bool) → is_some (account_at u.funds.present who) ≡ a → nat_le (w.granted + mutez) most_mutez ≡ b
      → rules.granted_to w who mutez ≡ (if a then rules.Repeated else if b then rules.Granted (rules.endowed w who mutez) else rules.TooMuch)
  there_by a b p q = rw (same_there ∙ p, q) refl

  granted_is : v.funds.present ≡ endowed u.funds.present who mutez → StandsFor v (rules.endowed w who mutez)
  granted_is p =
      stands u v w (rules.endowed w who mutez) s
      (record {
        chain = refl;
        level = refl;
        moment = refl;
        code_chain = ap (λ (y : World). y.chain) e;
        code_level = ap (λ (y : World). y.level) e;
        code_moment = ap (λ (y : World). y.moment) e;
      })
      (subst (λ (k : Holders). AreThose k v.store.bases.present v.ledger.books.present (rules.endowed w who mutez)) (sym p)
      (subst (λ (y : World). AreThose (endowed u.funds.present who mutez) y.store.bases.present y.ledger.books.present (rules.endowed w who mutez)) (sym e)
      (endowed_those u.funds.present u.store.bases.present u.ledger.books.present w who mutez key s.those)))

  by_answer : (r : Result (Unit {0}) GrantError) → IsGrant who mutez u.funds v.funds r → Grants v (rules.granted_to w who mutez) r
  by_answer (Ok x) a =
      let fits : (w.granted + mutez) ≤ most_mutez = subst (λ (n : ℕ). (n + mutez) ≤ most_mutez) (sym s.those.granted) a.1 in
      let test : nat_le (w.granted + mutez) most_mutez ≡ true = le-leb (w.granted + mutez) most_mutez fits in
      subst (λ (g : rules.Grant). Grants v g (Ok x)) (sym (there_by false true a.0 test)) (granted_is a.2)
  by_answer (Err grant.RepeatedAccount) a =
      subst (λ (g : rules.Grant). Grants v g (Err grant.RepeatedAccount)) (sym (there_by true (nat_le (w.granted + mutez) most_mutez) a.0 refl)) tt
  by_answer (Err grant.SupplyLimit) a =
      let over : most_mutez < (w.granted + mutez) = subst (λ (n : ℕ). most_mutez < (n + mutez)) (sym s.those.granted) a.1 in
      let test : nat_le (w.granted + mutez) most_mutez ≡ false = above (w.granted + mutez) most_mutez over in
      subst (λ (g : rules.Grant). Grants v g (Err grant.SupplyLimit)) (sym (there_by false false a.0 test)) tt
  by_answer (Err grant.Memory) a = any_answer (rules.granted_to w who mutez)
    where
      any_answer : (g : rules.Grant) → Grants v g (Err grant.Memory)
      any_answer (rules.Granted x) = tt
      any_answer rules.Repeated = tt
      any_answer rules.TooMuch = tt

pub grants_agree : GrantsAgree
grants_agree u v w who mutez r s key e a = by_answer u v w who mutez key s e r a

-- ---- who is there

pub contracts_agree : ContractsAgree
contracts_agree v w hash s = contract_is v.funds.present v.store.bases.present v.ledger.books.present w hash s.those

pub accounts_agree : AccountsAgree
accounts_agree v w who s = account_is v.funds.present v.store.bases.present v.ledger.books.present w who s.those

some_same : {A B : Type 0} (f : A → B) (o : Option A) → is_some o ≡ is_some (option_map f o)
some_same f None = refl
some_same f (Some x) = refl

pub receivers_agree : ReceiversAgree
receivers_agree v w (place.Implicit who) s p = sym (ap (λ (b : Bool). b || is_some (plain_contract_at w (hash_in (implicit_place who)))) (implicit_of who p))
receivers_agree v w (place.Contract hash) s p =
    some_same (plain v.store.bases.present) (contract_at v.funds.present hash)
    ∙ ap is_some (sym (contracts_agree v w hash s) ∙ ap (plain_contract_at w) (sym (hash_of hash (place_length hash p))))

-- ---- contracts

sorted_of : (h : Holders) (bs : Bases) (b : Books) (w : PlainWorld) → AreThose h bs b w → IsWorld w → IsStrictlySortedBy by_bytes (keys_of h.contracts)
sorted_of h bs b w t i = subst (λ (ks : List (List ℕ)). IsStrictlySortedBy by_bytes ks) (ap keys_of t.contracts ∙ keys_seen (plain bs) h.contracts) i.contracts_in_order

abbrev written : PlainWorld → List ℕ → ℕ → Bool → Option PlainContract → PlainWorld
written w q n b o = if b then rules.with_account_balance w (key_hash_in q) n else rules.with_contract_balance w (hash_in q) n o

-- after a balance was set
clock_balance : (w : PlainWorld) (q : List ℕ) (n : ℕ) → ((rules.with_balance w q n).chain ≡ w.chain) × ((rules.with_balance w q n).level ≡ w.level) × ((rules.with_balance w q n).moment ≡ w.moment)
clock_balance w q n = by (is_implicit q) (plain_contract_at w (hash_in q))
  where
    by : (b : Bool) (o : Option PlainContract) → ((written w q n b o).chain ≡ w.chain) × ((written w q n b o).level ≡ w.level) × ((written w q n b o).moment ≡ w.moment)
    by true o = (refl, refl, refl)
    by false None = (refl, refl, refl)
    by false (Some c) = (refl, refl, refl)

pub installs_agree : InstallsAgree
installs_agree u v w from hash mutez script given s i stored ticketless is there twenty absent formed installs =
    let h = u.funds.present in
    let bs = u.store.bases.present in
    let ns = v.store.bases.present in
    let b = u.ledger.books.present in
    let t = s.those in
    let less = less_is h bs b w t (sorted_of h bs b w t i) from mutez is there in
    let x = rules.with_less w (place_bytes from) mutez in
    let storage = val_in bs given in
    let d : PlainContract = record { balance = mutez; paid = 0; script = script_node script; storage = storage } in
    let c : Contract = record { balance = mutez; paid = 0; script = script; storage = installs.storage } in
    let none : plain_contract_at x hash ≡ None
    = nobody (with_less h from mutez) bs b x hash less (contracts_there h from (balance_or_none h from - mutez) hash ∙ absent) in
    let same = balance_same bs ns h from (balance_or_none h from - mutez) (later bs ns h.contracts installs.lays.others stored) in
    let clock = clock_balance w (place_bytes from) (rules.balance_or_none w (place_bytes from) - mutez) in
    stands u v w (with_contract x hash d) s
    (record {
      chain = clock.0;
      level = clock.1;
      moment = clock.2;
      code_chain = installs.same.chain;
      code_level = installs.same.level;
      code_moment = installs.same.moment;
    })
    (subst (λ (k : Holders). AreThose k ns v.ledger.books.present (with_contract x hash d)) (sym installs.funds)
    (contract_those (with_less h from mutez) (with_code_contract (with_less h from mutez) hash c) bs ns b v.ledger.books.present x hash d twenty less
    refl refl refl refl refl
    (made_contracts bs ns (with_less h from mutez) x.contracts hash c d less.contracts same
    (ap (λ (y : Val). record { balance = mutez; paid = 0; script = script_node script; storage = y }) installs.settles.same))
    (λ id o p. made_held b v.ledger.books.present x hash (tickets (val given)) storage twenty none
    (λ j. less.held j (contract_place hash) (contract_place_is hash twenty)) (λ j. amounts bs given j ticketless formed) installs.enters id o)
    installs.enters.totals installs.enters.listed))

pub commits_agree : CommitsAgree
commits_agree u v w hash given before s i stored ticketless there formed commits =
    let h = u.funds.present in
    let bs = u.store.bases.present in
    let ns = v.store.bases.present in
    let b = u.ledger.books.present in
    let c = v.ledger.books.present in
    let t = s.those in
    let twenty = length_is w hash before i there in
    let storage = val_in bs given in
    let d : PlainContract = record before { storage = storage } in
    let same = later bs ns h.contracts commits.lays.others stored in
    stands u v w (with_contract w hash d) s
    (record {
      chain = refl;
      level = refl;
      moment = refl;
      code_chain = commits.same.chain;
      code_level = commits.same.level;
      code_moment = commits.same.moment;
    })
    (subst (λ (k : Holders). AreThose k ns c (with_contract w hash d)) (sym commits.funds)
    (contract_those h (committed h hash commits.storage) bs ns b c w hash d twenty t refl refl refl refl refl
    (replaced_contracts bs ns h b w hash before commits.storage storage t i there same commits.settles.same)
    (λ id o p. replaced_held b c w hash (stored_tickets (contract_at h hash)) (tickets (val given)) before storage twenty there
    (λ j. t.held j (contract_place hash) (contract_place_is hash twenty)) (λ j. before_held h bs b w hash before j t stored ticketless there)
    (λ j. amounts bs given j ticketless formed) commits.replaces id o)
    (λ id. commits.replaces.entered.totals id ∙ commits.replaces.left.totals id) (commits.replaces.entered.listed ∙ commits.replaces.left.listed)))

-- ---- runs

pub runs_agree : RunsAgree
runs_agree u v w changes s stored r =
    let t = s.those in
    record {
      chain = s.chain ∙ sym r.chain;
      level = s.level ∙ sym r.level;
      moment = s.moment ∙ sym r.moment;
      those = subst (λ (k : Holders). AreThose k v.store.bases.present v.ledger.books.present (record w { log = w.log ++ changes })) (sym r.funds)
          (record {
            accounts = t.accounts;
            contracts = t.contracts ∙ sym (later u.store.bases.present v.store.bases.present u.funds.present.contracts r.bases stored);
            fees = t.fees;
            storage_burn = t.storage_burn;
            granted = t.granted;
            rate = t.rate;
            held = λ id o p. r.adds.held id o ∙ t.held id o p;
            minted = λ id. r.adds.minted id ∙ ap (λ (z : ℤ). z +ℤ minted_in id changes) (t.minted id) ∙ sym (minted_append id w.log changes);
            burnt = λ id. r.adds.burnt id ∙ ap (λ (z : ℤ). z +ℤ burnt_in id changes) (t.burnt id) ∙ sym (burnt_append id w.log changes);
            listed = r.adds.listed ∙ listed_more u.ledger.books.present w changes t.minted t.listed;
          });
    }

-- the storages stay settled
stored_later : (old new : Bases) (cs : List (List ℕ × Contract)) → Extends old new → AllByRecursion (λ e. IsStored old e.1) cs → AllByRecursion (λ e. IsStored new e.1) cs
stored_later old new [] x h = tt
stored_later old new (c ∷ cs) x h = (record { formed = h.0.formed; based = based_later old new c.1.storage x h.0.based; shared = h.0.shared }, stored_later old new cs x h.1)

pub runs_keep_stored : RunsKeepStored
runs_keep_stored u v changes stored r =
    subst (λ (k : Holders). AllByRecursion (λ (c : List ℕ × Contract). IsStored v.store.bases.present c.1) k.contracts) (sym r.funds)
    (stored_later u.store.bases.present v.store.bases.present u.funds.present.contracts r.bases stored)

world_log : (w : PlainWorld) (changes : List Change) → IsWorld w → All IsChange changes → IsWorld (record w { log = w.log ++ changes })
world_log w changes i h = record {
  chain = i.chain;
  level = i.level;
  moment = i.moment;
  accounts = i.accounts;
  accounts_in_order = i.accounts_in_order;
  contracts = i.contracts;
  contracts_in_order = i.contracts_in_order;
  log = All-append IsChange w.log changes i.log h;
}

pub run_ends_agree : RunEndsAgree
run_ends_agree u v z w changes hash given before s i stored ticketless forms r there formed commits =
    commits_agree v z (record w { log = w.log ++ changes }) hash given before (runs_agree u v w changes s stored r)
    (world_log w changes i forms) (runs_keep_stored u v changes stored r) ticketless there formed commits

-- ---- tickets of accounts

with_books : (u : World) (w x : PlainWorld) (b : Books) → StandsFor u w → x.chain ≡ w.chain → x.level ≡ w.level → x.moment ≡ w.moment
    → AreThose u.funds.present u.store.bases.present b x → (l : State) → l.books.present ≡ b → StandsFor (with_ledger u l) x
with_books u w x b s c l m t state e = record {
  chain = c ∙ s.chain;
  level = l ∙ s.level;
  moment = m ∙ s.moment;
  those = subst (λ (k : Books). AreThose u.funds.present u.store.bases.present k x) (sym e) t;
}

pub credits_agree : CreditsAgree
credits_agree u w l who t s i key there positive m =
    with_books u w (credited w who t) l.books.present s refl refl refl
    (credit_those u.funds.present u.store.bases.present u.ledger.books.present l.books.present w who t key s.those i there positive m) l refl

pub debits_agree : DebitsAgree
debits_agree u w l who t s i key positive enough m =
    let h = u.funds.present in
    let b = u.ledger.books.present in
    let place_is : is_place (implicit_place who) ≡ true = implicit_is who key in
    let has : t.amount ≤ℤ amount_held (account_or_none w who) (identity_of t)
    = subst (λ (z : ℤ). t.amount ≤ℤ z) (s.those.held (identity_of t) (implicit_place who) place_is ∙ account_held w who (identity_of t) key) enough in
    let there = holder_there h u.store.bases.present b w who t s.those positive has in
    with_books u w (debited w who t) l.books.present s refl refl refl
    (debit_those h u.store.bases.present b l.books.present w who t key s.those i there has m) l refl

-- ---- marks

pub same_worlds_agree : SameWorldsAgree
same_worlds_agree u v w s e = record {
  chain = s.chain ∙ sym e.chain;
  level = s.level ∙ sym e.level;
  moment = s.moment ∙ sym e.moment;
  those =
      subst (λ (k : History Holders). AreThose k.present v.store.bases.present v.ledger.books.present w) (sym e.funds)
      (subst (λ (k : History Bases). AreThose u.funds.present k.present v.ledger.books.present w) (sym e.bases)
      (subst (λ (k : History Books). AreThose u.funds.present u.store.bases.present k.present w) (sym e.books) s.those));
}

pub marks_agree : MarksAgree
marks_agree u v z w s k e = same_worlds_agree u z w s (undone_is (mark_of u) u v z refl k e)

pub keeping_agrees : KeepingAgrees
keeping_agrees u v w s stored c l m f b stand =
    let t = s.those in
    record {
      chain = s.chain ∙ sym c;
      level = s.level ∙ sym l;
      moment = s.moment ∙ sym m;
      those =
          subst (λ (k : History Holders). AreThose k.present v.store.bases.present v.ledger.books.present w) (sym f)
          (subst (λ (k : History Books). AreThose u.funds.present v.store.bases.present k.present w) (sym b)
          (record {
            accounts = t.accounts;
            contracts = t.contracts ∙ sym (standing u.store.bases.present v.store.bases.present u.funds.present.contracts stand stored);
            fees = t.fees;
            storage_burn = t.storage_burn;
            granted = t.granted;
            rate = t.rate;
            held = t.held;
            minted = t.minted;
            burnt = t.burnt;
            listed = t.listed;
          }));
    }

-- ---- the rate, and storage that is paid for

-- a world whose funds were written stands for another
written_stands : (u v : World) (w x : PlainWorld) (h : Holders) → StandsFor u w → x.chain ≡ w.chain → x.level ≡ w.level → x.moment ≡ w.moment
    → v ≡ with_funds u v.funds → v.funds.present ≡ h → AreThose h u.store.bases.present u.ledger.books.present x → StandsFor v x
written_stands u v w x h s c l m e p t =
    stands u v w x s
    (record {
      chain = c;
      level = l;
      moment = m;
      code_chain = ap (λ (y : World). y.chain) e;
      code_level = ap (λ (y : World). y.level) e;
      code_moment = ap (λ (y : World). y.moment) e;
    })
    (subst (λ (k : Holders). AreThose k v.store.bases.present v.ledger.books.present x) (sym p)
    (subst (λ (y : World). AreThose h y.store.bases.present y.ledger.books.present x) (sym e) t))

pub rates_agree : RatesAgree
rates_agree u v w rate s e p =
    let t = s.those in
    written_stands u v w (record w { rate = rate }) (with_rate u.funds.present rate) s refl refl refl e p
    (record {
      accounts = t.accounts;
      contracts = t.contracts;
      fees = t.fees;
      storage_burn = t.storage_burn;
      granted = t.granted;
      rate = refl;
      held = t.held;
      minted = t.minted;
      burnt = t.burnt;
      listed = t.listed;
    })

abbrev resized : ℕ → PlainContract → PlainContract
resized n c = record c { paid = n }

-- a contract that is there has paid for so many bytes
module _ (k : Holders) (bs : Bases) (b : Books) (x : PlainWorld) (hash : List ℕ) (c : Contract) (size : ℕ) (t : AreThose k bs b x)
    (sorted : IsStrictlySortedBy by_bytes (keys_of k.contracts)) (twenty : length hash ≡ 20) (there : contract_at k hash ≡ Some c) where
  there_plain : plain_contract_at x hash ≡ Some (plain bs c)
  there_plain = contract_is k bs b x hash t ∙ ap (option_map (plain bs)) there

  resized_contracts : (with_contract x hash (resized size (plain bs c))).contracts ≡ map (contract_in bs) (with_change (repaid size) k hash).contracts
  resized_contracts =
      let test = is_at (by_bytes hash) in
      let order : IsStrictlySortedBy by_bytes (keys_of x.contracts)
      = subst (λ (ks : List (List ℕ)). IsStrictlySortedBy by_bytes ks) (sym (ap keys_of t.contracts ∙ keys_seen (plain bs) k.contracts)) sorted in
      written_over nat_list_cmp_total hash (resized size) x.contracts (plain bs c) order there_plain
      ∙ ap (λ (es : List (List ℕ × PlainContract)). changed_at test es (resized size)) t.contracts
      ∙ sym (seen_changed (plain bs) test (repaid size) (resized size) (λ y. refl) k.contracts)

  resized_held : (id : Identity) (o : List ℕ) (s : Bool) → bytes_eq o (contract_place hash) ≡ s
      → held_of b id o ≡ (if s then amount_in id (val_in bs c.storage) else held_of b id o)
  resized_held id o true e =
      ap (λ (q : List ℕ). held_of b id q) ((bytes_eq-Decides o (contract_place hash)).0 e) ∙ t.held id (contract_place hash) (contract_place_is hash twenty)
      ∙ storage_held x hash (plain bs c) id twenty there_plain
  resized_held id o false e = refl

  paid_those : AreThose (with_change (repaid size) k hash) bs b (with_contract x hash (resized size (plain bs c)))
  paid_those =
      contract_those k (with_change (repaid size) k hash) bs bs b b x hash (resized size (plain bs c)) twenty t refl refl refl refl refl
      resized_contracts (λ id o p. resized_held id o (bytes_eq o (contract_place hash)) refl) (λ id. refl) refl

all_of_it : (n m : ℕ) → n ≤ m → n + (m - n) ≡ m
all_of_it n m h = omega (arith, h)

clock_paid : (x : PlainWorld) (hash : List ℕ) (n : ℕ) (o : Option PlainContract) →
    ((with_paid x hash n o).chain ≡ x.chain) × ((with_paid x hash n o).level ≡ x.level) × ((with_paid x hash n o).moment ≡ x.moment)
clock_paid x hash n None = (refl, refl, refl)
clock_paid x hash n (Some c) = (refl, refl, refl)

pub payments_agree : PaymentsAgree
payments_agree u v w hash who size burn c s i key there le e p =
    let h = u.funds.present in
    let bs = u.store.bases.present in
    let b = u.ledger.books.present in
    let t = s.those in
    let sorted = sorted_of h bs b w t i in
    let place_is : is_place (implicit_place who) ≡ true = implicit_is who key in
    let less = less_is h bs b w t sorted (place.Implicit who) burn place_is refl in
    let x = burnt_from w (implicit_place who) burn in
    let burnt_those : AreThose (burnt h who burn) bs b x = record {
      accounts = less.accounts;
      contracts = less.contracts;
      fees = less.fees;
      storage_burn = ap (λ (n : ℕ). n + burn) t.storage_burn;
      granted = less.granted;
      rate = less.rate;
      held = less.held;
      minted = less.minted;
      burnt = less.burnt;
      listed = less.listed;
    } in
    let twenty = length_is w hash (plain bs c) i (contract_is h bs b w hash t ∙ ap (option_map (plain bs)) there) in
    let found : plain_contract_at x hash ≡ Some (plain bs c) = contract_is (burnt h who burn) bs b x hash burnt_those ∙ ap (option_map (plain bs)) there in
    let those = paid_those (burnt h who burn) bs b x hash c size burnt_those sorted twenty there in
    let whole : paid_for x hash (size - c.paid) ≡ with_contract x hash (resized size (plain bs c))
    = ap (with_paid x hash (size - c.paid)) found ∙ ap (λ (n : ℕ). with_contract x hash (resized n (plain bs c))) (all_of_it c.paid size le) in
    let one = clock_balance w (implicit_place who) (rules.balance_or_none w (implicit_place who) - burn) in
    let two = clock_paid x hash (size - c.paid) (plain_contract_at x hash) in
    written_stands u v w (paid_for x hash (size - c.paid)) (storage_paid h hash size who (Some burn)) s (two.0 ∙ one.0) (two.1 ∙ one.1) (two.2 ∙ one.2) e p
    (subst (λ (y : PlainWorld). AreThose (storage_paid h hash size who (Some burn)) bs b y) (sym whole) those)
