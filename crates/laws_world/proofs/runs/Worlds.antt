-- Worlds in their form, after an account or a contract is set.
use Rattle.std.proofs.Common.{◌≡◌, ◌≢◌, ℕ, List, [], ◌∷◌, ◌++◌, length, Bool, true, false, cond, Some, None, refl, sym, ap, ◌∙◌, ◌+ℤ◌, unwrap_or, arith}
use Rattle.std.specs.declared.option.Option.{Option}
use Rattle.std.specs.declared.cmp.Ordering.{Ordering}
use Rattle.std.specs.Ordering.{nat_cmp, is_eq}
use Rattle.std.specs.Cmp.{tied_itself}
use Rattle.std.specs.Cmp.Lexicographic.{slice_cmp}
use Rattle.std.specs.BTreeMap.{is_at, insert_entry}
use Rattle.std.specs.List.{All}
use Rattle.std.specs.List.Sorted.{IsStrictlySortedBy}
use Rattle.std.proofs.lemmas.Cmp.{nat_list_cmp_total}
use Rattle.std.proofs.lemmas.Int.{ints}
use Rattle.std.proofs.lemmas.List.Elements.{All-nil, All-weaker, All-append}
use Rattle.std.proofs.lemmas.Map.Lookups.{exact_bytes}
use Rattle.rules_data.specs.forms.Spelling.{is_key_hash}
use Rattle.rules_data.specs.values.Tickets.{Identity}
use Rattle.rules_code.specs.steps.Changes.{Change, amount_in}
use Rattle.rules_code.specs.evaluation.Surroundings.{Contract}
use Rattle.rules_world.specs.world.World.{World, Account, no_account, account_at, contract_at, account_or_none, with_account, with_contract, identity_order}
use Rattle.rules_world.specs.world.Holdings.{amount_held, held_by_accounts, held_by_contracts, held}
use Rattle.rules_world.specs.world.Forms.{IsWorld, IsAccount, IsTwentyBytes, IsHolding, IsChange}
use Rattle.rules_world.specs.world.Good.{Stores, IsGoodContract}
use Rattle.laws_world.proofs.accounts.ForCallers.{all_insert, all_found, sorted_insert, lookup_insert, one_in, all_in, sum_insert, AreHoldings, equal_of, Extends, contract_good_more}

-- a world in its form, whose storages have their types
pub record IsOrderly (w : World) : Type 0 where
  pub form : IsWorld w
  pub contracts : All (IsGoodContract w) w.contracts

-- ---- keys

-- bytes that are found by others are these
pub found_same : (q k : List ℕ) → is_at (slice_cmp nat_cmp q) k ≡ true → q ≡ k
found_same q k h = exact_bytes q k (equal_of (slice_cmp nat_cmp q k) h)

pub at_itself : (k : List ℕ) → is_at (slice_cmp nat_cmp k) k ≡ true
at_itself k = ap is_eq (tied_itself nat_list_cmp_total k)

-- ---- who is there

pub sorted_nothing : {K : Type 0} (R : K → K → Ordering) → IsStrictlySortedBy R []
unfolding IsStrictlySortedBy
sorted_nothing R = tt

module _ (w : World) (o : IsOrderly w) where
  pub contract_stores : (hash : List ℕ) (c : Contract) → contract_at w hash ≡ Some c → Stores w c.script c.storage
  contract_stores hash c h = (all_found (is_at (slice_cmp nat_cmp hash)) (IsGoodContract w) w.contracts c o.contracts h).1

  pub contract_length : (hash : List ℕ) (c : Contract) → contract_at w hash ≡ Some c → length hash ≡ 20
  contract_length hash c h =
      let f = all_found (is_at (slice_cmp nat_cmp hash)) IsTwentyBytes w.contracts c o.form.contracts h in
      ap length (found_same hash f.0 f.2) ∙ f.1

  pub account_holdings : (who : List ℕ) → AreHoldings (account_or_none w who)
  account_holdings who = by (account_at w who) refl
    where
      by : (a : Option Account) → account_at w who ≡ a → AreHoldings (unwrap_or a no_account)
      by None h = record { forms = All-nil IsHolding; order = sorted_nothing identity_order }
      by (Some a) h = let f = (all_found (is_at (slice_cmp nat_cmp who)) IsAccount w.accounts a o.form.accounts h).1 in
          record { forms = f.1; order = f.2 }

-- ---- an account is set

pub orderly_account : (w : World) (who : List ℕ) (a : Account) → IsOrderly w → is_key_hash who ≡ true → AreHoldings a →
    IsOrderly (with_account w who a)
orderly_account w who a o k h = record {
  form = record {
    chain = o.form.chain;
    level = o.form.level;
    moment = o.form.moment;
    accounts = all_insert (slice_cmp nat_cmp) IsAccount who a (k, h.forms, h.order)
        (λ e f same. (f.0, h.forms, h.order)) w.accounts o.form.accounts;
    accounts_in_order = sorted_insert (slice_cmp nat_cmp) nat_list_cmp_total w.accounts who a o.form.accounts_in_order;
    contracts = o.form.contracts;
    contracts_in_order = o.form.contracts_in_order;
    log = o.form.log;
  };
  contracts = o.contracts;
}

-- ---- a contract is set

module _ (w : World) (hash : List ℕ) (d : Contract) where
  pub set_at : (q : List ℕ) → contract_at (with_contract w hash d) q ≡ cond (is_at (slice_cmp nat_cmp q) hash) (Some d)
      (contract_at w q)
  set_at q = lookup_insert (slice_cmp nat_cmp) nat_list_cmp_total q w.contracts hash d

  pub set_here : contract_at (with_contract w hash d) hash ≡ Some d
  set_here = set_at hash ∙ ap (λ b. cond b (Some d) (contract_at w hash)) (at_itself hash)

  -- nobody comes to be elsewhere
  pub none_elsewhere : (q : List ℕ) → q ≢ hash → contract_at w q ≡ None → contract_at (with_contract w hash d) q ≡ None
  none_elsewhere q other h = set_at q ∙ by (is_at (slice_cmp nat_cmp q) hash) refl
    where
      by : (b : Bool) → is_at (slice_cmp nat_cmp q) hash ≡ b → cond b (Some d) (contract_at w q) ≡ None
      by true e = absurd (other (found_same q hash e))
      by false e = h

  -- in the place of one with the same script
  pub extends_replaced : (c : Contract) → contract_at w hash ≡ Some c → d.script ≡ c.script →
      Extends (contract_at w) (contract_at (with_contract w hash d))
  extends_replaced c there same q e h = by (is_at (slice_cmp nat_cmp q) hash) refl
    where
      by : (b : Bool) → is_at (slice_cmp nat_cmp q) hash ≡ b →
          (f : Contract) × (contract_at (with_contract w hash d) q ≡ Some f) × (f.script ≡ e.script)
      by true t =
          let one : Some c ≡ Some e = sym there ∙ ap (contract_at w) (sym (found_same q hash t)) ∙ h in
          let is : c ≡ e = cc in
          (d, set_at q ∙ ap (λ b. cond b (Some d) (contract_at w q)) t, same ∙ ap (λ (c : Contract). c.script) is)
      by false t = (e, set_at q ∙ ap (λ b. cond b (Some d) (contract_at w q)) t ∙ h, refl)

  pub none_replaced : (c : Contract) → contract_at w hash ≡ Some c → (q : List ℕ) → contract_at w q ≡ None →
      contract_at (with_contract w hash d) q ≡ None
  none_replaced c there q h = none_elsewhere q (λ same. let clash : Some c ≡ None = sym there ∙ ap (contract_at w) (sym same)
      ∙ h in absurd cc) h

  -- where none was
  pub extends_new : contract_at w hash ≡ None → Extends (contract_at w) (contract_at (with_contract w hash d))
  extends_new there q e h = by (is_at (slice_cmp nat_cmp q) hash) refl
    where
      by : (b : Bool) → is_at (slice_cmp nat_cmp q) hash ≡ b →
          (f : Contract) × (contract_at (with_contract w hash d) q ≡ Some f) × (f.script ≡ e.script)
      by true t = let clash : None ≡ Some e = sym there ∙ ap (contract_at w) (sym (found_same q hash t)) ∙ h in absurd cc
      by false t = (e, set_at q ∙ ap (λ b. cond b (Some d) (contract_at w q)) t ∙ h, refl)

  pub orderly_contract : IsOrderly w → length hash ≡ 20 → Extends (contract_at w) (contract_at (with_contract w hash d)) →
      Stores w d.script d.storage → IsOrderly (with_contract w hash d)
  orderly_contract o twenty more stores = record {
    form = record {
      chain = o.form.chain;
      level = o.form.level;
      moment = o.form.moment;
      accounts = o.form.accounts;
      accounts_in_order = o.form.accounts_in_order;
      contracts = all_insert (slice_cmp nat_cmp) IsTwentyBytes hash d twenty (λ e f same. f) w.contracts o.form.contracts;
      contracts_in_order = sorted_insert (slice_cmp nat_cmp) nat_list_cmp_total w.contracts hash d o.form.contracts_in_order;
      log = o.form.log;
    };
    contracts = All-weaker (IsGoodContract w) (IsGoodContract (with_contract w hash d))
        (contract_good_more w (with_contract w hash d) more) (with_contract w hash d).contracts
        (all_insert (slice_cmp nat_cmp) (IsGoodContract w) hash d stores (λ e f same. stores) w.contracts o.contracts);
  }

-- ---- the log grows

pub orderly_log : (w : World) (changes : List Change) → IsOrderly w → All IsChange changes →
    IsOrderly (record w { log = w.log ++ changes })
orderly_log w changes o h = record {
  form = record {
    chain = o.form.chain;
    level = o.form.level;
    moment = o.form.moment;
    accounts = o.form.accounts;
    accounts_in_order = o.form.accounts_in_order;
    contracts = o.form.contracts;
    contracts_in_order = o.form.contracts_in_order;
    log = All-append IsChange w.log changes o.form.log h;
  };
  contracts = o.contracts;
}

pub orderly_fees : (w : World) (fees : ℕ) → IsOrderly w → IsOrderly (record w { fees = fees })
orderly_fees w fees o = record {
  form = record {
    chain = o.form.chain;
    level = o.form.level;
    moment = o.form.moment;
    accounts = o.form.accounts;
    accounts_in_order = o.form.accounts_in_order;
    contracts = o.form.contracts;
    contracts_in_order = o.form.contracts_in_order;
    log = o.form.log;
  };
  contracts = o.contracts;
}

pub orderly_burn : (w : World) (burn : ℕ) → IsOrderly w → IsOrderly (record w { storage_burn = burn })
orderly_burn w burn o = record {
  form = record {
    chain = o.form.chain;
    level = o.form.level;
    moment = o.form.moment;
    accounts = o.form.accounts;
    accounts_in_order = o.form.accounts_in_order;
    contracts = o.form.contracts;
    contracts_in_order = o.form.contracts_in_order;
    log = o.form.log;
  };
  contracts = o.contracts;
}

-- ---- tickets

by_accounts : (id : Identity) (es : List (List ℕ × Account)) →
    held_by_accounts id es ≡ all_in (λ (a : Account). amount_held a id) es
by_accounts id [] = refl
by_accounts id (a ∷ es) = ap (λ z. amount_held a.1 id +ℤ z) (by_accounts id es)

by_contracts : (id : Identity) (cs : List (List ℕ × Contract)) →
    held_by_contracts id cs ≡ all_in (λ (c : Contract). amount_in id c.storage) cs
by_contracts id [] = refl
by_contracts id (c ∷ cs) = ap (λ z. amount_in id c.1.storage +ℤ z) (by_contracts id cs)

one_held : (id : Identity) (o : Option Account) → one_in (λ (a : Account). amount_held a id) o ≡ amount_held
    (unwrap_or o no_account) id
one_held id None = refl
one_held id (Some a) = refl

pub held_account : (w : World) (who : List ℕ) (a : Account) (id : Identity) → IsOrderly w →
    held (with_account w who a) id +ℤ amount_held (account_or_none w who) id ≡ held w id +ℤ amount_held a id
held_account w who a id o =
    let set = sum_insert (λ (a : Account). amount_held a id) (slice_cmp nat_cmp) nat_list_cmp_total w.accounts who a
    o.form.accounts_in_order in
    let before = by_accounts id w.accounts in
    let after = by_accounts id (insert_entry (slice_cmp nat_cmp) w.accounts who a) in
    let old = one_held id (account_at w who) in
    omega (arith, ints, set, before, after, old)

pub held_contract : (w : World) (hash : List ℕ) (d : Contract) (id : Identity) → IsOrderly w →
    held (with_contract w hash d) id +ℤ one_in (λ (c : Contract). amount_in id c.storage)
    (contract_at w hash) ≡ held w id +ℤ amount_in id d.storage
held_contract w hash d id o =
    let set = sum_insert (λ (c : Contract). amount_in id c.storage)
    (slice_cmp nat_cmp) nat_list_cmp_total w.contracts hash d o.form.contracts_in_order in
    let before = by_contracts id w.contracts in
    let after = by_contracts id (insert_entry (slice_cmp nat_cmp) w.contracts hash d) in
    omega (arith, ints, set, before, after)
