-- Tickets that come to accounts and go from them.
use Rattle.std.proofs.Common.{◌≡◌, ℕ, ℤ, pos, ◌+ℤ◌, ◌-ℤ◌, ◌<ℤ◌, ◌≤ℤ◌, List, [], ◌∷◌, map, Bool, true, false, cond, option_map, unwrap_or, is_some, None, Some, refl, sym, ap, ◌∙◌, subst, arith}
use Rattle.std.specs.Prelude.{neg_ℤ, int_le, if◌then◌else◌}
use Rattle.std.proofs.lemmas.Int.{ints}
use Rattle.std.specs.declared.option.Option.{Option}
use Rattle.std.specs.declared.cmp.Ordering.{Ordering}
use Rattle.std.specs.Ordering.{nat_cmp}
use Rattle.std.specs.Cmp.{IsTotalOrder}
use Rattle.std.specs.Cmp.Lexicographic.{slice_cmp}
use Rattle.std.specs.Str.{bytes_eq}
use Rattle.std.specs.BTreeMap.{is_at, insert_entry}
use Rattle.std.specs.Map.{lookup, keys_of, remove_entry}
use Rattle.std.specs.List.Sorted.{IsStrictlySortedBy}
use Rattle.std.proofs.lemmas.Cmp.{nat_list_cmp_total}
use Rattle.std.proofs.lemmas.List.Elements.{All-nil}
use Rattle.std.proofs.lemmas.Slice.Eq.{bytes_eq-Decides}
use Rattle.rules_data.specs.forms.Spelling.{implicit_place, is_key_hash, is_implicit, is_place}
use Rattle.rules_code.specs.steps.Changes.{amount_of, identity_of}
use Rattle.rules_data.specs.values.Tickets.{Identity, Held}
use Rattle.rules_world.specs.world.Forms.{IsWorld, IsAccount, IsHolding}
use Rattle.rules_world.specs.world.Holdings.{amount_held, with_amount, credited_account, debited_account, held_by, held_by_account}
use Rattle.rules_world.specs.world.World.{World as PlainWorld, Account, identity_order, account_at as plain_account_at, account_or_none, no_account, with_account}
use Rattle.laws_world.proofs.accounts.ForCallers.{all_found, AreHoldings, credited_held, debited_held}
use Rattle.mich_bigmap.specs.Bases.{Bases}
use Rattle.mich_tickets.specs.Books.{Books}
use Rattle.mich_tickets.specs.Effects.{Moves}
use Rattle.mich_tickets.specs.Sums.{held_of}
use Rattle.mich_tickets.specs.declared.totals.Totals.{Totals}
use Rattle.mich_base.specs.undo.Undone.{changed_at}
use Rattle.mich_world.specs.Holders.{Holders, by_bytes, account_at}
use Rattle.mich_world.specs.Standing.{contract_in, AreThose}
use Rattle.mich_world.proofs.ForCallers.{seen_lookup, seen_insert, written_over}
use Rattle.mich_world.proofs.simulation_lemmas.Owners.{account_holds}

-- ---- entries that are written as they are

nothing_changed : {K X : Type 0} (t : K → Bool) (es : List (K × X)) → changed_at t es (λ x. x) ≡ es
nothing_changed t [] = refl
nothing_changed t (e ∷ es) =
    elim (t e.0) as (λ b. cond b ((e.0, e.1) ∷ es) (e ∷ changed_at t es (λ x. x)) ≡ e ∷ es)
    [ true ↦ refl | false ↦ ap (λ r. e ∷ r) (nothing_changed t es) ]

pub written_same : {K X : Type 0} {R : K → K → Ordering} (total : IsTotalOrder R) (k : K) (es : List (K × X)) (v : X)
    → IsStrictlySortedBy R (keys_of es) → lookup (is_at (R k)) es ≡ Some v → insert_entry R es k v ≡ es
written_same {R = R} total k es v s l = written_over total k (λ x. x) es v s l ∙ nothing_changed (is_at (R k)) es

pub keys_seen : {K X Y : Type 0} (f : X → Y) (es : List (K × X)) → keys_of (map (λ e. (e.0, f e.1)) es) ≡ keys_of es
keys_seen f [] = refl
keys_seen f (e ∷ es) = ap (λ t. e.0 ∷ t) (keys_seen f es)

sorted_nothing : {K : Type 0} (R : K → K → Ordering) → IsStrictlySortedBy R []
unfolding IsStrictlySortedBy
sorted_nothing R = tt

-- ---- accounts

pub account_is : (h : Holders) (bs : Bases) (b : Books) (w : PlainWorld) (who : List ℕ) → AreThose h bs b w
    → account_at h who ≡ option_map (λ (x : Account). x.balance) (plain_account_at w who)
account_is h bs b w who t =
    ap (λ (es : List (List ℕ × ℕ)). lookup (is_at (by_bytes who)) es) (sym t.accounts) ∙ seen_lookup (λ (x : Account). x.balance) (is_at (by_bytes who)) w.accounts

-- an account that is there with its balance again
pub account_same : (h : Holders) (bs : Bases) (b : Books) (w : PlainWorld) (who : List ℕ) (n : ℕ) → AreThose h bs b w → IsWorld w
    → is_some (account_at h who) ≡ true → n ≡ (account_or_none w who).balance → insert_entry by_bytes h.accounts who n ≡ h.accounts
account_same h bs b w who n t i there e = by (plain_account_at w who) refl
  where
    sorted : IsStrictlySortedBy by_bytes (keys_of h.accounts)
    sorted = subst (λ (ks : List (List ℕ)). IsStrictlySortedBy by_bytes ks) (sym (keys_seen (λ (x : Account). x.balance) w.accounts) ∙ ap keys_of t.accounts) i.accounts_in_order

    by : (o : Option Account) → plain_account_at w who ≡ o → insert_entry by_bytes h.accounts who n ≡ h.accounts
    by None a =
        let x : is_some (account_at h who) ≡ false = ap is_some (account_is h bs b w who t ∙ ap (option_map (λ (x : Account). x.balance)) a) in
        absurd cc
    by (Some p) a =
        let m : n ≡ p.balance = e ∙ ap (λ (o : Option Account). (unwrap_or o no_account).balance) a in
        written_same nat_list_cmp_total who h.accounts n sorted
        (account_is h bs b w who t ∙ ap (option_map (λ (x : Account). x.balance)) a ∙ ap Some (sym m))

pub same_balance : (a : Account) (id : Identity) (n : ℤ) → (with_amount a id n).balance ≡ a.balance
same_balance a id n = by (int_le n (pos 0))
  where
    by : (b : Bool) →
        (if b then record a { holdings = remove_entry (is_at (identity_order id)) a.holdings }
        else record a { holdings = insert_entry identity_order a.holdings id n }).balance ≡ a.balance
    by true = refl
    by false = refl

pub account_holdings : (w : PlainWorld) (who : List ℕ) → IsWorld w → AreHoldings (account_or_none w who)
account_holdings w who i = by (plain_account_at w who) refl
  where
    by : (a : Option Account) → plain_account_at w who ≡ a → AreHoldings (unwrap_or a no_account)
    by None h = record { forms = All-nil IsHolding; order = sorted_nothing identity_order }
    by (Some a) h = let f = (all_found (is_at (slice_cmp nat_cmp who)) IsAccount w.accounts a i.accounts h).1 in
        record { forms = f.1; order = f.2 }

pub implicit_is : (who : List ℕ) → is_key_hash who ≡ true → is_implicit (implicit_place who) ≡ true
implicit_is who h = h

pub account_held : (w : PlainWorld) (who : List ℕ) (id : Identity) → is_key_hash who ≡ true
    → held_by w id (implicit_place who) ≡ amount_held (account_or_none w who) id
account_held w who id h = rw (implicit_is who h) (by (plain_account_at w who))
  where
    by : (o : Option Account) → held_by_account o id ≡ amount_held (unwrap_or o no_account) id
    by None = refl
    by (Some a) = refl

-- ---- an account is set

-- so much more of each identity is held, by the ledger and by the account
pub account_those : (h : Holders) (bs : Bases) (b c : Books) (w : PlainWorld) (who : List ℕ) (a : Account) (more : Identity → ℤ) → is_key_hash who ≡ true
    → AreThose h bs b w → IsWorld w → is_some (account_at h who) ≡ true → a.balance ≡ (account_or_none w who).balance
    → ((id : Identity) → amount_held a id ≡ amount_held (account_or_none w who) id +ℤ more id)
    → Moves (implicit_place who) more b c
    → AreThose h bs c (with_account w who a)
account_those h bs b c w who a more k t i there balance amounts m = record {
  accounts = seen_insert (λ (x : Account). x.balance) by_bytes w.accounts who a
      ∙ ap (λ (es : List (List ℕ × ℕ)). insert_entry by_bytes es who a.balance) t.accounts
      ∙ account_same h bs b w who a.balance t i there balance;
  contracts = t.contracts;
  fees = t.fees;
  storage_burn = t.storage_burn;
  granted = t.granted;
  rate = t.rate;
  held = λ id o p. m.held id o ∙ by id o p (bytes_eq o (implicit_place who)) refl ∙ sym (account_holds w who a id o p);
  minted = λ id. ap (λ (x : Totals). x.minted) (m.totals id) ∙ t.minted id;
  burnt = λ id. ap (λ (x : Totals). x.burnt) (m.totals id) ∙ t.burnt id;
  listed = m.listed ∙ t.listed;
}
  where
    place_is : is_place (implicit_place who) ≡ true
    place_is = rw (implicit_is who k) refl

    sum : (x y z n m : ℤ) → x ≡ y → y ≡ z → m ≡ z +ℤ n → x +ℤ n ≡ m
    sum x y z n m e f g = omega (arith, ints, e, f, g)

    none_more : (x y : ℤ) → x ≡ y → x +ℤ pos 0 ≡ y
    none_more x y e = omega (arith, ints, e)

    by : (id : Identity) (o : List ℕ) → is_place o ≡ true → (s : Bool) → bytes_eq o (implicit_place who) ≡ s
        → held_of b id o +ℤ (if s then more id else pos 0) ≡ (if s then amount_held a id else held_by w id o)
    by id o p true e =
        let is : o ≡ implicit_place who = (bytes_eq-Decides o (implicit_place who)).0 e in
        sum (held_of b id o) (held_by w id (implicit_place who)) (amount_held (account_or_none w who) id) (more id) (amount_held a id)
        (ap (λ (q : List ℕ). held_of b id q) is ∙ t.held id (implicit_place who) place_is) (account_held w who id k) (amounts id)
    by id o p false e = none_more (held_of b id o) (held_by w id o) (t.held id o p)

-- a ticket more
pub credit_those : (h : Holders) (bs : Bases) (b c : Books) (w : PlainWorld) (who : List ℕ) (t : Held) → is_key_hash who ≡ true
    → AreThose h bs b w → IsWorld w → is_some (account_at h who) ≡ true → pos 0 <ℤ t.amount
    → Moves (implicit_place who) (λ j. amount_of j t) b c
    → AreThose h bs c (with_account w who (credited_account (account_or_none w who) t))
credit_those h bs b c w who t k those i there positive m =
    let a = account_or_none w who in
    account_those h bs b c w who (credited_account a t) (λ j. amount_of j t) k those i there
    (same_balance a (identity_of t) (amount_held a (identity_of t) +ℤ t.amount))
    (λ id. credited_held a t id (account_holdings w who i) positive) m

less_by : (x m : ℤ) → x -ℤ m ≡ x +ℤ neg_ℤ m
less_by x m = omega (arith, ints)

-- a ticket less
pub debit_those : (h : Holders) (bs : Bases) (b c : Books) (w : PlainWorld) (who : List ℕ) (t : Held) → is_key_hash who ≡ true
    → AreThose h bs b w → IsWorld w → is_some (account_at h who) ≡ true → t.amount ≤ℤ amount_held (account_or_none w who) (identity_of t)
    → Moves (implicit_place who) (λ j. neg_ℤ (amount_of j t)) b c
    → AreThose h bs c (with_account w who (debited_account (account_or_none w who) t))
debit_those h bs b c w who t k those i there enough m =
    let a = account_or_none w who in
    account_those h bs b c w who (debited_account a t) (λ j. neg_ℤ (amount_of j t)) k those i there
    (same_balance a (identity_of t) (amount_held a (identity_of t) -ℤ t.amount))
    (λ id. debited_held a t id (account_holdings w who i) enough ∙ less_by (amount_held a id) (amount_of id t)) m

-- an account that has a ticket is there
pub holder_there : (h : Holders) (bs : Bases) (b : Books) (w : PlainWorld) (who : List ℕ) (t : Held) → AreThose h bs b w
    → pos 0 <ℤ t.amount → t.amount ≤ℤ amount_held (account_or_none w who) (identity_of t) → is_some (account_at h who) ≡ true
holder_there h bs b w who t those positive enough =
    ap is_some (account_is h bs b w who those) ∙ by (plain_account_at w who) enough
  where
    by : (o : Option Account) → t.amount ≤ℤ amount_held (unwrap_or o no_account) (identity_of t)
        → is_some (option_map (λ (x : Account). x.balance) o) ≡ true
    by None e = absurd (omega (arith, ints))
    by (Some a) e = refl

-- ---- an account with another balance

pub balance_those : (h k : Holders) (bs : Bases) (b : Books) (w : PlainWorld) (who : List ℕ) (n : ℕ) → is_key_hash who ≡ true → AreThose h bs b w
    → k.accounts ≡ insert_entry by_bytes h.accounts who n → k.contracts ≡ h.contracts → k.fees ≡ h.fees → k.storage_burn ≡ h.storage_burn → k.granted ≡ h.granted → k.rate ≡ h.rate
    → AreThose k bs b (with_account w who (record (account_or_none w who) { balance = n }))
balance_those h k bs b w who n key t ea ec ef eb eg er =
    let a : Account = record (account_or_none w who) { balance = n } in
    record {
      accounts = seen_insert (λ (x : Account). x.balance) by_bytes w.accounts who a
          ∙ ap (λ (es : List (List ℕ × ℕ)). insert_entry by_bytes es who n) t.accounts ∙ sym ea;
      contracts = t.contracts ∙ ap (map (contract_in bs)) (sym ec);
      fees = t.fees ∙ sym ef;
      storage_burn = t.storage_burn ∙ sym eb;
      granted = t.granted ∙ sym eg;
      rate = t.rate ∙ sym er;
      held = λ id o p. t.held id o p ∙ by id o p (bytes_eq o (implicit_place who)) refl ∙ sym (account_holds w who a id o p);
      minted = t.minted;
      burnt = t.burnt;
      listed = t.listed;
    }
  where
    by : (id : Identity) (o : List ℕ) → is_place o ≡ true → (s : Bool) → bytes_eq o (implicit_place who) ≡ s
        → held_by w id o ≡ (if s then amount_held (record (account_or_none w who) { balance = n }) id else held_by w id o)
    by id o p true e = ap (held_by w id) ((bytes_eq-Decides o (implicit_place who)).0 e) ∙ account_held w who id key
    by id o p false e = refl
