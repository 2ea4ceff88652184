-- Holders of the code and those of the world that they stand for.
use Rattle.std.proofs.Common.{◌≡◌, ◌+◌, ◌-◌, ◌||◌, ℕ, List, [], ◌∷◌, ◌++◌, length, take, map, Bool, true, false, cond, option_map, unwrap_or, is_some, None, Some, refl, sym, ap, ◌∙◌, subst, arith}
use Rattle.std.specs.Prelude.{if◌then◌else◌}
use Rattle.std.specs.declared.option.Option.{Option}
use Rattle.std.specs.Ordering.{is_eq}
use Rattle.std.specs.BTreeMap.{is_at, insert_entry}
use Rattle.std.specs.List.{sum_by}
use Rattle.std.specs.List.Sorted.{IsStrictlySortedBy}
use Rattle.std.specs.Map.{lookup, values_of, keys_of}
use Rattle.std.proofs.lemmas.Cmp.{nat_list_cmp_total}
use Rattle.rules_code.specs.evaluation.Contracts.{hash_in}
use Rattle.rules_code.specs.evaluation.Surroundings.{Contract as PlainContract}
use Rattle.rules_data.specs.forms.Spelling.{is_implicit, is_place}
use Rattle.rules_data.specs.values.Tickets.{Identity}
use Rattle.rules_world.specs.world.Balances as rules
use Rattle.rules_world.specs.world.Forms.{IsWorld}
use Rattle.rules_world.specs.world.Holdings.{amount_held, held_by_account, held_by_contract}
use Rattle.rules_world.specs.world.World.{World as PlainWorld, Account, account_at as account_in, contract_at as plain_contract_at, account_or_none, no_account, key_hash_in}
use Rattle.mich_forms.specs.Spelled.{place_bytes}
use Rattle.mich_forms.specs.declared.places.Place.{Place}
use Rattle.mich_forms.specs.declared.places.Place.TheVariants as place
use Rattle.mich_base.specs.undo.Undone.{changed_at}
use Rattle.mich_bigmap.specs.Bases.{Bases}
use Rattle.mich_tickets.specs.Books.{Books}
use Rattle.mich_tickets.proofs.ForCallers.{found_close, found_inserted, found_changed}
use Rattle.mich_world.specs.Holders.{Holders, by_bytes, contract_at, balance_at, balance_or_none, may_receive, total, rebalanced, with_balance, with_less, moved, fee_taken}
use Rattle.mich_world.specs.Laws.{MovesAgree, FeesAgree}
use Rattle.mich_world.specs.Standing.{plain, AreThose, StandsFor}
use Rattle.mich_world.specs.World.{World, with_funds}
use Rattle.mich_world.specs.declared.contract.Contract.{Contract}
use Rattle.mich_world.proofs.Moves.{contracts_there, receives}
use Rattle.mich_world.proofs.Seen.{seen_lookup, seen_insert, seen_sum, seen_changed, written_over}

-- ---- places

or_false : (b : Bool) → (b || false) ≡ true → b ≡ true
or_false true h = refl
or_false false h = h

implicit_is : (who : List ℕ) → is_place (place_bytes (place.Implicit who)) ≡ true → is_implicit (place_bytes (place.Implicit who)) ≡ true
implicit_is who h = or_false (is_implicit (0 ∷ who)) h

taken : (n : ℕ) (xs ys : List ℕ) → length xs ≡ n → take n (xs ++ ys) ≡ xs
taken n [] ys h = subst (λ (m : ℕ). take m ys ≡ []) h refl
taken n (x ∷ xs) ys h = subst (λ (m : ℕ). take m (x ∷ xs ++ ys) ≡ x ∷ xs) h (ap (λ t. x ∷ t) (taken (length xs) xs ys refl))

one_more : (hash : List ℕ) → length (hash ++ 0 ∷ []) ≡ length hash + 1
one_more [] = refl
one_more (x ∷ hash) = let e = one_more hash in omega (arith, e)

twenty : (hash : List ℕ) → is_place (place_bytes (place.Contract hash)) ≡ true → length hash ≡ 20
twenty hash h = let e = one_more hash in grind arith

hash_is : (hash : List ℕ) → is_place (place_bytes (place.Contract hash)) ≡ true → hash_in (place_bytes (place.Contract hash)) ≡ hash
hash_is hash h = taken 20 hash (0 ∷ []) (twenty hash h)

-- ---- all mutez

pub total_is : (h : Holders) (bs : Bases) (b : Books) (w : PlainWorld) → AreThose h bs b w → total h ≡ rules.supply w
total_is h bs b w t =
    let a : sum_by (λ (n : ℕ). n) (values_of h.accounts) ≡ sum_by (λ (x : Account). x.balance) (values_of w.accounts)
    = ap (λ (es : List (List ℕ × ℕ)). sum_by (λ (n : ℕ). n) (values_of es)) (sym t.accounts) ∙ seen_sum (λ (x : Account). x.balance) (λ (n : ℕ). n) w.accounts in
    let c : sum_by (λ (x : Contract). x.balance) (values_of h.contracts) ≡ sum_by (λ (x : PlainContract). x.balance) (values_of w.contracts)
    = sym (ap (λ (es : List (List ℕ × PlainContract)). sum_by (λ (x : PlainContract). x.balance) (values_of es)) t.contracts ∙ seen_sum (plain bs) (λ (x : PlainContract). x.balance) h.contracts) in
    λ i. a i + c i + sym t.fees i + sym t.storage_burn i

-- ---- balances

map_twice : {A B C : Type 0} (f : A → B) (g : B → C) (o : Option A) → option_map g (option_map f o) ≡ option_map (λ x. g (f x)) o
map_twice f g None = refl
map_twice f g (Some x) = refl

contract_is : (h : Holders) (bs : Bases) (b : Books) (w : PlainWorld) (hash : List ℕ) → AreThose h bs b w → plain_contract_at w hash ≡ option_map (plain bs) (contract_at h hash)
contract_is h bs b w hash t = ap (λ (es : List (List ℕ × PlainContract)). lookup (is_at (by_bytes hash)) es) t.contracts ∙ seen_lookup (plain bs) (is_at (by_bytes hash)) h.contracts

pub balance_is : (h : Holders) (bs : Bases) (b : Books) (w : PlainWorld) (p : Place) → AreThose h bs b w → is_place (place_bytes p) ≡ true
    → balance_at h p ≡ rules.balance_at w (place_bytes p)
balance_is h bs b w (place.Implicit who) t v =
    ap (λ (es : List (List ℕ × ℕ)). lookup (is_at (by_bytes who)) es) (sym t.accounts) ∙ seen_lookup (λ (x : Account). x.balance) (is_at (by_bytes who)) w.accounts
    ∙ sym (ap (λ (c : Bool). if c then option_map (λ (x : Account). x.balance) (account_in w who) else option_map (λ (x : PlainContract). x.balance) (plain_contract_at w (hash_in (0 ∷ who)))) (implicit_is who v))
balance_is h bs b w (place.Contract hash) t v =
    sym (ap (λ (x : List ℕ). option_map (λ (c : PlainContract). c.balance) (plain_contract_at w x)) (hash_is hash v)
    ∙ ap (option_map (λ (c : PlainContract). c.balance)) (contract_is h bs b w hash t)
    ∙ map_twice (plain bs) (λ (c : PlainContract). c.balance) (contract_at h hash))

pub balance_or_none_is : (h : Holders) (bs : Bases) (b : Books) (w : PlainWorld) (p : Place) → AreThose h bs b w → is_place (place_bytes p) ≡ true
    → balance_or_none h p ≡ rules.balance_or_none w (place_bytes p)
balance_or_none_is h bs b w p t v = ap (λ (o : Option ℕ). unwrap_or o 0) (balance_is h bs b w p t v)

-- ---- writes

abbrev repriced : ℕ → PlainContract → PlainContract
repriced n c = record c { balance = n }

-- what an account holds doesn't change with its balance
same_account : (c : Bool) (o p : Option Account) (n : ℕ) (id : Identity) → (c ≡ true → o ≡ p)
    → held_by_account (cond c (Some (record (unwrap_or p no_account) { balance = n })) o) id ≡ held_by_account o id
same_account true o p n id h = by p ∙ ap (λ (x : Option Account). held_by_account x id) (sym (h refl))
  where
    by : (p : Option Account) → amount_held (record (unwrap_or p no_account) { balance = n }) id ≡ held_by_account p id
    by None = refl
    by (Some a) = refl
same_account false o p n id h = refl

account_write : (h : Holders) (bs : Bases) (b : Books) (w : PlainWorld) (who : List ℕ) (n : ℕ) → AreThose h bs b w
    → AreThose (with_balance h (place.Implicit who) n) bs b (rules.with_account_balance w who n)
account_write h bs b w who n t =
    let a = record (account_or_none w who) { balance = n } in
    record {
      accounts = seen_insert (λ (x : Account). x.balance) by_bytes w.accounts who a ∙ ap (λ (es : List (List ℕ × ℕ)). insert_entry by_bytes es who n) t.accounts;
      contracts = t.contracts;
      fees = t.fees;
      storage_burn = t.storage_burn;
      granted = t.granted;
      rate = t.rate;
      held = λ id owner v. t.held id owner v ∙ by_owner id owner (is_implicit owner);
      minted = t.minted;
      burnt = t.burnt;
      listed = t.listed;
    }
  where
    by_owner : (id : Identity) (owner : List ℕ) (c : Bool)
        → (if c then held_by_account (account_in w (key_hash_in owner)) id else held_by_contract (plain_contract_at w (hash_in owner)) id)
        ≡ (if c then held_by_account (account_in (rules.with_account_balance w who n) (key_hash_in owner)) id else held_by_contract (plain_contract_at w (hash_in owner)) id)
    by_owner id owner false = refl
    by_owner id owner true =
        let q = key_hash_in owner in
        sym (ap (λ (o : Option Account). held_by_account o id)
        (found_inserted nat_list_cmp_total (λ (x : List ℕ). x) q who (record (account_or_none w who) { balance = n }) w.accounts)
        ∙ same_account (is_eq (by_bytes q who)) (account_in w q) (account_in w who) n id
        (λ e. found_close nat_list_cmp_total (λ (x : List ℕ). x) q who w.accounts e))

same_contract : (c : Bool) (o : Option PlainContract) (n : ℕ) (id : Identity) → held_by_contract (cond c (option_map (repriced n) o) o) id ≡ held_by_contract o id
same_contract true None n id = refl
same_contract true (Some x) n id = refl
same_contract false o n id = refl

keys_seen : {K X Y : Type 0} (f : X → Y) (es : List (K × X)) → keys_of (map (λ e. (e.0, f e.1)) es) ≡ keys_of es
keys_seen f [] = refl
keys_seen f (e ∷ es) = ap (λ t. e.0 ∷ t) (keys_seen f es)

-- a world with other contracts, whose storages are the same
module _ (h : Holders) (bs : Bases) (b : Books) (w : PlainWorld) (hash : List ℕ) (n : ℕ) (t : AreThose h bs b w) (sorted : IsStrictlySortedBy by_bytes (keys_of h.contracts)) where
  abbrev test : List ℕ → Bool
  test = is_at (by_bytes hash)

  by_found : (o : Option Contract) → contract_at h hash ≡ o → is_some o ≡ true
      → rules.with_contract_balance w hash n (option_map (plain bs) o) ≡ record w { contracts = changed_at test w.contracts (repriced n) }
  by_found None e s = absurd cc
  by_found (Some c) e s =
      let found : lookup test w.contracts ≡ Some (plain bs c) = contract_is h bs b w hash t ∙ ap (option_map (plain bs)) e in
      let order : IsStrictlySortedBy by_bytes (keys_of w.contracts)
      = subst (λ (ks : List (List ℕ)). IsStrictlySortedBy by_bytes ks) (sym (ap keys_of t.contracts ∙ keys_seen (plain bs) h.contracts)) sorted in
      ap (λ (es : List (List ℕ × PlainContract)). record w { contracts = es }) (written_over nat_list_cmp_total hash (repriced n) w.contracts (plain bs c) order found)

  contract_write : is_some (contract_at h hash) ≡ true → AreThose (with_balance h (place.Contract hash) n) bs b (rules.with_contract_balance w hash n (plain_contract_at w hash))
  contract_write there =
      subst (λ (x : PlainWorld). AreThose (with_balance h (place.Contract hash) n) bs b x)
      (sym (ap (rules.with_contract_balance w hash n) (contract_is h bs b w hash t) ∙ by_found (contract_at h hash) refl there))
      (record {
        accounts = t.accounts;
        contracts = ap (λ (es : List (List ℕ × PlainContract)). changed_at test es (repriced n)) t.contracts
            ∙ sym (seen_changed (plain bs) test (rebalanced n) (repriced n) (λ x. refl) h.contracts);
        fees = t.fees;
        storage_burn = t.storage_burn;
        granted = t.granted;
        rate = t.rate;
        held = λ id owner v. t.held id owner v ∙ by_owner id owner (is_implicit owner);
        minted = t.minted;
        burnt = t.burnt;
        listed = t.listed;
      })
    where
      by_owner : (id : Identity) (owner : List ℕ) (c : Bool)
          → (if c then held_by_account (account_in w (key_hash_in owner)) id else held_by_contract (plain_contract_at w (hash_in owner)) id)
          ≡ (if c then held_by_account (account_in w (key_hash_in owner)) id else held_by_contract (plain_contract_at (record w { contracts = changed_at test w.contracts (repriced n) }) (hash_in owner)) id)
      by_owner id owner true = refl
      by_owner id owner false =
          let q = hash_in owner in
          sym (ap (λ (o : Option PlainContract). held_by_contract o id) (found_changed nat_list_cmp_total (λ (x : List ℕ). x) q hash (repriced n) w.contracts)
          ∙ same_contract (is_eq (by_bytes q hash)) (plain_contract_at w q) n id)

-- the balance at a place
pub balance_write : (h : Holders) (bs : Bases) (b : Books) (w : PlainWorld) (p : Place) (n : ℕ) → AreThose h bs b w → is_place (place_bytes p) ≡ true
    → may_receive h p ≡ true → IsStrictlySortedBy by_bytes (keys_of h.contracts) → AreThose (with_balance h p n) bs b (rules.with_balance w (place_bytes p) n)
balance_write h bs b w (place.Implicit who) n t v m s =
    subst (λ (c : Bool). AreThose (with_balance h (place.Implicit who) n) bs b
    (if c then rules.with_account_balance w who n else rules.with_contract_balance w (hash_in (0 ∷ who)) n (plain_contract_at w (hash_in (0 ∷ who)))))
    (sym (implicit_is who v)) (account_write h bs b w who n t)
balance_write h bs b w (place.Contract hash) n t v m s =
    subst (λ (x : List ℕ). AreThose (with_balance h (place.Contract hash) n) bs b (rules.with_contract_balance w x n (plain_contract_at w x)))
    (sym (hash_is hash v)) (contract_write h bs b w hash n t s m)

keys_changed : {K X : Type 0} (t : K → Bool) (g : X → X) (es : List (K × X)) → keys_of (changed_at t es g) ≡ keys_of es
keys_changed t g [] = refl
keys_changed t g (e ∷ es) =
    elim (t e.0) as (λ c. keys_of (cond c ((e.0, g e.1) ∷ es) (e ∷ changed_at t es g)) ≡ e.0 ∷ keys_of es)
    [ true ↦ refl | false ↦ ap (λ r. e.0 ∷ r) (keys_changed t g es) ]

keys_balance : (h : Holders) (p : Place) (n : ℕ) → keys_of (with_balance h p n).contracts ≡ keys_of h.contracts
keys_balance h (place.Implicit who) n = refl
keys_balance h (place.Contract hash) n = keys_changed (is_at (by_bytes hash)) (rebalanced n) h.contracts

module _ (h : Holders) (bs : Bases) (b : Books) (w : PlainWorld) (t : AreThose h bs b w) (sorted : IsStrictlySortedBy by_bytes (keys_of h.contracts)) where
  pub less_is : (p : Place) (n : ℕ) → is_place (place_bytes p) ≡ true → may_receive h p ≡ true → AreThose (with_less h p n) bs b (rules.with_less w (place_bytes p) n)
  less_is p n v m =
      subst (λ (k : ℕ). AreThose (with_less h p n) bs b (rules.with_balance w (place_bytes p) (k - n))) (balance_or_none_is h bs b w p t v)
      (balance_write h bs b w p (balance_or_none h p - n) t v m sorted)

  pub more_is : (p : Place) (n : ℕ) → is_place (place_bytes p) ≡ true → may_receive h p ≡ true
      → AreThose (with_balance h p (balance_or_none h p + n)) bs b (rules.with_more w (place_bytes p) n)
  more_is p n v m =
      subst (λ (k : ℕ). AreThose (with_balance h p (balance_or_none h p + n)) bs b (rules.with_balance w (place_bytes p) (k + n))) (balance_or_none_is h bs b w p t v)
      (balance_write h bs b w p (balance_or_none h p + n) t v m sorted)

-- mutez that go from one place to another
pub moved_is : (h : Holders) (bs : Bases) (b : Books) (w : PlainWorld) (from to : Place) (n : ℕ) → AreThose h bs b w → IsStrictlySortedBy by_bytes (keys_of h.contracts)
    → is_place (place_bytes from) ≡ true → is_place (place_bytes to) ≡ true → may_receive h from ≡ true → may_receive h to ≡ true
    → AreThose (moved h from to n) bs b (rules.moved w (place_bytes from) (place_bytes to) n)
moved_is h bs b w from to n t s f g m r =
    let k = with_less h from n in
    more_is k bs b (rules.with_less w (place_bytes from) n) (less_is h bs b w t s from n f m)
    (subst (λ (ks : List (List ℕ)). IsStrictlySortedBy by_bytes ks) (sym (keys_balance h from (balance_or_none h from - n))) s)
    to n g (receives h k to (λ hash. contracts_there h from (balance_or_none h from - n) hash) r)

-- a fee
pub fee_is : (h : Holders) (bs : Bases) (b : Books) (w : PlainWorld) (who : List ℕ) (fee : ℕ) → AreThose h bs b w → IsStrictlySortedBy by_bytes (keys_of h.contracts)
    → is_place (place_bytes (place.Implicit who)) ≡ true → AreThose (fee_taken h who fee) bs b (rules.fee_taken w (place_bytes (place.Implicit who)) fee)
fee_is h bs b w who fee t s v =
    let l = less_is h bs b w t s (place.Implicit who) fee v refl in
    record {
      accounts = l.accounts;
      contracts = l.contracts;
      fees = ap (λ (n : ℕ). n + fee) t.fees;
      storage_burn = l.storage_burn;
      granted = l.granted;
      rate = l.rate;
      held = l.held;
      minted = l.minted;
      burnt = l.burnt;
      listed = l.listed;
    }

-- ---- whole worlds

-- where and when
record SameClock (w x : PlainWorld) : Type 0 where
  pub chain : x.chain ≡ w.chain
  pub level : x.level ≡ w.level
  pub moment : x.moment ≡ w.moment

clock_balance : (w : PlainWorld) (q : List ℕ) (n : ℕ) → SameClock w (rules.with_balance w q n)
clock_balance w q n = by (is_implicit q) (plain_contract_at w (hash_in q))
  where
    by : (b : Bool) (o : Option PlainContract) → SameClock w (if b then rules.with_account_balance w (key_hash_in q) n else rules.with_contract_balance w (hash_in q) n o)
    by true o = record { chain = refl; level = refl; moment = refl }
    by false None = record { chain = refl; level = refl; moment = refl }
    by false (Some c) = record { chain = refl; level = refl; moment = refl }

sorted_of : (h : Holders) (bs : Bases) (b : Books) (w : PlainWorld) → AreThose h bs b w → IsWorld w → IsStrictlySortedBy by_bytes (keys_of h.contracts)
sorted_of h bs b w t i = subst (λ (ks : List (List ℕ)). IsStrictlySortedBy by_bytes ks) (ap keys_of t.contracts ∙ keys_seen (plain bs) h.contracts) i.contracts_in_order

-- a world whose funds were written stands for another
stands : (u v : World) (w x : PlainWorld) (h : Holders) → StandsFor u w → SameClock w x → v ≡ with_funds u v.funds → v.funds.present ≡ h
    → AreThose h u.store.bases.present u.ledger.books.present x → StandsFor v x
stands u v w x h s c e p t = record {
  chain = c.chain ∙ s.chain ∙ sym (ap (λ (y : World). y.chain) e);
  level = c.level ∙ s.level ∙ sym (ap (λ (y : World). y.level) e);
  moment = c.moment ∙ s.moment ∙ sym (ap (λ (y : World). y.moment) e);
  those = subst (λ (k : Holders). AreThose k v.store.bases.present v.ledger.books.present x) (sym p)
      (subst (λ (y : World). AreThose h y.store.bases.present y.ledger.books.present x) (sym e) t);
}

pub moves_agree : MovesAgree
moves_agree u v w from to n s i f g m r e p =
    let t = s.those in
    let one = clock_balance w (place_bytes from) (rules.balance_or_none w (place_bytes from) - n) in
    let mid = rules.with_less w (place_bytes from) n in
    let two = clock_balance mid (place_bytes to) (rules.balance_or_none mid (place_bytes to) + n) in
    stands u v w _ _ s (record { chain = two.chain ∙ one.chain; level = two.level ∙ one.level; moment = two.moment ∙ one.moment }) e p
    (moved_is u.funds.present u.store.bases.present u.ledger.books.present w from to n t (sorted_of _ _ _ w t i) f g m r)

pub fees_agree : FeesAgree
fees_agree u v w who fee s i f e p =
    let t = s.those in
    let one = clock_balance w (place_bytes (place.Implicit who)) (rules.balance_or_none w (place_bytes (place.Implicit who)) - fee) in
    stands u v w _ _ s (record { chain = one.chain; level = one.level; moment = one.moment }) e p
    (fee_is u.funds.present u.store.bases.present u.ledger.books.present w who fee t (sorted_of _ _ _ w t i) f)
