-- Worlds that change.
use Rattle.std.proofs.Common.{◌≡◌, ◌<◌, ◌^◌, ℕ, ◌+◌, ◌-◌, Bool, true, false, cond, List, [], ◌∷◌, Option, Some, None, refl, sym, ◌∙◌, subst, unwrap_or, arith}
use Rattle.std.specs.Prelude.{ℤ, pos, ◌+ℤ◌, ◌-ℤ◌, int_le, nat_lt, if◌then◌else◌}
use Rattle.std.specs.Option.{IfSome}
use Rattle.std.specs.Ordering.{nat_cmp}
use Rattle.std.specs.Cmp.Lexicographic.{slice_cmp}
use Rattle.std.specs.BTreeMap.{is_at, insert_entry}
use Rattle.std.specs.Map.{remove_entry}
use Rattle.std.specs.List.{All}
use Rattle.std.proofs.lemmas.Map.Entries.{All-lookup}
use Rattle.std.proofs.lemmas.Bool.{ltb-true}
use Rattle.std.proofs.lemmas.List.Elements.{All-nil, All-cons, All-head, All-tail, All-weaker}
use Rattle.rules_data.specs.forms.Spelling.{implicit_place, is_implicit, is_key_hash}
use Rattle.rules_data.specs.values.Tickets.{Identity, Held}
use Rattle.rules_code.specs.steps.Changes.{identity_of}
use Rattle.rules_code.specs.evaluation.Surroundings.{Contract}
use Rattle.rules_code.specs.evaluation.Contracts.{hash_in}
use Rattle.rules_world.specs.world.World.{Account, World, identity_order, account_at, contract_at, no_account, account_or_none, with_account, with_contract, key_hash_in}
use Rattle.rules_world.specs.world.Balances.{with_account_balance, with_contract_balance, with_balance, balance_or_none, with_less, moved, fee_taken, endowed}
use Rattle.rules_world.specs.world.Holdings.{amount_held, with_amount, credited_account, credited, debited_account, debited}
use Rattle.rules_world.specs.world.Growth.{Burn, burn_for, burn_by, burn_of, size_of, with_paid, paid_for, burnt_from}
use Rattle.laws_world.proofs.accounts.ForCallers.{all_found, all_insert}
use Rattle.laws_world.proofs.runs.Worlds.{set_at}
use Rattle.laws_world.proofs.runs.ForCallers.{found_same}
use Rattle.laws_commands.specs.written.Written.{IsByte, AreBytes, IsWrittenIdentity, IsWrittenTicket, IsWrittenContract}
use Rattle.laws_commands.specs.written.Worlds.{IsThere, IsMade, IsWrittenAccount, IsWrittenAt, IsWrittenWorld}
use Rattle.laws_commands.proofs.written_lemmas.evaluation.Issuers.{issuers_more}
use Rattle.laws_commands.proofs.common.Lists.{all_take, all_drop}

-- ---- entries

abbrev Held_is : Identity × ℤ → Type 0
Held_is h = IsWrittenIdentity h.0

all_removed : {K X : Type 0} (P : K × X → Type 0) (test : K → Bool) (es : List (K × X)) → All P es → All P (remove_entry test es)
all_removed P test [] h = All-nil P
all_removed {K} {X} P test (e ∷ es) h = by (test e.0) (all_removed P test es (All-tail P e es h))
  where
    by : (b : Bool) → All P (remove_entry test es) → All P (cond b es (e ∷ remove_entry test es))
    by true r = All-tail P e es h
    by false r = All-cons P e (remove_entry test es) (All-head P e es h) r

abbrev Holdings : Account → Type 0
Holdings a = All Held_is a.holdings

abbrev HoldingsIf : Option Account → Type 0
HoldingsIf o = IfSome o Holdings

account_found : (w : World) (who : List ℕ) → IsWrittenWorld w → HoldingsIf (account_at w who)
account_found w who h = All-lookup Holdings (is_at (slice_cmp nat_cmp who)) w.accounts
    (All-weaker IsWrittenAccount (λ a. Holdings a.1) (λ a i. i.1) w.accounts h.accounts)

account_is : (w : World) (who : List ℕ) → IsWrittenWorld w → Holdings (account_or_none w who)
account_is w who h = by (account_at w who) (account_found w who h)
  where
    by : (o : Option Account) → HoldingsIf o → Holdings (unwrap_or o no_account)
    by (Some a) i = i
    by None i = All-nil Held_is

pub contract_is : (w : World) (hash : List ℕ) (c : Contract) → IsWrittenWorld w → contract_at w hash ≡ Some c → IsWrittenContract c
contract_is w hash c h e =
    let found : IfSome (contract_at w hash) IsWrittenContract =
    All-lookup IsWrittenContract (is_at (slice_cmp nat_cmp hash)) w.contracts
    (All-weaker IsWrittenAt (λ c. IsWrittenContract c.1) (λ c i. i.1) w.contracts h.contracts) in
    let same : IfSome (Some c) IsWrittenContract = subst (λ o. IfSome o IsWrittenContract) e found in
    same

-- a contract that is there was made by a group
pub hash_made : (w : World) (hash : List ℕ) (c : Contract) → IsWrittenWorld w → contract_at w hash ≡ Some c → IsMade hash
hash_made w hash c h e =
    let f = all_found (is_at (slice_cmp nat_cmp hash)) IsWrittenAt w.contracts c h.contracts e in
    subst IsMade (sym (found_same hash f.0 f.2)) f.1.2

pub account_written : (w : World) (who : List ℕ) (a : Account) → IsWrittenWorld w → AreBytes who → Holdings a →
    IsWrittenWorld (with_account w who a)
account_written w who a h b i = record {
  chain = h.chain;
  level = h.level;
  accounts = all_insert (slice_cmp nat_cmp) IsWrittenAccount who a (b, i) (λ e f same. (f.0, i)) w.accounts h.accounts;
  contracts = h.contracts;
  log = h.log;
  issuers = h.issuers;
}

-- who was there stays there when a contract is set
pub there_more : (w : World) (hash : List ℕ) (d : Contract) (q : List ℕ) → IsThere w q → IsThere (with_contract w hash d) q
there_more w hash d q h = by (is_at (slice_cmp nat_cmp q) hash) (set_at w hash d q)
  where
    by : (b : Bool) → contract_at (with_contract w hash d) q ≡ cond b (Some d) (contract_at w q) → IsThere (with_contract w hash d) q
    by true e = (d, e)
    by false e = (h.0, e ∙ h.1)

pub contract_written : (w : World) (hash : List ℕ) (c : Contract) → IsWrittenWorld w → AreBytes hash → IsWrittenContract c → IsMade hash →
    IsWrittenWorld (with_contract w hash c)
contract_written w hash c h b i m = record {
  chain = h.chain;
  level = h.level;
  accounts = h.accounts;
  contracts = all_insert (slice_cmp nat_cmp) IsWrittenAt hash c (b, i, m) (λ e f same. (f.0, i, f.2)) w.contracts h.contracts;
  log = h.log;
  issuers = issuers_more (IsThere w) (IsThere (with_contract w hash c)) (there_more w hash c) w.log h.issuers;
}

-- ---- mutez

pub balance_written : (w : World) (place : List ℕ) (mutez : ℕ) → IsWrittenWorld w → AreBytes place →
    IsWrittenWorld (with_balance w place mutez)
balance_written w place mutez h b = by (is_implicit place)
  where
    of_contract : (o : Option Contract) → contract_at w (hash_in place) ≡ o →
        IsWrittenWorld (with_contract_balance w (hash_in place) mutez o)
    of_contract (Some c) e =
        contract_written w (hash_in place) (record c { balance = mutez }) h (all_take IsByte 20 _ (all_drop IsByte 1 place b))
        (contract_is w (hash_in place) c h e) (hash_made w (hash_in place) c h e)
    of_contract None e = h

    by : (t : Bool) → IsWrittenWorld (if t then with_account_balance w (key_hash_in place) mutez else with_contract_balance w
        (hash_in place) mutez (contract_at w (hash_in place)))
    by true = account_written w (key_hash_in place) (record (account_or_none w (key_hash_in place)) { balance = mutez }) h
        (all_drop IsByte 1 place b) (account_is w (key_hash_in place) h)
    by false = of_contract (contract_at w (hash_in place)) refl

pub less_written : (w : World) (place : List ℕ) (mutez : ℕ) → IsWrittenWorld w → AreBytes place → IsWrittenWorld (with_less w place mutez)
less_written w place mutez h b = balance_written w place (balance_or_none w place - mutez) h b

pub moved_written : (w : World) (from to : List ℕ) (mutez : ℕ) → IsWrittenWorld w → AreBytes from → AreBytes to →
    IsWrittenWorld (moved w from to mutez)
moved_written w from to mutez h b c =
    balance_written (with_less w from mutez) to (balance_or_none (with_less w from mutez) to + mutez) (less_written w from mutez h b) c

pub fee_written : (w : World) (from : List ℕ) (fee : ℕ) → IsWrittenWorld w → AreBytes from → IsWrittenWorld (fee_taken w from fee)
fee_written w from fee h b =
    let i = less_written w from fee h b in record { chain = i.chain; level = i.level; accounts = i.accounts; contracts = i.contracts; log = i.log; issuers = i.issuers }

pub endowed_written : (w : World) (who : List ℕ) (mutez : ℕ) → IsWrittenWorld w → AreBytes who → IsWrittenWorld (endowed w who mutez)
endowed_written w who mutez h b =
    let i = account_written w who (record (account_or_none w who) { balance = mutez }) h b (account_is w who h) in
    record { chain = i.chain; level = i.level; accounts = i.accounts; contracts = i.contracts; log = i.log; issuers = i.issuers }

-- ---- tickets of accounts

amount_written : (a : Account) (id : Identity) (n : ℤ) → Holdings a → IsWrittenIdentity id → Holdings (with_amount a id n)
amount_written a id n h i = by (int_le n (pos 0))
  where
    by : (t : Bool) → Holdings (if t then record a { holdings = remove_entry (is_at (identity_order id)) a.holdings } else record a
        { holdings = insert_entry identity_order a.holdings id n })
    by true = all_removed Held_is (is_at (identity_order id)) a.holdings h
    by false = all_insert identity_order Held_is id n i (λ e f same. f) a.holdings h

pub credited_written : (w : World) (who : List ℕ) (t : Held) → IsWrittenWorld w → AreBytes who → IsWrittenTicket t →
    IsWrittenWorld (credited w who t)
credited_written w who t h b i =
    account_written w who (credited_account (account_or_none w who) t) h b (amount_written (account_or_none w who) (identity_of t)
    (amount_held (account_or_none w who) (identity_of t) +ℤ t.amount) (account_is w who h) i)

pub debited_written : (w : World) (who : List ℕ) (t : Held) → IsWrittenWorld w → AreBytes who → IsWrittenTicket t →
    IsWrittenWorld (debited w who t)
debited_written w who t h b i =
    account_written w who (debited_account (account_or_none w who) t) h b (amount_written (account_or_none w who) (identity_of t)
    (amount_held (account_or_none w who) (identity_of t) -ℤ t.amount) (account_is w who h) i)

-- ---- growth

pub burnt_written : (w : World) (from : List ℕ) (mutez : ℕ) → IsWrittenWorld w → AreBytes from → IsWrittenWorld (burnt_from w from mutez)
burnt_written w from mutez h b =
    let i = less_written w from mutez h b in record { chain = i.chain; level = i.level; accounts = i.accounts; contracts = i.contracts; log = i.log; issuers = i.issuers }

-- what an account pays leaves the contracts as they are
pub burnt_contracts : (w : World) (who : List ℕ) (mutez : ℕ) → is_key_hash who ≡ true →
    (burnt_from w (implicit_place who) mutez).contracts ≡ w.contracts
burnt_contracts w who mutez key = rw key refl

-- the bytes of a burn with those that were paid before are within the limit
abbrev pub PaysFor : World → List ℕ → Option Burn → Type 0
PaysFor w hash None = Unit {0}
PaysFor w hash (Some b) = (b.bytes < 2 ^ 64) × ((c : Contract) → contract_at w hash ≡ Some c → c.paid + b.bytes < 2 ^ 64)

pub paid_written : (w : World) (hash : List ℕ) (bytes : ℕ) → IsWrittenWorld w → AreBytes hash →
    ((c : Contract) → contract_at w hash ≡ Some c → c.paid + bytes < 2 ^ 64) →
    IsWrittenWorld (paid_for w hash bytes)
paid_written w hash bytes h b few = by (contract_at w hash) refl
  where
    by : (o : Option Contract) → contract_at w hash ≡ o → IsWrittenWorld (with_paid w hash bytes o)
    by (Some c) e = let i = contract_is w hash c h e in contract_written w hash (record c { paid = c.paid + bytes }) h b (i.0, i.1, few c e) (hash_made w hash c h e)
    by None e = h

size_small : (c : Contract) → size_of c < 2 ^ 64
size_small c = omega arith

some_same : (c d : Contract) → Some c ≡ Some d → c ≡ d
some_same c d e = cc

pub pays_for : (w : World) (hash : List ℕ) → PaysFor w hash (burn_of w hash)
pays_for w hash = by w.rate (contract_at w hash) refl
  where
    if_more : (rate : ℕ) (c : Contract) (t : Bool) → contract_at w hash ≡ Some c → nat_lt c.paid (size_of c) ≡ t →
        PaysFor w hash (if t then Some (burn_for rate (size_of c - c.paid)) else None)
    if_more rate c true there e =
        let s = size_small c in
        let less : c.paid < size_of c = ltb-true c.paid (size_of c) e in (
          omega (arith, s),
          λ d at. let same : c ≡ d = some_same c d (sym there ∙ at) in
              subst (λ (d : Contract). d.paid + (size_of c - c.paid) < 2 ^ 64) same (omega (arith, s, less)),
        )
    if_more rate c false there e = tt

    by : (r : Option ℕ) (o : Option Contract) → contract_at w hash ≡ o → PaysFor w hash (burn_by r o)
    by (Some rate) (Some c) e = if_more rate c (nat_lt c.paid (size_of c)) e refl
    by (Some rate) None e = tt
    by None o e = tt
