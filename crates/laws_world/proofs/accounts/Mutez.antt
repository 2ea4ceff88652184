-- Mutez is conserved by moves, fees and burns, and grants add to it.
use Rattle.std.proofs.Common.{◌≡◌, ◌≤◌, ℕ, ◌+◌, ◌-◌, nat_le, List, [], Bool, true, false, is_some, option_map, unwrap_or, None, Some, refl, ap, arith}
use Rattle.std.specs.declared.option.Option.{Option}
use Rattle.std.specs.Prelude.{if◌then◌else◌}
use Rattle.std.specs.Ordering.{nat_cmp}
use Rattle.std.specs.Cmp.Lexicographic.{slice_cmp}
use Rattle.std.specs.BTreeMap.{is_at}
use Rattle.std.specs.Map.{lookup, keys_of}
use Rattle.std.specs.List.Sorted.{IsStrictlySortedBy}
use Rattle.std.proofs.lemmas.Cmp.{nat_list_cmp_total}
use Rattle.std.proofs.lemmas.Map.Entries.{sum_by-insert_entry}
use Rattle.rules_text.specs.nodes.Limits.{most_mutez}
use Rattle.rules_code.specs.evaluation.Surroundings.{Contract}
use Rattle.rules_data.specs.forms.Spelling.{is_implicit}
use Rattle.rules_code.specs.evaluation.Contracts.{hash_in}
use Rattle.rules_world.specs.world.World.{World, Account, key_hash_in, account_at, contract_at, account_or_none, no_account, with_account, with_contract}
use Rattle.rules_world.specs.world.Balances.{Grant, supply, balance_or_none, with_balance, with_less, with_more, fee_taken, with_account_balance, with_contract_balance, Granted, Repeated, TooMuch, endowed}
use Rattle.rules_world.specs.world.Growth.{burnt_from}
use Rattle.rules_world.specs.world.Good.{IsGood}
use Rattle.rules_world.specs.world.Laws.{GrantsAddMutez}

abbrev pub account_balance : Account → ℕ
account_balance a = a.balance

abbrev pub contract_balance : Contract → ℕ
contract_balance c = c.balance

balance_of : (o : Option Account) → unwrap_or (option_map account_balance o) 0 ≡ (unwrap_or o no_account).balance
balance_of None = refl
balance_of (Some a) = refl

-- an account's balance is set
pub set_account : (w : World) (who : List ℕ) (mutez : ℕ) → IsStrictlySortedBy (slice_cmp nat_cmp) (keys_of w.accounts)
    → supply (with_account_balance w who mutez) + (account_or_none w who).balance ≡ supply w + mutez
set_account w who mutez sorted =
    let set = sum_by-insert_entry account_balance nat_list_cmp_total w.accounts who
    (record (account_or_none w who) { balance = mutez }) sorted in
    let old = balance_of (lookup (is_at (slice_cmp nat_cmp who)) w.accounts) in
    omega (arith, set, old)

-- so is that of a contract that is there
pub set_contract : (w : World) (hash : List ℕ) (mutez : ℕ) (c : Contract) →
    IsStrictlySortedBy (slice_cmp nat_cmp) (keys_of w.contracts)
    → contract_at w hash ≡ Some c → supply (with_contract_balance w hash mutez (Some c)) + c.balance ≡ supply w + mutez
set_contract w hash mutez c sorted there =
    let set = sum_by-insert_entry contract_balance nat_list_cmp_total w.contracts hash (record c { balance = mutez }) sorted in
    let old : unwrap_or (option_map contract_balance (contract_at w hash)) 0 ≡ c.balance = ap
    (λ (o : Option Contract). unwrap_or (option_map contract_balance o) 0) there in
    omega (arith, set, old)

abbrev world_in : World → Grant → World
world_in w (Granted v) = v
world_in w Repeated = w
world_in w TooMuch = w

nothing_before : (o : Option Account) → is_some o ≡ false → (unwrap_or o no_account).balance ≡ 0
nothing_before None h = refl
nothing_before (Some a) h = let n : ⊥ = cc in absurd n

granted_by : (w v : World) (who : List ℕ) (mutez : ℕ) (there : Bool) (small : Bool) → IsGood w [] →
    is_some (account_at w who) ≡ there →
    (if there then Repeated else if small then Granted (endowed w who mutez) else TooMuch) ≡ Granted v →
    supply v ≡ supply w + mutez
granted_by w v who mutez true small good at h = let n : ⊥ = cc in absurd n
granted_by w v who mutez false true good at h =
    let set = set_account w who mutez good.sound.form.accounts_in_order in
    let before = nothing_before (account_at w who) at in
    let same = ap supply (ap (world_in w) h) in
    omega (arith, set, before, same)
granted_by w v who mutez false false good at h = let n : ⊥ = cc in absurd n

pub grants_add_mutez : GrantsAddMutez
grants_add_mutez w v who mutez good h = granted_by w v who mutez (is_some (account_at w who))
    (nat_le (w.granted + mutez) most_mutez) good refl h

-- ---- moves

-- somebody is at a place: an account may be, and a contract is
abbrev pub IsOwner : World → List ℕ → Bool → Type 0
IsOwner w place true = Unit {0}
IsOwner w place false = (c : Contract) × (contract_at w (hash_in place) ≡ Some c)

pub record InOrder (w : World) : Type 0 where
  pub accounts : IsStrictlySortedBy (slice_cmp nat_cmp) (keys_of w.accounts)
  pub contracts : IsStrictlySortedBy (slice_cmp nat_cmp) (keys_of w.contracts)

account_there : (w : World) (who : List ℕ) → unwrap_or (option_map account_balance (account_at w who)) 0 ≡
    (account_or_none w who).balance
account_there w who = balance_of (account_at w who)

pub set_balance : (w : World) (place : List ℕ) (mutez : ℕ) (b : Bool) → is_implicit place ≡ b → InOrder w → IsOwner w place b
    → supply (with_balance w place mutez) + balance_or_none w place ≡ supply w + mutez
set_balance w place mutez true is order owner =
    rw is (let set = set_account w (key_hash_in place) mutez order.accounts in let old = account_there w (key_hash_in place) in
    omega (arith, set, old))
set_balance w place mutez false is order owner =
    rw (is, owner.1) (set_contract w (hash_in place) mutez owner.0 order.contracts owner.1)

fees_by : (w : World) (place : List ℕ) (mutez : ℕ) (b : Bool) (o : Option Contract) →
    (if b then with_account_balance w (key_hash_in place) mutez else with_contract_balance w (hash_in place) mutez o).fees ≡
    w.fees
fees_by w place mutez true o = refl
fees_by w place mutez false None = refl
fees_by w place mutez false (Some c) = refl

fees_same : (w : World) (place : List ℕ) (mutez : ℕ) → (with_balance w place mutez).fees ≡ w.fees
fees_same w place mutez = fees_by w place mutez (is_implicit place) (contract_at w (hash_in place))

-- a fee goes from a balance to the fees
pub fees_conserve : (w : World) (place : List ℕ) (fee : ℕ) → InOrder w → IsOwner w place (is_implicit place) →
    fee ≤ balance_or_none w place → supply (fee_taken w place fee) ≡ supply w
fees_conserve w place fee order owner enough =
    let set = set_balance w place (balance_or_none w place - fee) (is_implicit place) refl order owner in
    let fees = fees_same w place (balance_or_none w place - fee) in
    omega (arith, set, enough, fees)

-- ---- moves, where the contract that they come from may be none

pub nobody : (w : World) (place : List ℕ) (mutez : ℕ) → is_implicit place ≡ false → contract_at w (hash_in place) ≡ None →
    (with_balance w place mutez ≡ w) × (balance_or_none w place ≡ 0)
nobody w place mutez is none = (rw (is, none) refl, rw (is, none) refl)

-- mutez goes from a place that has it
pub less_supply : (w : World) (place : List ℕ) (mutez : ℕ) → InOrder w → mutez ≤ balance_or_none w place →
    supply (with_less w place mutez) + mutez ≡ supply w
less_supply w place mutez order enough = by (is_implicit place) (contract_at w (hash_in place)) refl refl
  where
    by : (b : Bool) (o : Option Contract) → is_implicit place ≡ b → contract_at w (hash_in place) ≡ o →
        supply (with_less w place mutez) + mutez ≡ supply w
    by true o is at = let set = set_balance w place (balance_or_none w place - mutez) true is order tt in
        omega (arith, set, enough)
    by false (Some c) is at = let set = set_balance w place (balance_or_none w place - mutez) false is order (c, at) in
        omega (arith, set, enough)
    by false None is at =
        let n = nobody w place (balance_or_none w place - mutez) is at in
        let same : supply (with_less w place mutez) ≡ supply w = ap supply n.0 in
        omega (arith, same, n.1, enough)

burn_by : (w : World) (place : List ℕ) (mutez : ℕ) (b : Bool) (o : Option Contract) →
    (if b then with_account_balance w (key_hash_in place) mutez else with_contract_balance w (hash_in place) mutez o).storage_burn
    ≡ w.storage_burn
burn_by w place mutez true o = refl
burn_by w place mutez false None = refl
burn_by w place mutez false (Some c) = refl

-- and to the burn
pub burns_conserve : (w : World) (place : List ℕ) (mutez : ℕ) → InOrder w → mutez ≤ balance_or_none w place →
    supply (burnt_from w place mutez) ≡ supply w
burns_conserve w place mutez order enough =
    let less = less_supply w place mutez order enough in
    let burn : (with_less w place mutez).storage_burn ≡ w.storage_burn =
    burn_by w place (balance_or_none w place - mutez) (is_implicit place) (contract_at w (hash_in place)) in
    omega (arith, less, burn)

pub more_supply : (w : World) (place : List ℕ) (mutez : ℕ) → InOrder w → IsOwner w place (is_implicit place) →
    supply (with_more w place mutez) ≡ supply w + mutez
more_supply w place mutez order owner =
    let set = set_balance w place (balance_or_none w place + mutez) (is_implicit place) refl order owner in
    omega (arith, set)

-- ---- an account or a contract is set whole

pub account_supply : (w : World) (who : List ℕ) (a : Account) → InOrder w →
    supply (with_account w who a) + (account_or_none w who).balance ≡ supply w + a.balance
account_supply w who a order =
    let set = sum_by-insert_entry account_balance nat_list_cmp_total w.accounts who a order.accounts in
    let old = balance_of (account_at w who) in
    omega (arith, set, old)

pub contract_supply : (w : World) (hash : List ℕ) (d c : Contract) → InOrder w → contract_at w hash ≡ Some c →
    supply (with_contract w hash d) + c.balance ≡ supply w + d.balance
contract_supply w hash d c order there =
    let set = sum_by-insert_entry contract_balance nat_list_cmp_total w.contracts hash d order.contracts in
    let old : unwrap_or (option_map contract_balance (contract_at w hash)) 0 ≡ c.balance = ap
    (λ (o : Option Contract). unwrap_or (option_map contract_balance o) 0) there in
    omega (arith, set, old)
