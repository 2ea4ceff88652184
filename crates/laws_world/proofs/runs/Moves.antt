-- Mutez moves, and nothing else.
use Rattle.std.proofs.Common.{◌≡◌, ◌≤◌, ◌+◌, ℕ, List, [], ◌∷◌, Bool, true, false, Some, None, refl, sym, ap, ◌∙◌, ℤ, ◌+ℤ◌, ◌==◌, arith}
use Rattle.std.specs.Prelude.{if◌then◌else◌}
use Rattle.std.specs.declared.option.Option.{Option}
use Rattle.std.proofs.lemmas.Int.{ints}
use Rattle.std.proofs.lemmas.Bool.{and_parts}
use Rattle.rules_data.specs.forms.Spelling.{is_implicit, is_key_hash}
use Rattle.rules_data.specs.values.Tickets.{Identity}
use Rattle.rules_code.specs.steps.Changes.{amount_in}
use Rattle.rules_code.specs.evaluation.Surroundings.{Contract}
use Rattle.rules_code.specs.evaluation.Contracts.{hash_in}
use Rattle.rules_world.specs.world.World.{World, Account, account_or_none, contract_at, with_contract, key_hash_in}
use Rattle.rules_world.specs.world.Balances.{supply, balance_or_none, with_balance, with_account_balance, with_contract_balance, with_less, moved, fee_taken}
use Rattle.rules_world.specs.world.Holdings.{amount_held, held}
use Rattle.rules_world.specs.world.Growth.{burnt_from, with_paid, paid_for}
use Rattle.laws_world.proofs.accounts.ForCallers.{one_in, Extends, extends_trans, InOrder, IsOwner, contract_supply, less_supply, more_supply}
use Rattle.laws_world.proofs.runs.Worlds.{IsOrderly, account_holdings, contract_stores, contract_length, orderly_account, orderly_contract, orderly_fees, orderly_burn, extends_replaced, none_replaced, held_account, held_contract}

-- the world after a step in which contracts keep their scripts, none comes to be, and no ticket moves
pub record OnlyMutez (w x : World) : Type 0 where
  pub orderly : IsOrderly x
  pub more : Extends (contract_at w) (contract_at x)
  pub none : (hash : List ℕ) → contract_at w hash ≡ None → contract_at x hash ≡ None
  pub log : x.log ≡ w.log
  pub granted : x.granted ≡ w.granted
  pub held : (id : Identity) → held x id ≡ held w id

pub extends_itself : (w : World) → Extends (contract_at w) (contract_at w)
extends_itself w hash c h = (c, h, refl)

pub mutez_nothing : (w : World) → IsOrderly w → OnlyMutez w w
mutez_nothing w o = record {
  orderly = o;
  more = extends_itself w;
  none = λ hash h. h;
  log = refl;
  granted = refl;
  held =
      λ id. refl;
}

pub mutez_then : (w x y : World) → OnlyMutez w x → OnlyMutez x y → OnlyMutez w y
mutez_then w x y f g = record {
  orderly = g.orderly;
  more = extends_trans (contract_at w) (contract_at x) (contract_at y) f.more g.more;
  none = λ hash h. g.none hash (f.none hash h);
  log = g.log ∙ f.log;
  granted = g.granted ∙ f.granted;
  held = λ id. g.held id ∙ f.held id;
}

pub in_order : (w : World) → IsOrderly w → InOrder w
in_order w o = record { accounts = o.form.accounts_in_order; contracts = o.form.contracts_in_order }

-- an implicit place has a key hash in it
pub implicit_hash : (place : List ℕ) → is_implicit place ≡ true → is_key_hash (key_hash_in place) ≡ true
implicit_hash [] h = absurd cc
implicit_hash (kind ∷ key_hash) h = (and_parts (kind == 0) (is_key_hash key_hash) h).1

left_same : (a b c : ℤ) → a +ℤ b ≡ c +ℤ b → a ≡ c
left_same a b c h = omega (arith, ints, h)

pub account_balance : (w : World) (who : List ℕ) (mutez : ℕ) → IsOrderly w → is_key_hash who ≡ true →
    OnlyMutez w (with_account_balance w who mutez)
account_balance w who mutez o k =
    let h = account_holdings w o who in
    let a : Account = record (account_or_none w who) { balance = mutez } in
    record {
      orderly = orderly_account w who a o k (record { forms = h.forms; order = h.order });
      more = λ hash c g. (c, g, refl);
      none = λ hash g. g;
      log = refl;
      granted = refl;
      held = λ id. left_same _ (amount_held (account_or_none w who) id) _ (held_account w who a id o);
    }

-- a contract has another balance, or has paid for more bytes
contract_set : (w : World) (hash : List ℕ) (mutez paid : ℕ) (c : Contract) → IsOrderly w → contract_at w hash ≡ Some c →
    OnlyMutez w (with_contract w hash (record c { balance = mutez; paid = paid }))
contract_set w hash mutez paid c o there =
    let d : Contract = record c { balance = mutez; paid = paid } in
    let more = extends_replaced w hash d c there refl in
    record {
      orderly = orderly_contract w hash d o (contract_length w o hash c there) more (contract_stores w o hash c there);
      more = more;
      none = none_replaced w hash d c there;
      log = refl;
      granted = refl;
      held = λ id. same id (held_contract w hash d id o);
    }
  where
    same : (id : Identity) → held (with_contract w hash (record c { balance = mutez; paid = paid })) id +ℤ one_in
        (λ (c : Contract). amount_in id c.storage) (contract_at w hash) ≡ held w id +ℤ amount_in id c.storage →
        held (with_contract w hash (record c { balance = mutez; paid = paid })) id ≡ held w id
    same id h = left_same _ (amount_in id c.storage) _
        (ap (λ o. held (with_contract w hash (record c { balance = mutez; paid = paid })) id +ℤ one_in
        (λ (c : Contract). amount_in id c.storage) o) (sym there) ∙ h)

contract_balance : (w : World) (hash : List ℕ) (mutez : ℕ) (o : Option Contract) → IsOrderly w → contract_at w hash ≡ o →
    OnlyMutez w (with_contract_balance w hash mutez o)
contract_balance w hash mutez None o there = mutez_nothing w o
contract_balance w hash mutez (Some c) o there = contract_set w hash mutez c.paid c o there

-- a balance is set
pub balance_set : (w : World) (place : List ℕ) (mutez : ℕ) → IsOrderly w → OnlyMutez w (with_balance w place mutez)
balance_set w place mutez o = by (is_implicit place) refl
  where
    by : (b : Bool) → is_implicit place ≡ b →
        OnlyMutez w (if b then with_account_balance w (key_hash_in place) mutez else with_contract_balance w
        (hash_in place) mutez (contract_at w (hash_in place)))
    by true e = account_balance w (key_hash_in place) mutez o (implicit_hash place e)
    by false e = contract_balance w (hash_in place) mutez (contract_at w (hash_in place)) o refl

pub less_moves : (w : World) (place : List ℕ) (mutez : ℕ) → IsOrderly w → OnlyMutez w (with_less w place mutez)
less_moves w place mutez o = balance_set w place _ o

pub moved_moves : (w : World) (from to : List ℕ) (mutez : ℕ) → IsOrderly w → OnlyMutez w (moved w from to mutez)
moved_moves w from to mutez o =
    let less = less_moves w from mutez o in
    mutez_then w (with_less w from mutez) (moved w from to mutez) less (balance_set (with_less w from mutez) to _ less.orderly)

pub fee_moves : (w : World) (from : List ℕ) (fee : ℕ) → IsOrderly w → OnlyMutez w (fee_taken w from fee)
fee_moves w from fee o =
    let less = less_moves w from fee o in
    record {
      orderly = orderly_fees (with_less w from fee) (w.fees + fee) less.orderly;
      more = less.more;
      none =
          less.none;
      log = less.log;
      granted = less.granted;
      held = less.held;
    }

pub burn_moves : (w : World) (from : List ℕ) (mutez : ℕ) → IsOrderly w → OnlyMutez w (burnt_from w from mutez)
burn_moves w from mutez o =
    let less = less_moves w from mutez o in
    record {
      orderly = orderly_burn (with_less w from mutez) (w.storage_burn + mutez) less.orderly;
      more = less.more;
      none = less.none;
      log = less.log;
      granted = less.granted;
      held = less.held;
    }

-- a contract has paid for more bytes
pub paid_moves : (w : World) (hash : List ℕ) (bytes : ℕ) → IsOrderly w → OnlyMutez w (paid_for w hash bytes)
paid_moves w hash bytes o = by (contract_at w hash) refl
  where
    by : (c : Option Contract) → contract_at w hash ≡ c → OnlyMutez w (with_paid w hash bytes c)
    by None there = mutez_nothing w o
    by (Some c) there = contract_set w hash c.balance (c.paid + bytes) c o there

-- ---- all mutez

pub paid_supply : (w : World) (hash : List ℕ) (bytes : ℕ) → IsOrderly w → supply (paid_for w hash bytes) ≡ supply w
paid_supply w hash bytes o = by (contract_at w hash) refl
  where
    by : (c : Option Contract) → contract_at w hash ≡ c → supply (with_paid w hash bytes c) ≡ supply w
    by None there = refl
    by (Some c) there =
        let set = contract_supply w hash (record c { paid = c.paid + bytes }) c (in_order w o) there in omega (arith, set)

-- somebody who is there stays there
owner_kept : (w x : World) (place : List ℕ) (b : Bool) → Extends (contract_at w) (contract_at x) → IsOwner w place b →
    IsOwner x place b
owner_kept w x place true more h = tt
owner_kept w x place false more h = let d = more (hash_in place) h.0 h.1 in (d.0, d.1)

pub moved_supply : (w : World) (from to : List ℕ) (mutez : ℕ) → IsOrderly w → mutez ≤ balance_or_none w from →
    IsOwner w to (is_implicit to) → supply (moved w from to mutez) ≡ supply w
moved_supply w from to mutez o enough owner =
    let less = less_moves w from mutez o in
    let before = less_supply w from mutez (in_order w o) enough in
    let after = more_supply (with_less w from mutez) to mutez (in_order (with_less w from mutez) less.orderly)
    (owner_kept w (with_less w from mutez) to (is_implicit to) less.more owner) in
    omega (arith, before, after)
