-- What the length of a state's spelling bounds.
use Rattle.std.proofs.Common.{◌≡◌, ◌≤◌, ℕ, Bool, true, false, cond, List, ◌∷◌, ◌++◌, length, Some, None, length-append, refl, sym, subst, arith}
use Rattle.std.specs.Int.{w128}
use Rattle.std.specs.List.{AllByRecursion, flat_map, list_any}
use Rattle.std.specs.Prelude.{ℤ}
use Rattle.rules_code.specs.evaluation.Surroundings.{Contract}
use Rattle.rules_data.specs.values.Tickets.{Identity}
use Rattle.rules_world.specs.world.World.{Account}
use Rattle.rules_files.specs.snapshots.State.{State, Total}
use Rattle.rules_files.specs.snapshots.Spelling.{eight, signed, counted, identity_spelling, holding_spelling, account_spelling, contract_spelling, total_spelling, head_spelling, costs_spelling, sums_spelling, state_spelling, node_spelling, value_spelling}
use Rattle.rules_files.specs.snapshots.Loading.{bodies, is_long, nodes_in, saved}
use Rattle.rules_files.specs.snapshots.Reading.{snapshot_limit}
use Rattle.rules_files.specs.snapshots.Spelt.{IsEight}
use Rattle.laws_commands.proofs.reached_lemmas.Lists.{part_within, parts_counted, none_pass, among_parts}
use Rattle.laws_commands.proofs.common.Numbers.{rises}

front : (xs ys : List ℕ) → length xs ≤ length (xs ++ ys)
front xs ys = omega (arith, length-append xs ys)

back : (xs ys : List ℕ) → length ys ≤ length (xs ++ ys)
back xs ys = omega (arith, length-append xs ys)

-- ---- parts have some bytes

some_eight : (xs ys : List ℕ) (n : ℕ) → 1 ≤ length (xs ++ (eight n ++ ys))
some_eight xs ys n = omega (arith, length-append xs (eight n ++ ys), length-append (eight n) ys)

some_signed : (xs : List ℕ) (n : ℤ) → 1 ≤ length (xs ++ signed w128 n)
some_signed xs n = omega (arith, length-append xs (signed w128 n))

some_holding : (h : Identity × ℤ) → 1 ≤ length (holding_spelling h)
some_holding h = some_signed (identity_spelling h.0) h.1

some_account : (a : List ℕ × Account) → 1 ≤ length (account_spelling a)
some_account a = some_eight a.0 (counted holding_spelling a.1.holdings) a.1.balance

some_contract : (c : List ℕ × Contract) → 1 ≤ length (contract_spelling c)
some_contract c = some_eight c.0 (eight c.1.paid ++ (node_spelling c.1.script ++ value_spelling c.1.storage)) c.1.balance

some_total : (t : Total) → 1 ≤ length (total_spelling t)
some_total t =
    rises 1 (length (signed w128 t.minted ++ signed w128 t.burnt)) (length (total_spelling t)) (some_signed (signed w128 t.minted) t.burnt)
    (back (identity_spelling t.identity) (signed w128 t.minted ++ signed w128 t.burnt))

-- ---- a state

few : (n m : ℕ) → n ≤ m → m ≤ snapshot_limit → IsEight n
few n m h g = omega (arith, h, g)

module _ (s : State) (short : length (state_spelling s) ≤ snapshot_limit) where
  abbrev A : List ℕ
  A = counted account_spelling s.accounts

  abbrev C : List ℕ
  C = counted contract_spelling s.contracts

  abbrev T : List ℕ
  T = counted total_spelling s.tickets

  behind_sums : length (A ++ (C ++ T)) ≤ length (state_spelling s)
  behind_sums =
      rises (length (A ++ (C ++ T))) (length (costs_spelling s ++ (sums_spelling s ++ (A ++ (C ++ T))))) (length (state_spelling s))
      (rises (length (A ++ (C ++ T))) (length (sums_spelling s ++ (A ++ (C ++ T)))) (length (costs_spelling s ++ (sums_spelling s ++ (A ++ (C ++ T)))))
      (back (sums_spelling s) (A ++ (C ++ T))) (back (costs_spelling s) (sums_spelling s ++ (A ++ (C ++ T)))))
      (back (head_spelling s) (costs_spelling s ++ (sums_spelling s ++ (A ++ (C ++ T)))))

  accounts_short : length (flat_map account_spelling s.accounts) ≤ length (state_spelling s)
  accounts_short =
      rises (length (flat_map account_spelling s.accounts)) (length (A ++ (C ++ T))) (length (state_spelling s))
      (rises (length (flat_map account_spelling s.accounts)) (length A) (length (A ++ (C ++ T)))
      (back (eight (length s.accounts)) (flat_map account_spelling s.accounts)) (front A (C ++ T))) behind_sums

  rest_short : length (C ++ T) ≤ length (state_spelling s)
  rest_short = rises (length (C ++ T)) (length (A ++ (C ++ T))) (length (state_spelling s)) (back A (C ++ T)) behind_sums

  contracts_short : length (flat_map contract_spelling s.contracts) ≤ length (state_spelling s)
  contracts_short =
      rises (length (flat_map contract_spelling s.contracts)) (length (C ++ T)) (length (state_spelling s))
      (rises (length (flat_map contract_spelling s.contracts)) (length C) (length (C ++ T))
      (back (eight (length s.contracts)) (flat_map contract_spelling s.contracts)) (front C T)) rest_short

  tickets_short : length (flat_map total_spelling s.tickets) ≤ length (state_spelling s)
  tickets_short =
      rises (length (flat_map total_spelling s.tickets)) (length (C ++ T)) (length (state_spelling s))
      (rises (length (flat_map total_spelling s.tickets)) (length T) (length (C ++ T))
      (back (eight (length s.tickets)) (flat_map total_spelling s.tickets)) (back C T)) rest_short

  pub few_accounts : IsEight (length s.accounts)
  few_accounts =
      few (length s.accounts) (length (state_spelling s))
      (rises (length s.accounts) (length (flat_map account_spelling s.accounts)) (length (state_spelling s))
      (parts_counted account_spelling some_account s.accounts) accounts_short) short

  pub few_contracts : IsEight (length s.contracts)
  few_contracts =
      few (length s.contracts) (length (state_spelling s))
      (rises (length s.contracts) (length (flat_map contract_spelling s.contracts)) (length (state_spelling s))
      (parts_counted contract_spelling some_contract s.contracts) contracts_short) short

  pub few_tickets : IsEight (length s.tickets)
  few_tickets =
      few (length s.tickets) (length (state_spelling s))
      (rises (length s.tickets) (length (flat_map total_spelling s.tickets)) (length (state_spelling s))
      (parts_counted total_spelling some_total s.tickets) tickets_short) short

  own_holdings : (a : List ℕ × Account) → length a.1.holdings ≤ length (account_spelling a)
  own_holdings a =
      rises (length a.1.holdings) (length (flat_map holding_spelling a.1.holdings)) (length (account_spelling a))
      (parts_counted holding_spelling some_holding a.1.holdings)
      (rises (length (flat_map holding_spelling a.1.holdings)) (length (counted holding_spelling a.1.holdings)) (length (account_spelling a))
      (back (eight (length a.1.holdings)) (flat_map holding_spelling a.1.holdings))
      (rises (length (counted holding_spelling a.1.holdings))
      (length (eight a.1.balance ++ counted holding_spelling a.1.holdings)) (length (account_spelling a))
      (back (eight a.1.balance) (counted holding_spelling a.1.holdings)) (back a.0 (eight a.1.balance ++ counted holding_spelling a.1.holdings))))

  pub few_holdings : (before behind : List (List ℕ × Account)) (a : List ℕ × Account) → s.accounts ≡ before ++ (a ∷ behind) → IsEight (length a.1.holdings)
  few_holdings before behind a e =
      few (length a.1.holdings) (length (state_spelling s))
      (rises (length a.1.holdings) (length (flat_map account_spelling s.accounts)) (length (state_spelling s))
      (rises (length a.1.holdings) (length (account_spelling a)) (length (flat_map account_spelling s.accounts)) (own_holdings a)
      (subst (λ (us : List (List ℕ × Account)). length (account_spelling a) ≤ length (flat_map account_spelling us)) (sym e)
      (part_within account_spelling before behind a))) accounts_short) short

  pub storage_short : (before behind : List (List ℕ × Contract)) (c : List ℕ × Contract) → s.contracts ≡ before ++ (c ∷ behind) →
      length (value_spelling c.1.storage) ≤ snapshot_limit
  storage_short before behind c e =
      let stored = value_spelling c.1.storage in
      let coded = node_spelling c.1.script ++ stored in
      rises (length stored) (length (state_spelling s)) snapshot_limit
      (rises (length stored) (length (flat_map contract_spelling s.contracts)) (length (state_spelling s))
      (rises (length stored) (length (contract_spelling c)) (length (flat_map contract_spelling s.contracts))
      (rises (length stored) (length (eight c.1.balance ++ (eight c.1.paid ++ coded))) (length (contract_spelling c))
      (rises (length stored) (length (eight c.1.paid ++ coded)) (length (eight c.1.balance ++ (eight c.1.paid ++ coded)))
      (rises (length stored) (length coded) (length (eight c.1.paid ++ coded)) (back (node_spelling c.1.script) stored) (back (eight c.1.paid) coded))
      (back (eight c.1.balance) (eight c.1.paid ++ coded))) (back c.0 (eight c.1.balance ++ (eight c.1.paid ++ coded))))
      (subst (λ (us : List (List ℕ × Contract)). length (contract_spelling c) ≤ length (flat_map contract_spelling us)) (sym e)
      (part_within contract_spelling before behind c))) contracts_short) short

-- ---- what is saved

saved_by : (b : Bool) (text bs : List ℕ) → cond b None (Some text) ≡ Some bs → (b ≡ false) × (text ≡ bs)
saved_by true text bs e = absurd cc
saved_by false text bs e = (refl, cc)

pub saved_is : (s : State) (bs : List ℕ) → saved s ≡ Some bs → (list_any is_long (nodes_in s) ≡ false) × (state_spelling s ≡ bs)
saved_is s bs e = saved_by (list_any is_long (nodes_in s)) (state_spelling s) bs e

-- no node of a contract is too long
pub nodes_short : (s : State) → list_any is_long (nodes_in s) ≡ false → (before behind : List (List ℕ × Contract)) (c : List ℕ × Contract) →
    s.contracts ≡ before ++ (c ∷ behind) → AllByRecursion (λ t. is_long t ≡ false) (c.1.script ∷ bodies c.1.storage)
nodes_short s h before behind c e =
    among_parts (λ t. is_long t ≡ false) (λ (c : List ℕ × Contract). c.1.script ∷ bodies c.1.storage) before behind c
    (subst
    (λ (cs : List (List ℕ × Contract)). AllByRecursion (λ t. is_long t ≡ false)
    (flat_map (λ (c : List ℕ × Contract). c.1.script ∷ bodies c.1.storage) cs)) e
    (none_pass is_long (nodes_in s) h))
