-- Moves of mutez leave a paid world paid.
use Rattle.std.proofs.Common.{◌≡◌, ℕ, ◌+◌, ◌-◌, List, Bool, true, false, Some, None, refl, sym, subst}
use Rattle.std.specs.Prelude.{if◌then◌else◌}
use Rattle.std.specs.declared.option.Option.{Option}
use Rattle.std.specs.List.{All}
use Rattle.std.specs.Ordering.{nat_cmp}
use Rattle.std.specs.Cmp.Lexicographic.{slice_cmp}
use Rattle.std.specs.BTreeMap.{is_at}
use Rattle.std.specs.Map.{values_of}
use Rattle.std.specs.Option.{IfSome}
use Rattle.std.proofs.lemmas.Map.Views.{All-values-insert_entry, IfSome-lookup_from_All}
use Rattle.rules_data.specs.forms.Spelling.{is_implicit}
use Rattle.rules_code.specs.evaluation.Contracts.{hash_in}
use Rattle.rules_code.specs.evaluation.Surroundings.{Contract}
use Rattle.rules_world.specs.world.World.{World, contract_at, key_hash_in, with_contract}
use Rattle.rules_world.specs.world.Balances.{balance_or_none, with_balance, with_account_balance, with_contract_balance, with_less, moved, fee_taken}
use Rattle.laws_files.specs.Laws.{HasPaid, IsPaid}

-- a world with this rate, or with none, is paid
pub record IsPaidBy (r : Option ℕ) (w : World) : Type 0 where
  pub rate : w.rate ≡ r
  pub burn : r ≡ None → w.storage_burn ≡ 0
  pub contracts : All (HasPaid r) (values_of w.contracts)

pub paid_by : (w : World) → IsPaid w → IsPaidBy w.rate w
paid_by w p = record { rate = refl; burn = p.burn; contracts = p.contracts }

pub is_paid : (r : Option ℕ) (w : World) → IsPaidBy r w → IsPaid w
is_paid r w p = record {
  contracts = subst (λ r. All (HasPaid r) (values_of w.contracts)) (sym p.rate) p.contracts;
  burn = subst (λ r. r ≡ None → w.storage_burn ≡ 0) (sym p.rate) p.burn;
}

module _ (r : Option ℕ) where
  -- a contract that is there has paid
  pub one_paid : (w : World) (hash : List ℕ) (c : Contract) → IsPaidBy r w → contract_at w hash ≡ Some c → HasPaid r c
  one_paid w hash c p there =
      subst (λ o. IfSome o (HasPaid r)) there (IfSome-lookup_from_All (HasPaid r) (is_at (slice_cmp nat_cmp hash)) w.contracts p.contracts)

  pub set_paid : (w : World) (hash : List ℕ) (c : Contract) → IsPaidBy r w → HasPaid r c → IsPaidBy r (with_contract w hash c)
  set_paid w hash c p h = record {
    rate = p.rate;
    burn = p.burn;
    contracts = All-values-insert_entry (slice_cmp nat_cmp) hash c (HasPaid r) w.contracts p.contracts h;
  }

  richer : (o : Option ℕ) (c : Contract) (mutez : ℕ) → HasPaid o c → HasPaid o (record c { balance = mutez })
  richer (Some rate) c mutez h = h
  richer None c mutez h = h

  balance_paid : (w : World) (place : List ℕ) (mutez : ℕ) → IsPaidBy r w → IsPaidBy r (with_balance w place mutez)
  balance_paid w place mutez p = by (is_implicit place) (contract_at w (hash_in place)) refl
    where
      by : (b : Bool) (o : Option Contract) → contract_at w (hash_in place) ≡ o →
          IsPaidBy r (if b then with_account_balance w (key_hash_in place) mutez else with_contract_balance w (hash_in place) mutez o)
      by true o e = record { rate = p.rate; burn = p.burn; contracts = p.contracts }
      by false (Some c) e =
          set_paid w (hash_in place) (record c { balance = mutez }) p (richer r c mutez (one_paid w (hash_in place) c p e))
      by false None e = p

  pub less_paid : (w : World) (place : List ℕ) (mutez : ℕ) → IsPaidBy r w → IsPaidBy r (with_less w place mutez)
  less_paid w place mutez p = balance_paid w place (balance_or_none w place - mutez) p

  pub moved_paid : (w : World) (from to : List ℕ) (mutez : ℕ) → IsPaidBy r w → IsPaidBy r (moved w from to mutez)
  moved_paid w from to mutez p =
      balance_paid (with_less w from mutez) to (balance_or_none (with_less w from mutez) to + mutez) (less_paid w from mutez p)

  pub fee_paid : (w : World) (from : List ℕ) (fee : ℕ) → IsPaidBy r w → IsPaidBy r (fee_taken w from fee)
  fee_paid w from fee p =
      let less = less_paid w from fee p in record { rate = less.rate; burn = less.burn; contracts = less.contracts }
