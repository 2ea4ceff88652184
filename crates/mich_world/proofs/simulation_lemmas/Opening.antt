-- An account that a move of no mutez makes.
use Rattle.std.proofs.Common.{◌≡◌, ◌+◌, ◌-◌, ℕ, List, [], ◌∷◌, Bool, true, cond, option_map, unwrap_or, is_some, None, Some, refl, ap, ◌∙◌, arith}
use Rattle.std.specs.declared.option.Option.{Option}
use Rattle.std.specs.declared.cmp.Ordering.{Ordering}
use Rattle.std.specs.declared.cmp.Ordering.TheVariants.{Less, Equal, Greater}
use Rattle.std.specs.Ordering.{nat_cmp, match_ordering}
use Rattle.std.specs.Cmp.{IsTotalOrder, tied_itself}
use Rattle.std.specs.Cmp.Lexicographic.{slice_cmp}
use Rattle.std.specs.BTreeMap.{insert_entry}
use Rattle.std.proofs.lemmas.Cmp.{nat_list_cmp_total}
use Rattle.rules_data.specs.forms.Spelling.{implicit_place, is_key_hash}
use Rattle.rules_data.specs.values.Tickets.{Held}
use Rattle.rules_world.specs.world.Balances.{with_less, with_more, with_balance, balance_or_none}
use Rattle.rules_world.specs.world.Forms.{IsWorld}
use Rattle.rules_world.specs.world.Holdings.{credited, credited_account}
use Rattle.rules_world.specs.world.World.{World, Account, account_at, account_or_none, no_account, with_account}
use Rattle.laws_world.proofs.accounts.ForCallers.{lookup_insert}
use Rattle.mich_world.specs.simulation.Laws.{CreditsMakeAccounts}
use Rattle.mich_world.proofs.simulation_lemmas.Accounts.{written_same, implicit_is}
use Rattle.mich_world.proofs.simulation_lemmas.Owners.{at_itself}

-- one value is written over another
insert_twice : {K X : Type 0} {R : K → K → Ordering} (total : IsTotalOrder R) (k : K) (a b : X) (es : List (K × X))
    → insert_entry R (insert_entry R es k a) k b ≡ insert_entry R es k b
insert_twice {R = R} total k a b [] = rw (tied_itself total k) refl
insert_twice {R = R} total k a b (e ∷ es) = by (R k e.0) refl (insert_twice total k a b es)
  where
    by : (o : Ordering) → R k e.0 ≡ o → insert_entry R (insert_entry R es k a) k b ≡ insert_entry R es k b
        → insert_entry R (match_ordering o ((k, a) ∷ e ∷ es) ((e.0, a) ∷ es) (e ∷ insert_entry R es k a)) k b
        ≡ match_ordering o ((k, b) ∷ e ∷ es) ((e.0, b) ∷ es) (e ∷ insert_entry R es k b)
    by Less q h = rw (tied_itself total k) refl
    by Equal q h = rw q refl
    by Greater q h = rw q (ap (λ t. e ∷ t) h)

abbrev priced : Account → ℕ → Account
priced a n = record { balance = n; holdings = a.holdings }

-- a balance is set to what it is
module _ (w : World) (who : List ℕ) (key : is_key_hash who ≡ true) where
  balance_is : balance_or_none w (implicit_place who) ≡ (account_or_none w who).balance
  balance_is = rw (implicit_is who key) (by (account_at w who))
    where
      by : (o : Option Account) → unwrap_or (option_map (λ (a : Account). a.balance) o) 0 ≡ (unwrap_or o no_account).balance
      by None = refl
      by (Some a) = refl

  set_is : (n : ℕ) → n ≡ balance_or_none w (implicit_place who) → with_balance w (implicit_place who) n ≡ with_account w who (account_or_none w who)
  set_is n e = rw (implicit_is who key) (ap (λ (m : ℕ). with_account w who (priced (account_or_none w who) m)) (e ∙ balance_is))

  -- of one that is there
  there_is : IsWorld w → is_some (account_at w who) ≡ true → with_account w who (account_or_none w who) ≡ w
  there_is i there = by (account_at w who) refl there
    where
      by : (o : Option Account) → account_at w who ≡ o → is_some o ≡ true → with_account w who (account_or_none w who) ≡ w
      by None e h = absurd cc
      by (Some a) e h =
          ap (λ (o : Option Account). with_account w who (unwrap_or o no_account)) e
          ∙ ap (λ (es : List (List ℕ × Account)). record w { accounts = es }) (written_same nat_list_cmp_total who w.accounts a i.accounts_in_order e)

  -- a ticket comes to the account
  credited_over : (t : Held) → credited (with_account w who (account_or_none w who)) who t ≡ credited w who t
  credited_over t =
      let a = account_or_none w who in
      let x = with_account w who a in
      let found : account_or_none x who ≡ a
      = ap (λ (o : Option Account). unwrap_or o no_account)
      (lookup_insert (slice_cmp nat_cmp) nat_list_cmp_total who w.accounts who a ∙ ap (λ (b : Bool). cond b (Some a) (account_at w who)) (at_itself who)) in
      ap (λ (b : Account). with_account x who (credited_account b t)) found
      ∙ ap (λ (es : List (List ℕ × Account)). record w { accounts = es }) (insert_twice nat_list_cmp_total who a (credited_account a t) w.accounts)

less_nothing : (n : ℕ) → n - 0 ≡ n
less_nothing n = omega arith

more_nothing : (n : ℕ) → n + 0 ≡ n
more_nothing n = omega arith

pub credits_make_accounts : CreditsMakeAccounts
credits_make_accounts w from who t i key_from key_who there =
    let less : with_less w (implicit_place from) 0 ≡ w
    = set_is w from key_from _ (less_nothing (balance_or_none w (implicit_place from))) ∙ there_is w from key_from i there in
    let more : with_more w (implicit_place who) 0 ≡ with_account w who (account_or_none w who)
    = set_is w who key_who _ (more_nothing (balance_or_none w (implicit_place who))) in
    ap (λ (x : World). credited (with_more x (implicit_place who) 0) who t) less
    ∙ ap (λ (x : World). credited x who t) more
    ∙ credited_over w who key_who t
