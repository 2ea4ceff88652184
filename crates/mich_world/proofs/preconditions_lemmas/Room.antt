-- No owner holds more than all, and all is no more than there may be.
use Rattle.std.proofs.Common.{◌≡◌, ℕ, ℤ, pos, ◌+ℤ◌, ◌-ℤ◌, ◌≤ℤ◌, List, [], ◌∷◌, Bool, true, false, cond, None, Some, refl, ap, arith}
use Rattle.std.specs.Prelude.{if◌then◌else◌}
use Rattle.std.proofs.lemmas.Int.{ints}
use Rattle.std.specs.declared.option.Option.{Option}
use Rattle.std.specs.List.{All, AllByRecursion}
use Rattle.std.specs.Map.{lookup}
use Rattle.std.proofs.lemmas.List.Elements.{All-head, All-tail}
use Rattle.rules_code.specs.evaluation.Contracts.{hash_in}
use Rattle.rules_code.specs.evaluation.Surroundings.{Contract}
use Rattle.rules_code.specs.steps.Changes.{amount_in}
use Rattle.rules_data.specs.forms.Spelling.{is_implicit}
use Rattle.rules_data.specs.values.Tickets.{Identity, Held}
use Rattle.rules_data.specs.values.Val.{Val}
use Rattle.rules_world.specs.world.Forms.{IsAccount, IsTicket}
use Rattle.rules_world.specs.world.Good.{known_with, IsGoodContract, IsSound, MayRun}
use Rattle.rules_world.specs.world.Holdings.{amount_held, held, held_by, held_by_account, held_by_contract, held_by_accounts, held_by_contracts, burnt_ever}
use Rattle.rules_world.specs.world.World.{World, Account, account_at, contract_at, key_hash_in}
use Rattle.laws_world.proofs.accounts.ForCallers.{in_positive, burnt_positive, ticket_positive, held_positive}
use Rattle.mich_tickets.specs.Limits.{IsPositive}
use Rattle.mich_tickets.specs.Most.{most}

-- ---- parts and sums

module _ {K X : Type 0} (f : X → ℤ) (P : K × X → Type 0) (positive : (e : K × X) → P e → pos 0 ≤ℤ f e.1) where
  abbrev one : Option X → ℤ
  one None = pos 0
  one (Some x) = f x

  abbrev all : List (K × X) → ℤ
  all [] = pos 0
  all (e ∷ es) = f e.1 +ℤ all es

  sum_positive : (a b : ℤ) → pos 0 ≤ℤ a → pos 0 ≤ℤ b → pos 0 ≤ℤ (a +ℤ b)
  sum_positive a b h g = omega (arith, ints)

  first_part : (a b : ℤ) → pos 0 ≤ℤ b → a ≤ℤ (a +ℤ b)
  first_part a b h = omega (arith, ints)

  later_part : (a b c : ℤ) → pos 0 ≤ℤ a → c ≤ℤ b → c ≤ℤ (a +ℤ b)
  later_part a b c h g = omega (arith, ints)

  pub all_positive : (es : List (K × X)) → All P es → pos 0 ≤ℤ all es
  all_positive [] h = omega (arith, ints)
  all_positive (e ∷ es) h = sum_positive (f e.1) (all es) (positive e (All-head P e es h)) (all_positive es (All-tail P e es h))

  pub part : (t : K → Bool) (es : List (K × X)) → All P es → one (lookup t es) ≤ℤ all es
  part t [] h = omega (arith, ints)
  part t (e ∷ es) h = by (t e.0) (part t es (All-tail P e es h))
    where
      by : (b : Bool) → one (lookup t es) ≤ℤ all es → one (cond b (Some e.1) (lookup t es)) ≤ℤ (f e.1 +ℤ all es)
      by true rest = first_part (f e.1) (all es) (all_positive es (All-tail P e es h))
      by false rest = later_part (f e.1) (all es) (one (lookup t es)) (positive e (All-head P e es h)) rest

-- ---- owners

module _ (w : World) (s : IsSound w) (id : Identity) where
  account_positive : (e : List ℕ × Account) → IsAccount e → pos 0 ≤ℤ amount_held e.1 id
  account_positive e h = held_positive e.1 id (record { forms = h.1; order = h.2 })

  contract_positive : (e : List ℕ × Contract) → IsGoodContract w e → pos 0 ≤ℤ amount_in id e.1.storage
  contract_positive e h = in_positive id (known_with w []) h.0.storage e.1.storage h.3

  abbrev of_account : Account → ℤ
  of_account a = amount_held a id

  abbrev of_contract : Contract → ℤ
  of_contract c = amount_in id c.storage

  accounts_are : (es : List (List ℕ × Account)) → held_by_accounts id es ≡ all of_account IsAccount account_positive es
  accounts_are [] = refl
  accounts_are (e ∷ es) = ap (λ (z : ℤ). amount_held e.1 id +ℤ z) (accounts_are es)

  contracts_are : (es : List (List ℕ × Contract)) → held_by_contracts id es ≡ all of_contract (IsGoodContract w) contract_positive es
  contracts_are [] = refl
  contracts_are (e ∷ es) = ap (λ (z : ℤ). amount_in id e.1.storage +ℤ z) (contracts_are es)

  account_is : (o : Option Account) → held_by_account o id ≡ one of_account IsAccount account_positive o
  account_is None = refl
  account_is (Some a) = refl

  contract_is : (o : Option Contract) → held_by_contract o id ≡ one of_contract (IsGoodContract w) contract_positive o
  contract_is None = refl
  contract_is (Some c) = refl

  first_of_two : (x y a b c : ℤ) → x ≡ y → y ≤ℤ a → pos 0 ≤ℤ b → c ≡ a +ℤ b → x ≤ℤ c
  first_of_two x y a b c e f g h = omega (arith, ints, e, f, g, h)

  second_of_two : (x y a b c : ℤ) → x ≡ y → y ≤ℤ b → pos 0 ≤ℤ a → c ≡ a +ℤ b → x ≤ℤ c
  second_of_two x y a b c e f g h = omega (arith, ints, e, f, g, h)

  -- no owner holds more than all together
  pub owner_part : (owner : List ℕ) → held_by w id owner ≤ℤ held w id
  owner_part owner = by (is_implicit owner)
    where
      accounts : ℤ
      accounts = all of_account IsAccount account_positive w.accounts

      contracts : ℤ
      contracts = all of_contract (IsGoodContract w) contract_positive w.contracts

      sum : held w id ≡ accounts +ℤ contracts
      sum = λ i. accounts_are w.accounts i +ℤ contracts_are w.contracts i

      by : (b : Bool) → (if b then held_by_account (account_at w (key_hash_in owner)) id else held_by_contract (contract_at w (hash_in owner)) id) ≤ℤ held w id
      by true = first_of_two _ (one of_account IsAccount account_positive (account_at w (key_hash_in owner))) accounts contracts (held w id)
          (account_is (account_at w (key_hash_in owner)))
          (part of_account IsAccount account_positive _ w.accounts s.form.accounts)
          (all_positive of_contract (IsGoodContract w) contract_positive w.contracts s.contracts) sum
      by false = second_of_two _ (one of_contract (IsGoodContract w) contract_positive (contract_at w (hash_in owner))) accounts contracts (held w id)
          (contract_is (contract_at w (hash_in owner)))
          (part of_contract (IsGoodContract w) contract_positive _ w.contracts s.contracts)
          (all_positive of_account IsAccount account_positive w.accounts s.form.accounts) sum

-- ---- room

fits_by : (h a o m b l : ℤ) → o ≤ℤ h → (h +ℤ a) ≤ℤ (m -ℤ b) → pos 0 ≤ℤ b → m ≤ℤ l → (o +ℤ a) ≤ℤ l
fits_by h a o m b l p q r s = omega (arith, ints, p, q, r, s)

-- an owner may hold what there is room for
pub has_room : (w : World) (x : Val) (id : Identity) (owner : List ℕ) → MayRun w x → (held_by w id owner +ℤ amount_in id x) ≤ℤ most
has_room w x id owner m =
    fits_by (held w id) (amount_in id x) (held_by w id owner) _ (burnt_ever w id) most
    (owner_part w m.sound id owner) (m.tickets id) (burnt_positive id w.log m.sound.form.log) (m.sound.minted id)

pub positives : (ts : List Held) → All IsTicket ts → AllByRecursion IsPositive ts
positives [] h = tt
positives (t ∷ ts) h = (ticket_positive t (All-head IsTicket t ts h).1, positives ts (All-tail IsTicket t ts h))
