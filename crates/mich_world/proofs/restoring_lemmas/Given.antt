-- What owners are given is what they hold.
use Rattle.std.proofs.Common.{◌≡◌, ℕ, ℤ, pos, ◌+ℤ◌, List, [], ◌∷◌, ◌++◌, map, Bool, true, false, None, Some, refl, sym, ap, ◌∙◌, subst, arith}
use Rattle.std.specs.Prelude.{if◌then◌else◌}
use Rattle.std.proofs.lemmas.Int.{ints}
use Rattle.std.specs.declared.option.Option.{Option}
use Rattle.std.specs.Ordering.{nat_cmp}
use Rattle.std.specs.Cmp.Lexicographic.{slice_cmp}
use Rattle.std.specs.BTreeMap.{is_at}
use Rattle.std.specs.Str.{bytes_eq}
use Rattle.std.specs.List.{AllByRecursion}
use Rattle.std.specs.List.Sorted.{IsStrictlySortedBy}
use Rattle.std.specs.Map.{keys_of, lookup}
use Rattle.std.specs.Prelude.{unwrap_or}
use Rattle.std.proofs.lemmas.Cmp.{nat_list_cmp_total}
use Rattle.std.proofs.lemmas.Slice.Eq.{bytes_eq-Decides}
use Rattle.rules_code.specs.evaluation.Contracts.{hash_in}
use Rattle.rules_code.specs.evaluation.Surroundings.{Contract}
use Rattle.rules_code.specs.steps.Changes.{identity_of, amount_among, amount_in}
use Rattle.rules_data.specs.forms.Spelling.{implicit_place, contract_place, is_implicit, is_place}
use Rattle.rules_data.specs.values.Tickets.{Identity, Held}
use Rattle.rules_world.specs.world.Holdings.{amount_held, held_by, held_by_account, held_by_contract}
use Rattle.rules_world.specs.world.World.{World, Account, identity_order, account_at, contract_at, key_hash_in}
use Rattle.laws_world.proofs.accounts.ForCallers.{alike_equal, identity_total}
use Rattle.mich_world.specs.Gifts.{Gift, given}
use Rattle.mich_world.proofs.restoring_lemmas.Finding.{found, sum_at, found_sum}
use Rattle.mich_world.proofs.simulation_lemmas.Owners.{same_test, found_same, at_itself, not_same, account_place, other_place, without_last}

nothing_first : (x : ℤ) → pos 0 +ℤ x ≡ x
nothing_first x = omega (arith, ints)

-- ---- what one account holds

abbrev pub holding : Held → Identity × ℤ
holding t = (identity_of t, t.amount)

found_is : (o : Option ℤ) → unwrap_or o (pos 0) ≡ found (λ n. n) o
found_is None = refl
found_is (Some n) = refl

among_sum : (id : Identity) (ts : List Held) → sum_at (λ n. n) (is_at (identity_order id)) (map holding ts) ≡ amount_among id ts
among_sum id [] = refl
among_sum id (t ∷ ts) = λ i. (if sym (alike_equal id (identity_of t)) i then t.amount else pos 0) +ℤ among_sum id ts i

pub among_held : (id : Identity) (ts : List Held) (n : ℕ) → IsStrictlySortedBy identity_order (keys_of (map holding ts))
    → amount_among id ts ≡ amount_held (record { balance = n; holdings = map holding ts }) id
among_held id ts n s = sym (found_is (lookup (is_at (identity_order id)) (map holding ts))
    ∙ found_sum (λ n. n) identity_order identity_total id (map holding ts) s ∙ among_sum id ts)

-- ---- owners

same_account : (q who : List ℕ) → bytes_eq (implicit_place q) (implicit_place who) ≡ is_at (slice_cmp nat_cmp q) who
same_account q who =
    same_test (bytes_eq (implicit_place q) (implicit_place who)) (is_at (slice_cmp nat_cmp q) who)
    (λ e. let p : implicit_place q ≡ implicit_place who = (bytes_eq-Decides (implicit_place q) (implicit_place who)).0 e in
    let s : q ≡ who = cc in subst (λ (x : List ℕ). is_at (slice_cmp nat_cmp x) who ≡ true) (sym s) (at_itself who))
    (λ e. (bytes_eq-Decides (implicit_place q) (implicit_place who)).1 (ap implicit_place (found_same q who e)))

same_contract : (q hash : List ℕ) → bytes_eq (contract_place q) (contract_place hash) ≡ is_at (slice_cmp nat_cmp q) hash
same_contract q hash =
    same_test (bytes_eq (contract_place q) (contract_place hash)) (is_at (slice_cmp nat_cmp q) hash)
    (λ e. let p : contract_place q ≡ contract_place hash = (bytes_eq-Decides (contract_place q) (contract_place hash)).0 e in
    subst (λ (x : List ℕ). is_at (slice_cmp nat_cmp x) hash ≡ true) (sym (let e : q ++ 0 ∷ [] ≡ hash ++ 0 ∷ [] = cc in without_last q hash e)) (at_itself hash))
    (λ e. (bytes_eq-Decides (contract_place q) (contract_place hash)).1 (ap contract_place (found_same q hash e)))

apart_places : (q hash : List ℕ) → bytes_eq (implicit_place q) (contract_place hash) ≡ false
apart_places q hash = not_same (implicit_place q) (contract_place hash) (λ e. cc)

apart_back : (q who : List ℕ) → bytes_eq (contract_place q) (implicit_place who) ≡ false
apart_back q who = not_same (contract_place q) (implicit_place who) (λ e. cc)

-- ---- gifts to accounts, and to contracts

module _ {S X : Type 0} (at : S → List ℕ × X) (gift : S → Gift) (place : List ℕ → List ℕ) (amount : X → Identity → ℤ) where
  pub record IsGift (s : S) : Type 0 where
    pub owner : (gift s).0 ≡ place (at s).0
    pub amounts : (id : Identity) → amount_among id (gift s).1 ≡ amount (at s).1 id

  module _ (id : Identity) where
    pub given_at : (o q : List ℕ) → ((k : List ℕ) → bytes_eq o (place k) ≡ is_at (slice_cmp nat_cmp q) k) → (ss : List S) → AllByRecursion IsGift ss
        → given id o (map gift ss) ≡ sum_at (λ x. amount x id) (is_at (slice_cmp nat_cmp q)) (map at ss)
    given_at o q h [] g = refl
    given_at o q h (s ∷ ss) g =
        let test : bytes_eq o (gift s).0 ≡ is_at (slice_cmp nat_cmp q) (at s).0 = ap (bytes_eq o) g.0.owner ∙ h (at s).0 in
        λ i. (if test i then g.0.amounts id i else pos 0) +ℤ given_at o q h ss g.1 i

    pub given_none : (o : List ℕ) → ((k : List ℕ) → bytes_eq o (place k) ≡ false) → (ss : List S) → AllByRecursion IsGift ss → given id o (map gift ss) ≡ pos 0
    given_none o h [] g = refl
    given_none o h (s ∷ ss) g =
        let test : bytes_eq o (gift s).0 ≡ false = ap (bytes_eq o) g.0.owner ∙ h (at s).0 in
        ap (λ (b : Bool). (if b then amount_among id (gift s).1 else pos 0) +ℤ given id o (map gift ss)) test
        ∙ nothing_first (given id o (map gift ss)) ∙ given_none o h ss g.1

abbrev pub amount_stored : Contract → Identity → ℤ
amount_stored c id = amount_in id c.storage

by_account_is : (o : Option Account) (id : Identity) → held_by_account o id ≡ found (λ a. amount_held a id) o
by_account_is None id = refl
by_account_is (Some a) id = refl

by_contract_is : (o : Option Contract) (id : Identity) → held_by_contract o id ≡ found (λ c. amount_stored c id) o
by_contract_is None id = refl
by_contract_is (Some c) id = refl

no_second : (x y z : ℤ) → x ≡ z → y ≡ pos 0 → x +ℤ y ≡ z
no_second x y z e f = omega (arith, ints, e, f)

no_first : (x y z : ℤ) → y ≡ z → x ≡ pos 0 → x +ℤ y ≡ z
no_first x y z e f = omega (arith, ints, e, f)

module _ {S T : Type 0} (at : S → List ℕ × Account) (ag : S → Gift) (ct : T → List ℕ × Contract) (cg : T → Gift) (ss : List S) (ts : List T) (w : World)
    (accounts : w.accounts ≡ map at ss) (contracts : w.contracts ≡ map ct ts)
    (gs : AllByRecursion (IsGift at ag implicit_place amount_held) ss) (hs : AllByRecursion (IsGift ct cg contract_place amount_stored) ts)
    (sa : IsStrictlySortedBy (slice_cmp nat_cmp) (keys_of w.accounts)) (sc : IsStrictlySortedBy (slice_cmp nat_cmp) (keys_of w.contracts)) where
  of_account : (id : Identity) (q : List ℕ) → given id (implicit_place q) (map ag ss) +ℤ given id (implicit_place q) (map cg ts) ≡ held_by_account (account_at w q) id
  of_account id q =
      no_second (given id (implicit_place q) (map ag ss)) (given id (implicit_place q) (map cg ts)) (held_by_account (account_at w q) id)
      (given_at at ag implicit_place amount_held id (implicit_place q) q (same_account q) ss gs
      ∙ ap (sum_at (λ a. amount_held a id) (is_at (slice_cmp nat_cmp q))) (sym accounts)
      ∙ sym (found_sum (λ a. amount_held a id) (slice_cmp nat_cmp) nat_list_cmp_total q w.accounts sa)
      ∙ sym (by_account_is (account_at w q) id))
      (given_none ct cg contract_place amount_stored id (implicit_place q) (apart_places q) ts hs)

  of_contract : (id : Identity) (q : List ℕ) → given id (contract_place q) (map ag ss) +ℤ given id (contract_place q) (map cg ts) ≡ held_by_contract (contract_at w q) id
  of_contract id q =
      no_first (given id (contract_place q) (map ag ss)) (given id (contract_place q) (map cg ts)) (held_by_contract (contract_at w q) id)
      (given_at ct cg contract_place amount_stored id (contract_place q) q (same_contract q) ts hs
      ∙ ap (sum_at (λ c. amount_stored c id) (is_at (slice_cmp nat_cmp q))) (sym contracts)
      ∙ sym (found_sum (λ c. amount_stored c id) (slice_cmp nat_cmp) nat_list_cmp_total q w.contracts sc)
      ∙ sym (by_contract_is (contract_at w q) id))
      (given_none at ag implicit_place amount_held id (contract_place q) (apart_back q) ss gs)

  pub given_is : (id : Identity) (o : List ℕ) → is_place o ≡ true → given id o (map ag ss) +ℤ given id o (map cg ts) ≡ held_by w id o
  given_is id o p = by (is_implicit o) refl
    where
      by : (b : Bool) → is_implicit o ≡ b → given id o (map ag ss) +ℤ given id o (map cg ts) ≡ held_by w id o
      by true e =
          rw e (ap (λ x. given id x (map ag ss) +ℤ given id x (map cg ts)) (account_place o e) ∙ of_account id (key_hash_in o))
      by false e =
          rw e (ap (λ x. given id x (map ag ss) +ℤ given id x (map cg ts)) (other_place o p e) ∙ of_contract id (hash_in o))
