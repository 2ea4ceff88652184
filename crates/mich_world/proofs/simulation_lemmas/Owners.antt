-- Owners of tickets, and what each holds after an account or a contract is set.
use Rattle.std.proofs.Common.{◌≡◌, ◌||◌, ◌==◌, ℕ, zero, suc, List, [], ◌∷◌, ◌++◌, length, take, Bool, true, false, cond, Some, refl, sym, ap, ◌∙◌, subst, arith}
use Rattle.std.specs.Prelude.{slice_index, if◌then◌else◌}
use Rattle.std.specs.Ordering.{nat_cmp, is_eq}
use Rattle.std.specs.Cmp.{tied_itself}
use Rattle.std.specs.Cmp.Lexicographic.{slice_cmp}
use Rattle.std.specs.Str.{bytes_eq}
use Rattle.std.specs.BTreeMap.{is_at}
use Rattle.std.proofs.lemmas.Bool.{and_parts, eqb-true}
use Rattle.std.proofs.lemmas.Cmp.{nat_list_cmp_total}
use Rattle.std.proofs.lemmas.List.{length-append}
use Rattle.std.proofs.lemmas.Map.Lookups.{exact_bytes}
use Rattle.std.proofs.lemmas.Slice.Eq.{bytes_eq-Decides}
use Rattle.rules_code.specs.evaluation.Contracts.{hash_in}
use Rattle.rules_code.specs.evaluation.Surroundings.{Contract}
use Rattle.rules_data.specs.forms.Spelling.{implicit_place, contract_place, is_implicit, is_contract, is_key_hash, is_place}
use Rattle.rules_code.specs.steps.Changes.{amount_in}
use Rattle.rules_data.specs.values.Tickets.{Identity}
use Rattle.rules_world.specs.world.Holdings.{amount_held, held_by, held_by_account, held_by_contract}
use Rattle.rules_world.specs.world.World.{World, Account, account_at, contract_at, with_account, with_contract, key_hash_in}
use Rattle.laws_world.proofs.accounts.ForCallers.{lookup_insert, equal_of}
use Rattle.laws_data.proofs.forms_lemmas.ForCallers.Places as places
use Rattle.laws_data.proofs.forms_lemmas.ForCallers.{contract_parts}

-- ---- keys

-- bytes that are found by others are these
pub found_same : (q k : List ℕ) → is_at (slice_cmp nat_cmp q) k ≡ true → q ≡ k
found_same q k h = exact_bytes q k (equal_of (slice_cmp nat_cmp q k) h)

pub at_itself : (k : List ℕ) → is_at (slice_cmp nat_cmp k) k ≡ true
at_itself k = ap is_eq (tied_itself nat_list_cmp_total k)

-- ---- tests

pub same_test : (b c : Bool) → (b ≡ true → c ≡ true) → (c ≡ true → b ≡ true) → b ≡ c
same_test true c f g = sym (f refl)
same_test false true f g = g refl
same_test false false f g = refl

pub not_same : (xs ys : List ℕ) → (xs ≡ ys → ⊥) → bytes_eq xs ys ≡ false
not_same xs ys h = by (bytes_eq xs ys) refl
  where
    by : (b : Bool) → bytes_eq xs ys ≡ b → b ≡ false
    by true e = absurd (h ((bytes_eq-Decides xs ys).0 e))
    by false e = refl

-- ---- places

pub front_is : (n : ℕ) (xs ys : List ℕ) → length xs ≡ n → take n (xs ++ ys) ≡ xs
front_is n [] ys h = subst (λ (m : ℕ). take m ys ≡ []) h refl
front_is n (x ∷ xs) ys h = subst (λ (m : ℕ). take m (x ∷ xs ++ ys) ≡ x ∷ xs) h (ap (λ t. x ∷ t) (front_is (length xs) xs ys refl))

last_after : (n : ℕ) (xs : List ℕ) → length xs ≡ suc n → slice_index xs n ≡ 0 → xs ≡ take n xs ++ 0 ∷ []
last_after n [] h z = absurd (omega arith)
last_after zero (x ∷ []) h z = ap (λ y. y ∷ []) z
last_after zero (x ∷ y ∷ xs) h z = absurd (omega arith)
last_after (suc n) (x ∷ xs) h z = ap (λ t. x ∷ t) (last_after n xs (omega arith) z)

-- the place of an account
pub account_place : (o : List ℕ) → is_implicit o ≡ true → o ≡ implicit_place (key_hash_in o)
account_place [] h = absurd cc
account_place (k ∷ hash) h = ap (λ x. x ∷ hash) (eqb-true k 0 (and_parts (k == 0) (is_key_hash hash) h).0)

of_contract : (b c : Bool) → (b || c) ≡ true → b ≡ false → c ≡ true
of_contract true c h n = absurd cc
of_contract false c h n = h

-- that of a contract
pub other_place : (o : List ℕ) → is_place o ≡ true → is_implicit o ≡ false → o ≡ contract_place (hash_in o)
other_place [] h n = absurd cc
other_place (k ∷ rest) h n =
    let f = contract_parts k rest (of_contract (is_implicit (k ∷ rest)) (is_contract (k ∷ rest)) h n) in
    let t : rest ≡ take 20 rest ++ 0 ∷ [] = last_after 20 rest f.1 f.2 in
    ap (λ x. x ∷ rest) f.0 ∙ ap (λ (x : List ℕ). 1 ∷ x) t

length_less : (n : ℕ) (hash : List ℕ) → length (hash ++ 0 ∷ []) ≡ suc n → length hash ≡ n
length_less n hash h = let e = length-append hash (0 ∷ []) in omega (arith, e, h)

-- the other way round
pub place_length : (hash : List ℕ) → is_place (contract_place hash) ≡ true → length hash ≡ 20
place_length hash h = length_less 20 hash (let long : length (contract_place hash) ≡ 22 = places.place_length (contract_place hash) h in omega (arith, long))

or_false : (b : Bool) → (b || false) ≡ true → b ≡ true
or_false true h = refl
or_false false h = h

pub implicit_of : (who : List ℕ) → is_place (implicit_place who) ≡ true → is_implicit (implicit_place who) ≡ true
implicit_of who h = or_false (is_implicit (implicit_place who)) h

pub hash_of : (hash : List ℕ) → length hash ≡ 20 → hash_in (contract_place hash) ≡ hash
hash_of hash h = front_is 20 hash (0 ∷ []) h

-- ---- what owners hold

pub without_last : (xs ys : List ℕ) → xs ++ 0 ∷ [] ≡ ys ++ 0 ∷ [] → xs ≡ ys
without_last [] [] e = refl
without_last [] (y ∷ []) e = absurd cc
without_last [] (y ∷ z ∷ ys) e = absurd cc
without_last (x ∷ []) [] e = absurd cc
without_last (x ∷ z ∷ xs) [] e = absurd cc
without_last (x ∷ xs) (y ∷ ys) e =
    let a : x ≡ y = cc in
    let b : xs ++ 0 ∷ [] ≡ ys ++ 0 ∷ [] = cc in
    λ i. a i ∷ without_last xs ys b i

-- a contract is set
module _ (w : World) (hash : List ℕ) (d : Contract) (twenty : length hash ≡ 20) where
  same_contract : (q : List ℕ) → bytes_eq (contract_place q) (contract_place hash) ≡ is_at (slice_cmp nat_cmp q) hash
  same_contract q =
      same_test (bytes_eq (contract_place q) (contract_place hash)) (is_at (slice_cmp nat_cmp q) hash)
      (λ e. let p : contract_place q ≡ contract_place hash = (bytes_eq-Decides (contract_place q) (contract_place hash)).0 e in
      subst (λ (x : List ℕ). is_at (slice_cmp nat_cmp x) hash ≡ true) (sym (let e : q ++ 0 ∷ [] ≡ hash ++ 0 ∷ [] = cc in without_last q hash e)) (at_itself hash))
      (λ e. (bytes_eq-Decides (contract_place q) (contract_place hash)).1 (ap contract_place (found_same q hash e)))

  by_contract : (id : Identity) (q : List ℕ) (c : Bool) →
      held_by_contract (cond c (Some d) (contract_at w q)) id ≡ (if c then amount_in id d.storage else held_by_contract (contract_at w q) id)
  by_contract id q true = refl
  by_contract id q false = refl

  pub contract_holds : (id : Identity) (o : List ℕ) → is_place o ≡ true →
      held_by (with_contract w hash d) id o ≡ (if bytes_eq o (contract_place hash) then amount_in id d.storage else held_by w id o)
  contract_holds id o p = by (is_implicit o) refl
    where
      by : (b : Bool) → is_implicit o ≡ b →
          held_by (with_contract w hash d) id o ≡ (if bytes_eq o (contract_place hash) then amount_in id d.storage else held_by w id o)
      by true e =
          let other : bytes_eq o (contract_place hash) ≡ false
          = not_same o (contract_place hash) (λ s. let x : implicit_place (key_hash_in o) ≡ contract_place hash = sym (account_place o e) ∙ s in cc) in
          rw (other, e) refl
      by false e =
          let q = hash_in o in
          let test : bytes_eq o (contract_place hash) ≡ is_at (slice_cmp nat_cmp q) hash
          = ap (λ x. bytes_eq x (contract_place hash)) (other_place o p e) ∙ same_contract q in
          rw (test, e) (ap (λ x. held_by_contract x id) (lookup_insert (slice_cmp nat_cmp) nat_list_cmp_total q w.contracts hash d) ∙ by_contract id q (is_at (slice_cmp nat_cmp q) hash))

-- an account is set
module _ (w : World) (who : List ℕ) (a : Account) where
  same_account : (q : List ℕ) → bytes_eq (implicit_place q) (implicit_place who) ≡ is_at (slice_cmp nat_cmp q) who
  same_account q =
      same_test (bytes_eq (implicit_place q) (implicit_place who)) (is_at (slice_cmp nat_cmp q) who)
      (λ e. let p : implicit_place q ≡ implicit_place who = (bytes_eq-Decides (implicit_place q) (implicit_place who)).0 e in
      let s : q ≡ who = cc in subst (λ (x : List ℕ). is_at (slice_cmp nat_cmp x) who ≡ true) (sym s) (at_itself who))
      (λ e. (bytes_eq-Decides (implicit_place q) (implicit_place who)).1 (ap implicit_place (found_same q who e)))

  by_account : (id : Identity) (q : List ℕ) (c : Bool) →
      held_by_account (cond c (Some a) (account_at w q)) id ≡ (if c then amount_held a id else held_by_account (account_at w q) id)
  by_account id q true = refl
  by_account id q false = refl

  pub account_holds : (id : Identity) (o : List ℕ) → is_place o ≡ true →
      held_by (with_account w who a) id o ≡ (if bytes_eq o (implicit_place who) then amount_held a id else held_by w id o)
  account_holds id o p = by (is_implicit o) refl
    where
      by : (b : Bool) → is_implicit o ≡ b →
          held_by (with_account w who a) id o ≡ (if bytes_eq o (implicit_place who) then amount_held a id else held_by w id o)
      by true e =
          let q = key_hash_in o in
          let test : bytes_eq o (implicit_place who) ≡ is_at (slice_cmp nat_cmp q) who
          = ap (λ x. bytes_eq x (implicit_place who)) (account_place o e) ∙ same_account q in
          rw (test, e) (ap (λ x. held_by_account x id) (lookup_insert (slice_cmp nat_cmp) nat_list_cmp_total q w.accounts who a)
          ∙ by_account id q (is_at (slice_cmp nat_cmp q) who))
      by false e =
          let other : bytes_eq o (implicit_place who) ≡ false
          = not_same o (implicit_place who) (λ s. let x : contract_place (hash_in o) ≡ implicit_place who = sym (other_place o p e) ∙ s in cc) in
          rw (other, e) refl
