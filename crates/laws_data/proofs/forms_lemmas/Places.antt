-- Places: their lengths, what they are as addresses, and those of accounts and contracts.
use Rattle.std.proofs.Common.{◌≡◌, ℕ, zero, suc, Bool, true, false, ◌==◌, ◌&&◌, ◌||◌, nat_le, List, [], ◌∷◌, ◌++◌, length, take, drop, refl, sym, ap, subst, arith}
use Rattle.std.specs.Cmp.Derive.{both_true}
use Rattle.std.proofs.lemmas.Bool.{and_parts, eqb-true}
use Rattle.std.proofs.lemmas.Bool.Decides.{Decides-eqb}
use Rattle.std.specs.Prelude.{slice_index}
use Rattle.std.proofs.lemmas.List.{length-append}
use Rattle.rules_data.specs.forms.Spelling.{IsPlace, implicit_place, contract_place, is_address, is_contract, is_implicit, is_key_hash, is_place, is_written_entrypoint}

take_all : {A : Type 0} (n : ℕ) (xs : List A) → length xs ≡ n → take n xs ≡ xs
take_all zero [] h = refl
take_all zero (x ∷ xs) h = absurd (omega arith)
take_all (suc n) [] h = refl
take_all (suc n) (x ∷ xs) h = ap (λ ys. x ∷ ys) (take_all n xs (omega arith))

drop_all : {A : Type 0} (n : ℕ) (xs : List A) → length xs ≡ n → drop n xs ≡ []
drop_all zero [] h = refl
drop_all zero (x ∷ xs) h = absurd (omega arith)
drop_all (suc n) [] h = refl
drop_all (suc n) (x ∷ xs) h = drop_all n xs (omega arith)

pub key_hash_length : (b : List ℕ) → is_key_hash b ≡ true → length b ≡ 21
key_hash_length [] h = absurd cc
key_hash_length (tag ∷ hash) h = let long = eqb-true (length hash) 20 (and_parts (nat_le tag 3) (length hash == 20) h).1 in omega (arith, long)

pub implicit_length : (b : List ℕ) → is_implicit b ≡ true → length b ≡ 22
implicit_length [] h = absurd cc
implicit_length (kind ∷ hash) h = let long = key_hash_length hash (and_parts (kind == 0) (is_key_hash hash) h).1 in omega (arith, long)

-- what the bytes of a contract's place are
pub contract_parts : (kind : ℕ) (rest : List ℕ) → is_contract (kind ∷ rest) ≡ true → (kind ≡ 1) × (length rest ≡ 21) × (slice_index rest 20 ≡ 0)
contract_parts kind rest h =
    let parts = and_parts (kind == 1 && length rest == 21) (slice_index rest 20 == 0) h in
    let front = and_parts (kind == 1) (length rest == 21) parts.0 in
    (eqb-true kind 1 front.0, eqb-true (length rest) 21 front.1, eqb-true (slice_index rest 20) 0 parts.1)

pub contract_length : (b : List ℕ) → is_contract b ≡ true → length b ≡ 22
contract_length [] h = absurd cc
contract_length (kind ∷ rest) h = let long = (contract_parts kind rest h).1 in omega (arith, long)

pub place_length : (b : List ℕ) → IsPlace b → length b ≡ 22
place_length b h = by (is_implicit b) refl h
  where
    by : (x : Bool) → is_implicit b ≡ x → x || is_contract b ≡ true → length b ≡ 22
    by true e h = implicit_length b e
    by false e h = contract_length b h

-- a place is an address without an entrypoint
pub place_address : (b : List ℕ) → IsPlace b → is_address b ≡ true
place_address b h =
    let l : length b ≡ 22 = place_length b h in
    both_true {s = is_place (take 22 b)} {t = is_written_entrypoint (drop 22 b)}
    (subst IsPlace (sym (take_all 22 b l)) h)
    (subst (λ (w : List ℕ). is_written_entrypoint w ≡ true) (sym (drop_all 22 b l)) refl)

pub implicit_is : (b : List ℕ) → is_key_hash b ≡ true → IsPlace (implicit_place b)
implicit_is b h = rw h refl

last_zero : (hash : List ℕ) (n : ℕ) → length hash ≡ n → slice_index (hash ++ 0 ∷ []) n ≡ 0
last_zero [] zero h = refl
last_zero [] (suc n) h = absurd (omega arith)
last_zero (x ∷ xs) zero h = absurd (omega arith)
last_zero (x ∷ xs) (suc n) h = last_zero xs n (omega arith)

pub contract_is : (hash : List ℕ) → length hash ≡ 20 → IsPlace (contract_place hash)
contract_is hash h =
    both_true {s = length (hash ++ 0 ∷ []) == 21} {t = slice_index (hash ++ 0 ∷ []) 20 == 0}
    (eqb (length (hash ++ 0 ∷ [])) 21 (omega (arith, h, length-append hash (0 ∷ []))))
    (eqb (slice_index (hash ++ 0 ∷ []) 20) 0 (last_zero hash 20 h))
  where
    eqb : (m n : ℕ) → m ≡ n → m == n ≡ true
    eqb m n e = (Decides-eqb m n).1 e
