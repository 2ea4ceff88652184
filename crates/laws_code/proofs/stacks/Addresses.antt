-- Addresses that name an entrypoint, and contracts that there are.
use Rattle.std.proofs.Common.{◌≡◌, ℕ, zero, suc, Bool, true, false, List, [], ◌∷◌, ◌++◌, length, take, drop, Option, Some, None, refl, sym, ap, ◌∙◌, subst, arith}
use Rattle.std.specs.Prelude.{not, is_some, if◌then◌else◌}
use Rattle.std.specs.Str.{bytes_eq}
use Rattle.std.proofs.lemmas.Bool.{and_parts, and_from}
use Rattle.std.proofs.lemmas.Slice.Eq.{bytes_eq-Decides}
use Rattle.rules_data.specs.forms.Spelling.{IsPlace, default_name, entrypoint_of, is_address, is_entrypoint, is_place, is_written_entrypoint, name_of, place_of, spelled_address, written_entrypoint}
use Rattle.rules_data.specs.types.Kind.{Kind}
use Rattle.rules_code.specs.evaluation.Contracts.{Lookup, chosen_entrypoint, takes, address_where, contract_named, contract_of, is_contract_of}
use Rattle.laws_data.proofs.forms_lemmas.ForCallers.{place_length}

-- ---- what is written of a name

same_default : (name : List ℕ) → bytes_eq name default_name ≡ true → name ≡ default_name
same_default name h = (bytes_eq-Decides name default_name).0 h

default_same : bytes_eq default_name default_name ≡ true
default_same = (bytes_eq-Decides default_name default_name).1 refl

not_false : (b : Bool) → b ≡ false → not b ≡ true
not_false false h = refl
not_false true h = absurd cc

written_is : (name : List ℕ) → is_entrypoint name ≡ true → is_written_entrypoint (written_entrypoint name) ≡ true
written_is name h = by_test (bytes_eq name default_name) refl name refl h
  where
    other : (n : List ℕ) → is_entrypoint n ≡ true → bytes_eq n default_name ≡ false → is_written_entrypoint n ≡ true
    other [] h e = refl
    other (c ∷ n) h e = and_from (is_entrypoint (c ∷ n)) (not (bytes_eq (c ∷ n) default_name)) h
        (not_false (bytes_eq (c ∷ n) default_name) e)

    by_test : (b : Bool) → bytes_eq name default_name ≡ b → (n : List ℕ) → n ≡ name → is_entrypoint name ≡ true →
        is_written_entrypoint (if b then [] else name) ≡ true
    by_test true e n q h = refl
    by_test false e n q h = other name h e

-- what is written names it again
named_again : (name : List ℕ) → is_entrypoint name ≡ true → name_of (written_entrypoint name) ≡ name
named_again name h = by_test (bytes_eq name default_name) refl
  where
    nonempty : (n : List ℕ) → is_entrypoint n ≡ true → name_of n ≡ n
    nonempty [] h = absurd cc
    nonempty (c ∷ n) h = refl

    by_test : (b : Bool) → bytes_eq name default_name ≡ b → name_of (if b then [] else name) ≡ name
    by_test true e = sym (same_default name e)
    by_test false e = nonempty name h

-- ---- addresses from places and names

pub take_front : {A : Type 0} (n : ℕ) (xs ys : List A) → length xs ≡ n → take n (xs ++ ys) ≡ xs
take_front zero [] ys h = refl
take_front zero (x ∷ xs) ys h = absurd (omega arith)
take_front (suc n) [] ys h = absurd (omega arith)
take_front (suc n) (x ∷ xs) ys h = ap (λ zs. x ∷ zs) (take_front n xs ys (omega arith))

drop_front : {A : Type 0} (n : ℕ) (xs ys : List A) → length xs ≡ n → drop n (xs ++ ys) ≡ ys
drop_front zero [] ys h = refl
drop_front zero (x ∷ xs) ys h = absurd (omega arith)
drop_front (suc n) [] ys h = absurd (omega arith)
drop_front (suc n) (x ∷ xs) ys h = drop_front n xs ys (omega arith)

pub place_back : (place name : List ℕ) → IsPlace place → place_of (spelled_address place name) ≡ place
place_back place name h = take_front 22 place (written_entrypoint name) (place_length place h)

pub name_back : (place name : List ℕ) → IsPlace place → is_entrypoint name ≡ true →
    entrypoint_of (spelled_address place name) ≡ name
name_back place name h g = ap name_of (drop_front 22 place (written_entrypoint name) (place_length place h)) ∙ named_again name g

pub spelled_is : (place name : List ℕ) → IsPlace place → is_entrypoint name ≡ true →
    is_address (spelled_address place name) ≡ true
spelled_is place name h g =
    let front : take 22 (spelled_address place name) ≡ place = take_front 22 place (written_entrypoint name)
    (place_length place h) in
    let behind : drop 22 (spelled_address place name) ≡ written_entrypoint name = drop_front 22 place (written_entrypoint name)
    (place_length place h) in
    and_from (is_place (take 22 (spelled_address place name)))
    (is_written_entrypoint (drop 22 (spelled_address place name)))
    (subst (λ x. is_place x ≡ true) (sym front) h)
    (subst (λ x. is_written_entrypoint x ≡ true) (sym behind) (written_is name g))

pub address_place : (b : List ℕ) → is_address b ≡ true → IsPlace (place_of b)
address_place b h = (and_parts (is_place (take 22 b)) (is_written_entrypoint (drop 22 b)) h).0

pub default_is : is_entrypoint default_name ≡ true
default_is = refl

pub address_name : (b : List ℕ) → is_address b ≡ true → is_entrypoint (entrypoint_of b) ≡ true
address_name b h = by_name (drop 22 b) (and_parts (is_place (take 22 b)) (is_written_entrypoint (drop 22 b)) h).1
  where
    by_name : (n : List ℕ) → is_written_entrypoint n ≡ true → is_entrypoint (name_of n) ≡ true
    by_name [] h = refl
    by_name (c ∷ n) h = (and_parts (is_entrypoint (c ∷ n)) (not (bytes_eq (c ∷ n) default_name)) h).0

-- ---- contracts

-- a place that takes a type at a name is a contract of the type at the address of both
pub taken_there : (at : Lookup) (place name : List ℕ) (a : Kind) → IsPlace place → is_entrypoint name ≡ true →
    takes at place name a ≡ true → is_contract_of at a (spelled_address place name) ≡ true
taken_there at place name a h g t =
    ap (λ p. is_some (contract_named at p a (chosen_entrypoint (entrypoint_of (spelled_address place name)) default_name)))
    (place_back place name h)
    ∙ ap (λ n. is_some (contract_named at place a (chosen_entrypoint n default_name))) (name_back place name h g)
    ∙ by_test (bytes_eq name default_name) refl
  where
    found_there : (n : List ℕ) → takes at place n a ≡ true → is_some (contract_named at place a (Some n)) ≡ true
    found_there n t = ap (λ b. is_some (address_where b (spelled_address place n))) t

    by_test : (b : Bool) → bytes_eq name default_name ≡ b →
        is_some (contract_named at place a
        (if b then Some default_name else if bytes_eq default_name default_name then Some name else None)) ≡ true
    by_test true e = found_there default_name (subst (λ n. takes at place n a ≡ true) (same_default name e) t)
    by_test false e = ap (λ b. is_some (contract_named at place a (if b then Some name else None))) default_same
        ∙ found_there name t

-- what CONTRACT gives
abbrev pub GivesContract : Lookup → Kind → Option (List ℕ) → Type 0
GivesContract at a None = Unit {0}
GivesContract at a (Some b) = (is_address b ≡ true) × (is_contract_of at a b ≡ true)

named_gives : (at : Lookup) (place : List ℕ) (a : Kind) (o : Option (List ℕ)) → IsPlace place →
    ((n : List ℕ) → o ≡ Some n → is_entrypoint n ≡ true) → GivesContract at a (contract_named at place a o)
named_gives at place a None h g = tt
named_gives at place a (Some n) h g = by_test (takes at place n a) refl
  where
    by_test : (b : Bool) → takes at place n a ≡ b → GivesContract at a (address_where b (spelled_address place n))
    by_test true e = (spelled_is place n h (g n refl), taken_there at place n a h (g n refl) e)
    by_test false e = tt

pub contract_gives : (at : Lookup) (name : List ℕ) (a : Kind) (b : List ℕ) → is_entrypoint name ≡ true → is_address b ≡ true →
    GivesContract at a (contract_of at name a b)
contract_gives at name a b g h = named_gives at (place_of b) a (chosen_entrypoint (entrypoint_of b) name) (address_place b h)
    (λ n e. chosen n e)
  where
    chosen : (n : List ℕ) → chosen_entrypoint (entrypoint_of b) name ≡ Some n → is_entrypoint n ≡ true
    chosen n e = by_first (bytes_eq (entrypoint_of b) default_name) e
      where
        some_same : (x : List ℕ) → Some x ≡ Some n → is_entrypoint x ≡ true → is_entrypoint n ≡ true
        some_same x q i = let r : x ≡ n = cc in subst (λ y. is_entrypoint y ≡ true) r i

        by_second : (q : Bool) → (if q then Some (entrypoint_of b) else None) ≡ Some n → is_entrypoint n ≡ true
        by_second true e = some_same (entrypoint_of b) e (address_name b h)
        by_second false e = absurd cc

        by_first : (q : Bool) → (if q then Some name else if bytes_eq name default_name then Some (entrypoint_of b) else None)
            ≡ Some n → is_entrypoint n ≡ true
        by_first true e = some_same name e g
        by_first false e = by_second (bytes_eq name default_name) e
