-- Views that are there: their types, and the storage that they read.
use Rattle.std.proofs.Common.{◌≡◌, ℕ, Bool, true, false, ◌&&◌, List, [], ◌∷◌, Option, Some, None, refl, ap, subst}
use Rattle.std.specs.Prelude.{if◌then◌else◌, option_and_then}
use Rattle.std.specs.List.{AllByRecursion}
use Rattle.std.specs.Str.{bytes_eq}
use Rattle.std.proofs.lemmas.Bool.{and_parts}
use Rattle.rules_data.specs.forms.Spelling.{place_of, is_implicit}
use Rattle.rules_data.specs.types.Kind.{Kind}
use Rattle.rules_data.specs.types.Attributes.{packable}
use Rattle.rules_code.specs.instructions.Same.{same_kind}
use Rattle.rules_code.specs.instructions.Arguments.{Found, found, fault}
use Rattle.rules_code.specs.typing.Scripts.{TypedView, Outline}
use Rattle.rules_code.specs.typing.Nodes.{outline}
use Rattle.rules_code.specs.evaluation.Surroundings.{Contract}
use Rattle.rules_code.specs.evaluation.Contracts.{Lookup, if_found, outline_in, view_named, hash_in, contract_in, Viewed, viewed_with, viewed_of, viewed}
use Rattle.laws_tickets.proofs.totals.Same.{same_kind_true}
use Rattle.laws_tickets.proofs.totals.Scripts.{HasPackableInput, outline_typed}

-- what may be there has P
abbrev pub AllSome : {A : Type 0} → (A → Type 0) → Option A → Type 0
AllSome P None = Unit {0}
AllSome P (Some x) = P x

then_some : {A B : Type 0} (P : B → Type 0) (o : Option A) (f : A → Option B) → ((x : A) → o ≡ Some x → AllSome P (f x)) →
    AllSome P (option_and_then f o)
then_some P None f h = tt
then_some P (Some x) f h = h x refl

pub some_is : {A : Type 0} (P : A → Type 0) (o : Option A) (x : A) → AllSome P o → o ≡ Some x → P x
some_is P (Some y) x h e = let f : y ≡ x = cc in subst P f h
some_is P None x h e = absurd cc

-- a view that is there
pub record IsViewed (contract_at : Lookup) (a : Kind) (w : Viewed) : Type 0 where
  pub hash : List ℕ
  pub contract : contract_at hash ≡ Some w.contract
  pub types : Outline
  pub outlined : outline w.contract.script ≡ found types
  pub storage : w.storage ≡ types.storage
  pub input : packable a ≡ true

named_packable : (name : List ℕ) (vs : List TypedView) → AllByRecursion HasPackableInput vs →
    AllSome HasPackableInput (view_named name vs)
named_packable name [] h = tt
named_packable name (v ∷ vs) h = by_test (bytes_eq v.name name) (named_packable name vs h.1)
  where
    by_test : (b : Bool) → AllSome HasPackableInput (view_named name vs) →
        AllSome HasPackableInput (if b then Some v else view_named name vs)
    by_test true later = h.0
    by_test false later = later

found_some : {A : Type 0} (o : Found A) (x : A) → if_found o ≡ Some x → o ≡ found x
found_some (found y) x e = let f : y ≡ x = cc in ap found f
found_some (fault l) x e = absurd cc

module _ (contract_at : Lookup) (name : List ℕ) (a b : Kind) where
  with_is : (hash at : List ℕ) (c : Contract) (o : Outline) (t : TypedView) → contract_at at ≡ Some c →
      outline c.script ≡ found o → packable t.input ≡ true → AllSome (IsViewed contract_at a) (viewed_with hash c o.storage a b t)
  with_is hash at c o t e f h = by_test (same_kind t.input a && same_kind t.output b) refl
    where
      by_test : (x : Bool) → same_kind t.input a && same_kind t.output b ≡ x →
          AllSome (IsViewed contract_at a) (if x then Some
          (record { hash = hash; contract = c; storage = o.storage; body = t.body.node }) else None)
      by_test true g = record {
        hash = at;
        contract = e;
        types = o;
        outlined = f;
        storage = refl;
        input =
            subst (λ k. packable k ≡ true) (same_kind_true t.input a
            (and_parts (same_kind t.input a) (same_kind t.output b) g).0) h;
      }
      by_test false g = tt

  of_is : (hash at : List ℕ) (c : Contract) → contract_at at ≡ Some c →
      AllSome (IsViewed contract_at a) (viewed_of hash c name a b)
  of_is hash at c e =
      then_some (IsViewed contract_at a) (outline_in c.script)
      (λ o. option_and_then (viewed_with hash c o.storage a b) (view_named name o.views)) (λ o f.
      let g : outline c.script ≡ found o = found_some (outline c.script) o f in
      then_some (IsViewed contract_at a) (view_named name o.views) (viewed_with hash c o.storage a b) (λ t i.
      with_is hash at c o t e g (some_is HasPackableInput (view_named name o.views) t
      (named_packable name o.views (outline_typed c.script o g).views) i)))

  contract_is : (place : List ℕ) (c : Contract) → contract_in contract_at place ≡ Some c → contract_at (hash_in place) ≡ Some c
  contract_is place c e = by_test (is_implicit place) e
    where
      by_test : (x : Bool) → (if x then None else contract_at (hash_in place)) ≡ Some c → contract_at (hash_in place) ≡ Some c
      by_test true f = absurd cc
      by_test false f = f

  pub viewed_is : (address : List ℕ) → AllSome (IsViewed contract_at a) (viewed contract_at name a b address)
  viewed_is address =
      then_some (IsViewed contract_at a) (contract_in contract_at (place_of address))
      (λ c. viewed_of (hash_in (place_of address)) c name a b) (λ c e.
      of_is (hash_in (place_of address)) (hash_in (place_of address)) c (contract_is (place_of address) c e))
