-- Each place and each address has one spelling.
use Rattle.std.proofs.Common.{◌≡◌, ◌≢◌, ℕ, Bool, true, false, Option, None, Some, List, [], ◌∷◌, ◌++◌, length, take, sym, ap, subst, ◌∙◌, ◌≤◌, arith, refl, option_map, if◌then◌else◌}
use Rattle.std.specs.Option.{IfSome, SomeIff}
use Rattle.std.specs.Bool.{MatchBool}
use Rattle.std.specs.Cmp.Lexicographic.{told_text}
use Rattle.std.specs.Str.{bytes_eq}
use Rattle.std.specs.Cmp.Derive.{both_true}
use Rattle.std.proofs.lemmas.Bool.Decides.{Decides-not}
use Rattle.std.proofs.lemmas.Slice.Eq.{bytes_eq-Decides}
use Rattle.std.proofs.lemmas.List.{append_cancel_right, take_at, drop_at}
use Rattle.rules_data.specs.forms.Spelling.{IsPlace, IsAddress, IsEntrypoint, default_name, entrypoint_of, is_written_entrypoint, name_of, place_of, spelled_address, written_entrypoint}
use Rattle.mich_forms.specs.Spelled.{place_bytes, address_bytes}
use Rattle.mich_forms.specs.declared.places.Place.{Place}
use Rattle.mich_forms.specs.declared.places.Place.TheVariants.{Implicit, Contract}
use Rattle.mich_forms.specs.declared.addresses.Address.{Address}
use Rattle.laws_data.proofs.forms_lemmas.ForCallers.{place_length}
use Rattle.mich_forms.proofs.Joining.{joined_parts}

pub same_place : (p q : Place) → place_bytes p ≡ place_bytes q → p ≡ q
same_place (Implicit k) (Implicit l) e = ap Implicit cc
same_place (Implicit k) (Contract h) e = let heads : ◌≡◌ {A = ℕ} 0 1 = cc in let none : ⊥ = omega arith in absurd none
same_place (Contract h) (Implicit k) e = let heads : ◌≡◌ {A = ℕ} 1 0 = cc in let none : ⊥ = omega arith in absurd none
same_place (Contract g) (Contract h) e =
    let tails : g ++ 0 ∷ [] ≡ h ++ 0 ∷ [] = cc in ap Contract (append_cancel_right g h (0 ∷ []) tails)

-- what the spelling of a place tells
pub only_place : (result : Option Place) (bytes : List ℕ) → SomeIff (option_map place_bytes result) (IsPlace bytes) bytes
    → (p : Place) → IsPlace (place_bytes p) → place_bytes p ≡ bytes → result ≡ Some p
only_place None bytes h p is_place e = absurd (h (rw e at is_place))
only_place (Some q) bytes h p is_place e = ap Some (same_place q p (h.1 ∙ sym e))

-- a list that is not empty names itself
name_of-some : (name : List ℕ) → 1 ≤ length name → name_of name ≡ name
name_of-some [] h = let none : ⊥ = omega (arith, h) in absurd none
name_of-some (c ∷ name) h = refl

-- a name of an entrypoint is not empty
pub named-some : (name : List ℕ) → IsEntrypoint name → 1 ≤ length name
named-some [] h = absurd cc
named-some (c ∷ name) h = omega arith

-- a name that is not the default one is what is written of it
pub written_is : (name : List ℕ) → IsEntrypoint name → name ≢ default_name → is_written_entrypoint name ≡ true
written_is [] is_name other = refl
written_is (c ∷ name) is_name other =
    both_true is_name ((Decides-not (bytes_eq (c ∷ name) default_name) (bytes_eq-Decides (c ∷ name) default_name)).1 other)

-- what is written of an entrypoint
module _ (name : List ℕ) (is_name : IsEntrypoint name) where
  pub is_written : is_written_entrypoint (written_entrypoint name) ≡ true
  is_written = by_test (bytes_eq name default_name) (told_text name default_name (bytes_eq name default_name) refl) where
    by_test : (b : Bool) → MatchBool b (name ≡ default_name) (name ≢ default_name) → is_written_entrypoint (if b then [] else name) ≡ true
    by_test true h = refl
    by_test false h = written_is name is_name h

  -- the name is the default one where nothing is written, and what is written else
  pub named : name ≡ name_of (written_entrypoint name)
  named = by_test (bytes_eq name default_name) (told_text name default_name (bytes_eq name default_name) refl) where
    by_test : (b : Bool) → MatchBool b (name ≡ default_name) (name ≢ default_name) → name ≡ name_of (if b then [] else name)
    by_test true h = h
    by_test false h = sym (name_of-some name (named-some name is_name))

-- the name after a place
pub entrypoint_of-spelled : (p : List ℕ) (name : List ℕ) → IsPlace p → IsEntrypoint name → name ≡ entrypoint_of (spelled_address p name)
entrypoint_of-spelled p name is_place is_name =
    named name is_name ∙ ap name_of (sym (drop_at p (written_entrypoint name) 22 (place_length p is_place)))

pub same_address : (a b : Address) → IsPlace (place_bytes a.place) → IsEntrypoint a.entrypoint
    → IsPlace (place_bytes b.place) → IsEntrypoint b.entrypoint → address_bytes a ≡ address_bytes b → a ≡ b
same_address a b pa na pb nb e =
    let fa = take_at (place_bytes a.place) (written_entrypoint a.entrypoint) 22 (place_length (place_bytes a.place) pa) in
    let fb = take_at (place_bytes b.place) (written_entrypoint b.entrypoint) 22 (place_length (place_bytes b.place) pb) in
    let places : a.place ≡ b.place = same_place a.place b.place (sym fa ∙ ap (take 22) e ∙ fb) in
    let names : a.entrypoint ≡ b.entrypoint =
    entrypoint_of-spelled (place_bytes a.place) a.entrypoint pa na ∙ ap entrypoint_of e ∙ sym (entrypoint_of-spelled (place_bytes b.place) b.entrypoint pb nb) in
    λ i. record { place = places i; entrypoint = names i }

-- what the spelling of an address tells
pub only_address : (result : Option Address) (bytes : List ℕ) → SomeIff (option_map address_bytes result) (IsAddress bytes) bytes
    → IfSome result (λ a. IsPlace (place_bytes a.place) × IsEntrypoint a.entrypoint)
    → (a : Address) → IsPlace (place_bytes a.place) → IsEntrypoint a.entrypoint → address_bytes a ≡ bytes → result ≡ Some a
only_address None bytes h parts a is_place is_name e =
    absurd (h (subst IsAddress e
    (joined_parts (place_bytes a.place) (written_entrypoint a.entrypoint) is_place (is_written a.entrypoint is_name))))
only_address (Some b) bytes h parts a is_place is_name e =
    ap Some (same_address b a parts.0 parts.1 is_place is_name (h.1 ∙ sym e))

-- where the parts of an address stand in its spelling
pub parts_of : (result : Option Address) (bytes : List ℕ) → SomeIff (option_map address_bytes result) (IsAddress bytes) bytes
    → IfSome result (λ a. IsPlace (place_bytes a.place) × IsEntrypoint a.entrypoint)
    → IfSome result (λ a. (place_bytes a.place ≡ place_of bytes) × (a.entrypoint ≡ entrypoint_of bytes))
parts_of None bytes h parts = tt
parts_of (Some a) bytes h parts = (
  sym (take_at (place_bytes a.place) (written_entrypoint a.entrypoint) 22 (place_length (place_bytes a.place) parts.0)) ∙ ap place_of h.1,
  entrypoint_of-spelled (place_bytes a.place) a.entrypoint parts.0 parts.1 ∙ ap entrypoint_of h.1,
)
