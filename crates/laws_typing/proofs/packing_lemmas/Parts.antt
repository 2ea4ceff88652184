-- Typings that have no fault, taken apart.
use Rattle.std.proofs.Common.{◌≡◌, ℕ, Bool, true, false, cond, None, List, [], ◌∷◌, refl}
use Rattle.rules_data.specs.types.Kind.{Kind}
use Rattle.rules_data.specs.types.Kind as k
use Rattle.rules_data.specs.declared.types.Simple.TheVariants as s
use Rattle.rules_code.specs.instructions.Context.{Context}
use Rattle.rules_code.specs.instructions.Context as place
use Rattle.rules_code.specs.instructions.Arguments.{Found, found, fault}
use Rattle.rules_code.specs.typing.Typing.{Typing, goes, fails, bad, shift, on_found, join, ends, under, mapped}
use Rattle.rules_code.specs.typing.Stacks.{on_bool, on_option, on_or, on_list, on_parts, on_mapped, on_origination}
use Rattle.rules_code.specs.typing.Bodies.{body_fault}
use Rattle.rules_code.specs.typing.Acts.{outside_views}
use Rattle.laws_typing.specs.packing.Laws.{IsTyped}

pub unshifted : (n : ℕ) (T : Typing) → IsTyped (shift n T) → IsTyped T
unshifted n (goes B) h = tt
unshifted n fails h = tt
unshifted n (bad l) h = h

pub shifted : (n : ℕ) (T : Typing) → IsTyped T → IsTyped (shift n T)
shifted n (goes B) h = tt
shifted n fails h = tt
shifted n (bad l) h = h

pub joined : (T U : Typing) → IsTyped (join T U) → IsTyped T × IsTyped U
joined (goes B) (goes C) h = (tt, tt)
joined (goes B) fails h = (tt, tt)
joined (goes B) (bad l) h = absurd h
joined fails U h = (tt, h)
joined (bad l) U h = absurd h

pub ended : (T : Typing) (C : List Kind) (U : Typing) → IsTyped (ends T C U) → IsTyped T
ended (goes B) C U h = tt
ended fails C U h = tt
ended (bad l) C U h = absurd h

pub below : (A : List Kind) (T : Typing) → IsTyped (under A T) → IsTyped T
below A (goes B) h = tt
below A fails h = tt
below A (bad l) h = absurd h

pub of_mapped : (T : Typing) (f : Kind → Kind) (A : List Kind) → IsTyped (mapped T f A) → IsTyped T
of_mapped (goes B) f A h = tt
of_mapped fails f A h = tt
of_mapped (bad l) f A h = absurd h

pub outside : (c : Context) (T : Typing) → IsTyped (outside_views c T) → IsTyped T
outside (place.main es) T h = h
outside place.lambda T h = h
outside place.view T h = absurd h

pub tested : (b : Bool) (T : Typing) → IsTyped (cond b T (bad 0)) → IsTyped T
tested true T h = h
tested false T h = absurd h

pub no_fault : (at : ℕ) (T : Typing) (r : Kind) → body_fault at T r ≡ None → IsTyped T
no_fault at (goes B) r e = tt
no_fault at fails r e = tt
no_fault at (bad l) r e = cc e

-- what was read of arguments, and what it goes on to
pub record Goes {A : Type 0} (f : Found A) (next : A → Typing) : Type 0 where
  pub value : A
  pub is : f ≡ found value
  pub typed : IsTyped (next value)

pub on_found_typed : {A : Type 0} (f : Found A) (next : A → Typing) → IsTyped (on_found f next) → Goes f next
on_found_typed (found x) next h = record { value = x; is = refl; typed = h }
on_found_typed (fault l) next h = absurd h

-- ---- stacks

pub bool_typed : (A : List Kind) (next : List Kind → Typing) → IsTyped (on_bool A next) → (B : List Kind) × IsTyped (next B)
bool_typed (k.simple s.Bool ∷ A) next h = (A, h)
bool_typed (k.simple _ ∷ A) next h = absurd h
bool_typed (_ ∷ A) next h = absurd h
bool_typed [] next h = absurd h

pub option_typed : (A : List Kind) (next : Kind → List Kind → Typing) → IsTyped (on_option A next) → (a : Kind) × (B : List Kind) × IsTyped (next a B)
option_typed (k.option a ∷ A) next h = (a, A, h)
option_typed (_ ∷ A) next h = absurd h
option_typed [] next h = absurd h

pub or_typed : (A : List Kind) (next : Kind → Kind → List Kind → Typing) → IsTyped (on_or A next) → (a : Kind) × (b : Kind) × (B : List Kind) × IsTyped (next a b B)
or_typed (k.or a b ∷ A) next h = (a, b, A, h)
or_typed (_ ∷ A) next h = absurd h
or_typed [] next h = absurd h

pub list_typed : (A : List Kind) (next : Kind → List Kind → Typing) → IsTyped (on_list A next) → (a : Kind) × (B : List Kind) × IsTyped (next a B)
list_typed (k.list a ∷ A) next h = (a, A, h)
list_typed (_ ∷ A) next h = absurd h
list_typed [] next h = absurd h

pub parts_typed : (A : List Kind) (next : Kind → List Kind → Typing) → IsTyped (on_parts A next) → (a : Kind) × (B : List Kind) × IsTyped (next a B)
parts_typed (k.list a ∷ A) next h = (a, A, h)
parts_typed (k.set a ∷ A) next h = (a, A, h)
parts_typed (k.map a b ∷ A) next h = (k.pair a b, A, h)
parts_typed (_ ∷ A) next h = absurd h
parts_typed [] next h = absurd h

pub mapped_typed : (A : List Kind) (next : Kind → (Kind → Kind) → List Kind → Typing) → IsTyped (on_mapped A next) →
    (a : Kind) × (f : Kind → Kind) × (B : List Kind) × IsTyped (next a f B)
mapped_typed (k.list a ∷ A) next h = (a, k.list, A, h)
mapped_typed (k.option a ∷ A) next h = (a, k.option, A, h)
mapped_typed (k.map a b ∷ A) next h = (k.pair a b, k.map a, A, h)
mapped_typed (_ ∷ A) next h = absurd h
mapped_typed [] next h = absurd h

pub origination_typed : (A : List Kind) (next : Kind → List Kind → Typing) → IsTyped (on_origination A next) → (g : Kind) × (B : List Kind) × IsTyped (next g B)
origination_typed (k.option (k.simple s.KeyHash) ∷ k.simple s.Mutez ∷ g ∷ A) next h = (g, A, h)
origination_typed (k.option (k.simple s.KeyHash) ∷ k.simple s.Mutez ∷ []) next h = absurd h
origination_typed (k.option (k.simple s.KeyHash) ∷ k.simple _ ∷ A) next h = absurd h
origination_typed (k.option (k.simple s.KeyHash) ∷ _ ∷ A) next h = absurd h
origination_typed (k.option (k.simple s.KeyHash) ∷ []) next h = absurd h
origination_typed (k.option (k.simple _) ∷ A) next h = absurd h
origination_typed (k.option _ ∷ A) next h = absurd h
origination_typed (_ ∷ A) next h = absurd h
origination_typed [] next h = absurd h
