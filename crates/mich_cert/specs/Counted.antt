-- Which stacks stand before and behind an instruction with a count (Michelson reference, "Instructions").
use Rattle.std.specs.Prelude.{ℕ, zero, suc, Bool, false, ◌&&◌, List, [], ◌∷◌}
use Rattle.rules_data.specs.types.Kind.{Kind}
use Rattle.rules_data.specs.types.Kind as k
use Rattle.rules_data.specs.types.Attributes.{duplicable}
use Rattle.rules_code.specs.instructions.Same.{same_kind, same_kinds}

-- DROP
abbrev pub drops : ℕ → List Kind → List Kind → Bool
drops zero A B = same_kinds A B
drops (suc n) (a ∷ A) B = drops n A B
drops (suc n) [] B = false

-- a type that can be copied and is the one below so many
abbrev pub is_copied : ℕ → List Kind → Kind → Bool
is_copied n [] t = false
is_copied zero (a ∷ A) t = duplicable a && same_kind a t
is_copied (suc n) (a ∷ A) t = is_copied n A t

-- DUP of the type below so many
abbrev pub dups : ℕ → List Kind → List Kind → Bool
dups n A [] = false
dups n A (t ∷ B) = is_copied n A t && same_kinds A B

-- a stack that is another with a type put below so many
abbrev pub is_with : ℕ → Kind → List Kind → List Kind → Bool
is_with n t [] B = false
is_with zero t (a ∷ A) B = same_kind a t && same_kinds A B
is_with (suc n) t (a ∷ A) [] = false
is_with (suc n) t (a ∷ A) (b ∷ B) = same_kind a b && is_with n t A B

-- DIG; DUG is the same from the stack after it to the one before
abbrev pub digs : ℕ → List Kind → List Kind → Bool
digs n A [] = false
digs n A (t ∷ B) = is_with n t A B

-- a type that is no pair
abbrev pub IsNoPair : Kind → Type 0
IsNoPair (k.pair a b) = ⊥
IsNoPair a = Unit {0}

-- a type that is the comb of the first type and the next n, and a stack that is what is below these
abbrev pub is_comb : ℕ → List Kind → Kind → List Kind → Bool
is_comb n [] c B = false
is_comb zero (a ∷ A) c B = same_kind a c && same_kinds A B
is_comb (suc n) (a ∷ A) (k.pair b c) B = same_kind a b && is_comb n A c B
is_comb (suc n) (a ∷ A) c B = false

-- PAIR of the first type and the next n; UNPAIR is the same from the stack after it to the one before
abbrev pub pairs : ℕ → List Kind → List Kind → Bool
pairs n A [] = false
pairs n A (c ∷ B) = is_comb n A c B

-- a type that is the part of a comb with a number
abbrev pub is_part : ℕ → Kind → Kind → Bool
is_part zero a x = same_kind a x
is_part (suc zero) (k.pair a b) x = same_kind a x
is_part (suc (suc n)) (k.pair a b) x = is_part n b x
is_part n a x = false

-- GET with a number
abbrev pub gets : ℕ → List Kind → List Kind → Bool
gets n (a ∷ A) (x ∷ B) = is_part n a x && same_kinds A B
gets n A B = false

-- a comb that is another, with a type as the part with a number
abbrev pub is_updated : ℕ → Kind → Kind → Kind → Bool
is_updated zero x a b = same_kind x b
is_updated (suc zero) x (k.pair a c) (k.pair b d) = same_kind x b && same_kind c d
is_updated (suc (suc n)) x (k.pair a c) (k.pair b d) = same_kind a b && is_updated n x c d
is_updated n x a b = false

-- UPDATE with a number
abbrev pub updates : ℕ → List Kind → List Kind → Bool
updates n (x ∷ a ∷ A) (b ∷ B) = is_updated n x a b && same_kinds A B
updates n A B = false

-- DIP whose body goes from one stack to another, below so many types
abbrev pub dips : ℕ → List Kind → List Kind → List Kind → List Kind → Bool
dips zero A B C D = same_kinds A B && same_kinds C D
dips (suc n) (a ∷ A) B C (d ∷ D) = same_kind a d && dips n A B C D
dips (suc n) A B C D = false
