-- What arithmetic gives: numbers of types without arguments, and optional pairs of numbers.
use Rattle.std.proofs.Common.{◌≡◌, Bool, true, false, List, [], ◌∷◌, Option, Some, None, refl, subst}
use Rattle.std.specs.Prelude.{ℤ, pos, int_le, if◌then◌else◌, option_map}
use Rattle.std.specs.List.{flat_map}
use Rattle.rules_data.specs.types.Kind.{Kind}
use Rattle.rules_data.specs.types.Kind as k
use Rattle.rules_data.specs.values.Val.{Val}
use Rattle.rules_data.specs.values.Val as v
use Rattle.rules_data.specs.values.Tickets.{tickets}
use Rattle.rules_code.specs.instructions.Types as t
use Rattle.rules_code.specs.instructions.Change.{makes}
use Rattle.rules_code.specs.instructions.NumberChanges.{of_two, of_one, sum, difference, product, scaled, quotient, signed, conjunction}
use Rattle.rules_code.specs.steps.Step.{Step, kept}
use Rattle.rules_code.specs.steps.Numbers as n
use Rattle.rules_code.specs.steps.Numbers.{natural}
use Rattle.laws_tickets.specs.totals.Agreement.{Agrees, AllAgree}
use Rattle.laws_tickets.proofs.totals.ForCallers.{KeepsStep, KeepsChange, keeps_same, change_then}

-- ---- types without arguments, and what numbers give

abbrev pub IsSimple : Kind → Type 0
IsSimple (k.simple z) = Unit {0}
IsSimple a = ⊥

number_agrees : (a : Kind) (z : ℤ) → IsSimple a → Agrees a (v.number z)
number_agrees (k.simple s) z h = refl
number_agrees _ z h = absurd h

abbrev Gives : (Kind → Type 0) → Option Kind → Type 0
Gives P None = Unit {0}
Gives P (Some a) = P a

given : (P : Kind → Type 0) (o : Option Kind) (a : Kind) → Gives P o → o ≡ Some a → P a
given P (Some b) a g e = let f : b ≡ a = cc in subst P f g
given P None a g e = absurd cc

pub sum_simple : (a b : Kind) → Gives IsSimple (sum a b)
sum_simple t.nat t.nat = tt
sum_simple t.nat t.int = tt
sum_simple t.int t.nat = tt
sum_simple t.int t.int = tt
sum_simple t.timestamp t.int = tt
sum_simple t.int t.timestamp = tt
sum_simple _ _ = tt

pub difference_simple : (a b : Kind) → Gives IsSimple (difference a b)
difference_simple t.nat t.nat = tt
difference_simple t.nat t.int = tt
difference_simple t.int t.nat = tt
difference_simple t.int t.int = tt
difference_simple t.timestamp t.int = tt
difference_simple t.timestamp t.timestamp = tt
difference_simple _ _ = tt

pub product_simple : (a b : Kind) → Gives IsSimple (product a b)
product_simple t.nat t.nat = tt
product_simple t.nat t.int = tt
product_simple t.int t.nat = tt
product_simple t.int t.int = tt
product_simple _ _ = tt

pub scaled_simple : (a b : Kind) → Gives IsSimple (scaled a b)
scaled_simple t.mutez t.nat = tt
scaled_simple t.nat t.mutez = tt
scaled_simple _ _ = tt

pub signed_simple : (a : Kind) → Gives IsSimple (signed a)
signed_simple t.nat = tt
signed_simple t.int = tt
signed_simple _ = tt

pub conjunction_simple : (a b : Kind) → Gives IsSimple (conjunction a b)
conjunction_simple t.nat t.nat = tt
conjunction_simple t.int t.nat = tt
conjunction_simple _ _ = tt

-- an optional pair of numbers
abbrev pub IsQuotient : Kind → Type 0
IsQuotient (k.option (k.pair (k.simple y) (k.simple z))) = Unit {0}
IsQuotient a = ⊥

pub quotient_agrees : (a : Kind) (q : Option (ℤ × ℤ)) → IsQuotient a → Agrees a (n.quotient q)
quotient_agrees (k.option (k.pair (k.simple y) (k.simple z))) None h = tt
quotient_agrees (k.option (k.pair (k.simple y) (k.simple z))) (Some p) h = (refl, refl)
quotient_agrees _ q h = absurd h

pub quotient_is : (a b : Kind) → Gives IsQuotient (option_map k.option (quotient a b))
quotient_is t.nat t.nat = tt
quotient_is t.nat t.int = tt
quotient_is t.int t.nat = tt
quotient_is t.int t.int = tt
quotient_is t.mutez t.nat = tt
quotient_is t.mutez t.mutez = tt
quotient_is _ _ = tt

pub quotient_none : (q : Option (ℤ × ℤ)) → tickets (n.quotient q) ≡ []
quotient_none None = refl
quotient_none (Some p) = refl

pub natural_agrees : (x : ℤ) → Agrees (k.option t.nat) (natural x)
natural_agrees x = by_test (int_le (pos 0) x)
  where
    by_test : (b : Bool) → Agrees (k.option t.nat) (if b then v.some (v.number x) else v.nothing)
    by_test true = refl
    by_test false = tt

pub natural_none : (x : ℤ) → tickets (natural x) ≡ []
natural_none x = by_test (int_le (pos 0) x)
  where
    by_test : (b : Bool) → tickets (if b then v.some (v.number x) else v.nothing) ≡ []
    by_test true = refl
    by_test false = refl

-- a number in place of others
pub number_for : (a : Kind) (B : List Kind) (V : List Val) (z : ℤ) (W : List Val) → IsSimple a → AllAgree B W →
    flat_map tickets V ≡ flat_map tickets W → KeepsStep (a ∷ B) V (kept (v.number z ∷ W))
number_for a B V z W s h f = keeps_same (a ∷ B) V (v.number z ∷ W) (number_agrees a z s, h) f

pub of_two_keeps : (f : Kind → Kind → Option Kind) (P : Kind → Type 0) → ((a b : Kind) → Gives P (f a b)) →
    (x y : Val) (A : List Kind) (V : List Val) (s : Step) → AllAgree A (x ∷ y ∷ V) →
    ((a : Kind) (B : List Kind) → P a → AllAgree B V → KeepsStep (a ∷ B) (x ∷ y ∷ V) s) → KeepsChange (of_two f A) (x ∷ y ∷ V) s
of_two_keeps f P g x y (a ∷ b ∷ A) V s h l =
    change_then (f a b) (λ d. makes d A) (x ∷ y ∷ V) s (λ d e. l d A (given P (f a b) d (g a b) e) h.1.1)
of_two_keeps f P g x y [] V s h l = tt
of_two_keeps f P g x y (a ∷ []) V s h l = tt

pub of_one_keeps : (f : Kind → Option Kind) (P : Kind → Type 0) → ((a : Kind) → Gives P (f a)) →
    (x : Val) (A : List Kind) (V : List Val) (s : Step) → AllAgree A (x ∷ V) →
    ((a : Kind) (B : List Kind) → P a → AllAgree B V → KeepsStep (a ∷ B) (x ∷ V) s) → KeepsChange (of_one f A) (x ∷ V) s
of_one_keeps f P g x (a ∷ A) V s h l = change_then (f a) (λ d. makes d A) (x ∷ V) s (λ d e. l d A (given P (f a) d (g a) e) h.1)
of_one_keeps f P g x [] V s h l = tt
