-- What is read of the arguments of instructions: types are well formed and have their attributes.
use Rattle.std.proofs.Common.{◌≡◌, ℕ, ◌+◌, Bool, true, false, refl, subst}
use Rattle.std.specs.Prelude.{nat_le, if◌then◌else◌}
use Rattle.rules_text.specs.nodes.Limits.{type_limit}
use Rattle.rules_text.specs.nodes.Tree.{Tree, Trees, none, more, size}
use Rattle.rules_data.specs.types.Kind.{Kind, nodes}
use Rattle.rules_data.specs.types.Reading.{Read, good, bad, Reading, a_type, bad_type, too_large, typed, limited, type_at}
use Rattle.rules_code.specs.instructions.Arguments.{Found, found, fault, and_then, no_argument, with_attribute, type_argument, one_type, two_types, count_argument, one_count, count_or}
use Rattle.laws_data.specs.types.Laws.{IsWellFormed}
use Rattle.laws_data.proofs.types_lemmas.ForCallers.{read_well}

-- what is read has P
abbrev pub AllFound : {A : Type 0} → (A → Type 0) → Found A → Type 0
AllFound P (found x) = P x
AllFound P (fault l) = Unit {0}

-- ---- types

limited_well : (at : ℕ) (t : Tree) (r : Read) (a : Kind) → typed at t ≡ r → limited r ≡ a_type a → IsWellFormed a
limited_well at t (good b) a e f = by_test (nat_le (nodes b) type_limit) f
  where
    by_test : (c : Bool) → (if c then a_type b else too_large) ≡ a_type a → IsWellFormed a
    by_test true f = let g : b ≡ a = cc in subst IsWellFormed g (read_well at t b e)
    by_test false f = absurd cc
limited_well at t (bad l) a e f = absurd cc

-- a type that is read is well formed
pub type_well : (at : ℕ) (t : Tree) (a : Kind) → type_at at t ≡ a_type a → IsWellFormed a
type_well at t a e = limited_well at t (typed at t) a refl e

abbrev pub HasAttribute : (Kind → Bool) → Kind → Type 0
HasAttribute asked a = (asked a ≡ true) × IsWellFormed a

with_attribute_all : (asked : Kind → Bool) (at : ℕ) (t : Tree) (r : Reading) → type_at at t ≡ r →
    AllFound (HasAttribute asked) (with_attribute asked at r)
with_attribute_all asked at t (a_type a) e = by_test (asked a) refl
  where
    by_test : (c : Bool) → asked a ≡ c → AllFound (HasAttribute asked) (if c then found a else fault at)
    by_test true f = (f, type_well at t a e)
    by_test false f = tt
with_attribute_all asked at t (bad_type l) e = tt
with_attribute_all asked at t too_large e = tt

pub type_argument_all : (asked : Kind → Bool) (at : ℕ) (t : Tree) → AllFound (HasAttribute asked) (type_argument asked at t)
type_argument_all asked at t = with_attribute_all asked at t (type_at at t) refl

-- ---- arguments

pub and_then_all : {A B : Type 0} (P : B → Type 0) (x : Found A) (next : A → Found B) → ((y : A) → AllFound P (next y)) →
    AllFound P (and_then x next)
and_then_all P (found y) next h = h y
and_then_all P (fault l) next h = tt

pub and_then_both : {A B : Type 0} (Q : A → Type 0) (P : B → Type 0) (x : Found A) (next : A → Found B) → AllFound Q x →
    ((y : A) → Q y → AllFound P (next y)) → AllFound P (and_then x next)
and_then_both Q P (found y) next q h = h y q
and_then_both Q P (fault l) next q h = tt

pub no_argument_all : {A : Type 0} (P : A → Type 0) (ts : Trees) (x : A) → P x → AllFound P (no_argument ts x)
no_argument_all P none x h = h
no_argument_all P (more t ts) x h = tt

pub one_type_all : {A : Type 0} (P : A → Type 0) (asked : Kind → Bool) (ts : Trees) (made : Kind → A) →
    ((a : Kind) → asked a ≡ true → IsWellFormed a → P (made a)) → AllFound P (one_type asked ts made)
one_type_all P asked (more t none) made h =
    and_then_both (HasAttribute asked) P (type_argument asked 1 t) (λ a. found (made a)) (type_argument_all asked 1 t)
    (λ a g. h a g.0 g.1)
one_type_all P asked none made h = tt
one_type_all P asked (more t (more u ts)) made h = tt

pub two_types_all : {A : Type 0} (P : A → Type 0) (asked asked_too : Kind → Bool) (ts : Trees) (made : Kind → Kind → A) →
    ((a b : Kind) → asked a ≡ true → P (made a b)) → AllFound P (two_types asked asked_too ts made)
two_types_all P asked asked_too (more t (more u none)) made h =
    and_then_both (HasAttribute asked) P (type_argument asked 1 t)
    (λ a. and_then (type_argument asked_too (1 + size t) u) (λ b. found (made a b))) (type_argument_all asked 1 t)
    (λ a g. and_then_all P (type_argument asked_too (1 + size t) u) (λ b. found (made a b)) (λ b. h a b g.0))
two_types_all P asked asked_too none made h = tt
two_types_all P asked asked_too (more t none) made h = tt
two_types_all P asked asked_too (more t (more u (more x ts))) made h = tt

pub one_count_all : {A : Type 0} (P : A → Type 0) (least most : ℕ) (ts : Trees) (made : ℕ → A) → ((n : ℕ) → P (made n)) →
    AllFound P (one_count least most ts made)
one_count_all P least most (more t none) made h = and_then_all P (count_argument least most 1 t) (λ n. found (made n)) h
one_count_all P least most none made h = tt
one_count_all P least most (more t (more u ts)) made h = tt

pub count_or_all : {A : Type 0} (P : A → Type 0) (x : A) (least most : ℕ) (ts : Trees) (made : ℕ → A) → P x →
    ((n : ℕ) → P (made n)) → AllFound P (count_or x least most ts made)
count_or_all P x least most none made g h = g
count_or_all P x least most (more t ts) made g h = one_count_all P least most (more t ts) made h
