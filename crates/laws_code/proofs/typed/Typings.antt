-- The types of typings that are put together.
use Rattle.std.proofs.Common.{◌≡◌, ℕ, ◌+◌, nat_le, Bool, true, false, List, [], ◌∷◌, ◌++◌, Option, Some, None, refl, subst}
use Rattle.std.specs.Prelude.{if◌then◌else◌}
use Rattle.std.proofs.lemmas.Bool.{leb-true}
use Rattle.rules_text.specs.nodes.Limits.{type_limit}
use Rattle.rules_text.specs.nodes.Tree.{Trees, none, more, size}
use Rattle.rules_data.specs.types.Kind.{Kind, nodes}
use Rattle.rules_data.specs.types.Attributes.{passable, pushable}
use Rattle.rules_data.specs.types.Reading.{any_kind}
use Rattle.rules_data.specs.types.Entrypoints.{Entry}
use Rattle.rules_code.specs.instructions.Same.{same_kinds}
use Rattle.rules_code.specs.instructions.Context.{Context}
use Rattle.rules_code.specs.instructions.Context as place
use Rattle.rules_code.specs.instructions.Arguments.{Found, found, fault}
use Rattle.rules_code.specs.instructions.Arguments as arg
use Rattle.rules_code.specs.instructions.Control.{Pushed, push_of, Arrow, lambda_of}
use Rattle.rules_code.specs.typing.Typing.{Typing, goes, fails, bad, Typer, shift, on_found, made, in_block, join, ends, under, made_of, part_kind, mapped}
use Rattle.rules_code.specs.typing.Acts.{no_body, one_body, two_bodies, last_body}
use Rattle.laws_data.specs.types.Laws.{IsWellFormed}
use Rattle.laws_code.specs.evaluation.Laws.{IsType}
use Rattle.laws_code.specs.stacks.Sound.{AllTypes}
use Rattle.laws_code.proofs.typed.Carried.{FoundHas, found_then, IsRead, argument_read}

-- the entrypoints of a script can be handed to contracts
abbrev pub EntriesAreTypes : List Entry → Type 0
EntriesAreTypes [] = Unit {0}
EntriesAreTypes (e ∷ es) = (passable e.kind ≡ true) × IsWellFormed e.kind × EntriesAreTypes es

abbrev pub HasTypes : Context → Type 0
HasTypes (place.main es) = EntriesAreTypes es
HasTypes place.view = Unit {0}
HasTypes place.lambda = Unit {0}

abbrev pub Types : Typing → Type 0
Types (goes B) = AllTypes B
Types fails = Unit {0}
Types (bad l) = Unit {0}

abbrev pub TypesKept : Typer → Type 0
TypesKept b = (c : Context) → HasTypes c → (A : List Kind) → AllTypes A → Types (b c A)

-- ---- how typings are put together

pub types_shift : (l : ℕ) (t : Typing) → Types t → Types (shift l t)
types_shift l (goes B) h = h
types_shift l fails h = tt
types_shift l (bad m) h = tt

pub types_block : (t : Typing) (ts : Trees) (next : List Kind → Typing) → Types t →
    ((B : List Kind) → AllTypes B → Types (next B)) → Types (in_block t ts next)
types_block (goes B) ts next h g = g B h
types_block fails none next h g = tt
types_block fails (more t ts) next h g = tt
types_block (bad m) ts next h g = tt

pub types_if : (b : Bool) (t : Typing) (l : ℕ) → Types t → Types (if b then t else bad l)
types_if true t l h = h
types_if false t l h = tt

pub types_join : (t u : Typing) → Types t → Types u → Types (join t u)
types_join (bad l) u h g = tt
types_join (goes B) (goes C) h g = types_if (same_kinds B C) (goes B) 0 h
types_join (goes B) fails h g = h
types_join (goes B) (bad l) h g = tt
types_join fails u h g = g

pub types_ends : (t : Typing) (C : List Kind) (u : Typing) → Types u → Types (ends t C u)
types_ends (goes B) C u h = types_if (same_kinds B C) u 0 h
types_ends fails C u h = h
types_ends (bad l) C u h = tt

pub both_types : (A B : List Kind) → AllTypes A → AllTypes B → AllTypes (A ++ B)
both_types [] B h g = g
both_types (a ∷ A) B h g = (h.0, both_types A B h.1 g)

pub types_under : (A : List Kind) (t : Typing) → AllTypes A → Types t → Types (under A t)
types_under A (goes B) h g = both_types A B h g
types_under A fails h g = tt
types_under A (bad l) h g = tt

pub types_made : (a : Kind) (A : List Kind) → IsWellFormed a → AllTypes A → Types (made a A)
types_made a A h g = by_test (nat_le (nodes a) type_limit) refl
  where
    by_test : (b : Bool) → nat_le (nodes a) type_limit ≡ b → Types (if b then goes (a ∷ A) else bad 0)
    by_test true e = ((h, leb-true (nodes a) type_limit e), g)
    by_test false e = tt

pub made_types : (o : Option Kind) (f : Kind → Kind) (A : List Kind) → ((a : Kind) → o ≡ Some a → IsWellFormed (f a)) →
    AllTypes A → Types (made_of f o A)
made_types None f A h g = tt
made_types (Some a) f A h g = types_made (f a) A (h a refl) g

pub part_types : (t : Typing) (A : List Kind) (a : Kind) → Types t → part_kind t A ≡ Some a → IsWellFormed a
part_types (goes []) A a h e = absurd cc
part_types (goes (b ∷ B)) A a h e = by_test (same_kinds B A) e
  where
    by_test : (x : Bool) → (if x then Some b else None) ≡ Some a → IsWellFormed a
    by_test true e = let g : b ≡ a = cc in subst IsWellFormed g h.0.0
    by_test false e = absurd cc
part_types fails A a h e = absurd cc
part_types (bad l) A a h e = absurd cc

pub types_mapped : (t : Typing) (f : Kind → Kind) (A : List Kind) → Types t → ((a : Kind) → IsWellFormed a → IsWellFormed (f a)) →
    AllTypes A → Types (mapped t f A)
types_mapped (bad l) f A h g i = tt
types_mapped (goes B) f A h g i = made_types (part_kind (goes B) A) f A (λ a e. g a (part_types (goes B) A a h e)) i
types_mapped fails f A h g i = made_types (part_kind fails A) f A (λ a e. g a (part_types fails A a tt e)) i

pub types_found : {A : Type 0} (P : A → Type 0) (x : Found A) (next : A → Typing) → FoundHas P x →
    ((a : A) → P a → Types (next a)) → Types (on_found x next)
types_found P (found a) next h g = g a h
types_found P (fault l) next h g = tt

-- ---- the bodies of an instruction

abbrev pub AllKept : List Typer → Type 0
AllKept [] = Unit {0}
AllKept (b ∷ bs) = TypesKept b × AllKept bs

pub none_kept : (bs : List Typer) (t : Typing) → Types t → Types (no_body bs t)
none_kept [] t h = h
none_kept (b ∷ bs) t h = tt

pub one_kept : (bs : List Typer) (next : Typer → Typing) → AllKept bs → ((b : Typer) → TypesKept b → Types (next b)) →
    Types (one_body bs next)
one_kept [] next h g = tt
one_kept (b ∷ []) next h g = g b h.0
one_kept (b ∷ d ∷ bs) next h g = tt

pub two_kept : (bs : List Typer) (next : Typer → Typer → Typing) → AllKept bs →
    ((b d : Typer) → TypesKept b → TypesKept d → Types (next b d)) → Types (two_bodies bs next)
two_kept [] next h g = tt
two_kept (b ∷ []) next h g = tt
two_kept (b ∷ d ∷ []) next h g = g b d h.0 h.1.0
two_kept (b ∷ d ∷ e ∷ bs) next h g = tt

pub last_kept : (bs : List Typer) (next : Typer → Typing) → AllKept bs → ((b : Typer) → TypesKept b → Types (next b)) →
    Types (last_body bs next)
last_kept [] next h g = tt
last_kept (b ∷ []) next h g = g b h.0
last_kept (b ∷ d ∷ bs) next h g = last_kept (d ∷ bs) next h.1 g

-- ---- what is read of arguments

abbrev pub PushedType : Pushed → Type 0
PushedType p = (pushable p.kind ≡ true) × IsType p.kind

pub push_read : (ts : Trees) → FoundHas PushedType (push_of ts)
push_read none = tt
push_read (more t none) = tt
push_read (more t (more x none)) = found_then (IsRead pushable) PushedType (arg.type_argument pushable 1 t) _
    (argument_read pushable 1 t) (λ a h. h)
push_read (more t (more x (more y ts))) = tt

abbrev pub ArrowTypes : Arrow → Type 0
ArrowTypes x = IsType x.argument × IsType x.result

pub lambda_read : (ts : Trees) → FoundHas ArrowTypes (lambda_of ts)
lambda_read none = tt
lambda_read (more a none) = tt
lambda_read (more a (more r none)) = tt
lambda_read (more a (more r (more b none))) =
    found_then (IsRead any_kind) ArrowTypes (arg.type_argument any_kind 1 a) _ (argument_read any_kind 1 a)
    (λ t h. found_then (IsRead any_kind) ArrowTypes (arg.type_argument any_kind (1 + size a) r) _
    (argument_read any_kind (1 + size a) r) (λ u g. (h.1, g.1)))
lambda_read (more a (more r (more b (more c ts)))) = tt

pub any_found : {A : Type 0} (x : Found A) → FoundHas (λ a. Unit {0}) x
any_found (found a) = tt
any_found (fault l) = tt
