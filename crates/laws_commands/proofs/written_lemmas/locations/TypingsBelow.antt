-- The faults of typings, put together.
use Rattle.std.proofs.Common.{◌≡◌, ◌<◌, ◌≤◌, ◌+◌, ℕ, Bool, true, false, ◌&&◌, Option, Some, None, List, [], ◌∷◌, refl, arith}
use Rattle.std.specs.Prelude.{nat_le, if◌then◌else◌}
use Rattle.std.specs.List.{AllByRecursion}
use Rattle.rules_text.specs.nodes.Limits.{type_limit, count_limit}
use Rattle.rules_text.specs.nodes.Tree.{Tree, Trees, none, more, size, sizes}
use Rattle.rules_data.specs.types.Kind.{Kind, nodes}
use Rattle.rules_data.specs.types.Kind as k
use Rattle.rules_data.specs.types.Attributes.{pushable}
use Rattle.rules_data.specs.types.Reading.{any_kind}
use Rattle.rules_data.specs.values.Literals.{Pending, body, claim}
use Rattle.rules_code.specs.instructions.Types as ty
use Rattle.rules_code.specs.instructions.Context.{Context}
use Rattle.rules_code.specs.instructions.Context as place
use Rattle.rules_code.specs.instructions.Same.{same_kind, same_kinds}
use Rattle.rules_code.specs.instructions.Arguments.{Found, found, fault, and_then, type_argument, no_argument, annotated}
use Rattle.rules_code.specs.instructions.Control.{Pushed, push_of, dip_of, lambda_of, call_kinds, self_of}
use Rattle.rules_code.specs.typing.Typing.{Typing, goes, fails, bad, Typer, shift, on_found, made, in_block, join, ends, under, part_kind, made_of, mapped}
use Rattle.rules_code.specs.typing.Bodies.{body_fault, first_fault, bodies_fault}
use Rattle.rules_code.specs.typing.Stacks.{on_bool, on_option, on_or, on_list, on_parts, on_mapped, on_call, on_captured, on_origination, on_shown, on_never}
use Rattle.laws_commands.proofs.written_lemmas.locations.Below.{FoundBelow, then_below, size_some, type_below, count_below, annotated_below}
use Rattle.laws_commands.proofs.written_lemmas.locations.LiteralsBelow.{PendingBelow}
use Rattle.rules_data.specs.forms.Spelling.{default_name}

abbrev pub TypingBelow : ℕ → Typing → Type 0
TypingBelow n (goes B) = Unit {0}
TypingBelow n fails = Unit {0}
TypingBelow n (bad l) = l < n

abbrev pub TyperBelow : ℕ → Typer → Type 0
TyperBelow n b = (c : Context) (A : List Kind) → TypingBelow n (b c A)

abbrev pub FaultBelow : ℕ → Option ℕ → Type 0
FaultBelow n None = Unit {0}
FaultBelow n (Some l) = l < n

pub shift_below : (at m n : ℕ) (T : Typing) → at + m ≤ n → TypingBelow m T → TypingBelow n (shift at T)
shift_below at m n (goes B) h t = tt
shift_below at m n fails h t = tt
shift_below at m n (bad l) h t = omega (arith, h, t)

-- at an earlier location
pub shift_less : (at j n : ℕ) (T : Typing) → j ≤ at → TypingBelow n (shift at T) → TypingBelow n (shift j T)
shift_less at j n (goes B) h t = tt
shift_less at j n fails h t = tt
shift_less at j n (bad l) h t = omega (arith, h, t)

pub block_below : (m n : ℕ) (T : Typing) (ts : Trees) (next : List Kind → Typing) → m ≤ n → 0 < n → TypingBelow m T →
    ((B : List Kind) → TypingBelow n (next B)) →
    TypingBelow n (in_block T ts next)
block_below m n (goes B) ts next h s t g = g B
block_below m n fails none next h s t g = tt
block_below m n fails (more u ts) next h s t g = s
block_below m n (bad l) ts next h s t g = omega (arith, h, t)

-- ---- bodies of literals

pub body_fault_below : (n at : ℕ) (T : Typing) (r : Kind) → at < n → TypingBelow n T → FaultBelow n (body_fault at T r)
body_fault_below n at (goes B) r h t = by (same_kinds B (r ∷ []))
  where
    by : (b : Bool) → FaultBelow n (if b then None else Some at)
    by true = tt
    by false = h
body_fault_below n at fails r h t = tt
body_fault_below n at (bad l) r h t = t

first_below : (n : ℕ) (o q : Option ℕ) → FaultBelow n o → FaultBelow n q → FaultBelow n (first_fault o q)
first_below n (Some l) q h g = h
first_below n None q h g = g

pub bodies_fault_below : (n : ℕ) (typing : ℕ → Tree → Typer) → ((at : ℕ) (t : Tree) → at + size t ≤ n → TyperBelow n (typing at t)) →
    (ps : List Pending) →
    AllByRecursion (PendingBelow n) ps → FaultBelow n (bodies_fault typing ps)
bodies_fault_below n typing h [] g = tt
bodies_fault_below n typing h (body at a r recursive t ∷ ps) g =
    let s = size_some t in
    let room = g.0 in
    first_below n (body_fault at (typing at t place.lambda (call_kinds a r recursive)) r) (bodies_fault typing ps)
    (body_fault_below n at (typing at t place.lambda (call_kinds a r recursive)) r (omega (arith, s, room))
    (h at t g.0 place.lambda (call_kinds a r recursive)))
    (bodies_fault_below n typing h ps g.1)
bodies_fault_below n typing h (claim at b a ∷ ps) g = bodies_fault_below n typing h ps g.1

-- ---- instructions

module _ (n : ℕ) (some : 0 < n) where
  pub found_below : {A : Type 0} (x : Found A) (next : A → Typing) → FoundBelow n x → ((y : A) → x ≡ found y → TypingBelow n (next y)) →
      TypingBelow n (on_found x next)
  found_below (found y) next h g = g y refl
  found_below (fault l) next h g = h

  pub made_below : (a : Kind) (A : List Kind) → TypingBelow n (made a A)
  made_below a A = by (nat_le (nodes a) type_limit)
    where
      by : (b : Bool) → TypingBelow n (if b then goes (a ∷ A) else bad 0)
      by true = tt
      by false = some

  pub if_below : (b : Bool) (T : Typing) → TypingBelow n T → TypingBelow n (if b then T else bad 0)
  if_below true T h = h
  if_below false T h = some

  pub join_below : (T U : Typing) → TypingBelow n T → TypingBelow n U → TypingBelow n (join T U)
  join_below (bad l) U h g = h
  join_below (goes B) (goes C) h g = if_below (same_kinds B C) (goes B) tt
  join_below (goes B) fails h g = tt
  join_below (goes B) (bad l) h g = g
  join_below fails U h g = g

  pub ends_below : (T : Typing) (C : List Kind) (U : Typing) → TypingBelow n T → TypingBelow n U → TypingBelow n (ends T C U)
  ends_below (goes B) C U h g = if_below (same_kinds B C) U g
  ends_below fails C U h g = g
  ends_below (bad l) C U h g = h

  pub under_below : (A : List Kind) (T : Typing) → TypingBelow n T → TypingBelow n (under A T)
  under_below A (goes B) h = tt
  under_below A fails h = some
  under_below A (bad l) h = h

  made_of_below : (f : Kind → Kind) (o : Option Kind) (A : List Kind) → TypingBelow n (made_of f o A)
  made_of_below f None A = some
  made_of_below f (Some a) A = made_below (f a) A

  pub mapped_below : (T : Typing) (f : Kind → Kind) (A : List Kind) → TypingBelow n T → TypingBelow n (mapped T f A)
  mapped_below (bad l) f A h = h
  mapped_below (goes B) f A h = made_of_below f (part_kind (goes B) A) A
  mapped_below fails f A h = made_of_below f (part_kind fails A) A

  -- ---- stacks

  pub bool_below : (A : List Kind) (next : List Kind → Typing) → ((B : List Kind) → TypingBelow n (next B)) → TypingBelow n (on_bool A next)
  bool_below (ty.bool ∷ A) next h = h A
  bool_below _ next h = some

  pub option_below : (A : List Kind) (next : Kind → List Kind → Typing) → ((a : Kind) (B : List Kind) → TypingBelow n (next a B)) →
      TypingBelow n (on_option A next)
  option_below (k.option a ∷ A) next h = h a A
  option_below _ next h = some

  pub or_below : (A : List Kind) (next : Kind → Kind → List Kind → Typing) → ((a b : Kind) (B : List Kind) → TypingBelow n (next a b B)) →
      TypingBelow n (on_or A next)
  or_below (k.or a b ∷ A) next h = h a b A
  or_below _ next h = some

  pub list_below : (A : List Kind) (next : Kind → List Kind → Typing) → ((a : Kind) (B : List Kind) → TypingBelow n (next a B)) →
      TypingBelow n (on_list A next)
  list_below (k.list a ∷ A) next h = h a A
  list_below _ next h = some

  pub parts_below : (A : List Kind) (next : Kind → List Kind → Typing) → ((a : Kind) (B : List Kind) → TypingBelow n (next a B)) →
      TypingBelow n (on_parts A next)
  parts_below (k.list a ∷ A) next h = h a A
  parts_below (k.set a ∷ A) next h = h a A
  parts_below (k.map a b ∷ A) next h = h (k.pair a b) A
  parts_below _ next h = some

  pub on_mapped_below : (A : List Kind) (next : Kind → (Kind → Kind) → List Kind → Typing) →
      ((a : Kind) (f : Kind → Kind) (B : List Kind) → TypingBelow n (next a f B)) →
      TypingBelow n (on_mapped A next)
  on_mapped_below (k.list a ∷ A) next h = h a k.list A
  on_mapped_below (k.option a ∷ A) next h = h a k.option A
  on_mapped_below (k.map a b ∷ A) next h = h (k.pair a b) (k.map a) A
  on_mapped_below _ next h = some

  pub call_below : (A : List Kind) (next : Kind → List Kind → Typing) → ((a : Kind) (B : List Kind) → TypingBelow n (next a B)) →
      TypingBelow n (on_call A next)
  call_below (a ∷ k.lambda b r ∷ A) next h = if_below (same_kind a b) (next r A) (h r A)
  call_below _ next h = some

  pub captured_below : (A : List Kind) (next : Kind → Kind → List Kind → Typing) → ((a b : Kind) (B : List Kind) →
      TypingBelow n (next a b B)) → TypingBelow n (on_captured A next)
  captured_below (a ∷ k.lambda (k.pair b c) r ∷ A) next h = if_below (same_kind a b && pushable a) (next c r A) (h c r A)
  captured_below _ next h = some

  pub origination_below : (A : List Kind) (next : Kind → List Kind → Typing) → ((a : Kind) (B : List Kind) → TypingBelow n (next a B)) →
      TypingBelow n (on_origination A next)
  origination_below (k.option ty.key_hash ∷ ty.mutez ∷ g ∷ A) next h = h g A
  origination_below _ next h = some

  pub shown_below : (A : List Kind) → TypingBelow n (on_shown A)
  shown_below (a ∷ A) = if_below (pushable a) fails tt
  shown_below [] = some

  pub never_below : (A : List Kind) → TypingBelow n (on_never A)
  never_below (ty.never ∷ A) = tt
  never_below _ = some

-- ---- arguments

abbrev pub PushedBelow : ℕ → Found Pushed → Type 0
PushedBelow n (found p) = p.location + size p.literal ≤ n
PushedBelow n (fault l) = l < n

pub pushed_below : (n : ℕ) (ts : Trees) → sizes ts < n → PushedBelow n (push_of ts)
pushed_below n (more t (more x none)) h = by (type_argument pushable 1 t) (type_below pushable t 1 n (omega (arith, h)))
  where
    by : (a : Found Kind) → FoundBelow n a → PushedBelow n (and_then a (λ a. found record { kind = a; location = 1 + size t; literal = x }))
    by (found a) g = omega (arith, h)
    by (fault l) g = g
pushed_below n none h = h
pushed_below n (more t none) h = omega (arith, h)
pushed_below n (more t (more x (more y ts))) h = omega (arith, h)

pub dip_below : (n : ℕ) (ts : Trees) → sizes ts < n → FoundBelow n (dip_of ts)
dip_below n (more b none) h = tt
dip_below n (more m (more b none)) h = let s = size_some m in count_below n 0 count_limit 1 m (omega (arith, h, s))
dip_below n none h = h
dip_below n (more m (more b (more c ts))) h = omega (arith, h)

pub lambda_below : (n : ℕ) (ts : Trees) → sizes ts < n → FoundBelow n (lambda_of ts)
lambda_below n (more a (more r (more b none))) h =
    then_below n (type_argument any_kind 1 a) _ (type_below any_kind a 1 n (omega (arith, h))) (λ t.
    then_below n (type_argument any_kind (1 + size a) r) (λ u. found record { argument = t; result = u })
    (type_below any_kind r (1 + size a) n (omega (arith, h))) (λ u. tt))
lambda_below n none h = h
lambda_below n (more a none) h = omega (arith, h)
lambda_below n (more a (more r none)) h = omega (arith, h)
lambda_below n (more a (more r (more b (more c ts)))) h = omega (arith, h)

pub self_below : (n : ℕ) (annots : List (List ℕ)) (ts : Trees) → sizes ts < n → FoundBelow n (self_of annots ts)
self_below n annots ts h =
    then_below n (annotated default_name annots) _
    (annotated_below n default_name annots (omega (arith, h))) (λ name. by ts name h)
  where
    by : (ts : Trees) (name : List ℕ) → sizes ts < n → FoundBelow n (no_argument ts name)
    by none name h = tt
    by (more t us) name h = omega (arith, h)
