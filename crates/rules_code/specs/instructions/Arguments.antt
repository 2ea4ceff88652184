-- The arguments of instructions without bodies, with the first fault in them (Michelson reference, "Instructions").
-- Locations are counted in pre-order from the instruction, which is 0.
use Rattle.std.specs.Prelude.{ℕ, ◌+◌, Bool, ◌&&◌, nat_le, pos, if◌then◌else◌, List, length, Option, Some, None}
use Rattle.std.specs.List.{list_all}
use Rattle.rules_text.specs.nodes.Tree.{Tree, int, str, Trees, none, more, size}
use Rattle.rules_data.specs.forms.Spelling.{is_name_byte, is_entrypoint}
use Rattle.rules_data.specs.types.Kind.{Kind}
use Rattle.rules_data.specs.types.Reading.{Reading, a_type, bad_type, too_large, type_at}
use Rattle.rules_data.specs.types.Entrypoints.{field_name}

-- what is read of arguments, or the location of their first fault
pub data Found (A : Type 0) : Type 0 where
  found : A → Found A
  fault : ℕ → Found A

abbrev pub and_then : {A B : Type 0} → Found A → (A → Found B) → Found B
and_then (found x) next = next x
and_then (fault l) next = fault l

-- a wrong number of arguments is a fault of the instruction
abbrev pub no_argument : {A : Type 0} → Trees → A → Found A
no_argument none x = found x
no_argument ts x = fault 0

-- ---- types

-- a type that has the attribute
abbrev pub with_attribute : (Kind → Bool) → ℕ → Reading → Found Kind
with_attribute asked at (a_type a) = if asked a then found a else fault at
with_attribute asked at (bad_type l) = fault l
with_attribute asked at too_large = fault at

-- the argument at a location as a type with the attribute
abbrev pub type_argument : (Kind → Bool) → ℕ → Tree → Found Kind
type_argument asked at t = with_attribute asked at (type_at at t)

abbrev pub one_type : {A : Type 0} → (Kind → Bool) → Trees → (Kind → A) → Found A
one_type asked (more t none) made = and_then (type_argument asked 1 t) (λ a. found (made a))
one_type asked ts made = fault 0

abbrev pub two_types : {A : Type 0} → (Kind → Bool) → (Kind → Bool) → Trees → (Kind → Kind → A) → Found A
two_types asked asked_too (more t (more u none)) made = and_then (type_argument asked 1 t) (λ a.
    and_then (type_argument asked_too (1 + size t) u) (λ b. found (made a b)))
two_types asked asked_too ts made = fault 0

-- ---- counts

-- a number from the least on to the most
abbrev pub count_argument : ℕ → ℕ → ℕ → Tree → Found ℕ
count_argument least most at (int (pos n)) = if nat_le least n && nat_le n most then found n else fault at
count_argument least most at t = fault at

abbrev pub one_count : {A : Type 0} → ℕ → ℕ → Trees → (ℕ → A) → Found A
one_count least most (more t none) made = and_then (count_argument least most 1 t) (λ n. found (made n))
one_count least most ts made = fault 0

-- a count, or what stands for none
abbrev pub count_or : {A : Type 0} → A → ℕ → ℕ → Trees → (ℕ → A) → Found A
count_or x least most none made = found x
count_or x least most (more t ts) made = one_count least most (more t ts) made

-- ---- names

-- the name that the first field annotation gives, or another; one that is too long is a fault of the instruction
abbrev pub checked_name : List ℕ → Option (List ℕ) → Found (List ℕ)
checked_name other None = found other
checked_name other (Some name) = if is_entrypoint name then found name else fault 0

abbrev pub annotated : List ℕ → List (List ℕ) → Found (List ℕ)
annotated other annots = checked_name other (field_name annots)

-- a view is named by at most 31 characters of A-Z a-z 0-9 _ . % @ (Michelson reference, VIEW)
abbrev pub is_view_name : List ℕ → Bool
is_view_name name = nat_le (length name) 31 && list_all is_name_byte name

abbrev pub view_name_argument : ℕ → Tree → Found (List ℕ)
view_name_argument at (str name) = if is_view_name name then found name else fault at
view_name_argument at t = fault at
