-- What the arguments of an instruction are, wherever it stands.
use Rattle.std.specs.Prelude.{ℕ, ℤ, pos, negsuc, nat_le, ◌&&◌, if◌then◌else◌, Bool, true, false, List, Option, Some, None}
use Rattle.rules_text.specs.nodes.Tree.{Tree, int, str}
use Rattle.rules_data.specs.forms.Spelling.{is_entrypoint}
use Rattle.rules_data.specs.types.Kind.{Kind}
use Rattle.rules_data.specs.types.Reading.{Reading, a_type, bad_type, too_large}
use Rattle.rules_code.specs.instructions.Arguments.{is_view_name}

-- the type that was read, if it was one
abbrev pub a_kind : Reading → Option Kind
a_kind (a_type a) = Some a
a_kind (bad_type l) = None
a_kind too_large = None

-- a number from the least on to the most
abbrev pub within : ℕ → ℕ → ℤ → Option ℕ
within least most (pos n) = if nat_le least n && nat_le n most then Some n else None
within least most (negsuc n) = None

abbrev pub a_count : ℕ → ℕ → Tree → Option ℕ
a_count least most (int n) = within least most n
a_count least most t = None

-- a name of an entrypoint, or no name
abbrev pub is_named : Option (List ℕ) → Bool
is_named None = true
is_named (Some name) = is_entrypoint name

-- that name, or another where there is none
abbrev pub named_or : List ℕ → Option (List ℕ) → Option (List ℕ)
named_or other None = Some other
named_or other (Some name) = if is_entrypoint name then Some name else None

-- a node that is the name of a view
abbrev pub names_view : Tree → Bool
names_view (str name) = is_view_name name
names_view t = false
