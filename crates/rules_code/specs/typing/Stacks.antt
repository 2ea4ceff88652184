-- The stacks that instructions with bodies ask for (Michelson reference, "Control structures" and others). Stacks are
-- written with the top first.
use Rattle.std.specs.Prelude.{◌&&◌, if◌then◌else◌, List, [], ◌∷◌}
use Rattle.rules_data.specs.types.Kind.{Kind, option, or, pair, list, set, map, lambda}
use Rattle.rules_data.specs.types.Attributes.{pushable}
use Rattle.rules_code.specs.instructions.Types.{bool, mutez, key_hash}
use Rattle.rules_code.specs.instructions.Types as t
use Rattle.rules_code.specs.instructions.Same.{same_kind}
use Rattle.rules_code.specs.typing.Typing.{Typing, bad, fails}

abbrev pub on_bool : List Kind → (List Kind → Typing) → Typing
on_bool (bool ∷ A) next = next A
on_bool A next = bad 0

abbrev pub on_option : List Kind → (Kind → List Kind → Typing) → Typing
on_option (option a ∷ A) next = next a A
on_option A next = bad 0

abbrev pub on_or : List Kind → (Kind → Kind → List Kind → Typing) → Typing
on_or (or a b ∷ A) next = next a b A
on_or A next = bad 0

abbrev pub on_list : List Kind → (Kind → List Kind → Typing) → Typing
on_list (list a ∷ A) next = next a A
on_list A next = bad 0

-- what ITER goes through: the type of its parts
abbrev pub on_parts : List Kind → (Kind → List Kind → Typing) → Typing
on_parts (list a ∷ A) next = next a A
on_parts (set a ∷ A) next = next a A
on_parts (map k v ∷ A) next = next (pair k v) A
on_parts A next = bad 0

-- what MAP goes through: the type of its parts, and what is made of the new ones
abbrev pub on_mapped : List Kind → (Kind → (Kind → Kind) → List Kind → Typing) → Typing
on_mapped (list a ∷ A) next = next a list A
on_mapped (option a ∷ A) next = next a option A
on_mapped (map k v ∷ A) next = next (pair k v) (map k) A
on_mapped A next = bad 0

-- an argument and a lambda that takes it: the type of the result
abbrev pub on_call : List Kind → (Kind → List Kind → Typing) → Typing
on_call (a ∷ lambda b r ∷ A) next = if same_kind a b then next r A else bad 0
on_call A next = bad 0

-- a value that a lambda of pairs can capture: the types of the other part and of the result
abbrev pub on_captured : List Kind → (Kind → Kind → List Kind → Typing) → Typing
on_captured (a ∷ lambda (pair b c) r ∷ A) next = if same_kind a b && pushable a then next c r A else bad 0
on_captured A next = bad 0

-- a delegate, an amount and a storage
abbrev pub on_origination : List Kind → (Kind → List Kind → Typing) → Typing
on_origination (option key_hash ∷ mutez ∷ g ∷ A) next = next g A
on_origination A next = bad 0

-- a value that FAILWITH can show, and one of no value
abbrev pub on_shown : List Kind → Typing
on_shown (a ∷ A) = if pushable a then fails else bad 0
on_shown [] = bad 0

abbrev pub on_never : List Kind → Typing
on_never (t.never ∷ A) = fails
on_never A = bad 0
