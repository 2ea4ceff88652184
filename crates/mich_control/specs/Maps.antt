-- What MAP goes through, and what is made of it.
use Rattle.std.specs.Prelude.{◌≡◌, ℕ, List, [], ◌∷◌, Option, Some, None, Result, Ok, Err}
use Rattle.rules_data.specs.types.Kind.{Kind, option, pair, list, map}
use Rattle.rules_code.specs.typing.Typing.{mapped, shift}
use Rattle.mich_base.specs.TypeView.{kind}
use Rattle.mich_overload.specs.View.{kinds}
use Rattle.mich_instr.specs.Code as made
use Rattle.mich_instr.specs.View.{code, codes}
use Rattle.mich_typed.specs.declared.error.CheckError.{CheckError}
use Rattle.mich_control.specs.declared.maps.Target.{Target as CodeTarget}
use Rattle.mich_control.specs.declared.maps.Target.TheVariants as target
use Rattle.mich_control.specs.declared.maps.Mapping.{Mapping as CodeMapping}
use Rattle.mich_typed.specs.declared.made.Body.{Body}
use Rattle.mich_typed.specs.declared.made.Made.{Made}
use Rattle.mich_control.specs.Answers.{IsFault, typing}

-- what is made of new parts: a list, an option, or a map with these keys
pub data Target : Type 0 where
  to_list : Target
  to_option : Target
  to_map : Kind → Target

abbrev pub made_to : Target → Kind → Kind
made_to to_list a = list a
made_to to_option a = option a
made_to (to_map k) a = map k a

-- the type of the parts of what is on top, and what is made of new ones
abbrev pub over_parts : List Kind → Option (Kind × Target)
over_parts (list a ∷ A) = Some (a, to_list)
over_parts (option a ∷ A) = Some (a, to_option)
over_parts (map k v ∷ A) = Some (pair k v, to_map k)
over_parts A = None

-- the stack that the body begins with, what is made of what it leaves, and the stack below
pub record Mapping : Type 0 where
  pub begins : List Kind
  pub target : Target
  pub rest : List Kind

abbrev pub mapping : List Kind → Target → List Kind → Mapping
mapping X t A = record { begins = X; target = t; rest = A }

abbrev pub mapped_over : List Kind → Option Mapping
mapped_over (list a ∷ A) = Some (mapping (a ∷ A) to_list A)
mapped_over (option a ∷ A) = Some (mapping (a ∷ A) to_option A)
mapped_over (map k v ∷ A) = Some (mapping (pair k v ∷ A) (to_map k) A)
mapped_over A = None

abbrev pub target_of : CodeTarget → Target
target_of target.List = to_list
target_of target.Option = to_option
target_of (target.Map k) = to_map (kind k)

abbrev pub mapping_of : CodeMapping → Mapping
mapping_of m = mapping (kinds m.begins) (target_of m.target) (kinds m.rest)

-- MAP on this stack at a location, with its typed body
abbrev pub IsMapped : ℕ → Target → List Kind → Body → Result Made CheckError → Type 0
IsMapped at t A b (Ok m) = (shift at (mapped (typing b.after) (made_to t) A) ≡ typing m.after) × (code m.instr ≡ made.map (codes b.code))
IsMapped at t A b (Err e) = IsFault (shift at (mapped (typing b.after) (made_to t) A)) e
